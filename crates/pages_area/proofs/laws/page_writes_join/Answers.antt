use Rattle.pages_area.proofs.ChangeLemmas.{changes_join}
use Rattle.pages_area.proofs.laws.page_writes_join.Goals as goal

pub returns : goal.returns
returns c = λ a b d xs ys one two. changes_join xs ys one two
