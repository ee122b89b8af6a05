use Rattle.lists_postings.proofs.Clipping.{clip_of_list_of}
use Rattle.lists_postings.proofs.laws.clip_of_list_of.Goals as goal

pub returns : goal.returns
returns c = clip_of_list_of
