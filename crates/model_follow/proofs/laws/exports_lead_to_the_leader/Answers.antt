use Rattle.model_follow.proofs.ExportLemmas.{exports_lead}
use Rattle.model_follow.proofs.laws.exports_lead_to_the_leader.Goals as goal

pub returns : goal.returns
returns c = exports_lead c.what_runs_make_can_be_followed.ensures.room
