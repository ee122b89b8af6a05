use Rattle.journal_gates.proofs.HeadLemmas.{heads_lead, heads_grow}
use Rattle.journal_gates.proofs.laws.heads_lead_to_bodies.Goals as goal

pub returns-clause-bodies : goal.returns-clause-bodies
returns-clause-bodies c = heads_lead

pub returns-clause-more : goal.returns-clause-more
returns-clause-more c = heads_grow
