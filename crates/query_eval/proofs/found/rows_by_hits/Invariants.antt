use Rattle.std.proofs.Common.{◌≤◌, ◌-◌, Bool, length, take}
use Rattle.base_types.specs.declared.ids.DocId.{DocId}
use Rattle.query_eval.specs.Found.{AnswersAs}
use Rattle.query_eval.specs.Hits.{IsCut, AreMade}
use Rattle.query_eval.proofs.found.rows_by_hits.Given as goal

abbrev pub invariant-loop-start : goal.invariant-loop-start
invariant-loop-start g l = (l.start ≤ length l.hits) × IsCut l.hits l.start × ((alive : DocId → Bool) → AnswersAs (λ doc b. g.F.Fn.post l.is_alive (doc, tt) b) alive → AreMade alive l.query l.hits (take l.start l.hits) l.rows.items)

abbrev pub decreases-loop-start : goal.decreases-loop-start
decreases-loop-start g l = length l.hits - l.start
