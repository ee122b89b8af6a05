use Rattle.std.proofs.Common.{◌≡◌, ◌<◌, ◌≤◌, ◌-◌, ℕ, length, get_or}
use Rattle.query_eval.specs.declared.hit.Hit.{Hit}
use Rattle.query_eval.proofs.hit.end_of.Given as goal

abbrev pub invariant-loop-end : goal.invariant-loop-end
invariant-loop-end l = (l.start < l.end) × (l.end ≤ length l.hits) × ((i : ℕ) (h : Hit) → l.start ≤ i → i < l.end → (get_or l.hits i h).doc.0 ≡ l.doc.0)

abbrev pub decreases-loop-end : goal.decreases-loop-end
decreases-loop-end l = length l.hits - l.end
