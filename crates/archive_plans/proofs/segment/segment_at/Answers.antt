use Rattle.std.proofs.Common.{◌≡◌, ◌⊎◌, ◌+◌, ◌<◌, ◌≤◌, ◌==◌, ℕ, List, [], ◌∷◌, length, get_or, drop, ap, arith, inl, inr, ◌∙◌, refl}
use Rattle.journal_entries.specs.declared.place.Place.{Place}
use Rattle.pages_sublists.specs.Segments.{next_cut, seconds}
use Rattle.archive_plans.proofs.SegmentLemmas.{found-here, passed, seconds-at}
use Rattle.archive_plans.proofs.segment.segment_at.Goals as goal
use Rattle.archive_plans.proofs.segment.segment_at.Goals.{else-from-t-via-then-from-t+else-t-to, else-from-t-via-else-from-t}

pub returns-then-t-to-clause-found : goal.returns-then-t-to-clause-found
returns-then-t-to-clause-found c = λ up.
    let was = c.loop-k.invariant in
    let count : length c.as_slice-places.result.now ≡ length c.as_slice-cuts.result.now = omega (arith, c.requires.as_many, ap length was.cuts, ap length was.places) in (
      c.loop-k.k == 0,
      found-here c.args.plan.now c.args.t.seconds c.loop-k.k c.as_slice-cuts.result.now c.as_slice-places.result.now (get_or c.as_slice-cuts.result.now c.loop-k.k c.index-cuts-k.result).seconds c.end_at-to.result
          c.index-places-k.result c.index-cuts-k.result was.cuts was.places was.passed c.loop-k-test.true (omega (arith, c.loop-k-test.true, count)) refl c.index-places-k.is c.end_at-to.ensures.value c.if-from-t.true c.if-t-to.true up,
    )

pub loop-k-preserved : goal.loop-k-preserved
loop-k-preserved c =
    let was = c.loop-k.invariant in
    let cuts = c.as_slice-cuts.result.now in
    let places = c.as_slice-places.result.now in
    let k = c.loop-k.k in
    let from = (get_or cuts k c.index-cuts-k.result).seconds in
    let count : length places ≡ length cuts = omega (arith, c.requires.as_many, ap length was.cuts, ap length was.places) in
    let out : (c.args.t.seconds < from) ⊎ (next_cut (seconds (drop (k + 1) cuts)) c.args.plan.now.horizon.seconds ≤ c.args.t.seconds) =
    elim c.else-from-t.branch [
      | else-from-t-via-then-from-t+else-t-to w ↦ inr (omega (arith, w.if-t-to.false, c.end_at-to.ensures.value))
      | else-from-t-via-else-from-t w ↦ inl (omega (arith, w.if-from-t.false))
    ] in
    record {
      cuts = was.cuts;
      places = was.places;
      passed = was.passed ∙ passed c.args.t.seconds c.args.plan.now.horizon.seconds k cuts places from (place_at places k (omega (arith, c.loop-k-test.true, count))) (seconds-at k cuts c.index-cuts-k.result c.loop-k-test.true) (omega (arith, c.loop-k-test.true, count)) out;
    }
  where
    place_at : (places : List Place) (k : ℕ) → k < length places → Place
    place_at [] k l = absurd (omega (arith, l))
    place_at (p ∷ places) k l = p
