use Rattle.std.proofs.Common.{arith, ap, subst, ◌∙◌, ℕ, List, length}
use Rattle.plans_space.specs.Caps.{cap, unit, budget}
use Rattle.plans_space.specs.Steps.{AreStops}
use Rattle.plans_space.proofs.WeightLemmas.{times_short}
use Rattle.plans_space.proofs.surveying.survey_by.Goals as goal

pub sums_of-requires-clause-short : goal.sums_of-requires-clause-short
sums_of-requires-clause-short c = omega (arith, c.requires.long, times_short c.boundaries-times.result.now c.boundaries-times.ensures.ascending c.boundaries-times.ensures.in_time c.boundaries-times.ensures.many, ap (λ (l : List ℕ). length l) c.boundaries-times.ensures.value)

pub stops-requires-clause-few : goal.stops-requires-clause-few
stops-requires-clause-few c = omega (arith, times_short c.boundaries-times.result.now c.boundaries-times.ensures.ascending c.boundaries-times.ensures.in_time c.boundaries-times.ensures.many)

pub returns : goal.returns
returns c = record {
  many = omega (arith, c.boundaries-times.ensures.many, ap (λ (l : List ℕ). length l) c.boundaries-times.ensures.value);
  unit_is = c.limits_of-limits.ensures.unit ∙ ap (λ n. unit (cap c.args.factor n)) c.postings.ensures.value;
  budget_is = c.limits_of-limits.ensures.budget ∙ ap (λ n. budget (cap c.args.factor n)) c.postings.ensures.value;
  stops = subst (λ n. AreStops n c.in_ok-places.places.items) (ap (λ (l : List ℕ). length l) c.boundaries-times.ensures.value) c.in_ok-places.ensures;
  long = c.requires.long;
  sums_are = c.in_ok-sums.ensures.are;
  rising = c.in_ok-sums.ensures.rising;
  small = c.in_ok-sums.ensures.small;
  cells_are = rw (c.deref.ensures.value, c.deref-2.ensures.value) at c.in_ok-cells.ensures;
}
