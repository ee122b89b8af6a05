use Rattle.std.proofs.Common.{arith, ◌+◌, sym, refl, below_none, below_more, Contains}
use Rattle.std.proofs.lemmas.Bool.{iff_false}
use Rattle.std.proofs.lemmas.List.Elements.{All-get_or, All-from_get_or}
use Rattle.plans_partitions.proofs.Places.{contains_at, rises}
use Rattle.plans_partitions.proofs.Cuts.{found_there}
use Rattle.plans_partitions.proofs.partition.are_among.Goals as goal

pub loop-k-init : goal.loop-k-init
loop-k-init c = record { inside = c.requires.some; here = sym c.requires.first; among = below_more _ 0 (below_none _) (contains_at c.args.times.now 0 _ c.requires.some (sym c.requires.first)) }

pub first_from-at-requires-clause-before : goal.first_from-at-requires-clause-before
first_from-at-requires-clause-before c = omega (arith, c.loop-k.invariant.here, rises c.args.cuts.now c.requires.cuts c.loop-k.k (c.loop-k.k + 1) (omega arith) (omega arith))

pub returns-then-not-is_at : goal.returns-then-not-is_at
returns-then-not-is_at c = (
  λ f. cc,
  λ a. absurd (iff_false c.is_at.ensures c.if-not-is_at.true (found_there c.args.times.now _ c.first_from-at.result c.first_from-at.ensures.below c.first_from-at.ensures.above c.requires.times (All-get_or (Contains c.args.times.now) c.args.cuts.now (c.loop-k.k + 1) 0 (omega arith) a))),
)

pub loop-k-preserved : goal.loop-k-preserved
loop-k-preserved c = let at = c.is_at.ensures.0 c.if-not-is_at.false in record { inside = at.0; here = at.1; among = below_more _ _ c.loop-k.invariant.among (contains_at c.args.times.now c.first_from-at.result _ at.0 at.1) }

pub returns : goal.returns
returns c = (λ t. All-from_get_or (Contains c.args.times.now) c.args.cuts.now 0 (λ m l. c.loop-k.invariant.among m (omega (arith, c.loop-k.auto.k-end))), λ a. refl)
