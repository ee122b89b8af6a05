use Rattle.std.proofs.Common.{arith, sym, subst, refl, length-append, List, [], ◌∷◌, ℕ, ◌+◌, ◌≤◌, ◌^◌, length}
use Rattle.std.specs.Prelude.{slice_index, All}
use Rattle.plans_space.specs.Loads.{IsWeight}
use Rattle.plans_space.proofs.WeightLemmas.{weight_new, few_more}
use Rattle.plans_space.proofs.LegLemmas.{each_pushed}
use Rattle.plans_space.proofs.weights.weights_of.Goals as goal

pub loop-k-preserved : goal.loop-k-preserved
loop-k-preserved g c = record {
  long = omega (arith, c.in_ok-push.ensures.len, c.loop-k.invariant.long);
  each = rw c.in_ok-push.ensures.items (λ k l. each_pushed (λ i w. IsWeight (goal.F-post g c.args.load.now) (slice_index c.args.times.now i) (slice_index c.args.times.now (i + 1)) w) c.loop-k.weights.items c.weigh.result (length c.loop-k.weights.items) refl c.loop-k.invariant.each
      (weight_new (goal.F-post g c.args.load.now) c.args.times.now c.loop-k.weights.items c.loop-k.k c.weigh.result c.new.result c.unwrap-span.result c.loop-k.invariant.long c.unwrap-span.ensures c.new.ensures.value c.weigh.ensures)
      k (omega (arith, l, length-append c.loop-k.weights.items (c.weigh.result ∷ []))));
  few = subst (λ (l : List ℕ). All (λ w. w ≤ 2 ^ 40) l) (sym c.in_ok-push.ensures.items) (few_more c.loop-k.weights.items c.weigh.result c.loop-k.invariant.few (c.requires.weighs.few c.unwrap-span.result c.weigh.result c.weigh.ensures));
}
