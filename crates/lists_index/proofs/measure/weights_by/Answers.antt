use Rattle.std.proofs.Common.{◌≡◌, ℕ, ◌<◌, ◌≤◌, ◌^◌, ◌∙◌, ap, All, sym, subst, arith, rules}
use Rattle.lists_tails.specs.Weights.{weight_of}
use Rattle.std.specs.List.Sorted.{IsNonDecreasingBy}
use Rattle.std.proofs.lemmas.List.{take_all}
use Rattle.std.proofs.lemmas.List.Sorted.{IsNonDecreasingBy-from_sort_by_key, All-permutation}
use Rattle.lists_index.specs.Measuring.{pairs_of}
use Rattle.lists_index.proofs.Measures.{sorted-weights, sorted-counts}
use Rattle.lists_index.proofs.measure.weights_by.Goals as goal

pub weight-requires : goal.weight-requires
weight-requires c =
    let P : ℕ × ℕ → Type 0 = λ p. (p.0 < 2 ^ 20) × (1 ≤ p.1) in
    let each : All P c.sort_unstable_by_key.new.self.items = All-permutation P c.args.counts.items c.sort_unstable_by_key.new.self.items c.sort_unstable_by_key.ensures.permutation c.requires.occur in
    let here : All P c.deref-number-items.result.now = subst (All P) (sym c.deref-number-items.ensures.value) each in
    let one = here c.loop-number.number-index (0, 0) c.loop-number-test.true in
    record { word = one.0; some = one.1 }

pub new-requires : goal.new-requires
new-requires c =
    let up : IsNonDecreasingBy (λ p. p.0) c.sort_unstable_by_key.new.self.items = IsNonDecreasingBy-from_sort_by_key (λ p. p.0) _ c.sort_unstable_by_key.ensures.sorted (λ a r q k. search rules) in
    let all : pairs_of c.loop-number.items.items ≡ c.sort_unstable_by_key.new.self.items = c.loop-number.invariant ∙ take_all c.loop-number.number-index c.deref-number-items.result.now (omega arith) ∙ c.deref-number-items.ensures.value in
    sorted-weights c.args.counts.items c.sort_unstable_by_key.new.self.items c.loop-number.items.items c.sort_unstable_by_key.ensures.permutation up c.requires.once all

pub returns : goal.returns
returns c = λ w.
    let all : pairs_of c.loop-number.items.items ≡ c.sort_unstable_by_key.new.self.items = c.loop-number.invariant ∙ take_all c.loop-number.number-index c.deref-number-items.result.now (omega arith) ∙ c.deref-number-items.ensures.value in
    ap (weight_of w) c.new.ensures ∙ sorted-counts c.args.counts.items c.sort_unstable_by_key.new.self.items c.loop-number.items.items c.sort_unstable_by_key.ensures.permutation c.requires.once all w
