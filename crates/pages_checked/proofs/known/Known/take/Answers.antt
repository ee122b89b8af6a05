use Rattle.std.proofs.Common.{nat_eq, ap, sym, ◌∙◌, arith}
use Rattle.pages_checked.proofs.WeightLemmas.{weight_or, taken_out}
use Rattle.pages_checked.proofs.known.Known.take.Goals as goal

pub overflow_sub-self : goal.overflow_sub-self
overflow_sub-self c = omega (
  arith,
  c.weight.ensures,
  taken_out (nat_eq c.args.page) c.self.inside.places.entries,
  ap weight_or c.in-Some.ensures.value,
  c.self.invariant.0,
)

pub invariant_of-self : goal.invariant_of-self
invariant_of-self c =
    let now = ap (λ d. d.entries) c.pop.ensures.entries in
    let less = taken_out (nat_eq c.args.page) c.self.inside.places.entries in
    let out = ap weight_or c.in-Some.ensures.value in
    let before = c.self.invariant in (
      rw now (omega (arith, c.weight.ensures, less, out, before.0, before.1)),
      omega (arith, before.1),
      ap (λ d. d.cap) c.pop.ensures.entries ∙ before.2,
    )

pub invariant_of-self-in-None : goal.invariant_of-self-in-None
invariant_of-self-in-None c =
    let now = ap (λ d. d.entries) c.pop.ensures.entries in
    let before = c.self.invariant in (
      rw now (omega (arith, taken_out (nat_eq c.args.page) c.self.inside.places.entries, ap weight_or (sym c.pop.ensures.value ∙ c.in-None.is), before.0)),
      before.1,
      ap (λ d. d.cap) c.pop.ensures.entries ∙ before.2,
    )
