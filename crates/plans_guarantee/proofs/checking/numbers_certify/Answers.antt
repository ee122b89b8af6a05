use Rattle.std.proofs.Common.{arith, ap, ◌≡◌, length}
use Rattle.std.proofs.lemmas.Bool.{iff_false}
use Rattle.plans_guarantee.proofs.Proved.{refused, edges_back, certified, equal_iff}
use Rattle.plans_guarantee.proofs.checking.numbers_certify.Goals as goal

pub returns-then-not-holds : goal.returns-then-not-holds
returns-then-not-holds c list horizon t =
    let long : length c.args.pi.now ≡ length c.args.table.now.boundaries = omega (arith, c.if-pi-boundaries.false, ap length c.boundaries.ensures.value) in
    refused _ (λ d. iff_false c.in_ok-holds.ensures c.if-not-holds.true (edges_back list horizon c.args.table.now c.args.factor c.args.pi.now _ t long d.certifies))

pub returns : goal.returns
returns c list horizon t =
    let long : length c.args.pi.now ≡ length c.args.table.now.boundaries = omega (arith, c.if-pi-boundaries.false, ap length c.boundaries.ensures.value) in
    certified list horizon c.args.table.now c.args.factor c.args.pi.now c.args.partition.now _ t long (c.fits.ensures.0 c.if-not-fits.false) (omega arith) (c.in_ok-holds.ensures.0 c.if-not-holds.false)
    ((c.admissible.ensures list horizon t).0 c.if-not-admissible.false) (equal_iff _ _ _ _ c.from.ensures (c.whole_space.ensures.value list horizon t))
