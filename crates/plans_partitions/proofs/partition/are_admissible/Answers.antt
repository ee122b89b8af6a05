use Rattle.std.proofs.Common.{arith, ◌≡◌, ◌+◌, ◌-◌, length, ap, sym, refl, slice_index}
use Rattle.std.proofs.lemmas.Bool.{iff_false}
use Rattle.std.proofs.lemmas.List.{drop_more, drop_all}
use Rattle.plans_partitions.proofs.Places.{rises}
use Rattle.plans_partitions.proofs.Cuts.{some_inside, segment_is}
use Rattle.plans_partitions.proofs.partition.are_admissible.Goals as goal

pub loop-k-init : goal.loop-k-init
loop-k-init c = record { inside = some_inside c.args.table.now.boundaries c.args.cuts.now c.requires.some c.requires.inside; here = sym c.requires.first; left = λ list horizon t. (λ x. x, λ x. x) }

pub returns-then-not-is_admissible_between : goal.returns-then-not-is_admissible_between
returns-then-not-is_admissible_between c list horizon t =
    let left = rw (drop_more c.args.cuts.now (c.loop-k.k + 1) 0 (omega arith)) at (c.loop-k.invariant.left list horizon t) in
    let adm = segment_is list horizon c.args.table.now c.args.factor t c.loop-k.at c.next_place-next.result _ _ c.next_place-next.ensures.after c.next_place-next.ensures.inside c.loop-k.invariant.here c.next_place-next.ensures.there c.is_admissible_between.result c.is_admissible_between.ensures in
    (λ e. cc, λ p. absurd (iff_false adm c.if-not-is_admissible_between.true (left.1 p).1))

pub loop-k-preserved : goal.loop-k-preserved
loop-k-preserved c = record {
  inside = c.next_place-next.ensures.inside;
  here = c.next_place-next.ensures.there;
  left = λ list horizon t.
      let left = rw (drop_more c.args.cuts.now (c.loop-k.k + 1) 0 (omega arith)) at (c.loop-k.invariant.left list horizon t) in
      let adm = segment_is list horizon c.args.table.now c.args.factor t c.loop-k.at c.next_place-next.result _ _ c.next_place-next.ensures.after c.next_place-next.ensures.inside c.loop-k.invariant.here c.next_place-next.ensures.there c.is_admissible_between.result c.is_admissible_between.ensures in
      (λ x. left.0 (rises c.args.cuts.now c.requires.ascending c.loop-k.k (c.loop-k.k + 1) (omega arith) (omega arith), adm.0 c.if-not-is_admissible_between.false, x), λ p. (left.1 p).2);
}

pub returns : goal.returns
returns c list horizon t =
    let last = rw (drop_all (c.loop-k.k + 1) c.args.cuts.now (omega arith)) at (c.loop-k.invariant.left list horizon t) in
    let end : c.loop-k.k ≡ length c.args.cuts.now - 1 = omega (arith, c.loop-k.auto.k-end) in
    (λ e. last.0 (ap (λ n. slice_index c.args.cuts.now n) end), λ p. refl)
