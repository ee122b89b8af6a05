use Rattle.std.proofs.Common.{arith, ◌≡◌, ◌≤◌, ◌-◌, ap, List, ℕ, length}
use Rattle.base_types.specs.declared.posting.Posting.{Posting}
use Rattle.plans_partitions.specs.Counts.{Tabulates}
use Rattle.plans_guarantee.specs.Certificates.{CertifiesCuts}
use Rattle.plans_guarantee.proofs.Proved.{least_cuts}
use Rattle.plans_guarantee.specs.Steps.{IsWay}
use Rattle.plans_guarantee.proofs.Ways.{way_parts, way_fits, way_certified, settled_best}
use Rattle.plans_guarantee.proofs.planning.plan.Goals as goal

pub unwrap-partition-requires : goal.unwrap-partition-requires
unwrap-partition-requires c =
    c.new.ensures.valid.1 (way_parts c.boundaries-times.result.now c.deref.result.now c.in_ok-cuts.cuts.items c.boundaries-times.ensures.many c.boundaries-times.ensures.ascending
    (omega (arith, ap length c.deref.ensures.value, c.in_ok-pi.ensures.lefts_long, ap length c.boundaries-times.ensures.value)) c.in_ok-cuts.ensures)

pub returns : goal.returns
returns c =
    let made : c.unwrap-partition.result ≡ c.in_ok-cuts.cuts.items = rw c.unwrap-partition.ensures at c.new.ensures.value in
    let way : IsWay c.args.table.now.boundaries c.in_ok-pi.field-0.lefts.items 0 (length c.args.table.now.boundaries - 1) c.unwrap-partition.result =
    rw made (rw (c.boundaries-times.ensures.value, c.deref.ensures.value) at c.in_ok-cuts.ensures) in
    let some : 2 ≤ length c.args.table.now.boundaries = omega (arith, c.boundaries-times.ensures.many, ap length c.boundaries-times.ensures.value) in
    let certified : (list : List Posting) (horizon : ℕ) → Tabulates list horizon c.args.table.now → CertifiesCuts list c.args.factor c.args.table.now.boundaries c.new-2.result c.unwrap-partition.result horizon =
    λ list horizon t. rw c.new-2.ensures (way_certified list horizon c.args.table.now c.args.factor c.in_ok-pi.field-0.pi.items c.in_ok-pi.field-0.lefts.items c.unwrap-partition.result some t c.in_ok-pi.ensures way) in
    record {
      within = omega (arith, ap length c.boundaries-times.ensures.value);
      refused = tt;
      fits = way_fits c.args.table.now.boundaries c.in_ok-pi.field-0.lefts.items c.unwrap-partition.result some c.in_ok-pi.ensures.lefts_long way;
      least = λ list horizon t. least_cuts list c.args.factor c.args.table.now.boundaries c.new-2.result c.unwrap-partition.result horizon (certified list horizon t);
      best = λ list horizon t. rw c.new-2.ensures (settled_best list horizon c.args.table.now c.args.factor c.in_ok-pi.field-0.pi.items c.in_ok-pi.field-0.lefts.items t c.in_ok-pi.ensures);
      certified = certified;
    }
