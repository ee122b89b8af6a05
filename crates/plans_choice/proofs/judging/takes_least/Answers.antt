use Rattle.std.proofs.Common.{◌≡◌, ◌≤◌, refl, length, drop, slice_index, sym, ◌∙◌}
use Rattle.std.proofs.lemmas.Bool.{eqb-true, eq-eqb}
use Rattle.plans_partitions.specs.Partitions.{Covers, IsFitting, space, widest}
use Rattle.plans_choice.proofs.JudgingLemmas.{kept, not_kept}
use Rattle.plans_choice.proofs.judging.takes_least.Goals as goal

pub returns-then-not-keeps : goal.returns-then-not-keeps
returns-then-not-keeps c list cuts horizon t part e = (
  (λ x. cc),
  (λ good. absurd (not_kept list c.args.factor c.args.table.now.boundaries c.args.partition.now cuts horizon t.boundaries t.early part e
      (λ keeps. let bad = (c.if-not-keeps.ensures.keeps list horizon.seconds t).1 keeps in cc) good)),
)

pub returns-in-Ok : goal.returns-in-Ok
returns-in-Ok c list cuts horizon t part e =
    let times = c.args.table.now.boundaries in
    let p = c.args.partition.now in
    let q = c.in-Ok.least in
    let keeps : (length times ≤ widest) × IsFitting times p × Covers list c.args.factor (slice_index p 0) (drop 1 p) horizon.seconds = (c.if-not-keeps.ensures.keeps list horizon.seconds t).0 refl in
    let least = c.in-Ok.ensures.least list horizon.seconds t in
    let is = kept list c.args.factor times p q cuts horizon t.boundaries part e keeps c.in-Ok.ensures.fits least in
    let mine : c.whole_space.result ≡ space list (slice_index p 0) (drop 1 p) = c.whole_space.ensures.value list horizon.seconds t in
    let other : c.whole_space-in-Ok.result ≡ space list (slice_index q 0) (drop 1 q) = c.whole_space-in-Ok.ensures.value list horizon.seconds t in (
      (λ same. is.0 (sym mine ∙ eqb-true c.whole_space.result c.whole_space-in-Ok.result same ∙ other)),
      (λ good. eq-eqb c.whole_space.result c.whole_space-in-Ok.result (mine ∙ is.1 good ∙ sym other)),
    )
