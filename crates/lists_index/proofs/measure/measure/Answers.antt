use Rattle.std.proofs.Common.{option_map, Result, Ok, Err, OnOk, arith}
use Rattle.lists_index.proofs.Measured.{longer}
use Rattle.lists_index.proofs.measure.measure.Goals as goal

pub returns-clause-fits : goal.returns-clause-fits
returns-clause-fits c =
    let held = option_map (λ t. t.now) c.args.text in
    let parted = c.in_ok-parted.ensures c.args.vocabulary.now.words held c.in_ok-weighed.ensures.known c.in_ok-weighed.ensures.fresh in
    moved c.by_number.result (λ fits. omega (arith, longer parted, c.len.ensures.count, fits)) c.by_number.ensures.fits
  where
    moved : {T E P Q : Type 0} (r : Result T E) → (P → Q) → OnOk r P → OnOk r Q
    moved (Ok x) f p = f p
    moved (Err e) f p = p

pub returns-clause-full : goal.returns-clause-full
returns-clause-full c = λ full.
    let held = option_map (λ t. t.now) c.args.text in
    let parted = c.in_ok-parted.ensures c.args.vocabulary.now.words held c.in_ok-weighed.ensures.known c.in_ok-weighed.ensures.fresh in
    omega (arith, longer parted, c.len.ensures.count, c.by_number.ensures.full full)
