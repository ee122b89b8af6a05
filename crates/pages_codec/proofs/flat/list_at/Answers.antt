use Rattle.std.proofs.Common.{◌∙◌, length, sym, arith}
use Rattle.std.proofs.lemmas.Bool.{eqb-false}
use Rattle.std.proofs.lemmas.List.{map_push}
use Rattle.pages_codec.specs.Fields.{fields, seen}
use Rattle.pages_codec.specs.Flat.{front_at}
use Rattle.pages_codec.proofs.AllAt.{goes_on, ends}
use Rattle.pages_codec.proofs.FlatLemmas.{list_begins, front_ok, front_err, posting_rest}
use Rattle.pages_codec.proofs.flat.list_at.Goals as goal

pub loop-rest-init : goal.loop-rest-init
loop-rest-init c = record { inside = omega arith; fits = λ i. omega (arith, c.type_inv.bytes i); read = rw c.in_ok-list.ensures.items (list_begins c.args.bytes.now) }

pub returns-in_default-clause-fault : goal.returns-in_default-clause-fault
returns-in_default-clause-fault c =
    let some = eqb-false _ _ (sym c.is_empty.ensures ∙ c.loop-rest-test.true) in
    (length c.loop-rest.rest.now, omega (arith, c.loop-rest.invariant.inside), ends front_at _ _ _ _ _ c.loop-rest.invariant.read (omega (arith, some)) (front_err _ _ (sym c.in_default.ensures)))

pub loop-rest-smaller : goal.loop-rest-smaller
loop-rest-smaller c = (posting_rest (seen c.loop-rest.before) c.loop-rest.rest.now (fields c.in-Some.posting, c.in-Some.behind.now) c.loop-rest.invariant.fits (sym c.in-Some.ensures)).0

pub loop-rest-preserved : goal.loop-rest-preserved
loop-rest-preserved c =
    let rest = posting_rest (seen c.loop-rest.before) c.loop-rest.rest.now (fields c.in-Some.posting, c.in-Some.behind.now) c.loop-rest.invariant.fits (sym c.in-Some.ensures) in
    let next = goes_on front_at _ _ _ _ _ _ c.loop-rest.invariant.read (omega (arith, rest.0)) (front_ok _ _ _ _ (sym c.in-Some.ensures)) rest.0 in
    record { inside = omega (arith, rest.0, c.loop-rest.invariant.inside); fits = rest.1; read = rw (c.in_ok-push.ensures.items, map_push) next }
