use Rattle.std.proofs.Common.{arith, sum_by, ◌++◌, [], ◌∷◌, List, All, take, ap, sym, subst, ◌∙◌}
use Rattle.std.proofs.lemmas.List.{take_more}
use Rattle.std.proofs.lemmas.List.Elements.{All-nil, All-cons, All-append}
use Rattle.std.proofs.lemmas.List.Sums.{sum_by-append}
use Rattle.journal_entries.specs.declared.place.Place.{Place}
use Rattle.pages_area.specs.Live.{IsInside}
use Rattle.tests_pages.proofs.tests.sublists.given.fit.Goals as goal

pub loop-place-preserved : goal.loop-place-preserved
loop-place-preserved c =
    let I : Place → Type 0 = λ p. IsInside c.args.reach p.extent in
    let front : List Place = take c.loop-place.place-index c.args.places.now in
    let more = take_more c.args.places.now c.loop-place.place-index c.place-item.result c.loop-place-test.true ∙ ap (λ (p : Place). front ++ p ∷ []) (sym c.place-item.is) in
    record {
      few = omega (arith, c.loop-place.invariant.few, c.if-bytes-total.false);
      is = omega (arith, c.loop-place.invariant.is, sum_by-append (λ (p : Place). p.extent.bytes) front (c.place-item.result ∷ []), ap (λ (l : List Place). sum_by (λ (p : Place). p.extent.bytes) l) more);
      inside = subst (λ (l : List Place). All I l) (sym more) (All-append I front (c.place-item.result ∷ []) c.loop-place.invariant.inside (All-cons I c.place-item.result [] (omega (arith, c.if-place-bytes.false)) (All-nil I)));
    }
