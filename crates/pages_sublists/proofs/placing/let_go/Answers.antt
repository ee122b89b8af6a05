use Rattle.std.proofs.Common.{◌+◌, List, drop, sym, ap, ◌∙◌, arith}
use Rattle.std.proofs.lemmas.List.{drop_all}
use Rattle.base_types.specs.declared.extent.Extent.{Extent}
use Rattle.journal_entries.specs.declared.place.Place.{Place}
use Rattle.pages_area.specs.Caches.{Kept}
use Rattle.pages_sublists.specs.Preparing.{extents}
use Rattle.pages_sublists.specs.Caching.{without_all}
use Rattle.pages_sublists.proofs.PlaceLemmas.{extents_at}
use Rattle.pages_sublists.proofs.placing.let_go.Goals as goal

pub loop-place-preserved : goal.loop-place-preserved
loop-place-preserved c =
    let k = c.loop-place.place-index in
    let places = c.args.places.now in
    ap (λ (cache : List Kept). without_all (extents (drop (k + 1) places)) cache) c.give_back.ensures
    ∙ ap (λ (es : List Extent). without_all es c.loop-place.cache) (sym (extents_at places k c.place-item.result (omega arith) c.place-item.is)) ∙ c.loop-place.invariant

pub returns : goal.returns
returns c =
    let k = c.loop-place.place-index in
    ap (λ (ps : List Place). without_all (extents ps) c.loop-place.cache) (sym (drop_all k c.args.places.now (omega arith))) ∙ c.loop-place.invariant
