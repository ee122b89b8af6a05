use Rattle.std.proofs.Common.{◌≡◌, ap, ◌∙◌}
use Rattle.std.specs.Slice.Iter.{iter_rest}
use Rattle.std.specs.Iterator.Adapters.{zip_first, zip_second}
use Rattle.std.proofs.lemmas.Slice.Zip.{zip_turn}
use Rattle.journal_entries.proofs.SegmentLemmas.{segments_written}
use Rattle.journal_entries.proofs.plan_writing.put_segments.Goals as goal

pub loop-cut-preserved : goal.loop-cut-preserved
loop-cut-preserved c =
    let cuts = c.args.cuts.now in
    let places = c.args.places.now in
    let begun = c.into_iter-cut-iterator.ensures.into_iter_gives in
    let first : iter_rest (zip_first c.into_iter-cut-iterator.result) ≡ cuts = ap (λ z. iter_rest (zip_first z)) begun ∙ ap (λ s. iter_rest s) c.zip-cut-items.ensures.first ∙ c.iter.ensures.rest in
    let second : iter_rest (zip_second c.into_iter-cut-iterator.result) ≡ places = ap (λ z. iter_rest (zip_second z)) begun ∙ c.zip-cut-items.ensures.second.0 in
    let turn = zip_turn cuts places c.loop-cut.yielded c.into_iter-cut-iterator.result c.loop-cut.cut-iterator c.next.new.self c.next.result first second c.loop-cut.yielded_by (c.in-Some.cut, c.in-Some.place) c.in-Some.is c.next.ensures.steps in
    segments_written cuts places c.loop-cut.yielded _ c.in-Some.cut.now c.in-Some.place.now c.args.out.now.items c.loop-cut.out.items c.put_segment.new.out.items turn.0 turn.1 (turn.2 c.in-Some.cut.now) (turn.3 c.in-Some.place.now) c.loop-cut.invariant c.in_ok-put_segment.ensures
