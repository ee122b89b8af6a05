use Rattle.std.proofs.Common.{◌≡◌, ◌+◌, ◌∷◌, List, [], ◌++◌, All, true, false, length, refl, ap, sym, subst, ◌∙◌, arith}
use Rattle.std.proofs.lemmas.List.Elements.{All-nil, All-push, All-same}
use Rattle.std.proofs.lemmas.List.Sums.{sum_by_push}
use Rattle.machine_model.specs.States.{DiskState}
use Rattle.lists_postings.specs.Lists.{IsList}
use Rattle.pages_sublists.specs.Gathering.{Chosen, bytes_of}
use Rattle.pages_sublists.specs.Joining.{Paged, size_of_all, AreFetched, RefusesAlone, StopsAt}
use Rattle.pages_sublists.specs.declared.why.Damage.{Damage}
use Rattle.pages_sublists.proofs.GatherLemmas.{chosen_from, with_place, place_at, chosen_one, sizes_at, inside_behind, disk_joins, if_damaged}
use Rattle.pages_sublists.proofs.AskLemmas.{among_all, asked_none, asked_same, asked_more}
use Rattle.pages_sublists.proofs.FetchLemmas.{fetched_more, found_same, stops_at}
use Rattle.pages_sublists.proofs.gathering.fetch_all.Goals as goal

pub loop-k-init : goal.loop-k-init
loop-k-init g c =
    let I : List Paged → Type 0 = λ ls. All (λ (x : Paged). IsList x.1) ls in
    let all = chosen_from c.args.span.from c.args.span.to c.args.placed.now.horizon.seconds c.args.placed.now.cuts.now c.args.placed.now.places.now 0 in
    let pages = (g.D.Disk.disk c.args.disk.now).holds.pages in
    let F : List Paged → Type 0 = λ ls. AreFetched c.args.placed.now.layout c.args.placed.now.horizon.seconds pages all ls all in
    record {
      only = g.met.D.Disk.only_same _;
      same = refl;
      lists = subst I (sym c.requires.none) (All-nil (λ (x : Paged). IsList x.1));
      read = ap size_of_all (sym c.requires.none);
      few = omega (arith, c.requires.few);
      inside = c.requires.inside;
      lie = λ taken within lie. lie;
      stays = λ tells stands. stands;
      fetched = λ tells stands. subst F (sym c.requires.none) refl;
      asked = λ tells stands. asked_none pages c.args.cache.now (g.D.Disk.disk c.args.disk.now).bytes_read all;
    }

pub loop-k-preserved-then-not-overlaps : goal.loop-k-preserved-then-not-overlaps
loop-k-preserved-then-not-overlaps g c =
    let h = c.args.placed.now.horizon.seconds in
    let at = c.segment_at-segment in
    let next = place_at c.args.placed.now.places.now c.loop-k.k c.index-places-k.result (omega (arith, c.loop-k-test.true, c.requires.as_many)) c.index-places-k.is in
    let same = sym (chosen_one c.args.span.from c.args.span.to h c.args.placed.now.cuts.now _ _ at.result _ next at.ensures.from at.ensures.to at.ensures.first false c.if-not-overlaps.ensures) in
    let was = c.loop-k.invariant in
    let F : List Chosen → Type 0 =
    λ cs. AreFetched c.args.placed.now.layout h (g.D.Disk.disk c.args.disk.now).holds.pages (chosen_from c.args.span.from c.args.span.to h c.args.placed.now.cuts.now c.args.placed.now.places.now 0) c.loop-k.lists.items cs in
    record {
      only = was.only;
      same = was.same;
      lists = was.lists;
      read = was.read;
      few = omega (arith, was.few, sizes_at _ _ _ next);
      inside = inside_behind _ _ _ _ next was.inside;
      lie = was.lie;
      stays = was.stays;
      fetched = λ tells stands. subst F (sym same) (was.fetched tells stands);
      asked = λ tells stands. asked_same _ _ _ _ _ _ _ _ same (was.asked tells stands);
    }

pub returns-in-Err-clause-stopped : goal.returns-in-Err-clause-stopped
returns-in-Err-clause-stopped g c = λ tells stands.
    let h = c.args.placed.now.horizon.seconds in
    let at = c.segment_at-segment in
    let next = place_at c.args.placed.now.places.now c.loop-k.k c.index-places-k.result (omega (arith, c.loop-k-test.true, c.requires.as_many)) c.index-places-k.is in
    let takes = chosen_one c.args.span.from c.args.span.to h c.args.placed.now.cuts.now _ _ at.result _ next at.ensures.from at.ensures.to at.ensures.first true c.if-not-overlaps.ensures in
    let was = c.loop-k.invariant in
    let one = with_place at.result c.index-places-k.result in
    let rest = chosen_from c.args.span.from c.args.span.to h c.args.placed.now.cuts.now c.args.placed.now.places.now c.loop-k.k in
    let pages = (g.D.Disk.disk c.args.disk.now).holds.pages in
    let were = (g.D.Disk.disk c.loop-k.disk).holds.pages in
    let P : Damage → Type 0 = λ d. (d.page ≡ one.place.extent.first) × RefusesAlone c.args.placed.now.layout at.result.bounds.horizon (bytes_of one were) one d.why in
    let Q : Damage → Type 0 = λ d. StopsAt c.args.placed.now.layout h pages rest d in (
      rest,
      (
        was.fetched tells stands,
        if_damaged P Q (λ d refused. stops_at c.args.placed.now.layout h at.result.bounds.horizon pages were rest _ one d at.ensures.horizon (ap (λ (x : DiskState). x.holds.pages) was.same) takes refused)
            c.in-Err.error (c.in-Err.ensures.damaged tells (was.stays tells stands)),
      ),
    )

pub loop-k-preserved : goal.loop-k-preserved
loop-k-preserved g c =
    let h = c.args.placed.now.horizon.seconds in
    let at = c.segment_at-segment in
    let place = c.index-places-k.result in
    let next = place_at c.args.placed.now.places.now c.loop-k.k place (omega (arith, c.loop-k-test.true, c.requires.as_many)) c.index-places-k.is in
    let takes = chosen_one c.args.span.from c.args.span.to h c.args.placed.now.cuts.now _ _ at.result _ next at.ensures.from at.ensures.to at.ensures.first true c.if-not-overlaps.ensures in
    let was = c.loop-k.invariant in
    let pages = (g.D.Disk.disk c.args.disk.now).holds.pages in
    let same : (g.D.Disk.disk c.loop-k.disk).holds.pages ≡ pages = ap (λ (d : DiskState). d.holds.pages) was.same in
    let lists = c.loop-k.lists.items in
    let found : Paged = (place.extent.first, c.in-Ok.found.items) in
    let L : Paged → Type 0 = λ x. IsList x.1 in
    let F : List Paged → Type 0 = λ ls. AreFetched c.args.placed.now.layout h pages (chosen_from c.args.span.from c.args.span.to h c.args.placed.now.cuts.now c.args.placed.now.places.now 0) ls
    (chosen_from c.args.span.from c.args.span.to h c.args.placed.now.cuts.now c.args.placed.now.places.now (c.loop-k.k + 1)) in
    let items : c.push.new.self.items ≡ lists ++ (found ∷ []) = c.in-Ok-push.ensures.items ∙ ap (λ (x : Paged). lists ++ (x ∷ [])) c.new.ensures in
    record {
      only = g.met.D.Disk.only_joins _ _ _ was.only c.fetch_one.ensures.only;
      same = disk_joins (g.D.Disk.disk c.args.disk.now) (g.D.Disk.disk c.loop-k.disk) (g.D.Disk.disk c.fetch_one.new.disk) was.same c.fetch_one.ensures.same;
      lists = All-same L c.push.new.self.items (lists ++ (found ∷ [])) items (All-push L lists found was.lists c.in-Ok.ensures.list);
      read = omega (arith, was.read, c.len.ensures, sum_by_push (λ (x : Paged). length x.1) lists found, ap size_of_all items);
      few = omega (arith, was.few, c.in-Ok.ensures.short, sizes_at _ _ place next);
      inside = inside_behind _ _ _ place next was.inside;
      lie = λ taken within lie. c.fetch_one.ensures.lie taken (λ p mine. within p (among_all c.args.placed.now.places.now c.loop-k.k place p (omega (arith, c.loop-k-test.true, c.requires.as_many)) c.index-places-k.is mine)) (was.lie taken within lie);
      stays = λ tells stands. c.fetch_one.ensures.stays tells (was.stays tells stands);
      fetched = λ tells stands. subst F (sym items) (fetched_more _ _ _ _ _ _ _ (with_place at.result place) found takes
          (found_same _ _ _ _ _ _ _ at.ensures.horizon same (record { page_is = refl; fetched = c.in-Ok.ensures.found tells (was.stays tells stands); some = c.in-Ok.ensures.some })) (was.fetched tells stands));
      asked = λ tells stands. asked_more _ _ _ _ _ _ _ _ _ _ _ (with_place at.result place) same takes
          (c.in-Ok.ensures.asked tells (was.stays tells stands)) (c.in-Ok.ensures.count tells (was.stays tells stands)) (was.asked tells stands);
    }

pub returns-in-Err-clause-stays : goal.returns-in-Err-clause-stays
returns-in-Err-clause-stays g c = λ tells stands. c.fetch_one.ensures.stays tells (c.loop-k.invariant.stays tells stands)

pub returns-in-Err-clause-lie : goal.returns-in-Err-clause-lie
returns-in-Err-clause-lie g c = λ taken within lie. c.fetch_one.ensures.lie taken
    (λ p mine. within p (among_all c.args.placed.now.places.now c.loop-k.k c.index-places-k.result p (omega (arith, c.loop-k-test.true, c.requires.as_many)) c.index-places-k.is mine))
    (c.loop-k.invariant.lie taken within lie)

pub returns-in-Err-push-clause-only : goal.returns-in-Err-push-clause-only
returns-in-Err-push-clause-only g c = g.met.D.Disk.only_joins _ _ _ c.loop-k.invariant.only c.fetch_one.ensures.only

pub returns-in-Err-push-clause-stays : goal.returns-in-Err-push-clause-stays
returns-in-Err-push-clause-stays g c = λ tells stands. c.fetch_one.ensures.stays tells (c.loop-k.invariant.stays tells stands)

pub returns-in-Err-push-clause-lie : goal.returns-in-Err-push-clause-lie
returns-in-Err-push-clause-lie g c = λ taken within lie. c.fetch_one.ensures.lie taken
    (λ p mine. within p (among_all c.args.placed.now.places.now c.loop-k.k c.index-places-k.result p (omega (arith, c.loop-k-test.true, c.requires.as_many)) c.index-places-k.is mine))
    (c.loop-k.invariant.lie taken within lie)
