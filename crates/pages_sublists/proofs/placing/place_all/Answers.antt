use Rattle.std.proofs.Common.{◌+◌, [], List, take, drop, suc, sym, subst, ◌∙◌, arith}
use Rattle.journal_entries.specs.declared.place.Place.{Place}
use Rattle.pages_sublists.proofs.PlaceLemmas.{ArePlacedSoFar, none_so_far, one_more, has_no_room, taken_so_far, held_still, split_at, next_at, retyped}
use Rattle.pages_sublists.proofs.placing.place_all.Goals as goal

pub loop-spelling-init : goal.loop-spelling-init
loop-spelling-init c =
    let P : List Place → Type 0 = λ ps. ArePlacedSoFar c.args.pages.now c.args.pages.now [] ps in
    subst P (sym c.new-places.ensures.items) (none_so_far c.args.pages.now)

pub release-requires : goal.release-requires
release-requires c = record {
  taken = (
    [],
    (
      c.requires.taken.0,
      held_still c.args.pages.now c.loop-spelling.pages c.add_place.new.pages (take c.loop-spelling.spelling-index c.args.spellings.now) c.loop-spelling.places.items c.deref.result.now c.requires.taken.0
          c.in-Err.ensures.pages (c.deref.ensures.value ∙ c.in-Err.ensures.places) c.loop-spelling.invariant c.requires.taken.1,
    ),
  );
}

pub returns-in-Err-clause-full : goal.returns-in-Err-clause-full
returns-in-Err-clause-full c = λ taken has full.
    let all = c.args.spellings.now in
    let k = c.loop-spelling.spelling-index in
    has_no_room c.args.pages.now c.loop-spelling.pages all (take k all) (drop (suc k) all) c.spelling-item.result c.loop-spelling.places.items taken
    (split_at all k c.spelling-item.result (omega (arith, c.loop-spelling-test.true)) c.spelling-item.is) c.loop-spelling.invariant has
    (λ other held first free. c.in-Err.ensures.full other held (retyped _ _ full) first free)

pub returns-in-Err-clause-none : goal.returns-in-Err-clause-none
returns-in-Err-clause-none c = λ taken has.
    c.release.ensures.freed [] taken (held_still c.args.pages.now c.loop-spelling.pages c.add_place.new.pages (take c.loop-spelling.spelling-index c.args.spellings.now) c.loop-spelling.places.items c.deref.result.now taken
    c.in-Err.ensures.pages (c.deref.ensures.value ∙ c.in-Err.ensures.places) c.loop-spelling.invariant has)

pub loop-spelling-preserved : goal.loop-spelling-preserved
loop-spelling-preserved c =
    let all = c.args.spellings.now in
    let k = c.loop-spelling.spelling-index in
    one_more c.args.pages.now c.loop-spelling.pages c.add_place.new.pages (take k all) (take (k + 1) all) c.spelling-item.result c.loop-spelling.places.items c.add_place.new.places.items
    (next_at all k c.spelling-item.result (omega (arith, c.loop-spelling-test.true)) c.spelling-item.is) c.requires.taken c.loop-spelling.invariant c.in-Ok.ensures.added

pub returns-clause-taken : goal.returns-clause-taken
returns-clause-taken c = λ taken has. taken_so_far c.args.pages.now c.loop-spelling.pages (take c.loop-spelling.spelling-index c.args.spellings.now) c.loop-spelling.places.items taken c.loop-spelling.invariant has
