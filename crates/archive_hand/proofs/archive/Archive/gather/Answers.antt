use Rattle.std.proofs.Common.{◌≡◌, ◌<◌, Some, OnOk, get_or, length, ap, subst, sym}
use Rattle.lists_index.specs.Indexes.{state_of}
use Rattle.model_archive.specs.Chosen.{pieces_chosen}
use Rattle.archive_plans.specs.Shelves.{ShelfState}
use Rattle.archive_hand.specs.Asking.{HasAsked}
use Rattle.archive_hand.specs.States.{ArchiveState, IsSameButCache, Reaches}
use Rattle.archive_hand.proofs.CacheLemmas.{kept_stands, on_ok_both, reads_stand, sound_but_cache}
use Rattle.archive_hand.proofs.ReadableLemmas.{readable}
use Rattle.archive_hand.proofs.archive.Archive.gather.Goals as goal

pub gather-requires-clause-readable : goal.gather-requires-clause-readable
gather-requires-clause-readable g c = λ s same.
    let reach = (g.D.Disk.disk c.args.disk.now).reach in
    let R : ArchiveState → Type 0 = λ a. Reaches reach a in
    let L : ArchiveState → Type 0 = λ a. c.args.place < length a.shelf.plans in
    readable _ c.self.invariant.2.0 reach c.args.place s c.self.invariant.2.1 (subst R (sym c.self.view_is) c.requires.within) (subst L (sym c.self.view_is) c.requires.there) same

-- the shelf alone changes, and of it the cache
but_cache : (a : ArchiveState) (shelf : ShelfState) → shelf ≡ record (a.shelf) { cache = shelf.cache } → IsSameButCache a (record a { shelf = shelf })
but_cache a shelf kept = ap (λ (s : ShelfState). record a { shelf = s }) kept

pub invariant_of-self : goal.invariant_of-self
invariant_of-self g c =
    let a : ArchiveState = record { end = c.self.inside.journal.end; live = c.self.inside.live; length = c.self.inside.entries; changes = c.self.inside.directory.changes; index = state_of c.self.inside.index; shelf = c.self.inside.shelf; marked = c.self.inside.marked; asked = c.self.inside.asked; job = c.self.inside.job } in (
      c.self.invariant.0,
      c.self.invariant.1,
      sound_but_cache a (record a { shelf = c.gather.new.self }) (but_cache a c.gather.new.self c.gather.ensures.kept) c.self.invariant.2,
    )

pub returns-clause-but_cache : goal.returns-clause-but_cache
returns-clause-but_cache g c =
    let a : ArchiveState = record { end = c.self.inside.journal.end; live = c.self.inside.live; length = c.self.inside.entries; changes = c.self.inside.directory.changes; index = state_of c.self.inside.index; shelf = c.self.inside.shelf; marked = c.self.inside.marked; asked = c.self.inside.asked; job = c.self.inside.job } in
    subst (λ (x : ArchiveState). IsSameButCache x (record a { shelf = c.gather.new.self })) c.self.view_is (but_cache a c.gather.new.self c.gather.ensures.kept)

pub returns-clause-cached : goal.returns-clause-cached
returns-clause-cached g c = λ tells cached.
    let a : ArchiveState = record { end = c.self.inside.journal.end; live = c.self.inside.live; length = c.self.inside.entries; changes = c.self.inside.directory.changes; index = state_of c.self.inside.index; shelf = c.self.inside.shelf; marked = c.self.inside.marked; asked = c.self.inside.asked; job = c.self.inside.job } in
    let old = g.D.Disk.disk c.args.disk.now in
    reads_stand old (g.D.Disk.disk c.gather.new.disk) a c.args.self.now c.gather.new.self.cache c.self.view_is c.gather.ensures.same cached (c.gather.ensures.stays tells (kept_stands old a c.args.self.now c.self.view_is cached))

pub returns-clause-asked : goal.returns-clause-asked
returns-clause-asked g c = λ tells cached s is.
    let a : ArchiveState = record { end = c.self.inside.journal.end; live = c.self.inside.live; length = c.self.inside.entries; changes = c.self.inside.directory.changes; index = state_of c.self.inside.index; shelf = c.self.inside.shelf; marked = c.self.inside.marked; asked = c.self.inside.asked; job = c.self.inside.job } in
    let old = g.D.Disk.disk c.args.disk.now in
    let new = g.D.Disk.disk c.gather.new.disk in
    let kept = kept_stands old a c.args.self.now c.self.view_is cached in
    let there : s ≡ get_or a.shelf.plans c.args.place s = subst (λ (x : ArchiveState). s ≡ get_or x.shelf.plans c.args.place s) (sym c.self.view_is) is in
    let pieces = (pieces_chosen (g.D.Disk.disk c.args.disk.now).holds.pages (Some s.plan) c.args.span.from c.args.span.to) in
    subst (λ (x : ArchiveState). OnOk c.gather.result (HasAsked pieces x.shelf.cache c.gather.new.self.cache old new)) c.self.view_is
    (on_ok_both c.gather.result _ _ (HasAsked pieces a.shelf.cache c.gather.new.self.cache old new) (λ one two. record { count = two; cache = one })
    (c.gather.ensures.asked tells kept s there) (c.gather.ensures.count tells kept s there))

pub returns-clause-gathered : goal.returns-clause-gathered
returns-clause-gathered g c = λ tells cached s is.
    let a : ArchiveState = record { end = c.self.inside.journal.end; live = c.self.inside.live; length = c.self.inside.entries; changes = c.self.inside.directory.changes; index = state_of c.self.inside.index; shelf = c.self.inside.shelf; marked = c.self.inside.marked; asked = c.self.inside.asked; job = c.self.inside.job } in
    c.gather.ensures.gathered tells (kept_stands (g.D.Disk.disk c.args.disk.now) a c.args.self.now c.self.view_is cached) s (subst (λ (x : ArchiveState). s ≡ get_or x.shelf.plans c.args.place s) (sym c.self.view_is) is)

pub returns-clause-damaged : goal.returns-clause-damaged
returns-clause-damaged g c = λ tells cached s is.
    let a : ArchiveState = record { end = c.self.inside.journal.end; live = c.self.inside.live; length = c.self.inside.entries; changes = c.self.inside.directory.changes; index = state_of c.self.inside.index; shelf = c.self.inside.shelf; marked = c.self.inside.marked; asked = c.self.inside.asked; job = c.self.inside.job } in
    c.gather.ensures.damaged tells (kept_stands (g.D.Disk.disk c.args.disk.now) a c.args.self.now c.self.view_is cached) s (subst (λ (x : ArchiveState). s ≡ get_or x.shelf.plans c.args.place s) (sym c.self.view_is) is)
