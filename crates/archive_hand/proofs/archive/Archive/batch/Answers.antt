use Rattle.std.proofs.Common.{ap, sym, subst, ◌∙◌}
use Rattle.lists_index.specs.Indexes.{IndexState}
use Rattle.archive_hand.specs.States.{ArchiveState, StandsFor}
use Rattle.archive_hand.proofs.archive.Archive.batch.Goals as goal

pub returns-clause-same : goal.returns-clause-same
returns-clause-same c =
    let A : IndexState → ArchiveState = λ i. record { end = c.self.inside.journal.end; live = c.self.inside.live; length = c.self.inside.entries; changes = c.self.inside.directory.changes; index = i; shelf = c.self.inside.shelf; marked = c.self.inside.marked; asked = c.self.inside.asked; job = c.self.inside.job } in
    ap A c.prepare_batch.ensures.same ∙ c.self.view_is

pub returns-clause-prepared : goal.returns-clause-prepared
returns-clause-prepared c = λ h now.
    let stands = subst (λ (a : ArchiveState). StandsFor a h) (sym c.self.view_is) now in
    c.prepare_batch.ensures.prepared h stands.changes_are stands.index_is stands.marked_is (c.end.ensures.end ∙ stands.end_is)
