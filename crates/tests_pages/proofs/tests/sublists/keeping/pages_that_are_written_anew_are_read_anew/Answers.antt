use Rattle.std.proofs.Common.{List, sym, subst, ◌∙◌}
use Rattle.journal_entries.specs.declared.place.Place.{Place}
use Rattle.pages_area.specs.CacheLaws.{LieIn}
use Rattle.pages_sublists.specs.Preparing.{extents}
use Rattle.tests_pages.proofs.tests.sublists.keeping.pages_that_are_written_anew_are_read_anew.Goals as goal

pub replaced-between-requires-clause-lie : goal.replaced-between-requires-clause-lie
replaced-between-requires-clause-lie g c =
    let B : List Place → Type 0 = λ ps. LieIn (extents ps) c.replaced-early.new.sublists.cache in
    let A : List Place → Type 0 = λ ps. LieIn (extents ps) c.read_all.new.sublists.cache in
    subst A (c.deref.ensures.value ∙ sym c.deref-2.ensures.value) (c.read_all.ensures.lie (subst B (sym c.deref.ensures.value) c.replaced-early.ensures.lie))

pub replaced-late-requires-clause-lie : goal.replaced-late-requires-clause-lie
replaced-late-requires-clause-lie g c =
    let A : List Place → Type 0 = λ ps. LieIn (extents ps) c.replaced-between.new.sublists.cache in
    subst A (sym c.deref-3.ensures.value) c.replaced-between.ensures.lie
