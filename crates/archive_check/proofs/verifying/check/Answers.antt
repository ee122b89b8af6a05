use Rattle.std.proofs.Common.{◌<◌, ℕ, List, length, subst, arith, rules}
use Rattle.std.specs.Prelude.{IfOk}
use Rattle.std.proofs.lemmas.List.Sorted.{length_permutation}
use Rattle.base_types.specs.declared.text_place.TextPlace.{TextPlace}
use Rattle.lists_versions.specs.declared.change.Change.{Change}
use Rattle.lists_index.specs.Words.{words_in}
use Rattle.archive_check.specs.declared.texts.Texts.{Texts}
use Rattle.archive_check.specs.Checking.{AreRead, TellsAll}
use Rattle.archive_check.specs.Verdicts.{with_texts}
use Rattle.model_archive.proofs.OrderLemmas.{put_in_order, are_put, are_moved}
use Rattle.archive_check.proofs.SegmentLemmas.{pages_on}
use Rattle.archive_check.proofs.verifying.check.Goals as goal

pub returns-in-Good-clause-only : goal.returns-in-Good-clause-only
returns-in-Good-clause-only g c = g.met.D.Disk.only_joins _ _ _ c.read_texts.ensures.only c.check_by_number.ensures.only

pub returns-in-Good-clause-failed : goal.returns-in-Good-clause-failed
returns-in-Good-clause-failed g c = λ e.
    let rose = c.check_by_number.ensures.failed e in
    omega (arith, rose, g.met.D.Disk.only_faults _ _ c.read_texts.ensures.only)

pub returns-in-Good-clause-told : goal.returns-in-Good-clause-told
returns-in-Good-clause-told g c = λ told.
    let disk = g.D.Disk.disk c.args.disk.now in
    let plans = c.args.plans.now in
    let R : Texts → Type 0 = λ t. AreRead g.D.Disk.disk_tells disk.holds.journal c.args.directory.now.changes t in
    let L : List (Change TextPlace) → Type 0 = λ l. AreRead g.D.Disk.disk_tells disk.holds.journal l c.in_ok-index.field-0 in
    let read = subst R c.in-Good.is (subst L c.changes.ensures.all c.in_ok-index.ensures.read) in
    let P : List ℕ → Type 0 = λ l. IfOk c.check_by_number.result (λ v. TellsAll c.args.digests v read.0 l plans) in
    let T : List (Change (List ℕ)) → Type 0 = λ texts. IfOk c.check_by_number.result (λ v. TellsAll c.args.digests v texts disk.holds.pages plans) in
    subst T (read.3 told) (subst P (pages_on disk (g.D.Disk.disk c.read_texts.new.disk) c.read_texts.ensures.same) (c.check_by_number.ensures.told told read.0 read.1 read.2))

pub returns-in-Bad-clause-told : goal.returns-in-Bad-clause-told
returns-in-Bad-clause-told g c = λ told.
    let disk = g.D.Disk.disk c.args.disk.now in
    let plans = c.args.plans.now in
    let words = words_in (with_texts disk.holds.journal c.args.directory.now.changes) in
    let ordered = put_in_order words plans in
    let put = are_put words plans in
    let some : 0 < length plans = search rules in
    let R : Texts → Type 0 = λ t. AreRead g.D.Disk.disk_tells disk.holds.journal c.args.directory.now.changes t in
    let L : List (Change TextPlace) → Type 0 = λ l. AreRead g.D.Disk.disk_tells disk.holds.journal l c.in_ok-index.field-0 in
    let read = subst R c.in-Bad.is (subst L c.changes.ensures.all c.in_ok-index.ensures.read) in
    record {
      ordered = ordered;
      by_number = put;
      says = (omega (arith, some, length_permutation plans ordered (are_moved words plans ordered put)), read told);
      digests_told = λ asked. ((λ sound. absurd sound), tt);
    }
