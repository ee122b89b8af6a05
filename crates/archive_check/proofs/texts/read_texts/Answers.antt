use Rattle.std.proofs.Common.{◌≡◌, ◌∙◌, ◌∷◌, ◌+◌, suc, ℕ, List, Option, drop, subst, ap, arith}
use Rattle.std.specs.Prelude.{MatchOption}
use Rattle.lists_index.specs.Loads.{loaded}
use Rattle.lists_versions.specs.Changes.{mapped}
use Rattle.archive_entries.specs.Texts.{text_in}
use Rattle.archive_check.specs.Verdicts.{with_texts, IsText, IsFirstBad}
use Rattle.archive_check.specs.Checking.{AreAllLoaded, IsStopped}
use Rattle.archive_check.proofs.SegmentLemmas.{journal_on}
use Rattle.archive_check.proofs.TextLemmas.{bad_among}
use Rattle.archive_check.proofs.texts.read_texts.Goals as goal

pub returns-in_ok-version-in-Some-clause-read : goal.returns-in_ok-version-in-Some-clause-read
returns-in_ok-version-in-Some-clause-read g c = λ told.
    let tells = g.D.Disk.disk_tells in
    let journal = (g.D.Disk.disk c.args.disk.now).holds.journal in
    let changes = c.args.changes.now in
    let i = c.in-Some.at in
    let change = c.index-changes-at.result in
    let v = c.in_ok-version-in-Some.version in
    let rest = c.split_at.result.1.now in
    let O : Option ℕ → Type 0 = λ o. MatchOption o (AreAllLoaded tells journal changes (loaded c.load_texts.new.loader)) (IsStopped tells journal changes) in
    let stop : IsStopped tells journal changes i = subst O c.in-Some.is c.in_ok-load_texts.ensures.loaded in
    let kept : (g.D.Disk.disk c.load_texts.new.disk).holds.journal ≡ journal = journal_on (g.D.Disk.disk c.args.disk.now) (g.D.Disk.disk c.load_texts.new.disk) c.load_texts.ensures.same in
    let F : List ℕ → Type 0 = λ l. ¬ (IsText (mapped (text_in l) change)) → IsFirstBad (with_texts l (change ∷ rest)) v.doc v.at in
    bad_among tells journal changes i change v.doc v.at stop c.index-changes-at.is rest (let e : i + 1 ≡ suc i = omega arith in c.split_at.ensures.back ∙ ap (λ n. drop n changes) e) told
    (subst F kept (c.in_ok-version-in-Some.ensures.first told) (stop.bad told change c.index-changes-at.is))
