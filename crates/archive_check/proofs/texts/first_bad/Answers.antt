use Rattle.std.proofs.Common.{◌∷◌, ◌++◌, [], ℕ, List, take, subst}
use Rattle.std.proofs.lemmas.List.{take_all}
use Rattle.machine_model.proofs.MomentLemmas.{reads_join}
use Rattle.lists_versions.specs.declared.change.Change.{Change}
use Rattle.lists_versions.specs.Changes.{mapped}
use Rattle.base_types.specs.declared.text_place.TextPlace.{TextPlace}
use Rattle.archive_entries.specs.Texts.{text_in}
use Rattle.archive_check.specs.Verdicts.{with_texts, IsFirstBad}
use Rattle.archive_check.proofs.SegmentLemmas.{journal_on}
use Rattle.archive_check.proofs.TextLemmas.{bad_one, next_text}
use Rattle.archive_check.proofs.texts.first_bad.Goals as goal

pub loop-change-init : goal.loop-change-init
loop-change-init g c = record {
  only = g.met.D.Disk.only_same _;
  same = (λ i. g.D.Disk.disk c.args.disk.now);
  bad = λ told bad. bad_one (mapped (text_in (g.D.Disk.disk c.args.disk.now).holds.journal) c.args.first) bad;
}

pub loop-change-preserved : goal.loop-change-preserved
loop-change-preserved g c =
    let journal = (g.D.Disk.disk c.args.disk.now).holds.journal in
    let first = c.args.first in
    let changes = c.args.changes.now in
    let i = c.loop-change.change-index in
    let change = c.change-item.result in
    let was = c.loop-change.bad in
    let now = c.in_ok-bad.bad in
    record {
      only = g.met.D.Disk.only_joins _ _ _ c.loop-change.invariant.only c.earlier_bad.ensures.only;
      same = reads_join (g.D.Disk.disk c.args.disk.now) (g.D.Disk.disk c.loop-change.disk) (g.D.Disk.disk c.earlier_bad.new.disk) c.loop-change.invariant.same c.earlier_bad.ensures.same;
      bad = λ told bad.
          let texts = with_texts journal (first ∷ take i changes) in
          let J : List ℕ → Type 0 = λ l. IsFirstBad (texts ++ mapped (text_in l) change ∷ []) now.doc now.at in
          let F : List (Change (List ℕ)) → Type 0 = λ l. IsFirstBad l now.doc now.at in
          subst F (next_text journal first changes i change c.loop-change-test.true c.change-item.is)
          (subst J (journal_on (g.D.Disk.disk c.args.disk.now) (g.D.Disk.disk c.loop-change.disk) c.loop-change.invariant.same) (c.in_ok-bad.ensures.first told texts (c.loop-change.invariant.bad told bad)));
    }

pub returns-clause-first : goal.returns-clause-first
returns-clause-first g c = λ told bad.
    let journal = (g.D.Disk.disk c.args.disk.now).holds.journal in
    let F : List (Change TextPlace) → Type 0 = λ l. IsFirstBad (with_texts journal (c.args.first ∷ l)) c.loop-change.bad.doc c.loop-change.bad.at in
    subst F (take_all c.loop-change.change-index c.args.changes.now c.loop-change-test.false) (c.loop-change.invariant.bad told bad)
