use Rattle.std.proofs.Common.{◌++◌, ◌∷◌, [], ℕ, List, map, Some, Err, ap, refl, sym, subst, ◌∙◌, rules}
use Rattle.base_types.specs.declared.text_place.TextPlace.{TextPlace}
use Rattle.lists_index.specs.NewWords.{Brings}
use Rattle.lists_index.specs.declared.new_words.NewWords.{NewWords}
use Rattle.lists_versions.specs.declared.change.Change.{Change}
use Rattle.journal_entries.specs.declared.act.Act.TheVariants as acts
use Rattle.model_archive.specs.Histories.{change_by, changes, singles}
use Rattle.archive_entries.specs.declared.batching.NextWords.{NextWords}
use Rattle.archive_entries.proofs.BatchingLemmas.{allowed_more, arrival_behind, arrival_by, arrival_declined, arrival_place, arrival_wordy, arrival_allowed, gathered_more}
use Rattle.archive_entries.proofs.batching.Gathered.arrive.Goals as goal

pub returns-in-Err-clause-refused : goal.returns-in-Err-clause-refused
returns-in-Err-clause-refused c = λ why is h count batch of gathered allowed.
    let cs : List (Change TextPlace) = c.args.directory.now.changes ++ c.args.self.now.coming.changes.items in
    let behind = arrival_behind h batch c.args.directory.now.changes c.args.self.now.coming.changes.items _ c.args.doc c.args.at of.placed gathered.placed in
    let same = arrival_by c.args.doc c.args.at c.placed-change.result _ _ cs c.placed-change.ensures.doc c.placed-change.ensures.at c.placed-change.ensures.held in
    let declined = arrival_declined (h ++ singles batch) c.args.doc c.args.at c.args.text.now cs c.in-Err.why c.into.result behind (sym same ∙ c.in-Err.ensures) c.into.ensures in
    let shown = is in
    cc

pub returns-in-Err-Full-clause-refused : goal.returns-in-Err-Full-clause-refused
returns-in-Err-Full-clause-refused c = λ why is h count batch of gathered allowed.
    let cs : List (Change TextPlace) = c.args.directory.now.changes ++ c.args.self.now.coming.changes.items in
    let behind = arrival_behind h batch c.args.directory.now.changes c.args.self.now.coming.changes.items _ c.args.doc c.args.at of.placed gathered.placed in
    let same = arrival_by c.args.doc c.args.at c.placed-change.result _ _ cs c.placed-change.ensures.doc c.placed-change.ensures.at c.placed-change.ensures.held in
    let change : Change (List ℕ) = record { doc = c.args.doc; at = c.args.at; held = Some c.args.text.now } in
    let over = c.in-Err-Full.ensures.full (ap Err c.in-Err-Full.field-0-is) (changes h) (map change_by batch) change of.indexed allowed.brings refl in
    let wordy = arrival_wordy h batch c.args.doc c.args.at c.args.text.now cs behind (sym same ∙ c.in-Ok.ensures) over in
    let full = c.full_words.ensures in
    let shown = is in
    cc

pub returns-clause-gathered : goal.returns-clause-gathered
returns-clause-gathered c = λ count batch gathered.
    gathered_more c.args.directory.now.changes c.args.end count batch c.args.self.now c.keep.new.self (acts.Arrive c.args.doc c.args.at c.args.text.now) c.placed-change.result gathered (search rules)
    (arrival_place c.args.end count batch c.args.self.now.body.items c.args.doc c.args.at c.args.text.now c.placed-change.result _ gathered.spelled (search rules) c.placed-change.ensures.doc c.placed-change.ensures.at c.placed-change.ensures.held)
    (search rules) c.in_ok-keep.ensures.counted c.in_ok-keep.ensures.changes (search rules)

pub returns-clause-allowed : goal.returns-clause-allowed
returns-clause-allowed c = λ h count batch of gathered allowed.
    let cs : List (Change TextPlace) = c.args.directory.now.changes ++ c.args.self.now.coming.changes.items in
    let behind = arrival_behind h batch c.args.directory.now.changes c.args.self.now.coming.changes.items _ c.args.doc c.args.at of.placed gathered.placed in
    let same = arrival_by c.args.doc c.args.at c.placed-change.result _ _ cs c.placed-change.ensures.doc c.placed-change.ensures.at c.placed-change.ensures.held in
    let change : Change (List ℕ) = record { doc = c.args.doc; at = c.args.at; held = Some c.args.text.now } in
    let next : NextWords = record { at = c.args.at; words = c.in-Ok-add.words } in
    let added = c.in-Ok-add.ensures.added (changes h) (map change_by batch) change of.indexed allowed.brings refl in
    let prepared = c.in-Ok-add.ensures.prepared (changes h) (map change_by batch) of.indexed allowed.brings in
    let may = arrival_allowed h batch c.args.doc c.args.at c.args.text.now cs behind (sym same ∙ c.in-Ok.ensures) added.1 in
    let W : NewWords → Type 0 = λ w. Brings w (changes h) (map change_by batch ++ change ∷ []) in (
      allowed_more h batch c.args.self.now c.keep.new.self (acts.Arrive c.args.doc c.args.at c.args.text.now) next allowed may
          (subst W (sym c.in_ok-keep.ensures.others.0) added.0) refl prepared c.in_ok-keep.ensures.ready,
      may,
    )
