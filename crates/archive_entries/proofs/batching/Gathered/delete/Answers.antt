use Rattle.std.proofs.Common.{◌++◌, ◌∷◌, [], ℕ, List, None, map, option_map, ap, refl, sym, subst, ◌∙◌, rules}
use Rattle.lists_index.specs.NewWords.{Brings}
use Rattle.lists_index.specs.declared.new_words.NewWords.{NewWords}
use Rattle.lists_versions.specs.declared.change.Change.{Change}
use Rattle.journal_entries.specs.declared.act.Act.TheVariants as acts
use Rattle.model_archive.specs.Histories.{change_by, changes}
use Rattle.model_archive.specs.Refusals.{refusal_of}
use Rattle.archive_entries.specs.declared.batching.NextWords.{NextWords}
use Rattle.archive_entries.proofs.BatchingLemmas.{allowed_more, deletion_behind, deletion_declined, gathered_more}
use Rattle.archive_entries.proofs.batching.Gathered.delete.Goals as goal

pub returns-in-Err-clause-refused : goal.returns-in-Err-clause-refused
returns-in-Err-clause-refused c = λ why is h end count batch of gathered allowed.
    let behind = deletion_behind h batch c.args.directory.now.changes c.args.self.now.coming.changes.items _ c.args.doc c.args.at of.placed gathered.placed in
    let declined = deletion_declined _ _ c.in-Err.why c.into.result behind c.in-Err.ensures c.into.ensures in
    let shown = is in
    cc

pub returns-clause-gathered : goal.returns-clause-gathered
returns-clause-gathered c = λ end count batch gathered.
    gathered_more c.args.directory.now.changes end count batch c.args.self.now c.keep.new.self (acts.Delete c.args.doc c.args.at) (record { doc = c.args.doc; at = c.args.at; held = None }) gathered (search rules) refl (search rules) (search rules)
    (search rules) (search rules)

pub returns-clause-allowed : goal.returns-clause-allowed
returns-clause-allowed c = λ h end count batch of gathered allowed.
    let may = deletion_behind h batch c.args.directory.now.changes c.args.self.now.coming.changes.items _ c.args.doc c.args.at of.placed gathered.placed ∙ ap (option_map refusal_of) c.in-Ok.ensures in
    let change : Change (List ℕ) = record { doc = c.args.doc; at = c.args.at; held = None } in
    let next : NextWords = record { at = c.args.at; words = c.in-Ok-add.words } in
    let added = c.in-Ok-add.ensures.added (changes h) (map change_by batch) change of.indexed allowed.brings refl in
    let prepared = c.in-Ok-add.ensures.prepared (changes h) (map change_by batch) of.indexed allowed.brings in
    let W : NewWords → Type 0 = λ w. Brings w (changes h) (map change_by batch ++ change ∷ []) in (
      allowed_more h batch c.args.self.now c.keep.new.self (acts.Delete c.args.doc c.args.at) next allowed may (subst W (sym c.in_ok-keep.ensures.others.0) added.0) refl prepared c.in_ok-keep.ensures.ready,
      may,
    )
