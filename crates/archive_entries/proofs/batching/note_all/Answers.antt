use Rattle.std.proofs.Common.{◌≡◌, ◌++◌, ◌∷◌, [], List, None, append_assoc, ap, subst, sym, ◌∙◌, arith, rules, take}
use Rattle.std.proofs.lemmas.List.{take_all}
use Rattle.base_types.specs.declared.text_place.TextPlace.{TextPlace}
use Rattle.lists_versions.specs.declared.change.Change.{Change}
use Rattle.lists_versions.specs.Refusals.{change_refusal}
use Rattle.archive_entries.proofs.BatchingLemmas.{changes_taken, may_at}
use Rattle.archive_entries.proofs.batching.note_all.Goals as goal

pub note-requires-clause-allowed : goal.note-requires-clause-allowed
note-requires-clause-allowed c =
    let P : List (Change TextPlace) → Type 0 = λ l. change_refusal c.change-item.result l ≡ None in
    subst P (sym c.loop-change.invariant.changes) (may_at c.args.directory.now.changes c.args.changes.now c.loop-change.change-index c.change-item.result (search rules) (search rules) c.requires.allowed)

pub loop-change-preserved : goal.loop-change-preserved
loop-change-preserved c = record {
  changes = c.note.ensures.changes ∙ ap (λ (l : List (Change TextPlace)). l ++ c.change-item.result ∷ []) c.loop-change.invariant.changes
      ∙ append_assoc c.args.directory.now.changes (take c.loop-change.change-index c.args.changes.now) (c.change-item.result ∷ [])
      ∙ ap (λ (l : List (Change TextPlace)). c.args.directory.now.changes ++ l) (sym (changes_taken c.args.changes.now c.loop-change.change-index c.change-item.result (search rules) (search rules)));
  room = omega (arith, c.loop-change.invariant.room, c.note.ensures.room);
}

pub returns : goal.returns
returns c = c.loop-change.invariant.changes ∙ ap (λ (l : List (Change TextPlace)). c.args.directory.now.changes ++ l) (take_all c.loop-change.change-index c.args.changes.now c.loop-change-test.false)
