use Rattle.std.proofs.Common.{◌≡◌, ◌++◌, ◌∷◌, [], ℕ, List, None, Some, ap, subst, sym, ◌∙◌}
use Rattle.base_commands.specs.declared.batch.BatchItem.{BatchItem}
use Rattle.journal_entries.specs.declared.act.Act.{Act}
use Rattle.journal_entries.specs.declared.act.Act.TheVariants as acts
use Rattle.model_archive.specs.Histories.{singles}
use Rattle.model_archive.specs.Steps.{act_of, item_refusal}
use Rattle.archive_entries.specs.Batches.{AreAllowed, AreGathered}
use Rattle.archive_entries.proofs.BatchingLemmas.{arrival_refusal_is, ok_moved}
use Rattle.archive_entries.proofs.batching.Gathered.add.Goals as goal

pub returns-in_ok-text-in-Arrive-clause-gathered : goal.returns-in_ok-text-in-Arrive-clause-gathered
returns-in_ok-text-in-Arrive-clause-gathered c =
    let is : acts.Arrive c.in-Arrive.doc c.in-Arrive.at c.in_ok-text-in-Arrive.text.now ∷ [] ≡ act_of c.args.item.now =
    ap (λ (l : List ℕ). acts.Arrive c.in-Arrive.doc c.in-Arrive.at l ∷ []) c.in_ok-text-in-Arrive.ensures.0 ∙ sym (ap act_of c.in-Arrive.is) in
    ok_moved c.arrive.result (λ all count batch gathered. subst (λ (b : List Act). AreGathered c.args.directory.now.changes c.args.end count (batch ++ b) c.arrive.new.self) is (all count batch gathered)) c.arrive.ensures.gathered

pub returns-in_ok-text-in-Arrive-clause-allowed : goal.returns-in_ok-text-in-Arrive-clause-allowed
returns-in_ok-text-in-Arrive-clause-allowed c =
    let is : acts.Arrive c.in-Arrive.doc c.in-Arrive.at c.in_ok-text-in-Arrive.text.now ∷ [] ≡ act_of c.args.item.now =
    ap (λ (l : List ℕ). acts.Arrive c.in-Arrive.doc c.in-Arrive.at l ∷ []) c.in_ok-text-in-Arrive.ensures.0 ∙ sym (ap act_of c.in-Arrive.is) in
    ok_moved c.arrive.result (λ all h count batch of gathered allowed.
    let made = all h count batch of gathered allowed in
    let g = h ++ singles batch in (
      subst (λ (b : List Act). AreAllowed h (batch ++ b) c.arrive.new.self) is made.0,
      ap (item_refusal g) c.in-Arrive.is
          ∙ arrival_refusal_is g c.in-Arrive.doc c.in-Arrive.at c.in-Arrive.text c.in_ok-text-in-Arrive.text.now None c.in_ok-text-in-Arrive.ensures.2 c.in_ok-text-in-Arrive.ensures.0 made.1,
    )) c.arrive.ensures.allowed

pub returns-in_ok-text-in-Arrive-clause-refused : goal.returns-in_ok-text-in-Arrive-clause-refused
returns-in_ok-text-in-Arrive-clause-refused c = λ why is h count batch of gathered allowed.
    let g = h ++ singles batch in
    ap (item_refusal g) c.in-Arrive.is ∙ arrival_refusal_is g c.in-Arrive.doc c.in-Arrive.at c.in-Arrive.text c.in_ok-text-in-Arrive.text.now (Some why) c.in_ok-text-in-Arrive.ensures.2 c.in_ok-text-in-Arrive.ensures.0
    (c.arrive.ensures.refused why is h count batch of gathered allowed)

pub returns-in-Delete-clause-gathered : goal.returns-in-Delete-clause-gathered
returns-in-Delete-clause-gathered c =
    ok_moved c.delete.result (λ all count batch gathered. subst (λ (x : BatchItem). AreGathered c.args.directory.now.changes c.args.end count (batch ++ act_of x) c.delete.new.self) (sym c.in-Delete.is) (all c.args.end count batch gathered)) c.delete.ensures.gathered

pub returns-in-Delete-clause-allowed : goal.returns-in-Delete-clause-allowed
returns-in-Delete-clause-allowed c =
    ok_moved c.delete.result (λ all h count batch of gathered allowed.
    let made = all h c.args.end count batch of gathered allowed in
    (subst (λ (x : BatchItem). AreAllowed h (batch ++ act_of x) c.delete.new.self) (sym c.in-Delete.is) made.0, ap (item_refusal (h ++ singles batch)) c.in-Delete.is ∙ made.1)) c.delete.ensures.allowed

pub returns-in-Delete-clause-refused : goal.returns-in-Delete-clause-refused
returns-in-Delete-clause-refused c = λ why is h count batch of gathered allowed.
    ap (item_refusal (h ++ singles batch)) c.in-Delete.is ∙ c.delete.ensures.refused why is h c.args.end count batch of gathered allowed
