-- A batch and its acts as entries of their own.
use Rattle.std.specs.Prelude.{◌≡◌, ℕ, nat_lt, Bool, true, false, not, List, [], ◌∷◌, ◌++◌, length, map, sum_by, Option, Some, None, refl}
use Rattle.std.specs.List.{flat_map}
use Rattle.std.specs.Option.{option_map}
use Rattle.std.proofs.Common.{◌≤◌, sym, ap, subst, ◌∙◌, arith, append_assoc}
use Rattle.std.proofs.lemmas.List.{append-nil}
use Rattle.std.proofs.lemmas.List.Concat.{flat_map-append}
use Rattle.std.proofs.lemmas.List.Sums.{sum_by-cons}
use Rattle.base_commands.specs.Batches.{text_bytes, texts_bytes}
use Rattle.base_commands.specs.declared.batch.BatchItem.{BatchItem}
use Rattle.base_commands.specs.declared.batch.BatchItem.TheVariants as members
use Rattle.base_commands.specs.declared.text.Text.{Text}
use Rattle.base_commands.specs.declared.text.Text.TheVariants as texts
use Rattle.lists_versions.specs.declared.change.Change.{Change}
use Rattle.lists_versions.specs.Tests.{first_of, when}
use Rattle.journal_entries.specs.declared.act.Act.{Act}
use Rattle.journal_entries.specs.declared.act.Act.TheVariants as batched
use Rattle.journal_entries.specs.declared.entry.Entry.TheVariants.{Batch}
use Rattle.journal_entries.specs.Acts.{act_length, alone}
use Rattle.model_archive.specs.declared.refusal.Refusal.{Refusal}
use Rattle.model_archive.specs.declared.refusal.Refusal.TheVariants.{BatchTooLong, OldFormat}
use Rattle.model_archive.specs.Legal.{EachAllowed}
use Rattle.model_archive.specs.Steps.{act_of, text_held}
use Rattle.model_archive.specs.Histories.{History, acts, changes, change_by, singles, act_refusal, acts_refusal, entry_refusal, is_marked, old_format, long_batch, most_batch}

-- where no test finds a cause, the first finds none, nor do the others
pub none_found : {W : Type 0} (o : Option W) (tests : List (Option W)) → first_of (o ∷ tests) ≡ None → (o ≡ None) × (first_of tests ≡ None)
none_found None tests none = (refl, none)
none_found (Some why) tests none = absurd cc

pub none_mapped : {V W : Type 0} (f : V → W) (o : Option V) → option_map f o ≡ None → o ≡ None
none_mapped f None none = refl
none_mapped f (Some why) none = absurd cc

-- a test that finds nothing is passed over
pub first_step : {W : Type 0} (o : Option W) (tests : List (Option W)) → o ≡ None → first_of (o ∷ tests) ≡ first_of tests
first_step o tests none = ap (λ x. first_of (x ∷ tests)) none

alone_changes : (a : Act) → acts (alone a) ≡ change_by a ∷ []
alone_changes (batched.Arrive doc at text) = refl
alone_changes (batched.Delete doc at) = refl

pub alone_refusal : (h : History) (a : Act) → entry_refusal h (alone a) ≡ act_refusal h a
alone_refusal h (batched.Arrive doc at text) = refl
alone_refusal h (batched.Delete doc at) = refl

pub singles_changes : (batch : List Act) → flat_map acts (singles batch) ≡ map change_by batch
singles_changes [] = refl
singles_changes (a ∷ batch) = ap (λ (cs : List (Change (List ℕ))). cs ++ flat_map acts (singles batch)) (alone_changes a) ∙ ap (λ (cs : List (Change (List ℕ))). change_by a ∷ cs) (singles_changes batch)

pub batch_changes : (h : History) (batch : List Act) → changes (h ++ Batch batch ∷ []) ≡ changes (h ++ singles batch)
batch_changes h batch =
    flat_map-append acts h (Batch batch ∷ []) ∙ ap (λ (cs : List (Change (List ℕ))). changes h ++ cs) (append-nil (map change_by batch) ∙ sym (singles_changes batch)) ∙ sym (flat_map-append acts h (singles batch))

acts_allowed : (h : History) (batch : List Act) → acts_refusal h batch ≡ None → EachAllowed h (singles batch)
acts_allowed h [] none = tt
acts_allowed h (a ∷ batch) none =
    let both = none_found (act_refusal h a) (acts_refusal (h ++ alone a ∷ []) batch ∷ []) none in
    let rest = none_found (acts_refusal (h ++ alone a ∷ []) batch) [] both.1 in
    (alone_refusal h a ∙ both.0, acts_allowed (h ++ alone a ∷ []) batch rest.0)

pub batch_allowed : (h : History) (batch : List Act) → entry_refusal h (Batch batch) ≡ None → EachAllowed h (singles batch)
batch_allowed h batch none =
    let one = none_found (old_format h) _ none in
    let two = none_found _ (acts_refusal h batch ∷ []) one.1 in
    acts_allowed h batch (none_found (acts_refusal h batch) [] two.1).0

-- and a batch whose acts nothing refuses one by one is refused by nothing
acts_may : (h : History) (batch : List Act) → EachAllowed h (singles batch) → acts_refusal h batch ≡ None
acts_may h [] allowed = refl
acts_may h (a ∷ batch) allowed =
    ap (λ (o : Option Refusal). first_of (o ∷ acts_refusal (h ++ alone a ∷ []) batch ∷ [])) (sym (alone_refusal h a) ∙ allowed.0)
    ∙ ap (λ (o : Option Refusal). first_of (o ∷ [])) (acts_may (h ++ alone a ∷ []) batch allowed.1)

pub batch_may : (h : History) (batch : List Act) → is_marked h ≡ true → nat_lt most_batch (sum_by act_length batch) ≡ false → EachAllowed h (singles batch) → entry_refusal h (Batch batch) ≡ None
batch_may h batch marked short allowed =
    ap (λ (b : Bool). first_of (when (not b) OldFormat ∷ long_batch (sum_by act_length batch) ∷ acts_refusal h batch ∷ [])) marked
    ∙ ap (λ (b : Bool). first_of (when b (BatchTooLong most_batch) ∷ acts_refusal h batch ∷ [])) short
    ∙ ap (λ (o : Option Refusal). first_of (o ∷ [])) (acts_may h batch allowed)

-- entries behind others
pub allowed_behind : (before h more : History) → EachAllowed before (h ++ more) → EachAllowed (before ++ h) more
allowed_behind before [] more allowed = let P : History → Type 0 = λ g. EachAllowed g more in subst P (sym (append-nil before)) allowed
allowed_behind before (e ∷ h) more allowed =
    let P : History → Type 0 = λ g. EachAllowed g more in
    subst P (append_assoc before (e ∷ []) h) (allowed_behind (before ++ e ∷ []) h more allowed.1)

-- texts that are kept are no longer than those that came
held_short : (text : Text) → length (text_held text) ≤ text_bytes text
held_short (texts.Bytes text) = omega arith
held_short (texts.TooLong bytes) = omega arith

pub acts_short : (items : List BatchItem) → sum_by act_length (flat_map act_of items) ≤ texts_bytes items
acts_short [] = omega arith
acts_short (members.Arrive doc at text ∷ items) =
    omega (arith, acts_short items, held_short text, sum_by-cons act_length (batched.Arrive doc at (text_held text)) (flat_map act_of items))
acts_short (members.Delete doc at ∷ items) = omega (arith, acts_short items, sum_by-cons act_length (batched.Delete doc at) (flat_map act_of items))
acts_short (members.Other ∷ items) = omega (arith, acts_short items)
