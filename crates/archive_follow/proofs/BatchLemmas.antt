-- A batch may be taken exactly where nothing refuses it as a batch of items.
use Rattle.std.proofs.Common.{◌≡◌, ◌⊎◌, ℕ, ◌+◌, ◌<◌, ◌≤◌, Bool, true, false, nat_lt, List, [], ◌∷◌, ◌++◌, length, map, take, get_or, sum_by, All, Option, Some, None, Result, Ok, Err, inl, inr, refl, ap, sym, subst, ◌∙◌, arith, length-append}
use Rattle.std.specs.List.{flat_map}
use Rattle.std.specs.Option.{option_map}
use Rattle.std.proofs.lemmas.Bool.{false≢true, ltb-false}
use Rattle.std.proofs.lemmas.List.{length-map, take_more}
use Rattle.std.proofs.lemmas.List.Sums.{sum_by-cons}
use Rattle.std.proofs.lemmas.List.Elements.{All-head, All-nil, All-cons, All-tail}
use Rattle.std.proofs.lemmas.Str.{is_utf8-from_IsUtf8}
use Rattle.base_commands.specs.Batches.{texts_bytes}
use Rattle.base_commands.specs.Documents.{HaveDocuments, MemberHasDocument}
use Rattle.base_commands.specs.declared.batch.BatchItem.{BatchItem}
use Rattle.base_commands.specs.declared.batch.BatchItem.TheVariants as members
use Rattle.base_commands.specs.declared.batch.BatchItems.TheVariants.{Items}
use Rattle.base_commands.specs.declared.command.Command.TheVariants as commands
use Rattle.base_commands.specs.declared.text.Text.TheVariants as texts
use Rattle.lists_versions.specs.Tests.{when}
use Rattle.journal_entries.specs.Acts.{IsAct, IsBatch, act_length}
use Rattle.journal_entries.specs.declared.act.Act.{Act}
use Rattle.journal_entries.specs.declared.act.Act.TheVariants as acts
use Rattle.journal_entries.specs.declared.entry.Entry.{Entry}
use Rattle.journal_entries.specs.declared.entry.Entry.TheVariants as entries
use Rattle.model_archive.specs.declared.refusal.Refusal.{Refusal}
use Rattle.model_archive.specs.declared.refusal.Refusal.TheVariants as refusals
use Rattle.model_archive.specs.Histories.{History, act_refusal, acts_refusal, long_batch, most_batch, old_format}
use Rattle.model_archive.specs.Legal.{IsLegalEntry}
use Rattle.model_archive.specs.Steps.{Accepted, AddsBatch, Cause, Reply, act_of, bad_text, batch_cause, first_other, for_all, full_journal, item_refusal, items_cause, refused_for, text_refusal, too_long}
use Rattle.model_archive.proofs.BatchLemmas.{first_step, none_found}
use Rattle.model_archive.proofs.OutcomeLemmas.{command_keeps}
use Rattle.archive_hand.proofs.ByReadsLemmas.{one_entry as same_entry}
use Rattle.archive_hand.specs.Stored.{Stocks, Store, TellsNoEntry}
use Rattle.archive_hand.specs.States.{ArchiveState, AreInStepBy, StandsFor}
use Rattle.archive_hand.specs.declared.error.ChangeError.{ChangeError}
use Rattle.archive_hand.specs.declared.error.ChangeError.TheVariants as changes
use Rattle.archive_changes.specs.Adding.{Adds, AddsAll}
use Rattle.archive_changes.specs.Endings.{plainly}
use Rattle.archive_changes.specs.declared.error.BatchError.{BatchError}
use Rattle.archive_changes.specs.declared.error.BatchError.TheVariants as batches
use Rattle.model_follow.specs.Taking.{MayBeTaken}
use Rattle.archive_follow.specs.Taken.{item_by}
use Rattle.archive_follow.proofs.RefusalLemmas.{has_room, last_none, not_bad, not_full, not_long}
use Rattle.machine_model.specs.States.{DiskState}
use Rattle.base_commands.specs.declared.command.Item.TheVariants as given
use Rattle.journal_entries.specs.Spelling.{spelling}
use Rattle.archive_hand.specs.Takes.{TakesBy as CarriesBy}
use Rattle.archive_changes.specs.Adding.{AddsBatch as AddsBatchOf}
use Rattle.archive_changes.specs.Endings.{changed_all}
use Rattle.archive_follow.specs.Taken.{TakesBody, TakesBy, as_taken}
use Rattle.archive_follow.specs.declared.error.TakeEntryError.TheVariants as takes
use Rattle.archive_follow.proofs.TakenLemmas.{AddsOrNot, end_of_batch, taken_by, takes_change}

-- ---- the items that acts are

pub acts_back : (batch : List Act) → flat_map act_of (map item_by batch) ≡ batch
acts_back [] = refl
acts_back (acts.Arrive doc at text ∷ batch) = ap (λ (l : List Act). acts.Arrive doc at text ∷ l) (acts_back batch)
acts_back (acts.Delete doc at ∷ batch) = ap (λ (l : List Act). acts.Delete doc at ∷ l) (acts_back batch)

pub texts_back : (batch : List Act) → texts_bytes (map item_by batch) ≡ sum_by act_length batch
texts_back [] = refl
texts_back (acts.Arrive doc at text ∷ batch) = ap (λ (n : ℕ). length text + n) (texts_back batch) ∙ sym (sum_by-cons act_length (acts.Arrive doc at text) batch)
texts_back (acts.Delete doc at ∷ batch) = ap (λ (n : ℕ). 0 + n) (texts_back batch) ∙ sym (sum_by-cons act_length (acts.Delete doc at) batch)

no_other : (index : ℕ) (batch : List Act) → first_other index (map item_by batch) ≡ None
no_other index [] = refl
no_other index (acts.Arrive doc at text ∷ batch) = no_other (index + 1) batch
no_other index (acts.Delete doc at ∷ batch) = no_other (index + 1) batch

documents : (batch : List Act) → All IsAct batch → All MemberHasDocument (map item_by batch)
documents [] each = All-nil MemberHasDocument
documents (acts.Arrive doc at text ∷ batch) each =
    let a = acts.Arrive doc at text in
    All-cons MemberHasDocument (item_by a) (map item_by batch) (All-head IsAct a batch each).0 (documents batch (All-tail IsAct a batch each))
documents (acts.Delete doc at ∷ batch) each =
    let a = acts.Delete doc at in
    All-cons MemberHasDocument (item_by a) (map item_by batch) (All-head IsAct a batch each).0 (documents batch (All-tail IsAct a batch each))

have_documents : (batch : List Act) → IsBatch batch → HaveDocuments (Items (map item_by batch))
have_documents batch is = (omega (arith, is.sized.0, length-map batch item_by), omega (arith, is.sized.1, length-map batch item_by), documents batch is.each)

-- ---- where nothing refuses it, it is legal

-- a history is another one, or that with one legal entry more, or longer
abbrev pub Reached : History → History → Type 0
Reached h g = (g ≡ h) ⊎ (((e : Entry) × (g ≡ h ++ e ∷ []) × IsLegalEntry h e) ⊎ (length h + 2 ≤ length g))

reach : (h g : History) (x : Entry) → Reached h g → IsLegalEntry g x → Reached h (g ++ x ∷ [])
reach h g x (inl same) entry = inr (inl (x, ap (λ (k : History). k ++ x ∷ []) same, subst (λ (k : History). IsLegalEntry k x) same entry))
reach h g x (inr (inl (e, is, legal))) entry = inr (inr (omega (arith, ap (λ (k : History). length k) is, length-append h (e ∷ []), length-append g (x ∷ []))))
reach h g x (inr (inr long)) entry = inr (inr (omega (arith, long, length-append g (x ∷ []))))

reached : (h : History) (e : Entry) → Reached h (h ++ e ∷ []) → IsLegalEntry h e
reached h e (inl same) = absurd (omega (arith, ap (λ (k : History). length k) same, length-append h (e ∷ [])))
reached h e (inr (inl (f, is, legal))) = subst (λ (x : Entry). IsLegalEntry h x) (sym (same_entry h e f is)) legal
reached h e (inr (inr long)) = absurd (omega (arith, long, length-append h (e ∷ [])))

for_none : (o : Option Refusal) → for_all o ≡ None → o ≡ None
for_none None none = refl
for_none (Some why) none = absurd cc

pub batch_may : (h : History) (batch : List Act) → IsBatch batch → batch_cause h (map item_by batch) ≡ None → MayBeTaken h (entries.Batch batch)
batch_may h batch is none =
    let e = entries.Batch batch in
    let all = map item_by batch in
    let next = h ++ e ∷ [] in
    let A : Option Cause → Type 0 = λ o. AddsBatch h (entries.Batch (flat_map act_of all)) o (Accepted (length next)) next in
    let F : List Act → Type 0 = λ l. full_journal h (entries.Batch l) ≡ None in
    let step : AddsBatch h (entries.Batch (flat_map act_of all)) (batch_cause h all) (Accepted (length next)) next =
    subst A (sym none) (ap (λ (l : List Act). h ++ entries.Batch l ∷ []) (sym (acts_back batch)), refl) in
    let legal : Reached h next =
    command_keeps (Reached h) (λ g x so entry. reach h g x so entry) [] None h (commands.Batch (Items all)) (Accepted (length next)) next (inl refl) (have_documents batch is) step in
    let last : full_journal h (entries.Batch (flat_map act_of all)) ≡ None =
    for_none (full_journal h (entries.Batch (flat_map act_of all)))
    (last_none (for_all (old_format h) ∷ for_all (long_batch (texts_bytes all)) ∷ for_all (option_map (λ index. refusals.BatchLine index) (first_other 1 all)) ∷ items_cause h 1 all ∷ [])
    (for_all (full_journal h (entries.Batch (flat_map act_of all)))) none) in
    record { legal = reached h e legal; placed = tt; fits = has_room h e (subst F (acts_back batch) last) }

-- ---- where it is legal, nothing refuses it

abbrev in_item : ℕ → Refusal → Cause
in_item index why = record { why = why; index = Some index }

causes_none : (before : History) (index : ℕ) (batch : List Act) → All IsAct batch → acts_refusal before batch ≡ None → items_cause before index (map item_by batch) ≡ None
causes_none before index [] each none = refl
causes_none before index (acts.Arrive doc at text ∷ batch) each none =
    let a = acts.Arrive doc at text in
    let item = item_by a in
    let later = before ++ entries.Arrive doc at text ∷ [] in
    let ranges = All-head IsAct a batch each in
    let parts = none_found (act_refusal before a) (acts_refusal later batch ∷ []) none in
    let rest = none_found (acts_refusal later batch) [] parts.1 in
    let text_none : text_refusal (texts.Bytes text) ≡ None =
    first_step (too_long text) (bad_text text ∷ []) (not_long text ranges.2) ∙ first_step (bad_text text) [] (not_bad text (is_utf8-from_IsUtf8 text ranges.3)) in
    let item_none : item_refusal before item ≡ None =
    first_step (text_refusal (texts.Bytes text)) (act_refusal before a ∷ []) text_none ∙ first_step (act_refusal before a) [] parts.0 in
    first_step (option_map (in_item index) (item_refusal before item)) (items_cause later (index + 1) (map item_by batch) ∷ []) (ap (option_map (in_item index)) item_none)
    ∙ first_step (items_cause later (index + 1) (map item_by batch)) [] (causes_none later (index + 1) batch (All-tail IsAct a batch each) rest.0)
causes_none before index (acts.Delete doc at ∷ batch) each none =
    let a = acts.Delete doc at in
    let item = item_by a in
    let later = before ++ entries.Delete doc at ∷ [] in
    let parts = none_found (act_refusal before a) (acts_refusal later batch ∷ []) none in
    let rest = none_found (acts_refusal later batch) [] parts.1 in
    first_step (option_map (in_item index) (item_refusal before item)) (items_cause later (index + 1) (map item_by batch) ∷ []) (ap (option_map (in_item index)) parts.0)
    ∙ first_step (items_cause later (index + 1) (map item_by batch)) [] (causes_none later (index + 1) batch (All-tail IsAct a batch each) rest.0)

pub batch_none : (h : History) (batch : List Act) → IsBatch batch → MayBeTaken h (entries.Batch batch) → batch_cause h (map item_by batch) ≡ None
batch_none h batch is may =
    let all = map item_by batch in
    let F : List Act → Type 0 = λ l. full_journal h (entries.Batch l) ≡ None in
    let L : ℕ → Type 0 = λ n. long_batch n ≡ None in
    let one = none_found (old_format h) (long_batch (sum_by act_length batch) ∷ acts_refusal h batch ∷ []) may.legal.allowed in
    let two = none_found (long_batch (sum_by act_length batch)) (acts_refusal h batch ∷ []) one.1 in
    let three = none_found (acts_refusal h batch) [] two.1 in
    let short : long_batch (texts_bytes all) ≡ None = subst L (sym (texts_back batch)) two.0 in
    let full : full_journal h (entries.Batch (flat_map act_of all)) ≡ None = subst F (sym (acts_back batch)) (not_full h (entries.Batch batch) may.fits) in
    let lines : option_map (λ (index : ℕ). refusals.BatchLine index) (first_other 1 all) ≡ None = ap (option_map (λ (index : ℕ). refusals.BatchLine index)) (no_other 1 batch) in
    let last : Option Cause = for_all (full_journal h (entries.Batch (flat_map act_of all))) in
    first_step (for_all (old_format h)) (for_all (long_batch (texts_bytes all)) ∷ for_all (option_map (λ index. refusals.BatchLine index) (first_other 1 all)) ∷ items_cause h 1 all ∷ last ∷ []) (ap for_all one.0)
    ∙ first_step (for_all (long_batch (texts_bytes all))) (for_all (option_map (λ index. refusals.BatchLine index) (first_other 1 all)) ∷ items_cause h 1 all ∷ last ∷ []) (ap for_all short)
    ∙ first_step (for_all (option_map (λ index. refusals.BatchLine index) (first_other 1 all))) (items_cause h 1 all ∷ last ∷ []) (ap for_all lines)
    ∙ first_step (items_cause h 1 all) (last ∷ []) (causes_none h 1 batch is.each three.0)
    ∙ first_step last [] (ap for_all full)

-- one whose texts are together too long may not be taken
pub long_never : (h : History) (batch : List Act) → most_batch < sum_by act_length batch → MayBeTaken h (entries.Batch batch) → ⊥
long_never h batch long may =
    let one = none_found (old_format h) (long_batch (sum_by act_length batch) ∷ acts_refusal h batch ∷ []) may.legal.allowed in
    let two = none_found (long_batch (sum_by act_length batch)) (acts_refusal h batch ∷ []) one.1 in
    go (nat_lt most_batch (sum_by act_length batch)) refl two.0
  where
    go : (b : Bool) → nat_lt most_batch (sum_by act_length batch) ≡ b → when b (refusals.BatchTooLong most_batch) ≡ None → ⊥
    go true same none = cc
    go false same none = omega (arith, long, ltb-false most_batch (sum_by act_length batch) same)

-- ---- what is known of a batch is known of a change

abbrev pub why_of : Cause → Refusal
why_of cause = cause.why

pub adds_plain : (h : History) (e : Entry) (cause : Option Cause) (r : Result ℕ BatchError) (new : ArchiveState) → AddsAll h e cause r new → Adds h e (option_map why_of cause) (plainly r) new
adds_plain h e cause (Ok n) new adds = record {
  refused = λ why is. absurd cc;
  allowed = λ is. ap (option_map why_of) (adds.allowed (inl refl));
  stands = adds.stands;
}
adds_plain h e cause (Err (batches.Refused why index)) new adds = record {
  refused = λ other is. ap (option_map why_of) (adds.refused why index refl) ∙ ap (λ (w : Refusal). Some w) (inner other is);
  allowed = λ is. absurd (elim is [ inl ok ↦ false≢true ok | inr other ↦ cc ]);
  stands = tt;
}
  where
    inner : (other : Refusal) → ◌≡◌ {A = Result ℕ ChangeError} (Err (changes.Refused why)) (Err (changes.Refused other)) → why ≡ other
    inner other is = cc
adds_plain h e cause (Err batches.Failed) new adds = record {
  refused = λ why is. absurd cc;
  allowed = λ is. ap (option_map why_of) (adds.allowed (inr refl));
  stands = tt;
}
adds_plain h e cause (Err batches.Memory) new adds = record {
  refused = λ why is. absurd cc;
  allowed = λ is. absurd (elim is [ inl ok ↦ false≢true ok | inr other ↦ cc ]);
  stands = tt;
}

told_none : (why : Refusal) (index : Option ℕ) → TellsNoEntry (refused_for why index)
told_none why None = tt
told_none why (Some index) = tt

pub batch_or_not : (s next : Store) (batch : List Act) (o : Option Cause) (reply : Reply) → AddsBatch s.history (entries.Batch (flat_map act_of (map item_by batch))) o reply next.history → next.job ≡ s.job → Stocks s next
    → AddsOrNot s (entries.Batch batch) reply next
batch_or_not s next batch None reply adds job stocks = (job, stocks, inl (adds.0 ∙ ap (λ (l : List Act). s.history ++ entries.Batch l ∷ []) (acts_back batch)))
batch_or_not s next batch (Some cause) reply adds job stocks = (job, stocks, inr (subst TellsNoEntry (sym adds.1) (told_none cause.why cause.index)))

-- ---- acts one after another

pub act_at : (batch : List Act) (i : ℕ) (act : Act) → i < length batch → act ≡ get_or batch i act → All IsAct batch → IsAct act
act_at batch i act within is each = subst IsAct (sym is) (each i act within)

pub act_short : (act : Act) → IsAct act → act_length act ≤ 4194304
act_short (acts.Arrive doc at text) ranges = omega (arith, ranges.2)
act_short (acts.Delete doc at) ranges = omega arith

pub acts_taken : (batch : List Act) (i : ℕ) (act : Act) → i < length batch → act ≡ get_or batch i act → take (i + 1) batch ≡ take i batch ++ act ∷ []
acts_taken batch i act within is = take_more batch i act within ∙ ap (λ (x : Act). take i batch ++ x ∷ []) (sym is)

-- ---- what is known of a batch that was made

why_none : (o : Option Cause) → option_map why_of o ≡ None → o ≡ None
why_none None none = refl
why_none (Some cause) none = absurd cc

pub batch_takes : (h : History) (batch : List Act) (l : List BatchItem) (r : Result ℕ BatchError) (old new : ArchiveState) → IsBatch batch → l ≡ map item_by batch → StandsFor old h → ((why : Refusal) → plainly r ≡ Err (changes.Refused why) → new ≡ old)
    → AddsBatchOf h (Items l) r new → TakesBody h (spelling (entries.Batch batch)) (as_taken (plainly r)) new
batch_takes h batch l r old new ranges is stands same adds =
    let e = entries.Batch batch in
    let all = map item_by batch in
    let cause = batch_cause h all in
    let here : AddsAll h (entries.Batch (flat_map act_of all)) cause r new = subst (λ (items : List BatchItem). AddsBatchOf h (Items items) r new) is adds in
    let back : AddsAll h e cause r new = subst (λ (b : List Act). AddsAll h (entries.Batch b) cause r new) (acts_back batch) here in
    takes_change h e (spelling e) (option_map why_of cause) (plainly r) old new ranges refl (λ none. batch_may h batch ranges (why_none cause none)) (λ may. ap (option_map why_of) (batch_none h batch ranges may)) stands same
    (adds_plain h e cause r new back)

pub batch_by_reads : (s : Store) (batch : List Act) (l : List BatchItem) (r : Result ℕ BatchError) (d e : DiskState) (old new : ArchiveState) → IsBatch batch → l ≡ map item_by batch → AreInStepBy d old s
    → (as_taken (plainly r) ≡ Err takes.NotNext → (new ≡ old) × (e ≡ d)) → CarriesBy s (given.Command (commands.Batch (Items l))) (changed_all r) d e new → TakesBy s (spelling (entries.Batch batch)) (as_taken (plainly r)) d e new
batch_by_reads s batch l r d e old new ranges is in_step same carries =
    let all = map item_by batch in
    let b = entries.Batch batch in
    taken_by s (given.Command (commands.Batch (Items all))) b (spelling b) (as_taken (plainly r)) (changed_all r) d e old new ranges refl
    (λ reply next step. batch_or_not s next batch (batch_cause s.history all) reply step.0 step.1 step.2) (end_of_batch r) in_step same
    (subst (λ (items : List BatchItem). CarriesBy s (given.Command (commands.Batch (Items items))) (changed_all r) d e new) is carries)
