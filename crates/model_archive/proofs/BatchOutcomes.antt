-- A batch that isn't refused is legal, and each batch has one outcome.
use Rattle.std.proofs.Common.{subst, sym, ◌≡◌, ℕ, ◌+◌, ◌≤◌, Bool, true, false, not, nat_lt, List, [], ◌∷◌, ◌++◌, length, sum_by, All, Option, Some, None, unwrap_or, refl, ap, arith, ◌∙◌}
use Rattle.std.specs.List.{flat_map}
use Rattle.std.specs.Str.{is_utf8}
use Rattle.std.proofs.lemmas.Bool.{ltb-false, le-ltb}
use Rattle.std.proofs.lemmas.Str.{IsUtf8-from_is_utf8}
use Rattle.std.proofs.lemmas.List.Elements.{All-nil, All-cons, All-head, All-tail}
use Rattle.base_commands.specs.Batches.{texts_bytes}
use Rattle.base_commands.specs.Documents.{MemberHasDocument, HaveDocuments}
use Rattle.base_commands.specs.declared.batch.BatchItem.{BatchItem}
use Rattle.base_commands.specs.declared.batch.BatchItem.TheVariants as members
use Rattle.base_commands.specs.declared.batch.BatchItems.{BatchItems}
use Rattle.base_commands.specs.declared.batch.BatchItems.TheVariants.{Items, TooLong}
use Rattle.base_commands.specs.declared.text.Text.{Text}
use Rattle.base_commands.specs.declared.text.Text.TheVariants as texts
use Rattle.lists_versions.specs.Tests.{when}
use Rattle.journal_entries.specs.Acts.{act_length, most_text, IsAct}
use Rattle.journal_entries.specs.declared.act.Act.TheVariants as batched
use Rattle.journal_entries.specs.declared.entry.Entry.{Entry}
use Rattle.journal_entries.specs.declared.entry.Entry.TheVariants as entries
use Rattle.model_archive.specs.declared.refusal.Refusal.{Refusal}
use Rattle.model_archive.specs.declared.refusal.Refusal.TheVariants as refusals
use Rattle.model_archive.specs.Histories.{History, act_refusal, acts_refusal, old_format, long_batch, most_batch}
use Rattle.model_archive.specs.Legal.{IsLegalEntry}
use Rattle.model_archive.specs.Runs.{Outcome}
use Rattle.model_archive.specs.Steps.{Reply, Accepted, Refused, too_long, bad_text, Cause, first_other, text_held, act_of, text_refusal, item_refusal, for_all, items_cause, batch_cause, refused_for, AddsBatch, Batches}
use Rattle.model_archive.proofs.BatchLemmas.{acts_short, first_step, none_found, none_mapped}

pub no_cause : {W : Type 0} (test : Bool) (why : W) → when test why ≡ None → test ≡ false
no_cause true why none = absurd cc
no_cause false why none = refl

pub is_true : (b : Bool) → not b ≡ false → b ≡ true
is_true true is = refl
is_true false is = absurd cc

-- a text that isn't refused is one
text_good : (text : Text) → text_refusal text ≡ None → (length (text_held text) ≤ most_text) × (is_utf8 (text_held text) ≡ true)
text_good (texts.Bytes text) none =
    let one = none_found (too_long text) (bad_text text ∷ []) none in
    let two = none_found (bad_text text) [] one.1 in
    (ltb-false most_text (length text) (no_cause (nat_lt most_text (length text)) (refusals.TooLong most_text) one.0), is_true (is_utf8 text) (no_cause (not (is_utf8 text)) _ two.0))
text_good (texts.TooLong bytes) none = absurd cc

-- items that aren't refused are acts that may come
record AreGood (before : History) (items : List BatchItem) : Type 0 where
  count : length (flat_map act_of items) ≡ length items
  each : All IsAct (flat_map act_of items)
  allowed : acts_refusal before (flat_map act_of items) ≡ None

-- the cause of an item's refusal
abbrev in_item : ℕ → Refusal → Cause
in_item index why = record { why = why; index = Some index }

items_good : (before : History) (index at : ℕ) (items : List BatchItem) → All MemberHasDocument items → first_other at items ≡ None → items_cause before index items ≡ None → AreGood before items
items_good before index at [] documents other none = record { count = refl; each = All-nil IsAct; allowed = refl }
items_good before index at (members.Arrive doc t text ∷ items) documents other none =
    let act = batched.Arrive doc t (text_held text) in
    let item = members.Arrive doc t text in
    let later = before ++ entries.Arrive doc t (text_held text) ∷ [] in
    let here = none_found _ (items_cause later (index + 1) items ∷ []) none in
    let rest = none_found (items_cause later (index + 1) items) [] here.1 in
    let both = none_found (text_refusal text) (act_refusal before act ∷ []) (none_mapped (in_item index) (item_refusal before item) here.0) in
    let last = none_found (act_refusal before act) [] both.1 in
    let good = text_good text both.0 in
    let more = items_good later (index + 1) (at + 1) items (All-tail MemberHasDocument item items documents) other rest.0 in
    record {
      count = omega (arith, more.count);
      each = All-cons IsAct act (flat_map act_of items) (All-head MemberHasDocument item items documents, t.before_now, good.0, IsUtf8-from_is_utf8 (text_held text) good.1) more.each;
      allowed = first_step (act_refusal before act) _ last.0 ∙ first_step (acts_refusal later (flat_map act_of items)) [] more.allowed;
    }
items_good before index at (members.Delete doc t ∷ items) documents other none =
    let act = batched.Delete doc t in
    let item = members.Delete doc t in
    let later = before ++ entries.Delete doc t ∷ [] in
    let here = none_found _ (items_cause later (index + 1) items ∷ []) none in
    let rest = none_found (items_cause later (index + 1) items) [] here.1 in
    let mine = none_mapped (in_item index) (item_refusal before item) here.0 in
    let more = items_good later (index + 1) (at + 1) items (All-tail MemberHasDocument item items documents) other rest.0 in
    record {
      count = omega (arith, more.count);
      each = All-cons IsAct act (flat_map act_of items) (All-head MemberHasDocument item items documents, t.before_now) more.each;
      allowed = first_step (act_refusal before act) _ mine ∙ first_step (acts_refusal later (flat_map act_of items)) [] more.allowed;
    }
items_good before index at (members.Other ∷ items) documents other none = absurd cc

-- a batch that isn't refused is legal
pub batch_legal : (h : History) (items : List BatchItem) → HaveDocuments (Items items) → batch_cause h items ≡ None → IsLegalEntry h (entries.Batch (flat_map act_of items))
batch_legal h items range none =
    let whole = λ (why : Refusal). (let cause : Cause = record { why = why; index = None } in cause) in
    let one = none_found (for_all (old_format h)) _ none in
    let two = none_found (for_all (long_batch (texts_bytes items))) _ one.1 in
    let three = none_found _ _ two.1 in
    let four = none_found (items_cause h 1 items) _ three.1 in
    let good = items_good h 1 1 items range.2 (none_mapped (λ index. refusals.BatchLine index) (first_other 1 items) (none_mapped whole _ three.0)) four.0 in
    let short = ltb-false most_batch (texts_bytes items) (no_cause (nat_lt most_batch (texts_bytes items)) _ (none_mapped whole (long_batch (texts_bytes items)) two.0)) in
    let fits : nat_lt most_batch (sum_by act_length (flat_map act_of items)) ≡ false = le-ltb most_batch (sum_by act_length (flat_map act_of items)) (omega (arith, short, acts_short items)) in
    record {
      ranges = record { sized = (omega (arith, good.count, range.0), omega (arith, good.count, range.1)); each = good.each };
      allowed =
          first_step (old_format h) _ (none_mapped whole (old_format h) one.0)
          ∙ first_step (long_batch (sum_by act_length (flat_map act_of items))) _ (ap (λ b. when b (refusals.BatchTooLong most_batch)) fits)
          ∙ first_step (acts_refusal h (flat_map act_of items)) [] good.allowed;
      planned = tt;
    }

-- ---- outcomes

adds_batch : (h : History) (e : Entry) (cause : Option Cause) → (outcome : Outcome Reply History) × AddsBatch h e cause outcome.reply outcome.next
adds_batch h e None = (record { reply = Accepted (length (h ++ e ∷ [])); next = h ++ e ∷ [] }, (refl, refl))
adds_batch h e (Some cause) = (record { reply = refused_for cause.why cause.index; next = h }, (refl, refl))

pub each_batch : (h : History) (batch : BatchItems) → (outcome : Outcome Reply History) × Batches h batch outcome.reply outcome.next
each_batch h (Items items) = adds_batch h (entries.Batch (flat_map act_of items)) (batch_cause h items)
each_batch h (TooLong bytes) = (record { reply = Refused (unwrap_or (old_format h) (refusals.BatchTooLong most_batch)); next = h }, (refl, refl))

module _ (P : History → Type 0) (push : (h : History) (e : Entry) → P h → IsLegalEntry h e → P (h ++ e ∷ [])) where
  adds_batch_keep : (h : History) (e : Entry) (cause : Option Cause) (reply : Reply) (next : History) → P h → (cause ≡ None → IsLegalEntry h e) → AddsBatch h e cause reply next → P next
  adds_batch_keep h e None reply next is entry adds = subst P (sym adds.0) (push h e is (entry refl))
  adds_batch_keep h e (Some cause) reply next is entry adds = subst P (sym adds.0) is

  pub batches_keep : (h : History) (batch : BatchItems) (reply : Reply) (next : History) → P h → HaveDocuments batch → Batches h batch reply next → P next
  batches_keep h (Items items) reply next is range step = adds_batch_keep h (entries.Batch (flat_map act_of items)) (batch_cause h items) reply next is (batch_legal h items range) step
  batches_keep h (TooLong bytes) reply next is range step = subst P (sym step.0) is

one_added : (h : History) (e : Entry) (cause : Option Cause) (reply other : Reply) (next then : History) → AddsBatch h e cause reply next → AddsBatch h e cause other then → (reply ≡ other) × (next ≡ then)
one_added h e None reply other next then a b = let same : next ≡ then = a.0 ∙ sym b.0 in (a.1 ∙ ap (λ (g : History). Accepted (length g)) same ∙ sym b.1, same)
one_added h e (Some cause) reply other next then a b = (a.1 ∙ sym b.1, a.0 ∙ sym b.0)

pub one_batch : (h : History) (batch : BatchItems) (reply other : Reply) (next then : History) → Batches h batch reply next → Batches h batch other then → (reply ≡ other) × (next ≡ then)
one_batch h (Items items) reply other next then a b = one_added h (entries.Batch (flat_map act_of items)) (batch_cause h items) reply other next then a b
one_batch h (TooLong bytes) reply other next then a b = (a.1 ∙ sym b.1, a.0 ∙ sym b.0)
