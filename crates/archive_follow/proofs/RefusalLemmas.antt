-- A change, and the mark, may be taken exactly where nothing refuses it.
use Rattle.std.proofs.Common.{◌≡◌, ℕ, ◌≤◌, Bool, true, false, nat_lt, List, [], ◌∷◌, ◌++◌, length, Option, None, refl, ap, ◌∙◌}
use Rattle.std.proofs.lemmas.Bool.{le-ltb, ltb-false}
use Rattle.std.proofs.lemmas.Str.{is_utf8-from_IsUtf8}
use Rattle.std.specs.Str.{is_utf8}
use Rattle.std.specs.Str.Lossy.{utf8_valid_len}
use Rattle.base_types.specs.Limits.{limit_of}
use Rattle.base_types.specs.declared.ids.DocId.{DocId}
use Rattle.base_types.specs.declared.time.Time.{Time}
use Rattle.base_types.specs.declared.which.Which.TheVariants.{Journal}
use Rattle.lists_versions.specs.Tests.{first_of, when}
use Rattle.journal_entries.specs.Acts.{most_text}
use Rattle.journal_entries.specs.Spelling.{IsEntry}
use Rattle.journal_entries.specs.declared.entry.Entry.{Entry}
use Rattle.journal_entries.specs.declared.entry.Entry.TheVariants as entries
use Rattle.model_archive.specs.declared.refusal.Refusal.TheVariants as refusals
use Rattle.model_archive.specs.Histories.{History, end_of, entry_refusal}
use Rattle.model_archive.specs.Steps.{arrival_refusal, bad_text, deletion_refusal, full_journal, mark_refusal, too_long}
use Rattle.model_archive.proofs.BatchLemmas.{first_step, none_found}
use Rattle.model_archive.proofs.OutcomeLemmas.{arrival_legal, deletion_legal, mark_legal}
use Rattle.model_archive.proofs.RefusalLemmas.{when_false}
use Rattle.model_follow.specs.Taking.{MayBeTaken}

-- where no test finds a cause, the last finds none
pub last_none : {W : Type 0} (tests : List (Option W)) (o : Option W) → first_of (tests ++ o ∷ []) ≡ None → o ≡ None
last_none [] o none = (none_found o [] none).0
last_none (t ∷ tests) o none = last_none tests o (none_found t (tests ++ o ∷ []) none).1

-- the journal has room exactly where it isn't full
pub has_room : (h : History) (e : Entry) → full_journal h e ≡ None → end_of (h ++ e ∷ []) ≤ limit_of Journal
has_room h e none = go (nat_lt (limit_of Journal) (end_of (h ++ e ∷ []))) refl none
  where
    go : (b : Bool) → nat_lt (limit_of Journal) (end_of (h ++ e ∷ [])) ≡ b → when b (refusals.Full Journal (limit_of Journal)) ≡ None → end_of (h ++ e ∷ []) ≤ limit_of Journal
    go true same none = absurd cc
    go false same none = ltb-false (limit_of Journal) (end_of (h ++ e ∷ [])) same

pub not_full : (h : History) (e : Entry) → end_of (h ++ e ∷ []) ≤ limit_of Journal → full_journal h e ≡ None
not_full h e fits = when_false (nat_lt (limit_of Journal) (end_of (h ++ e ∷ []))) (refusals.Full Journal (limit_of Journal)) (le-ltb (limit_of Journal) (end_of (h ++ e ∷ [])) fits)

-- ---- an arrival

pub arrival_may : (h : History) (doc : DocId) (at : Time) (text : List ℕ) → IsEntry (entries.Arrive doc at text) → arrival_refusal h doc at text ≡ None → MayBeTaken h (entries.Arrive doc at text)
arrival_may h doc at text ranges none =
    let e = entries.Arrive doc at text in
    record {
      legal = arrival_legal h doc at text ranges.0 none;
      placed = tt;
      fits = has_room h e (last_none (too_long text ∷ bad_text text ∷ entry_refusal h e ∷ []) (full_journal h e) none);
    }

pub not_long : (text : List ℕ) → length text ≤ most_text → too_long text ≡ None
not_long text short = when_false (nat_lt most_text (length text)) (refusals.TooLong most_text) (le-ltb most_text (length text) short)

pub not_bad : (text : List ℕ) → is_utf8 text ≡ true → bad_text text ≡ None
not_bad text good = ap (λ (b : Bool). when (go b) (refusals.BadText (utf8_valid_len text))) good
  where
    go : Bool → Bool
    go true = false
    go false = true

pub arrival_none : (h : History) (doc : DocId) (at : Time) (text : List ℕ) → MayBeTaken h (entries.Arrive doc at text) → arrival_refusal h doc at text ≡ None
arrival_none h doc at text may =
    let e = entries.Arrive doc at text in
    first_step (too_long text) (bad_text text ∷ entry_refusal h e ∷ full_journal h e ∷ []) (not_long text may.legal.ranges.2)
    ∙ first_step (bad_text text) (entry_refusal h e ∷ full_journal h e ∷ []) (not_bad text (is_utf8-from_IsUtf8 text may.legal.ranges.3))
    ∙ first_step (entry_refusal h e) (full_journal h e ∷ []) may.legal.allowed
    ∙ first_step (full_journal h e) [] (not_full h e may.fits)

-- ---- a deletion, and the mark

pub deletion_may : (h : History) (doc : DocId) (at : Time) → IsEntry (entries.Delete doc at) → deletion_refusal h doc at ≡ None → MayBeTaken h (entries.Delete doc at)
deletion_may h doc at ranges none =
    let e = entries.Delete doc at in
    record { legal = deletion_legal h doc at ranges.0 none; placed = tt; fits = has_room h e (last_none (entry_refusal h e ∷ []) (full_journal h e) none) }

two_none : (h : History) (e : Entry) → MayBeTaken h e → first_of (entry_refusal h e ∷ full_journal h e ∷ []) ≡ None
two_none h e may = first_step (entry_refusal h e) (full_journal h e ∷ []) may.legal.allowed ∙ first_step (full_journal h e) [] (not_full h e may.fits)

pub deletion_none : (h : History) (doc : DocId) (at : Time) → MayBeTaken h (entries.Delete doc at) → deletion_refusal h doc at ≡ None
deletion_none h doc at may = two_none h (entries.Delete doc at) may

pub mark_may : (h : History) → mark_refusal h ≡ None → MayBeTaken h entries.Format
mark_may h none = record { legal = mark_legal h none; placed = tt; fits = has_room h entries.Format (last_none (entry_refusal h entries.Format ∷ []) (full_journal h entries.Format) none) }

pub mark_none : (h : History) → MayBeTaken h entries.Format → mark_refusal h ≡ None
mark_none h may = two_none h entries.Format may
