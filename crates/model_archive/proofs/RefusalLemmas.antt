-- Which refusal comes first.
use Rattle.std.proofs.Common.{◌≡◌, ℕ, ◌<◌, ◌≤◌, Bool, true, false, not, List, [], ◌∷◌, ◌++◌, length, Option, Some, None, IsUtf8, refl, ap, ◌∙◌}
use Rattle.std.specs.Str.{is_utf8}
use Rattle.std.specs.Str.Lossy.{utf8_valid_len}
use Rattle.std.proofs.lemmas.Str.{IsUtf8-from_is_utf8, is_utf8-from_IsUtf8}
use Rattle.std.proofs.lemmas.Bool.{lt-ltb, le-ltb, false_from_ne_true}
use Rattle.base_types.specs.Limits.{limit_of}
use Rattle.base_types.specs.declared.ids.DocId.{DocId}
use Rattle.base_types.specs.declared.time.Time.{Time}
use Rattle.base_types.specs.declared.which.Which.TheVariants.{Words, Journal}
use Rattle.lists_versions.specs.Tests.{first_of, when}
use Rattle.lists_versions.specs.declared.refusal.VersionRefusal.{VersionRefusal}
use Rattle.lists_versions.specs.Refusals.{arrive_refusal}
use Rattle.std.specs.Option.{option_map}
use Rattle.model_archive.specs.Refusals.{refusal_of}
use Rattle.journal_entries.specs.Acts.{most_text}
use Rattle.journal_entries.specs.declared.entry.Entry.{Entry}
use Rattle.journal_entries.specs.declared.entry.Entry.TheVariants.{Arrive}
use Rattle.model_archive.specs.declared.refusal.Refusal.{Refusal}
use Rattle.model_archive.specs.declared.refusal.Refusal.TheVariants.{TooLong, BadText, Full}
use Rattle.model_archive.specs.Histories.{History, changes, vocabulary, full_words, entry_refusal, end_of}
use Rattle.model_archive.specs.Steps.{too_long, bad_text, full_journal, arrival_refusal}

-- the first cause of a list that goes on
pub first_of-found : {W : Type 0} (tests more : List (Option W)) (why : W) → first_of tests ≡ Some why → first_of (tests ++ more) ≡ Some why
first_of-found [] more why found = absurd cc
first_of-found (None ∷ tests) more why found = first_of-found tests more why found
first_of-found (Some x ∷ tests) more why found = found

pub first_of-none : {W : Type 0} (tests more : List (Option W)) → first_of tests ≡ None → first_of (tests ++ more) ≡ first_of more
first_of-none [] more none = refl
first_of-none (None ∷ tests) more none = first_of-none tests more none
first_of-none (Some x ∷ tests) more none = absurd cc

pub when_true : {W : Type 0} (test : Bool) (why : W) → test ≡ true → when test why ≡ Some why
when_true test why holds = rw holds refl

pub when_false : {W : Type 0} (test : Bool) (why : W) → test ≡ false → when test why ≡ None
when_false test why fails = rw fails refl

-- what the directory doesn't refuse
pub not_refused : (o : Option VersionRefusal) → option_map refusal_of o ≡ None → o ≡ None
not_refused None none = refl
not_refused (Some why) none = absurd cc

-- why an arrival may not come: the directory's cause, then want of numbers for words
pub arrival-refused : (h : History) (doc : DocId) (at : Time) (text : List ℕ) (why : VersionRefusal) → arrive_refusal doc at (changes h) ≡ Some why
    → entry_refusal h (Arrive doc at text) ≡ Some (refusal_of why)
arrival-refused h doc at text why refused = ap (λ (o : Option VersionRefusal). first_of (option_map refusal_of o ∷ full_words h (Arrive doc at text) ∷ [])) refused

pub arrival-words : (h : History) (doc : DocId) (at : Time) (text : List ℕ) → arrive_refusal doc at (changes h) ≡ None → entry_refusal h (Arrive doc at text) ≡ first_of (full_words h (Arrive doc at text) ∷ [])
arrival-words h doc at text allowed = ap (λ (o : Option VersionRefusal). first_of (option_map refusal_of o ∷ full_words h (Arrive doc at text) ∷ [])) allowed

pub arrival-allowed : (h : History) (doc : DocId) (at : Time) (text : List ℕ) → entry_refusal h (Arrive doc at text) ≡ None → arrive_refusal doc at (changes h) ≡ None
arrival-allowed h doc at text none = go (arrive_refusal doc at (changes h)) none
  where
    go : (o : Option VersionRefusal) → first_of (option_map refusal_of o ∷ full_words h (Arrive doc at text) ∷ []) ≡ None → o ≡ None
    go None none = refl
    go (Some why) none = absurd cc

pub too_many_words : (h : History) (e : Entry) → limit_of Words < length (vocabulary (h ++ e ∷ [])) → full_words h e ≡ Some (Full Words (limit_of Words))
too_many_words h e over = when_true _ (Full Words (limit_of Words)) (lt-ltb (limit_of Words) (length (vocabulary (h ++ e ∷ []))) over)

pub words_fit : (h : History) (e : Entry) → length (vocabulary (h ++ e ∷ [])) ≤ limit_of Words → full_words h e ≡ None
words_fit h e within = when_false _ (Full Words (limit_of Words)) (le-ltb (limit_of Words) (length (vocabulary (h ++ e ∷ []))) within)

-- a text that isn't too long, one that is bad, and one that isn't
pub too_long-no : (text : List ℕ) → length text ≤ most_text → too_long text ≡ None
too_long-no text short = when_false _ (TooLong most_text) (le-ltb most_text (length text) short)

pub bad_text-yes : (text : List ℕ) → (IsUtf8 text → ⊥) → bad_text text ≡ Some (BadText (utf8_valid_len text))
bad_text-yes text bad = when_true _ (BadText (utf8_valid_len text)) (ap not (false_from_ne_true (is_utf8 text) (λ e. bad (IsUtf8-from_is_utf8 text e))))

pub bad_text-no : (text : List ℕ) → IsUtf8 text → bad_text text ≡ None
bad_text-no text good = when_false _ (BadText (utf8_valid_len text)) (ap not (is_utf8-from_IsUtf8 text good))

-- a text that is refused is refused before all else
pub arrival_refused-text : (h : History) (doc : DocId) (at : Time) (text : List ℕ) (why : Refusal) → first_of (too_long text ∷ bad_text text ∷ []) ≡ Some why
    → arrival_refusal h doc at text ≡ Some why
arrival_refused-text h doc at text why found =
    first_of-found (too_long text ∷ bad_text text ∷ []) (entry_refusal h (Arrive doc at text) ∷ full_journal h (Arrive doc at text) ∷ []) why found

-- why an entry is refused whose text is good
abbrev pub cause : History → Entry → Option Refusal
cause h e = first_of (entry_refusal h e ∷ full_journal h e ∷ [])

pub arrival_refused-good : (h : History) (doc : DocId) (at : Time) (text : List ℕ) → length text ≤ most_text → IsUtf8 text
    → arrival_refusal h doc at text ≡ cause h (Arrive doc at text)
arrival_refused-good h doc at text short good =
    first_of-none (too_long text ∷ bad_text text ∷ []) (entry_refusal h (Arrive doc at text) ∷ full_journal h (Arrive doc at text) ∷ [])
    (let one = too_long-no text short in let two = bad_text-no text good in rw (one, two) refl)

pub cause-not_allowed : (h : History) (e : Entry) (why : Refusal) → entry_refusal h e ≡ Some why → cause h e ≡ Some why
cause-not_allowed h e why refused = ap (λ (o : Option Refusal). first_of (o ∷ full_journal h e ∷ [])) refused

pub cause-allowed : (h : History) (e : Entry) → entry_refusal h e ≡ None → cause h e ≡ first_of (full_journal h e ∷ [])
cause-allowed h e allowed = ap (λ (o : Option Refusal). first_of (o ∷ full_journal h e ∷ [])) allowed

pub cause-full : (h : History) (e : Entry) → entry_refusal h e ≡ None → limit_of Journal < end_of (h ++ e ∷ []) → cause h e ≡ Some (Full Journal (limit_of Journal))
cause-full h e allowed over =
    cause-allowed h e allowed ∙ ap (λ (o : Option Refusal). first_of (o ∷ [])) (when_true _ (Full Journal (limit_of Journal)) (lt-ltb (limit_of Journal) (end_of (h ++ e ∷ [])) over))

pub cause-none : (h : History) (e : Entry) → entry_refusal h e ≡ None → end_of (h ++ e ∷ []) ≤ limit_of Journal → cause h e ≡ None
cause-none h e allowed within =
    cause-allowed h e allowed ∙ ap (λ (o : Option Refusal). first_of (o ∷ [])) (when_false _ (Full Journal (limit_of Journal)) (le-ltb (limit_of Journal) (end_of (h ++ e ∷ [])) within))
