-- A word's list up to the last time is of the history that an archive stands for.
use Rattle.std.proofs.Common.{true, ◌==◌, ◌≡◌, ℕ, ◌≤◌, List, [], ◌∷◌, length, Contains, Option, Some, None, option_map, unwrap_or, Result, Err, ap, sym, subst, ◌∙◌, inr, arith, if◌then◌else◌, Ok, IfOk, IsUtf8}
use Rattle.std.proofs.lemmas.Bool.Decides.{nat_tests}
use Rattle.std.proofs.lemmas.List.Elements.{All-nil}
use Rattle.std.proofs.lemmas.Str.{is_utf8-from_IsUtf8}
use Rattle.base_types.specs.declared.time.Time.{Time}
use Rattle.base_types.specs.declared.text_place.TextPlace.{TextPlace}
use Rattle.base_types.specs.declared.posting.Posting.{Posting}
use Rattle.lists_postings.specs.ListsOf.{IsListOf}
use Rattle.lists_versions.specs.Changes.{last_time}
use Rattle.lists_versions.proofs.Mapped.{last_time-mapped}
use Rattle.lists_index.specs.Words.{words_in}
use Rattle.base_commands.specs.declared.command.Kind.{Kind}
use Rattle.model_archive.specs.declared.refusal.Refusal.{Refusal}
use Rattle.model_archive.specs.declared.refusal.Refusal.TheVariants as refusals
use Rattle.model_archive.specs.Histories.{History, changes}
use Rattle.model_archive.specs.Planning.{IsKnown, IsListUpTo, OfWord, last_second}
use Rattle.model_archive.specs.Steps.{spelled_key}
use Rattle.archive_hand.specs.States.{ArchiveState, StandsFor}
use Rattle.archive_entries.specs.Texts.{nothing}
use Rattle.archive_entries.proofs.IndexLemmas.{words_are}
use Rattle.archive_entries.proofs.PlaceLemmas.{bare_changes}

-- ---- the last time, and the words that are known

-- an archive has the last time of its history
pub last_is : (a : ArchiveState) (h : History) → StandsFor a h → last_time a.changes ≡ last_time (changes h)
last_is a h stands =
    sym (last_time-mapped (nothing {A = TextPlace}) a.changes) ∙ ap last_time (bare_changes 16 h a.changes stands.changes_are) ∙ last_time-mapped (nothing {A = List ℕ}) (changes h)

pub last_second_is : (a : ArchiveState) (h : History) (t : Time) → StandsFor a h → last_time a.changes ≡ Some t → t.seconds ≡ last_second h
last_second_is a h t stands e = sym (ap (λ (o : Option Time). unwrap_or (option_map (λ t. t.seconds) o) 0) (sym (last_is a h stands) ∙ e))

-- the words that an index knows are the history's
pub known_is : (h : History) (word : List ℕ) → Contains (words_in (changes h)) word → IsKnown h word
known_is h word c = subst (λ (ws : List (List ℕ)). Contains ws word) (sym (words_are h)) c

pub known_there : (h : History) (word : List ℕ) → IsKnown h word → Contains (words_in (changes h)) word
known_there h word c = subst (λ (ws : List (List ℕ)). Contains ws word) (words_are h) c

-- ---- a list without postings

-- nothing happens before the first second
pub none_before : (f : ℕ → ℕ → ℕ) (h : ℕ) → h ≡ 0 → IsListOf f 0 h []
none_before f h none = record {
  ordered = tt;
  coalesced = tt;
  inside = All-nil (λ p. (0 ≤ p.span.from) × (p.span.to ≤ h));
  same = λ d t from to. absurd (omega (arith, to, none));
}

pub none_left : (n : ℕ) → n == 0 ≡ true → n ≡ 0
none_left n e = grind (arith, nat_tests)

-- a word of which a history has no postings before its last time
pub nothing_sealed : (kind : Kind) (h : History) (word : List ℕ) (list : List Posting) (why : Refusal) → IsKnown h word → IsListUpTo h word (last_second h) list → length list ≡ 0 → why ≡ refusals.NothingSealed
    → OfWord kind h word (λ because. why ≡ because) (λ list. ⊥)
nothing_sealed kind h word [] why known is none e = inr (known, ([], is, e))
nothing_sealed kind h word (p ∷ list) why known is none e = absurd (omega (arith, none))

-- nor is there a last time where there is no change
pub no_second : (a : ArchiveState) (h : History) → StandsFor a h → last_time a.changes ≡ None → last_second h ≡ 0
no_second a h stands e = ap (λ (o : Option Time). unwrap_or (option_map (λ t. t.seconds) o) 0) (sym (last_is a h stands) ∙ e)

-- ---- the word

-- a term's key that is text is spelled as it is
pub spelled_same : (o : Option (List ℕ)) (word : List ℕ) → o ≡ Some word → IsUtf8 word → spelled_key o ≡ Some word
spelled_same o word is utf8 = ap spelled_key is ∙ ap (λ b. if b then Some word else None) (is_utf8-from_IsUtf8 word utf8)

pub term_spelled : {T E : Type 0} (word_of : T → List ℕ) (o : Option (List ℕ)) (word : List ℕ) (r : Result T E) → o ≡ Some word → IsUtf8 word → IfOk r (λ s. word_of s ≡ word) → IfOk r (λ s. spelled_key o ≡ Some (word_of s))
term_spelled word_of o word (Ok s) is utf8 same = spelled_same o word is utf8 ∙ ap Some (sym same)
term_spelled word_of o word (Err e) is utf8 same = tt
