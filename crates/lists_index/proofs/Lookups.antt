-- A word's list by its number, or without one.
use Rattle.std.proofs.Common.{◌≡◌, ℕ, ◌<◌, ◌^◌, ◌↔◌, Bool, IsTrue, true, false, Option, option_map, List, [], slice_get, Some, None, is_some, ap, sym, ◌∙◌, refl, arith}
use Rattle.std.specs.List.{list_any, Contains}
use Rattle.std.specs.Str.{bytes_eq}
use Rattle.std.specs.Cmp.Lexicographic.{nat_list_eq_equiv}
use Rattle.std.proofs.lemmas.List.Quantifiers.{position-Some}
use Rattle.std.proofs.lemmas.Option.{slice_get-get_or}
use Rattle.std.proofs.lemmas.Slice.Eq.{bytes_eq-Decides}
use Rattle.std.proofs.lemmas.Map.Views.{list_any-from_Contains, Contains-from_any}
use Rattle.lists_versions.specs.declared.change.Change.{Change}
use Rattle.lists_versions.specs.Changes.{held_at}
use Rattle.text_words.specs.Words.{number_of}
use Rattle.text_words.proofs.WordLemmas.{absent-none, is_some-number_of}
use Rattle.lists_tails.proofs.Followed.{list-same}
use Rattle.lists_index.specs.Words.{words_in, count_of, frequency_in, often, IsWordList}
use Rattle.lists_index.specs.Indexing.{IndexValue, AreIndexed}
use Rattle.lists_index.proofs.WordSteps.{never-had}

pub at-number : (word : List ℕ) (words : List (List ℕ)) (n : ℕ) → number_of word words ≡ Some n → slice_get words n ≡ Some word
at-number word words n e =
    let p = position-Some (bytes_eq word) words n [] e in
    slice_get-get_or words n [] p.0 ∙ ap Some (sym ((bytes_eq-Decides word _).0 p.1))

pub list-of : (value : IndexValue) (changes : List (Change (List ℕ))) (word : List ℕ) (n : ℕ) → AreIndexed value changes → number_of word value.words ≡ Some n → n < 2 ^ 20 → IsWordList changes word (value.tails n)
list-of value changes word n h e m =
    let is : slice_get value.words n ≡ Some word = at-number word value.words n e in
    list-same (often changes n) (frequency_in changes word) 0 (2 ^ 40) (value.tails n)
    (λ d t. ap (λ o. count_of o (held_at (record { 0 = d }) t changes)) (ap (λ (ws : List (List ℕ)). slice_get ws n) (sym h.words_are) ∙ is))
    (h.tails_are n m)

-- no text has a word that has no number, so its list is empty
pub list-none : (value : IndexValue) (changes : List (Change (List ℕ))) (word : List ℕ) → AreIndexed value changes → number_of word value.words ≡ None → IsWordList changes word []
list-none value changes word h e = record {
  ordered = tt;
  coalesced = tt;
  inside = λ k d l. absurd (omega (arith, l));
  same = λ d t p q. sym (never-had changes word d t (ap (list_any (bytes_eq word)) (sym h.words_are) ∙ absent-none word value.words e));
}

-- a word that has a number is one of the changes'
pub known-is : (value : IndexValue) (changes : List (Change (List ℕ))) (word : List ℕ) → AreIndexed value changes → is_some (number_of word value.words) ≡ list_any (bytes_eq word) (words_in changes)
known-is value changes word h = is_some-number_of word value.words ∙ ap (list_any (bytes_eq word)) h.words_are

pub is_some-same : {X Y : Type 0} (f : X → Y) (o : Option X) (p : Option Y) → option_map f o ≡ p → is_some o ≡ is_some p
is_some-same f None p e = ap is_some e
is_some-same f (Some x) p e = ap is_some e

pub contained : (word : List ℕ) (words : List (List ℕ)) (b : Bool) → b ≡ list_any (bytes_eq word) words → IsTrue b ↔ Contains words word
contained word words true e = (λ t. Contains-from_any (λ x y. (bytes_eq-Decides x y).0) word words (sym e), λ h. refl)
contained word words false e = (λ t. let n : false ≡ true = t in absurd cc, λ h. let c = list_any-from_Contains nat_list_eq_equiv word words h in absurd cc)
