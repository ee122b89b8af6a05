-- A text's words and counts by the numbers of a vocabulary.
use Rattle.std.proofs.Common.{◌≡◌, ℕ, ◌+◌, ◌<◌, ◌≤◌, ◌^◌, nat_eq, List, ◌++◌, length, slice_get, Option, Some, None, All, map, refl, ap, sym, subst, ◌∙◌, arith, length-append}
use Rattle.std.specs.List.{IsDistinct}
use Rattle.std.specs.List.Sorted.{IsPermutation}
use Rattle.std.specs.Option.{option_map_or}
use Rattle.std.specs.Str.{bytes_eq}
use Rattle.std.proofs.lemmas.List.{length-map}
use Rattle.std.proofs.lemmas.List.Elements.{All-weaker}
use Rattle.std.proofs.lemmas.List.Sorted.{All-permutation, IsPermutation-append, IsPermutation-refl}
use Rattle.text_words.specs.Terms.{times}
use Rattle.text_words.specs.Words.{with_all, distinct, counted, known_of, fresh_of, numbered_from, weights_of, weight_at}
use Rattle.text_words.proofs.NewLemmas.{new_in, fresh-keys, with_all-new, with_all-behind}
use Rattle.text_words.proofs.WeightLemmas.{weight-times, weights-distinct, weights-counts}
use Rattle.lists_tails.specs.declared.weight.Weight.{Weight}
use Rattle.lists_tails.specs.Weights.{weight_of}
use Rattle.lists_index.specs.Words.{keys_held, count_of}
use Rattle.lists_index.specs.Measuring.{numbered, words_with, IsParted, IsMeasured}
use Rattle.lists_index.proofs.Measures.{numbered-is, once-sorted, weight-permuted}

count-is : (held : Option (List ℕ)) (o : Option (List ℕ)) → option_map_or (λ w. times w (keys_held held)) o 0 ≡ count_of o held
count-is None None = refl
count-is None (Some word) = refl
count-is (Some text) None = refl
count-is (Some text) (Some word) = refl

module _ {words : List (List ℕ)} {held : Option (List ℕ)} {known : List (ℕ × ℕ)} {keys : List (List ℕ)} {counts : List ℕ} (p : IsParted words held known keys counts) where
  -- the fresh words are those that the vocabulary lacks
  pub new : keys ≡ new_in words (distinct (keys_held held))
  new = p.fresh_are ∙ fresh-keys words (keys_held held)

  pub fresh-are : with_all words keys ≡ words_with words held
  fresh-are = ap (with_all words) new ∙ with_all-new words (keys_held held)

  pub longer : length words + length counts ≡ length (words_with words held)
  longer =
      let es = fresh_of words (counted (keys_held held)) in
      omega (arith, ap length (with_all-behind words (keys_held held)), length-append words (new_in words (distinct (keys_held held))), ap length new, ap length p.fresh_are, ap length p.counts_are, length-map {A = List ℕ × ℕ} {B = List ℕ} es (λ e. e.0), length-map {A = List ℕ × ℕ} {B = ℕ} es (λ e. e.1))

  module _ {n : ℕ} {all : List (ℕ × ℕ)} (is : n ≡ length words) (e : all ≡ known ++ numbered n counts) where
    all-are : IsPermutation (weights_of words (counted (keys_held held))) all
    all-are =
        let known_words = known_of words (counted (keys_held held)) in
        let fresh_words = numbered_from (length words) (fresh_of words (counted (keys_held held))) in
        let f : numbered n counts ≡ fresh_words = ap (λ m. numbered m counts) is ∙ ap (numbered (length words)) p.counts_are ∙ numbered-is (length words) (fresh_of words (counted (keys_held held))) in
        subst (IsPermutation (known_words ++ fresh_words)) (sym (e ∙ ap (λ (l : List (ℕ × ℕ)). known ++ l) f)) (IsPermutation-append known_words known fresh_words fresh_words p.known_are (IsPermutation-refl fresh_words))

    pub once : IsDistinct nat_eq (map (λ p. p.0) all)
    once = once-sorted _ all all-are (weights-distinct words (keys_held held))

    pub occur : length (words_with words held) ≤ 2 ^ 20 → All (λ p. (p.0 < 2 ^ 20) × (1 ≤ p.1)) all
    occur fits =
        All-permutation (λ p. (p.0 < 2 ^ 20) × (1 ≤ p.1)) (weights_of words (counted (keys_held held))) all all-are
        (All-weaker (λ p. (p.0 < length (words_with words held)) × (1 ≤ p.1)) (λ p. (p.0 < 2 ^ 20) × (1 ≤ p.1)) (λ p h. (omega (arith, h.0, fits), h.1)) _ (weights-counts words (keys_held held)))

    pub measured : (weights : List Weight) → IsDistinct bytes_eq words → ((w : ℕ) → weight_of w weights ≡ weight_at w all) → IsMeasured words held keys weights
    measured weights each h = record {
      fresh_are = fresh-are;
      weights_are = λ w.
          h w ∙ weight-permuted _ all all-are (weights-distinct words (keys_held held)) w ∙ weight-times words (keys_held held) w each
          ∙ count-is held (slice_get (words_with words held) w);
    }
