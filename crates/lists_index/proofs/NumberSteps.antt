-- Words numbered in order, for which there is room.
use Rattle.std.proofs.Common.{◌≡◌, ℕ, suc, ◌+◌, ◌-◌, ◌≤◌, ◌<◌, ◌⊎◌, List, [], ◌∷◌, ◌++◌, length, take, drop, get_or, IsSome, is_some, if◌then◌else◌, ap, sym, subst, ◌∙◌, add-one}
use Rattle.std.proofs.lemmas.List.{take_more}
use Rattle.std.proofs.lemmas.List.Sums.{fold_push}
use Rattle.std.proofs.Math.Seq.{drop-cons}
use Rattle.text_words.specs.Words.{entered, with_all, number_of}
use Rattle.text_words.proofs.NumberingLemmas.{may_number, after_number}

module _ (old words fresh : List (List ℕ)) (n spare : ℕ) (key : List ℕ) (lt : n < length fresh) (is : key ≡ get_or fresh n key) (room : length (with_all words (drop n fresh)) ≤ length words + spare) where
  left : drop n fresh ≡ key ∷ drop (suc n) fresh
  left = drop-cons fresh n key lt ∙ ap (λ k. k ∷ drop (suc n) fresh) (sym is)

  at : length (with_all words (key ∷ drop (suc n) fresh)) ≤ length words + spare
  at = let P : List (List ℕ) → Type 0 = λ l. length (with_all words l) ≤ length words + spare in subst P left room

  pub may : IsSome (number_of key words) ⊎ (1 ≤ spare)
  may = may_number words (drop (suc n) fresh) key spare at

  pub more : words ≡ with_all old (take n fresh) → entered words key ≡ with_all old (take (n + 1) fresh)
  more same = ap (λ ws. entered ws key) same ∙ sym (fold_push entered old (take n fresh) key) ∙ ap (with_all old) (ap (λ k. take n fresh ++ k ∷ []) is ∙ sym (take_more fresh n key lt))

  pub still : length (with_all (entered words key) (drop (n + 1) fresh)) ≤ length (entered words key) + (if is_some (number_of key words) then spare else spare - 1)
  still = rw add-one (after_number words (drop (suc n) fresh) key spare at)
