-- A list with one number more at its end.
use Rattle.std.proofs.Common.{arith, ap, ◌∙◌, ◌≡◌, ℕ, ◌+◌, ◌<◌, List, [], ◌∷◌, ◌++◌, length, slice_index}
use Rattle.std.proofs.lemmas.List.{get_or_push, get_or_append_left, length_push}

-- what stands at the end, and before it
pub at_end : (xs xs' : List ℕ) (k y : ℕ) → length xs ≡ k → xs' ≡ xs ++ y ∷ [] → slice_index xs' k ≡ y
at_end xs xs' k y e made = ap (λ l. slice_index l k) made ∙ get_or_push xs y 0 k e

pub kept_before : (xs xs' : List ℕ) (k y i : ℕ) → length xs ≡ k → xs' ≡ xs ++ y ∷ [] → i < k → slice_index xs' i ≡ slice_index xs i
kept_before xs xs' k y i e made l = ap (λ v. slice_index v i) made ∙ get_or_append_left xs (y ∷ []) 0 i (omega arith)

pub one_longer : (xs xs' : List ℕ) (k y : ℕ) → length xs ≡ k → xs' ≡ xs ++ y ∷ [] → length xs' ≡ k + 1
one_longer xs xs' k y e made = omega (arith, ap length made, length_push xs y)
