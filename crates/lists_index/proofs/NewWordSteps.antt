-- The words that one change more brings.
use Rattle.std.proofs.Common.{◌≡◌, ℕ, ◌||◌, Bool, true, false, not, List, [], ◌∷◌, ◌++◌, refl, sym, ap, subst, ◌∙◌, append_assoc}
use Rattle.std.specs.List.{list_any, AllByRecursion, IsDistinct}
use Rattle.std.specs.Str.{bytes_eq}
use Rattle.std.proofs.lemmas.Bool.{not-true}
use Rattle.std.proofs.lemmas.List.Elements.{filter_passes, recursion_from_All}
use Rattle.std.proofs.lemmas.List.Folds.{list_any-append}
use Rattle.std.specs.List.{flat_map}
use Rattle.text_words.specs.Words.{entered, with_all, distinct}
use Rattle.text_words.proofs.CountLemmas.{IsDistinct-distinct}
use Rattle.text_words.proofs.WordLemmas.{entered-fresh}
use Rattle.lists_versions.specs.declared.change.Change.{Change}
use Rattle.lists_index.specs.Words.{keys_held, keys_in, words_in}
use Rattle.lists_index.specs.Measuring.{words_with, IsParted}
use Rattle.lists_index.proofs.Measured.{new, fresh-are}
use Rattle.lists_index.proofs.WordSteps.{words_in-push}

-- a key is none of these words
abbrev IsNone : List (List ℕ) → List ℕ → Type 0
IsNone words key = not (list_any (bytes_eq key) words) ≡ true

-- keys that are none of the words in front stand behind them as they would by themselves
apart : (words old keys rest : List (List ℕ)) → AllByRecursion (IsNone (words ++ old)) keys → with_all (words ++ rest) keys ≡ words ++ with_all rest keys
apart words old [] rest none = refl
apart words old (k ∷ keys) rest none =
    let front : list_any (bytes_eq k) words ≡ false = first _ _ (sym (list_any-append (bytes_eq k) words old) ∙ not-true _ none.0) in
    ap (λ (ws : List (List ℕ)). with_all ws keys) (entered-fresh words rest k front) ∙ apart words old keys (entered rest k) none.1
  where
    first : (a b : Bool) → (a || b) ≡ false → a ≡ false
    first true b e = e
    first false b e = refl

module _ (changes coming : List (Change (List ℕ))) (words old : List (List ℕ)) (here : words ≡ words_in changes) (brings : words_in (changes ++ coming) ≡ words_in changes ++ old) where
  pub all-are : words_in (changes ++ coming) ≡ words ++ old
  all-are = brings ∙ ap (λ (ws : List (List ℕ)). ws ++ old) (sym here)

  pub each-once : IsDistinct bytes_eq (words ++ old)
  each-once = subst (IsDistinct bytes_eq) all-are (IsDistinct-distinct (flat_map keys_in (changes ++ coming)))

  -- the words with those of the next change
  pub with-next : (c : Change (List ℕ)) → words_in (changes ++ (coming ++ c ∷ [])) ≡ words_with (words ++ old) c.held
  with-next c = ap words_in (sym (append_assoc changes coming (c ∷ []))) ∙ words_in-push (changes ++ coming) c ∙ ap (λ (ws : List (List ℕ)). with_all ws (keys_in c)) all-are

  -- and what it brings stands behind what the others brought
  pub brings-more : (c : Change (List ℕ)) (known : List (ℕ × ℕ)) (fresh more : List (List ℕ)) (counts : List ℕ) → IsParted (words ++ old) c.held known fresh counts → more ≡ with_all old fresh
      → words_in (changes ++ (coming ++ c ∷ [])) ≡ words ++ more
  brings-more c known fresh more counts p after =
      let none : AllByRecursion (IsNone (words ++ old)) fresh =
      subst (AllByRecursion (IsNone (words ++ old))) (sym (new p)) (recursion_from_All _ _ (filter_passes (λ k. not (list_any (bytes_eq k) (words ++ old))) (distinct (keys_held c.held)))) in
      with-next c ∙ sym (fresh-are p) ∙ apart words old fresh old none ∙ ap (λ (ws : List (List ℕ)). words ++ ws) (sym after)
