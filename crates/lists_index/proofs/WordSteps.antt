-- The words keep their numbers when a change comes, and texts that were there have none of the new ones.
use Rattle.std.proofs.Common.{◌≡◌, ◌⊎◌, ◌||◌, ℕ, zero, suc, if◌then◌else◌, append_assoc, Bool, true, false, List, [], ◌∷◌, ◌++◌, slice_get, Option, Some, None, All, refl, ap, sym, ◌∙◌, inl, inr}
use Rattle.std.specs.List.{flat_map, list_any}
use Rattle.std.specs.Str.{bytes_eq}
use Rattle.std.proofs.lemmas.List.Concat.{flat_map-append}
use Rattle.std.proofs.lemmas.List.{append-nil}
use Rattle.std.proofs.lemmas.List.Folds.{list_any-append}
use Rattle.std.proofs.lemmas.List.Sums.{fold-append}
use Rattle.std.proofs.lemmas.List.Elements.{All-nil, All-cons, All-head, All-tail, All-weaker}
use Rattle.lists_versions.specs.declared.change.Change.{Change}
use Rattle.lists_versions.specs.Changes.{held_at}
use Rattle.lists_versions.proofs.Holding.{held_has}
use Rattle.text_words.specs.Terms.{keys}
use Rattle.text_words.specs.Words.{with_all, entered}
use Rattle.text_words.proofs.CountLemmas.{times-absent, member-with_all}
use Rattle.lists_index.specs.Words.{keys_held, keys_in, words_in, count_held, count_of, frequency_in, often}

-- the words that come with a change stand behind those that were there
pub words_in-push : (changes : List (Change (List ℕ))) (c : Change (List ℕ)) → words_in (changes ++ c ∷ []) ≡ with_all (words_in changes) (keys_in c)
words_in-push changes c =
    ap (with_all []) (flat_map-append keys_in changes (c ∷ []) ∙ ap (λ l. flat_map keys_in changes ++ l) (append-nil (keys_in c)))
    ∙ fold-append entered [] (flat_map keys_in changes) (keys_in c)

-- an element of two lists in a row is the first one's, or has what the second one's have
at : {X : Type 0} (P : X → Type 0) (xs ys : List X) (i : ℕ) → All P ys → (slice_get (xs ++ ys) i ≡ slice_get xs i) ⊎ ((x : X) × (slice_get (xs ++ ys) i ≡ Some x) × (slice_get xs i ≡ None) × P x)
at P [] [] i a = inl refl
at P [] (y ∷ ys) zero a = inr (y, refl, refl, All-head P y ys a)
at P [] (y ∷ ys) (suc i) a = at P [] ys i (All-tail P y ys a)
at P (x ∷ xs) ys zero a = inl refl
at P (x ∷ xs) ys (suc i) a = at P xs ys i a

-- the words that come are none of those that were there
abbrev IsNew : List (List ℕ) → List ℕ → Type 0
IsNew words k = list_any (bytes_eq k) words ≡ false

fresh : (words found : List (List ℕ)) → (rest : List (List ℕ)) × (with_all words found ≡ words ++ rest) × All (IsNew words) rest
fresh words [] = ([], sym (append-nil words), All-nil (IsNew words))
fresh words (k ∷ found) = by (list_any (bytes_eq k) words) refl (λ ws. fresh ws found)
  where
    or_false : (a b : Bool) → (a || b) ≡ false → a ≡ false
    or_false true b e = e
    or_false false b e = refl

    by : (b : Bool) → list_any (bytes_eq k) words ≡ b → ((ws : List (List ℕ)) → (rest : List (List ℕ)) × (with_all ws found ≡ ws ++ rest) × All (IsNew ws) rest) → (rest : List (List ℕ)) × (with_all (entered words k) found ≡ words ++ rest) × All (IsNew words) rest
    by true e go_on =
        let here : entered words k ≡ words = ap (λ b. if b then words else words ++ k ∷ []) e in
        let more = go_on words in
        (more.0, ap (λ w. with_all w found) here ∙ more.1, more.2)
    by false e go_on =
        let here : entered words k ≡ words ++ k ∷ [] = ap (λ b. if b then words else words ++ k ∷ []) e in
        let more = go_on (words ++ k ∷ []) in (
          k ∷ more.0,
          ap (λ w. with_all w found) here ∙ more.1 ∙ append_assoc words (k ∷ []) more.0,
          All-cons (IsNew words) k more.0 e (All-weaker (IsNew (words ++ k ∷ [])) (IsNew words) (λ q n. or_false _ _ (sym (list_any-append (bytes_eq q) words (k ∷ [])) ∙ n)) more.0 more.2),
        )

either_false : (a b : Bool) → (a || b) ≡ false → (a ≡ false) × (b ≡ false)
either_false true b e = absurd cc
either_false false b e = (refl, e)

-- a word that is none of a text's doesn't occur in it
not_held : (word : List ℕ) (held : Option (List ℕ)) → list_any (bytes_eq word) (keys_held held) ≡ false → count_held word held ≡ 0
not_held word None n = refl
not_held word (Some text) n = times-absent word (keys text) n

-- a word that is none of the changes' is in none of their texts
in_none : (word : List ℕ) (changes : List (Change (List ℕ))) → list_any (bytes_eq word) (flat_map keys_in changes) ≡ false → All (λ c. count_held word c.held ≡ 0) changes
in_none word [] n = All-nil (λ (c : Change (List ℕ)). count_held word c.held ≡ 0)
in_none word (c ∷ changes) n =
    let two = either_false _ _ (sym (list_any-append (bytes_eq word) (keys_in c) (flat_map keys_in changes)) ∙ n) in
    All-cons (λ (c : Change (List ℕ)). count_held word c.held ≡ 0) c changes (not_held word c.held two.0) (in_none word changes two.1)

-- and so no document ever has it
pub never-had : (changes : List (Change (List ℕ))) (word : List ℕ) (d t : ℕ) → list_any (bytes_eq word) (words_in changes) ≡ false → frequency_in changes word d t ≡ 0
never-had changes word d t n = held_has (λ o. count_held word o ≡ 0) (record { 0 = d }) t changes refl (in_none word changes (sym (member-with_all word [] (flat_map keys_in changes)) ∙ n))

-- the texts that were there have each word as often by its number when a change comes
pub words-kept : (changes : List (Change (List ℕ))) (c : Change (List ℕ)) (w d t : ℕ) → count_of (slice_get (words_in (changes ++ c ∷ [])) w) (held_at (record { 0 = d }) t changes) ≡ often changes w d t
words-kept changes c w d t =
    let f = fresh (words_in changes) (keys_in c) in
    let held = held_at (record { 0 = d }) t changes in
    ap (λ (ws : List (List ℕ)). count_of (slice_get ws w) held) (words_in-push changes c ∙ f.1) ∙ go f.0 (at (IsNew (words_in changes)) (words_in changes) f.0 w f.2)
  where
    go : (rest : List (List ℕ)) → (slice_get (words_in changes ++ rest) w ≡ slice_get (words_in changes) w) ⊎ ((x : List ℕ) × (slice_get (words_in changes ++ rest) w ≡ Some x) × (slice_get (words_in changes) w ≡ None) × IsNew (words_in changes) x)
        → count_of (slice_get (words_in changes ++ rest) w) (held_at (record { 0 = d }) t changes) ≡ often changes w d t
    go rest (inl same) = ap (λ o. count_of o (held_at (record { 0 = d }) t changes)) same
    go rest (inr (x, is, none, new)) =
        ap (λ o. count_of o (held_at (record { 0 = d }) t changes)) is
        ∙ never-had changes x d t new
        ∙ sym (ap (λ o. count_of o (held_at (record { 0 = d }) t changes)) none)
