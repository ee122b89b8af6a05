-- Words and their ends.
use Rattle.std.specs.Prelude.{◌≡◌, ℕ, ◌+◌, ◌-◌, ◌<◌, ◌≤◌, Bool, true, false, ◌&&◌, nat_lt, cond, if◌then◌else◌, List, [], ◌∷◌, ◌++◌, length, take, slice_index, position, unwrap_or, Some, None, not, refl}
use Rattle.std.specs.List.{position_or_len}
use Rattle.std.proofs.Common.{arith, ap, sym, ◌∙◌, ltb-false}
use Rattle.std.proofs.lemmas.List.{take_more}
use Rattle.std.proofs.lemmas.List.Sums.{prefix_len-le-length}
use Rattle.script_read.specs.Words.{is_space, is_blank, without_last_spaces}

-- the first place or the length is `position_or_len`
pub unwrap_position : {X : Type 0} (p : X → Bool) (xs : List X) → unwrap_or (position p xs) (length xs) ≡ position_or_len p xs
unwrap_position p xs = go (nat_lt (position_or_len p xs) (length xs)) refl
  where
    go : (b : Bool) → nat_lt (position_or_len p xs) (length xs) ≡ b → unwrap_or (cond b (Some (position_or_len p xs)) None) (length xs) ≡ position_or_len p xs
    go true h = refl
    go false h = omega (arith, ltb-false _ _ h, prefix_len-le-length (λ x. not (p x)) xs)

blank-append : (xs : List ℕ) (b : ℕ) → is_blank (xs ++ b ∷ []) ≡ (is_blank xs && is_space b)
blank-append [] b = go (is_space b)
  where
    go : (c : Bool) → (c && true) ≡ c
    go true = refl
    go false = refl
blank-append (x ∷ xs) b = go (is_space x) (is_blank xs) (is_space b) (blank-append xs b)
  where
    go : (a c d : Bool) → is_blank (xs ++ b ∷ []) ≡ (c && d) → (a && is_blank (xs ++ b ∷ [])) ≡ ((a && c) && d)
    go true c d h = h
    go false c d h = refl

last-space : (xs : List ℕ) (b : ℕ) → is_space b ≡ true → without_last_spaces (xs ++ b ∷ []) ≡ without_last_spaces xs
last-space [] b h = rw h refl
last-space (x ∷ xs) b h =
    let same : is_blank (x ∷ (xs ++ b ∷ [])) ≡ is_blank (x ∷ xs) = blank-append (x ∷ xs) b ∙ ap (λ c. is_blank (x ∷ xs) && c) h ∙ all (is_blank (x ∷ xs)) in
    ap (λ l. if is_blank (x ∷ (xs ++ b ∷ [])) then [] else x ∷ l) (last-space xs b h) ∙ ap (λ c. if c then [] else x ∷ without_last_spaces xs) same
  where
    all : (c : Bool) → (c && true) ≡ c
    all true = refl
    all false = refl

last-byte : (xs : List ℕ) (b : ℕ) → is_space b ≡ false → without_last_spaces (xs ++ b ∷ []) ≡ xs ++ b ∷ []
last-byte [] b h = rw h refl
last-byte (x ∷ xs) b h =
    let no : is_blank (x ∷ (xs ++ b ∷ [])) ≡ false = blank-append (x ∷ xs) b ∙ ap (λ c. is_blank (x ∷ xs) && c) h ∙ none (is_blank (x ∷ xs)) in
    ap (λ c. if c then [] else x ∷ without_last_spaces (xs ++ b ∷ [])) no ∙ ap (λ l. x ∷ l) (last-byte xs b h)
  where
    none : (c : Bool) → (c && false) ≡ false
    none true = refl
    none false = refl

-- a space at the end of a front goes
pub front-space : (line : List ℕ) (n : ℕ) → 0 < n → n ≤ length line → is_space (slice_index line (n - 1)) ≡ true → without_last_spaces (take (n - 1) line) ≡ without_last_spaces (take n line)
front-space line n h k s =
    let e : n ≡ (n - 1) + 1 = omega arith in
    sym (ap (λ m. without_last_spaces (take m line)) e ∙ ap without_last_spaces (take_more line (n - 1) 0 (omega arith)) ∙ last-space (take (n - 1) line) (slice_index line (n - 1)) s)

-- and another byte stays
pub front-byte : (line : List ℕ) (n : ℕ) → 0 < n → n ≤ length line → is_space (slice_index line (n - 1)) ≡ false → without_last_spaces (take n line) ≡ take n line
front-byte line n h k s =
    let e : n ≡ (n - 1) + 1 = omega arith in
    let front : take n line ≡ take (n - 1) line ++ (slice_index line (n - 1) ∷ []) = ap (λ m. take m line) e ∙ take_more line (n - 1) 0 (omega arith) in
    ap without_last_spaces front ∙ last-byte (take (n - 1) line) (slice_index line (n - 1)) s ∙ sym front
