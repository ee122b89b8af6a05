-- Words entered one by one, and their counts.
use Rattle.std.proofs.Common.{◌≡◌, ℕ, ◌+◌, ◌≤◌, nat_lt, ltb-true, ltb-false, lt-ltb, Bool, true, false, cond, ◌||◌, List, [], ◌∷◌, ◌++◌, map, length, Option, Some, None, refl, sym, ap, ap₂, subst, ◌∙◌, arith, if◌then◌else◌}
use Rattle.std.proofs.lemmas.List.Folds.{list_any-append}
use Rattle.std.proofs.lemmas.List.Sums.{fold_push, sum_by_push, count_by-le-length, sum_by-cons}
use Rattle.std.proofs.lemmas.Map.Keys.{IsDistinct-push, IsDistinct-head, IsDistinct-tail}
use Rattle.std.proofs.lemmas.Option.{cond_some}
use Rattle.std.specs.Cmp.Lexicographic.{nat_list_eq_equiv, bytes_decides}
use Rattle.std.specs.List.{list_any, IsDistinct, AllByRecursion}
use Rattle.std.specs.Map.{lookup, set_value}
use Rattle.std.specs.Str.{bytes_eq}
use Rattle.indexmap.specs.IndexMap.{insert_entry}
use Rattle.std.proofs.Common.{filter, option_to_list}
use Rattle.std.proofs.lemmas.List.{map-append, length-map}
use Rattle.std.proofs.lemmas.List.Elements.{filter-append}
use Rattle.std.proofs.lemmas.List.Sums.{length-filter}
use Rattle.text_words.specs.Terms.{times, key, is_key, term_of, keys_of}
use Rattle.text_words.specs.Words.{entered, with_all, distinct, counted, bump}

-- words that are found equal are one
pub same : (one other : List ℕ) → bytes_eq one other ≡ true → one ≡ other
same one other e = (bytes_decides one other).0 e

pub itself : (word : List ℕ) → bytes_eq word word ≡ true
itself word = (bytes_decides word word).1 refl

-- words that aren't found equal differ
pub apart_words : (one other : List ℕ) → one ≡ other → bytes_eq one other ≡ false → ⊥
apart_words one other e h = let t : true ≡ false = sym (itself one) ∙ ap (bytes_eq one) e ∙ h in absurd cc

pub flipped : (one other : List ℕ) → bytes_eq one other ≡ bytes_eq other one
flipped = nat_list_eq_equiv.symm

-- the words after one is entered
pub member-entered : (q : List ℕ) (words : List (List ℕ)) (k : List ℕ) → list_any (bytes_eq q) (entered words k) ≡ (list_any (bytes_eq q) words || bytes_eq q k)
member-entered q words k = by (list_any (bytes_eq k) words) refl (bytes_eq q k) refl
  where
    by : (b : Bool) → list_any (bytes_eq k) words ≡ b → (d : Bool) → bytes_eq q k ≡ d → list_any (bytes_eq q) (if b then words else words ++ k ∷ []) ≡ (list_any (bytes_eq q) words || bytes_eq q k)
    by true e true f = ap (λ w. list_any (bytes_eq w) words) (same q k f) ∙ e ∙ sym (ap (λ b. list_any (bytes_eq q) words || b) f ∙ grind arith)
    by true e false f = rw f (grind arith)
    by false e d f = list_any-append (bytes_eq q) words (k ∷ []) ∙ grind arith

pub IsDistinct-entered : (words : List (List ℕ)) (k : List ℕ) → IsDistinct bytes_eq words → IsDistinct bytes_eq (entered words k)
IsDistinct-entered words k h = by (list_any (bytes_eq k) words) refl
  where
    by : (b : Bool) → list_any (bytes_eq k) words ≡ b → IsDistinct bytes_eq (if b then words else words ++ k ∷ [])
    by true e = h
    by false e = IsDistinct-push nat_list_eq_equiv words k h e

-- and after several
pub member-with_all : (q : List ℕ) (words found : List (List ℕ)) → list_any (bytes_eq q) (with_all words found) ≡ (list_any (bytes_eq q) words || list_any (bytes_eq q) found)
member-with_all q words [] = grind arith
member-with_all q words (k ∷ found) = member-with_all q (entered words k) found ∙ ap (λ b. b || list_any (bytes_eq q) found) (member-entered q words k) ∙ grind arith

pub IsDistinct-with_all : (words found : List (List ℕ)) → IsDistinct bytes_eq words → IsDistinct bytes_eq (with_all words found)
IsDistinct-with_all words [] h = h
IsDistinct-with_all words (k ∷ found) h = IsDistinct-with_all (entered words k) found (IsDistinct-entered words k h)

pub IsDistinct-distinct : (found : List (List ℕ)) → IsDistinct bytes_eq (distinct found)
unfolding IsDistinct
IsDistinct-distinct found = IsDistinct-with_all [] found tt

-- words with what a function gives for each
abbrev pub table : (List ℕ → ℕ) → List (List ℕ) → List (List ℕ × ℕ)
table f words = map (λ w. (w, f w)) words

-- a word's value in a table
pub lookup-table : (f : List ℕ → ℕ) (q : List ℕ) (words : List (List ℕ)) → lookup (bytes_eq q) (table f words) ≡ (if list_any (bytes_eq q) words then Some (f q) else None)
lookup-table f q [] = refl
lookup-table f q (w ∷ words) = by (bytes_eq q w) refl (lookup-table f q words)
  where
    by : (b : Bool) → bytes_eq q w ≡ b → lookup (bytes_eq q) (table f words) ≡ (if list_any (bytes_eq q) words then Some (f q) else None)
        → cond b (Some (f w)) (lookup (bytes_eq q) (table f words)) ≡ (if (b || list_any (bytes_eq q) words) then Some (f q) else None)
    by true e rest = ap (λ v. Some (f v)) (sym (same q w e))
    by false e rest = rest

-- functions that agree on a list's elements make one list of them
pub same_map : {X Y : Type 0} (P : X → Type 0) (f g : X → Y) → ((x : X) → P x → f x ≡ g x) → (xs : List X) → AllByRecursion P xs → map f xs ≡ map g xs
same_map P f g e [] h = refl
same_map P f g e (x ∷ xs) h = ap₂ (λ y ys. y ∷ ys) (e x h.0) (same_map P f g e xs h.1)

-- the table after one more of a word
bump-table : (f g : List ℕ → ℕ) (k : List ℕ) → g k ≡ f k + 1 → ((q : List ℕ) → bytes_eq k q ≡ false → g q ≡ f q) → (words : List (List ℕ)) → (list_any (bytes_eq k) words ≡ false → f k ≡ 0) → IsDistinct bytes_eq words
    → bump bytes_eq (table f words) k ≡ table g (entered words k)
bump-table f g k one others [] none h = ap (λ n. (k, n) ∷ []) (let z = none refl in omega (arith, one, z))
bump-table f g k one others (w ∷ words) none h = by (bytes_eq k w) refl (list_any (bytes_eq k) words) none (λ n. bump-table f g k one others words n (IsDistinct-tail bytes_eq w words h))
  where
    by : (b : Bool) → bytes_eq k w ≡ b → (d : Bool) → ((b || d) ≡ false → f k ≡ 0) → ((d ≡ false → f k ≡ 0) → bump bytes_eq (table f words) k ≡ table g (if d then words else words ++ k ∷ []))
        → (if b then (w, f w + 1) ∷ table f words else (w, f w) ∷ bump bytes_eq (table f words) k) ≡ table g (if (b || d) then w ∷ words else w ∷ words ++ k ∷ [])
    by true e d none rest =
        ap₂ (λ (n : ℕ) (tail : List (List ℕ × ℕ)). (w, n) ∷ tail) (rw (← same k w e) (sym one))
        (same_map (λ q. bytes_eq k q ≡ false) (λ q. (q, f q)) (λ q. (q, g q)) (λ q e. ap (λ n. (q, n)) (sym (others q e))) words (subst (λ x. AllByRecursion (λ v. bytes_eq x v ≡ false) words) (sym (same k w e)) (IsDistinct-head bytes_eq w words h)))
    by false e true none rest = ap₂ (λ (n : ℕ) (tail : List (List ℕ × ℕ)). (w, n) ∷ tail) (sym (others w e)) (rest none)
    by false e false none rest = ap₂ (λ (n : ℕ) (tail : List (List ℕ × ℕ)). (w, n) ∷ tail) (sym (others w e)) (rest none)

-- one occurrence more
pub times-push : (q : List ℕ) (found : List (List ℕ)) (k : List ℕ) → times q (found ++ k ∷ []) ≡ times q found + cond (bytes_eq q k) 1 0
times-push q found k = sum_by_push (λ x. cond (bytes_eq q x) 1 0) found k

-- a word is found exactly where it occurs
any-times : (q : List ℕ) (found : List (List ℕ)) → list_any (bytes_eq q) found ≡ nat_lt 0 (times q found)
any-times q [] = refl
any-times q (k ∷ found) = by (bytes_eq q k) (any-times q found) ∙ ap (nat_lt 0) (sym (sum_by-cons (λ x. cond (bytes_eq q x) 1 0) k found))
  where
    by : (b : Bool) → list_any (bytes_eq q) found ≡ nat_lt 0 (times q found) → (b || list_any (bytes_eq q) found) ≡ nat_lt 0 (cond b 1 0 + times q found)
    by true h = sym (lt-ltb 0 (1 + times q found) (omega arith))
    by false h = h ∙ ap (nat_lt 0) (omega arith)

pub times-absent : (q : List ℕ) (found : List (List ℕ)) → list_any (bytes_eq q) found ≡ false → times q found ≡ 0
times-absent q found h = omega (arith, ltb-false 0 (times q found) (sym (any-times q found) ∙ h))

pub times-some : (q : List ℕ) (found : List (List ℕ)) → list_any (bytes_eq q) found ≡ true → 1 ≤ times q found
times-some q found h = omega (arith, ltb-true 0 (times q found) (sym (any-times q found) ∙ h))

-- the counts of one key more
pub counted-bump : (found : List (List ℕ)) (k : List ℕ) → bump bytes_eq (counted found) k ≡ counted (found ++ k ∷ [])
counted-bump found k =
    let one : times k (found ++ k ∷ []) ≡ times k found + 1 = times-push k found k ∙ ap (λ b. times k found + cond b 1 0) (itself k) in
    let others : (q : List ℕ) → bytes_eq k q ≡ false → times q (found ++ k ∷ []) ≡ times q found = λ q e. times-push q found k ∙ ap (λ b. times q found + cond b 1 0) (flipped q k ∙ e) ∙ omega arith in
    bump-table (λ w. times w found) (λ w. times w (found ++ k ∷ [])) k one others (distinct found) (λ e. times-absent k found (sym (member-with_all k [] found) ∙ e)) (IsDistinct-distinct found)
    ∙ ap (table (λ w. times w (found ++ k ∷ []))) (sym (fold_push entered [] found k))

-- what the table says of a word: its count, where it occurs
pub lookup-counted : (q : List ℕ) (found : List (List ℕ)) → lookup (bytes_eq q) (counted found) ≡ (if list_any (bytes_eq q) found then Some (times q found) else None)
lookup-counted q found = lookup-table (λ w. times w found) q (distinct found) ∙ ap (λ b. if b then Some (times q found) else None) (member-with_all q [] found)

-- a count of words among occurrences is at most the number of these
pub table-le : (found words : List (List ℕ)) (q : List ℕ) (n : ℕ) → lookup (bytes_eq q) (table (λ w. times w found) words) ≡ Some n → n ≤ length found
table-le found words q n h =
    let (_, t) = cond_some _ _ _ (sym (lookup-table (λ w. times w found) q words) ∙ h) in
    omega (arith, t, count_by-le-length (bytes_eq q) found)

-- a run adds its key, if it is a term
pub keys_of-push : (done : List (List ℕ)) (run : List ℕ) (k : Option (List ℕ)) → term_of run ≡ k → keys_of (done ++ run ∷ []) ≡ keys_of done ++ option_to_list k
keys_of-push done run k e =
    ap (filter is_key) (map-append key done (run ∷ []))
    ∙ filter-append is_key (map key done) (key run ∷ [])
    ∙ ap (λ l. keys_of done ++ l) (by (is_key (key run)) ∙ ap option_to_list e)
  where
    by : (b : Bool) → cond b (key run ∷ []) [] ≡ option_to_list (if b then Some (key run) else None)
    by true = refl
    by false = refl

-- there are no more terms than runs
pub length-keys_of : (done : List (List ℕ)) → length (keys_of done) ≤ length done
length-keys_of done = omega (arith, length-filter is_key (map key done), count_by-le-length is_key (map key done), length-map done key)

-- a count written in its place is one more
pub bump-known : {X : Type 0} (eq : X → X → Bool) (es : List (X × ℕ)) (x : X) (c : ℕ) → lookup (eq x) es ≡ Some c → set_value (eq x) es (c + 1) ≡ bump eq es x
bump-known eq [] x c h = absurd cc
bump-known eq (e ∷ es) x c h = by (eq x e.0) h (bump-known eq es x c)
  where
    by : (b : Bool) → cond b (Some e.1) (lookup (eq x) es) ≡ Some c → (lookup (eq x) es ≡ Some c → set_value (eq x) es (c + 1) ≡ bump eq es x)
        → cond b ((e.0, c + 1) ∷ es) (e ∷ set_value (eq x) es (c + 1)) ≡ (if b then (e.0, e.1 + 1) ∷ es else e ∷ bump eq es x)
    by true i rest = let n : e.1 ≡ c = cc in ap (λ m. (e.0, m + 1) ∷ es) (sym n)
    by false i rest = ap (λ l. e ∷ l) (rest i)

pub bump-new : {X : Type 0} (eq : X → X → Bool) (es : List (X × ℕ)) (x : X) → lookup (eq x) es ≡ None → insert_entry eq es x 1 ≡ bump eq es x
bump-new eq [] x h = refl
bump-new eq (e ∷ es) x h = by (eq x e.0) h (bump-new eq es x)
  where
    by : (b : Bool) → cond b (Some e.1) (lookup (eq x) es) ≡ None → (lookup (eq x) es ≡ None → insert_entry eq es x 1 ≡ bump eq es x)
        → (if b then (e.0, 1) ∷ es else e ∷ insert_entry eq es x 1) ≡ (if b then (e.0, e.1 + 1) ∷ es else e ∷ bump eq es x)
    by true i rest = absurd cc
    by false i rest = ap (λ l. e ∷ l) (rest i)
