-- A query looks only at its words.
use Rattle.std.proofs.Common.{◌≡◌, ℕ, suc, ◌+◌, ◌*◌, nat_lt, subst, Bool, true, false, not, ◌||◌, ◌&&◌, List, [], ◌∷◌, ◌++◌, sum_by, All, refl, sym, ap, ap₂, ◌∙◌, arith}
use Rattle.std.proofs.lemmas.List.{map-append}
use Rattle.std.proofs.lemmas.List.Folds.{list_any-append}
use Rattle.std.proofs.lemmas.List.Sums.{sum_by-cons}
use Rattle.std.specs.List.{list_any}
use Rattle.std.specs.Str.{bytes_eq}
use Rattle.text_words.proofs.CountLemmas.{same, itself, member-with_all}
use Rattle.query_lang.specs.Grammar.{Query, Has, Lacks, Both, Either}
use Rattle.query_lang.specs.Meaning.{matches, terms_of, keys_of, occurring, words_of, weight, score}
use Rattle.query_lang.specs.declared.term.Term.{Term}

-- each of these words is as frequent by f as by g
abbrev pub Agree : (List ℕ → ℕ) → (List ℕ → ℕ) → List (List ℕ) → Type 0
Agree f g words = (w : List ℕ) → list_any (bytes_eq w) words ≡ true → f w ≡ g w

agree-all : (f g : List ℕ → ℕ) (words : List (List ℕ)) → All (λ w. f w ≡ g w) words → Agree f g words
agree-all f g [] h = λ w e. absurd cc
agree-all f g (x ∷ words) h = λ w e. go (agree-all f g words (λ k d l. h (suc k) d (omega (arith, l)))) w (bytes_eq w x) refl e
  where
    go : Agree f g words → (w : List ℕ) (b : Bool) → bytes_eq w x ≡ b → (b || list_any (bytes_eq w) words) ≡ true → f w ≡ g w
    go rest w true e m = ap f (same w x e) ∙ h 0 x (omega arith) ∙ sym (ap g (same w x e))
    go rest w false e m = rest w m

-- where they do at the distinct words, they do wherever a word stands
pub agreeing : (f g : List ℕ → ℕ) (q : Query) → All (λ w. f w ≡ g w) (words_of q) → Agree f g (occurring q)
agreeing f g q h = λ w e. agree-all f g (words_of q) h w (member-with_all w [] (occurring q) ∙ e)

left : (f g : List ℕ → ℕ) (xs ys : List (List ℕ)) → Agree f g (xs ++ ys) → Agree f g xs
left f g xs ys h = λ w e. h w (list_any-append (bytes_eq w) xs ys ∙ ap (λ b. b || list_any (bytes_eq w) ys) e)

right : (f g : List ℕ → ℕ) (xs ys : List (List ℕ)) → Agree f g (xs ++ ys) → Agree f g ys
right f g xs ys h = λ w e. h w (list_any-append (bytes_eq w) xs ys ∙ ap (λ b. list_any (bytes_eq w) xs || b) e ∙ go (list_any (bytes_eq w) xs))
  where
    go : (b : Bool) → (b || true) ≡ true
    go true = refl
    go false = refl

agree-parts : (f g : List ℕ → ℕ) (p q : Query) → Agree f g (keys_of (terms_of p ++ terms_of q)) → Agree f g (occurring p ++ occurring q)
agree-parts f g p q h = subst (Agree f g) (map-append (λ (t : Term). t.key) (terms_of p) (terms_of q)) h

pub matches-same : (f g : List ℕ → ℕ) (q : Query) → Agree f g (occurring q) → matches q f ≡ matches q g
matches-same f g (Has term) h = ap (λ n. nat_lt 0 n) (h term.key (ap (λ b. b || false) (itself term.key)))
matches-same f g (Lacks q) h = ap not (matches-same f g q h)
matches-same f g (Both p q) h = let k = agree-parts f g p q h in ap₂ (λ a b. a && b) (matches-same f g p (left f g _ _ k)) (matches-same f g q (right f g (occurring p) _ k))
matches-same f g (Either p q) h = let k = agree-parts f g p q h in ap₂ (λ a b. a || b) (matches-same f g p (left f g _ _ k)) (matches-same f g q (right f g (occurring p) _ k))

sums-same : (f g p : List ℕ → ℕ) (words : List (List ℕ)) → All (λ w. f w ≡ g w) words → sum_by (λ w. p w * f w) words ≡ sum_by (λ w. p w * g w) words
sums-same f g p [] h = refl
sums-same f g p (w ∷ words) h =
    sum_by-cons (λ w. p w * f w) w words
    ∙ ap₂ (λ m n. p w * m + n) (h 0 w (omega arith)) (sums-same f g p words (λ k d l. h (suc k) d (omega (arith, l))))
    ∙ sym (sum_by-cons (λ w. p w * g w) w words)

pub score-same : (f g : List ℕ → ℕ) (q : Query) → All (λ w. f w ≡ g w) (words_of q) → score q f ≡ score q g
score-same f g q h = sums-same f g (weight q) (words_of q) h
