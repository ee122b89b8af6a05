-- Tokens, as they come of a text byte by byte.
use Rattle.std.proofs.Common.{◌≡◌, ℕ, zero, suc, ◌+◌, ◌-◌, ◌<◌, Bool, cond, Option, Some, None, List, [], ◌∷◌, ◌++◌, length, take, drop, get_or, refl, sym, ap, subst, ◌∙◌, arith, eq-eqb}
use Rattle.query_lang.specs.declared.term.Term.{Term}
use Rattle.query_lang.specs.declared.token.Token.TheVariants.{Open, Close}
use Rattle.query_lang.specs.declared.token.Role.TheVariants.{Space, Opening, Closing, Letter}
use Rattle.query_lang.specs.Tokens.{role, closed, tokens_from, parted_by, parted}

-- the bytes of a token that begins at one place and goes to another
abbrev pub between : List ℕ → ℕ → ℕ → List ℕ
between text start i = take (i - start) (drop start text)

pub at_space : (key : List ℕ → Option Term) (at b : ℕ) (run rest : List ℕ) → role b ≡ Space
    → tokens_from key at run (b ∷ rest) ≡ closed key at run ++ ([] ++ tokens_from key (at + length run + 1) [] rest)
at_space key at b run rest h = rw (h, tokens_from) refl

pub at_opening : (key : List ℕ → Option Term) (at b i : ℕ) (run rest : List ℕ) → at + length run ≡ i → role b ≡ Opening
    → tokens_from key at run (b ∷ rest) ≡ closed key at run ++ ((record { at = i; token = Open } ∷ []) ++ tokens_from key (at + length run + 1) [] rest)
at_opening key at b i run rest e h = rw (← e) (rw (h, tokens_from) refl)

pub at_closing : (key : List ℕ → Option Term) (at b i : ℕ) (run rest : List ℕ) → at + length run ≡ i → role b ≡ Closing
    → tokens_from key at run (b ∷ rest) ≡ closed key at run ++ ((record { at = i; token = Close } ∷ []) ++ tokens_from key (at + length run + 1) [] rest)
at_closing key at b i run rest e h = rw (← e) (rw (h, tokens_from) refl)

pub at_letter : (key : List ℕ → Option Term) (at b : ℕ) (run rest : List ℕ) → role b ≡ Letter
    → tokens_from key at run (b ∷ rest) ≡ tokens_from key at (run ++ b ∷ []) rest
at_letter key at b run rest h = rw (h, tokens_from) refl

-- the last `^`, where none is behind it
parted-at : (n : ℕ) (bytes : List ℕ) → n < length bytes → get_or bytes n 0 ≡ 94 → parted (drop (suc n) bytes) ≡ None → parted bytes ≡ Some (take n bytes, drop (suc n) bytes)
parted-at n [] l e h = absurd (omega (arith, l))
parted-at zero (b ∷ bs) l e h = ap (λ o. parted_by b o bs) h ∙ ap (λ (x : Bool). cond x (Some ([], bs)) None) (eq-eqb b 94 e)
parted-at (suc n) (b ∷ bs) l e h = ap (λ o. parted_by b o bs) (parted-at n bs (omega (arith, l)) e h)

pub parted_here : (m i : ℕ) (bytes : List ℕ) → i + 1 ≡ m → i < length bytes → get_or bytes i 0 ≡ 94 → parted (drop m bytes) ≡ None → Some (take i bytes, drop (i + 1) bytes) ≡ parted bytes
parted_here m i bytes s l e h =
    let one : i + 1 ≡ suc i = omega arith in
    let none : parted (drop (suc i) bytes) ≡ None = subst (λ k. parted (drop k bytes) ≡ None) (sym s ∙ one) h in
    ap (λ k. Some (take i bytes, drop k bytes)) one ∙ sym (parted-at i bytes l e none)
