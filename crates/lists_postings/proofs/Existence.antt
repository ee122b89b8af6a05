-- Each frequency has a list: one posting a time, put before one another from the last document and time down, and then
-- shortened.
use Rattle.std.specs.Prelude.{◌≡◌, ◌⊎◌, ℕ, zero, suc, ◌+◌, ◌^◌, ◌<◌, ◌≤◌, ◌==◌, ◌&&◌, ◌||◌, Bool, true, false, cond, nat_le, nat_lt, List, [], ◌∷◌, get_or, refl}
use Rattle.std.proofs.Common.{arith, ap, sym, ◌∙◌, subst, inl, inr}
use Rattle.std.proofs.lemmas.Bool.{cases_lt}
use Rattle.std.proofs.lemmas.Bool.Decides.{nat_tests}
use Rattle.std.proofs.lemmas.List.Elements.{Contains-get_or}
use Rattle.base_types.specs.declared.posting.Posting.{Posting}
use Rattle.lists_postings.specs.Lists.{ComesBefore, IsList, frequency}
use Rattle.lists_postings.specs.ListsOf.{IsListOf}
use Rattle.lists_postings.proofs.Order.{Heads, next-cons}
use Rattle.lists_postings.proofs.Frequencies.{is_row, frequency-here}
use Rattle.lists_postings.proofs.Coalesced.{shorten}
use Rattle.lists_postings.proofs.Windows.{lies-inside}

-- g from document d at the time s on, and 0 sooner
abbrev pub from : (ℕ → ℕ → ℕ) → ℕ → ℕ → ℕ → ℕ → ℕ
from g d s e t = cond (nat_lt d e || (d == e && nat_le s t)) (g e t) 0

-- the list has that frequency
pub record IsFrom (g : ℕ → ℕ → ℕ) (d s : ℕ) (list : List Posting) : Type 0 where
  pub ordered : IsList list
  pub rows : (e t : ℕ) → frequency e t list ≡ from g d s e t

-- it has it from another place on too, where that is the same
moved : (g : ℕ → ℕ → ℕ) (d s k r : ℕ) (list : List Posting) → ((e t : ℕ) → from g d s e t ≡ from g k r e t) → IsFrom g d s list → IsFrom g k r list
moved g d s k r list w h = record { ordered = h.ordered; rows = λ e t. h.rows e t ∙ w e t }

-- a posting of one time
unit : (d s n : ℕ) → d < 2 ^ 32 → s < 2 ^ 40 → 0 < n → n < 2 ^ 32 → (p : Posting) × (p.doc.0 ≡ d) × (p.span.from ≡ s) × (p.span.to ≡ s + 1) × (p.tf ≡ n)
unit d s n a b x y = (
  record {
    doc = record { 0 = d };
    span = record { from = s; to = s + 1; ordered = omega arith; in_time = omega (arith, b) };
    tf = n;
    numbered = a;
    counted = omega (arith, x);
    bounded = y;
  },
  refl,
  refl,
  refl,
  refl,
)

-- a posting of one time stands before a list of what comes later
unit-before : (g : ℕ → ℕ → ℕ) (d s : ℕ) (p : Posting) (list : List Posting) → p.doc.0 ≡ d → p.span.to ≡ s + 1 → IsFrom g d (s + 1) list → Heads ComesBefore p list
unit-before g d s p [] a b h = tt
unit-before g d s p (q ∷ list) a b h =
    let some : from g d (s + 1) q.doc.0 q.span.from ≡ q.tf = sym (h.rows q.doc.0 q.span.from) ∙ frequency-here q.doc.0 q.span.from q list refl (omega arith) q.span.ordered in
    let positive = q.counted in
    grind (arith, nat_tests)

-- and the list begins with it one time sooner
one-more : (g : ℕ → ℕ → ℕ) (d s : ℕ) (p : Posting) (list : List Posting) → p.doc.0 ≡ d → p.span.from ≡ s → p.span.to ≡ s + 1 → p.tf ≡ g d s → IsFrom g d (s + 1) list → IsFrom g d s (p ∷ list)
one-more g d s p list a b c n h = record {
  ordered = next-cons ComesBefore p list (unit-before g d s p list a c h) h.ordered;
  rows = λ e t. ap {B = ℕ} (λ m. cond (is_row e t p) p.tf m) (h.rows e t) ∙ more e t;
}
  where
    more : (e t : ℕ) → cond (is_row e t p) p.tf (from g d (s + 1) e t) ≡ from g d s e t
    more e t = grind (arith, nat_tests)

-- what of a frequency has postings: it is 0 from the end of the documents and of time on
pub record IsBounded (g : ℕ → ℕ → ℕ) (D b : ℕ) : Type 0 where
  pub documents : D ≤ 2 ^ 32
  pub times : b ≤ 2 ^ 40
  pub small : (d t : ℕ) → g d t < 2 ^ 32
  pub none_of : (d t : ℕ) → D ≤ d → g d t ≡ 0
  pub none_at : (d t : ℕ) → b ≤ t → g d t ≡ 0

-- where g has nothing
nothing-there : (g : ℕ → ℕ → ℕ) (d s : ℕ) → g d s ≡ 0 → (e t : ℕ) → from g d (s + 1) e t ≡ from g d s e t
nothing-there g d s z e t = grind (arith, nat_tests)

nothing-late : (g : ℕ → ℕ → ℕ) (b d e t : ℕ) → (b ≤ t → g e t ≡ 0) → from g (d + 1) 0 e t ≡ from g d b e t
nothing-late g b d e t z = grind (arith, nat_tests)

nothing-after : (g : ℕ → ℕ → ℕ) (D e t : ℕ) → (D ≤ e → g e t ≡ 0) → 0 ≡ from g D 0 e t
nothing-after g D e t z = grind (arith, nat_tests)

-- one time sooner
step : (g : ℕ → ℕ → ℕ) (D b d s : ℕ) (list : List Posting) → IsBounded g D b → IsFrom g d (s + 1) list → (l : List Posting) × IsFrom g d s l
step g D b d s list i h = elim (cases_lt 0 (g d s)) [
  | inr k ↦ (list, moved g d (s + 1) d s list (nothing-there g d s (omega (arith, k))) h)
  | inl k ↦ let (p, x, y, z, n) = unit d s (g d s) (below d D 32 i.documents (λ m. omega (arith, k, i.none_of d s m))) (below s b 40 i.times (λ m. omega (arith, k, i.none_at d s m))) k (i.small d s) in (p ∷ list, one-more g d s p list x y z n h)
]
  where
    below : (m n k : ℕ) → n ≤ 2 ^ k → (n ≤ m → ⊥) → m < 2 ^ k
    below m n k l o = elim (cases_lt m n) [ inl x ↦ omega (arith, x, l) | inr x ↦ absurd (o x) ]

-- down to the first time of a document
times-down : (g : ℕ → ℕ → ℕ) (D b d s : ℕ) (list : List Posting) → IsBounded g D b → IsFrom g d s list → (l : List Posting) × IsFrom g d 0 l
times-down g D b d zero list i h = (list, h)
times-down g D b d (suc s) list i h = let (l, k) = step g D b d s list i (subst (λ n. IsFrom g d n list) (omega arith) h) in times-down g D b d s l i k

-- down to the first document
documents-down : (g : ℕ → ℕ → ℕ) (D b d : ℕ) (list : List Posting) → IsBounded g D b → IsFrom g d 0 list → (l : List Posting) × IsFrom g 0 0 l
documents-down g D b zero list i h = (list, h)
documents-down g D b (suc d) list i h =
    let (l, k) = times-down g D b d b list i (moved g (d + 1) 0 d b list (λ e t. nothing-late g b d e t (i.none_at e t)) (subst (λ n. IsFrom g n 0 list) (omega arith) h)) in documents-down g D b d l i k

-- from the first place on it is g
everything : (g : ℕ → ℕ → ℕ) (e t : ℕ) → from g 0 0 e t ≡ g e t
everything g e t = grind (arith, nat_tests)

-- a list of all
all-of : (g : ℕ → ℕ → ℕ) (D b : ℕ) → IsBounded g D b → (l : List Posting) × IsFrom g 0 0 l
all-of g D b i = documents-down g D b D [] i (record { ordered = tt; rows = λ e t. nothing-after g D e t (i.none_of e t) })

-- a frequency inside an interval alone
abbrev pub within : (ℕ → ℕ → ℕ) → ℕ → ℕ → ℕ → ℕ → ℕ
within f a b d t = cond (nat_le a t && nat_lt t b) (f d t) 0

within-in : (f : ℕ → ℕ → ℕ) (a b d t : ℕ) → a ≤ t → t < b → within f a b d t ≡ f d t
within-in f a b d t x y = grind (arith, nat_tests)

within-out : (f : ℕ → ℕ → ℕ) (a b d t : ℕ) → (t < a) ⊎ (b ≤ t) → within f a b d t ≡ 0
within-out f a b d t o = grind (arith, nat_tests)

-- what holds of a frequency and of 0 holds of it inside alone
within-has : (P : ℕ → Type 0) (f : ℕ → ℕ → ℕ) (a b d t : ℕ) → P (f d t) → P 0 → P (within f a b d t)
within-has P f a b d t x y = go (nat_le a t && nat_lt t b)
  where
    go : (c : Bool) → P (cond c (f d t) 0)
    go true = x
    go false = y

list-of : (f : ℕ → ℕ → ℕ) (D a b : ℕ) → IsBounded (within f a b) D b → (list : List Posting) × IsListOf f a b list
list-of f D a b i =
    let (l, h) = all-of (within f a b) D b i in
    let (list, k) = shorten l h.ordered in
    let rows : (d t : ℕ) → frequency d t list ≡ within f a b d t = λ d t. k.same d t ∙ h.rows d t ∙ everything (within f a b) d t in (
      list,
      record {
        ordered = k.ordered;
        coalesced = k.coalesced;
        inside = λ n d m. lies-inside a b list k.ordered (λ e t o. rows e t ∙ within-out f a b e t o) (get_or list n d) (Contains-get_or list n d m);
        same = λ d t x y. rows d t ∙ within-in f a b d t x y;
      },
    )

pub each_has_a_list : (f : ℕ → ℕ → ℕ) (a b : ℕ) → b ≤ 2 ^ 40 → ((d t : ℕ) → f d t < 2 ^ 32) → ((d t : ℕ) → 2 ^ 32 ≤ d → f d t ≡ 0) → (list : List Posting) × IsListOf f a b list
each_has_a_list f a b x s z = list-of f (2 ^ 32) a b (record {
  documents = omega arith;
  times = x;
  small = λ d t. within-has (λ n. n < 2 ^ 32) f a b d t (s d t) (omega arith);
  none_of = λ d t h. within-has (λ n. n ≡ 0) f a b d t (z d t h) refl;
  none_at = λ d t h. within-out f a b d t (inr h);
})
