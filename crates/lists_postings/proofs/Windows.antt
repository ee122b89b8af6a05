-- The lists of two windows, joined.
use Rattle.std.specs.Prelude.{◌≡◌, ◌⊎◌, ℕ, ◌-◌, ◌<◌, ◌≤◌, List, ◌++◌, Contains, get_or, refl}
use Rattle.std.proofs.Common.{arith, ◌∙◌, inl, inr}
use Rattle.std.proofs.lemmas.Bool.{cases_lt}
use Rattle.std.proofs.lemmas.List.Elements.{Contains-get_or}
use Rattle.base_types.specs.declared.posting.Posting.{Posting}
use Rattle.lists_postings.specs.Lists.{IsList, IsCoalesced, SameRows, frequency}
use Rattle.lists_postings.specs.Unions.{IsUnion}
use Rattle.lists_postings.specs.ListsOf.{IsListOf}
use Rattle.lists_postings.proofs.Frequencies.{frequency-of}
use Rattle.lists_postings.proofs.Clipping.{IsInside, outside}
use Rattle.lists_postings.proofs.Merged.{append-none, append-some, frequency_of_union}

-- where the second of two lists has nothing
append-left : (d t : ℕ) (a b : List Posting) → frequency d t b ≡ 0 → frequency d t (a ++ b) ≡ frequency d t a
append-left d t a b h = elim (cases_lt 0 (frequency d t a)) [
  | inl k ↦ append-some d t a b k
  | inr k ↦ omega (arith, append-none d t a b (omega (arith, k)), h, k)
]

-- postings that have a frequency only inside an interval lie in it
pub lies-inside : (a b : ℕ) (list : List Posting) → IsList list → ((d t : ℕ) → (t < a) ⊎ (b ≤ t) → frequency d t list ≡ 0) → (p : Posting) → Contains list p → IsInside a b p
lies-inside a b list l zero p c = (
  elim (cases_lt p.span.from a) [ inr k ↦ k | inl k ↦ absurd (omega (arith, at p.span.from (omega arith) o, zero p.doc.0 p.span.from (inl k), p.counted)) ],
  elim (cases_lt b p.span.to) [ inr k ↦ k | inl k ↦ absurd (omega (arith, at (p.span.to - 1) (omega (arith, o)) (omega (arith, o)), zero p.doc.0 (p.span.to - 1) (inr (omega (arith, k))), p.counted)) ],
)
  where
    o : p.span.from < p.span.to
    o = p.span.ordered

    at : (t : ℕ) → p.span.from ≤ t → t < p.span.to → frequency p.doc.0 t list ≡ p.tf
    at t x y = frequency-of p.doc.0 t p list l c refl x y

pub join_of_lists_of : (f : ℕ → ℕ → ℕ) (a h b : ℕ) (x y union joined : List Posting) → a ≤ h → h ≤ b → IsListOf f a h x → IsListOf f h b y → IsUnion x y union → IsList joined → IsCoalesced joined → SameRows joined union → IsListOf f a b joined
join_of_lists_of f a h b x y union joined ah hb hx hy u l c s = record {
  ordered = l;
  coalesced = c;
  inside = λ k d m. lies-inside a b joined l (λ e t o. rows e t ∙ none e t o) (get_or joined k d) (Contains-get_or joined k d m);
  same = λ d t m n. rows d t ∙ some d t m n;
}
  where
    rows : (d t : ℕ) → frequency d t joined ≡ frequency d t (x ++ y)
    rows d t = s d t ∙ frequency_of_union x y union hx.ordered hy.ordered u d t

    none : (d t : ℕ) → (t < a) ⊎ (b ≤ t) → frequency d t (x ++ y) ≡ 0
    none d t (inl k) = append-left d t x y (outside h b y hy.inside d t (inl (omega (arith, k, ah)))) ∙ outside a h x hx.inside d t (inl k)
    none d t (inr k) = append-left d t x y (outside h b y hy.inside d t (inr k)) ∙ outside a h x hx.inside d t (inr (omega (arith, k, hb)))

    some : (d t : ℕ) → a ≤ t → t < b → frequency d t (x ++ y) ≡ f d t
    some d t m n = elim (cases_lt t h) [
      | inl k ↦ append-left d t x y (outside h b y hy.inside d t (inl k)) ∙ hx.same d t m k
      | inr k ↦ append-none d t x y (outside a h x hx.inside d t (inr k)) ∙ hy.same d t k n
    ]
