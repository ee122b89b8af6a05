-- A document's changes inside a window, noted from the last one back.
use Rattle.std.specs.Prelude.{◌≡◌, ◌⊎◌, ℕ, zero, suc, ◌+◌, ◌-◌, ◌<◌, ◌≤◌, List, [], ◌∷◌, ◌++◌, length, take, get_or, slice_get, ◌==◌, Some, None, Contains, refl}
use Rattle.std.specs.List.Sorted.{IsNonDecreasingBy}
use Rattle.std.proofs.Common.{arith, ap, sym, ◌∙◌, subst, inl, inr}
use Rattle.std.proofs.lemmas.Bool.{cases_lt, eq-eqb}
use Rattle.std.proofs.lemmas.List.{length-take-le, get_or-take}
use Rattle.std.proofs.lemmas.List.Elements.{Contains-append_left, Contains-push, Contains-push_cases}
use Rattle.base_types.specs.declared.ids.DocId.{DocId}
use Rattle.base_types.specs.declared.text_place.TextPlace.{TextPlace}
use Rattle.lists_postings.specs.declared.event.Event.{Event}
use Rattle.lists_versions.specs.declared.change.Change.{Change}
use Rattle.lists_postings.proofs.Elements.{filter-in, filter-from, none}
use Rattle.lists_versions.specs.Changes.{changes_of}
use Rattle.lists_versions.specs.Index.{IsLatest}
use Rattle.lists_versions.proofs.Listed.{some_of}
use Rattle.lists_versions.proofs.Valid.{take-next}
use Rattle.lists_versions.specs.Walks.{IsOf, IsReached, AreBehind}

-- an event of the document at a time is among these
abbrev pub IsThere : List Event → DocId → ℕ → Type 0
IsThere events doc t = (x : Event) × Contains events x × (x.doc ≡ doc) × (x.at.seconds ≡ t)

-- no change up to a place is later than the one there
not-later : (log : List (Change TextPlace)) (j : ℕ) (x c : Change TextPlace) → IsNonDecreasingBy (λ y. y.at.seconds) log → j < length log → Contains (take (j + 1) log) c → c.at.seconds ≤ (get_or log j x).at.seconds
not-later log j x c up n (k, m, e) =
    let inside : k < j + 1 = omega (arith, m, length-take-le (j + 1) log (omega (arith, n))) in
    let is : get_or log k c ≡ c = sym (get_or-take (j + 1) log k c inside) ∙ e in
    let one = ap (λ (y : Change TextPlace). y.at.seconds) is in
    let two = ap (λ (y : Change TextPlace). y.at.seconds) (same-read log j c x n) in
    elim (cases_lt k j) [
      | inl l ↦ (let rise = up k j c (omega (arith, l)) (omega (arith, n)) in omega (arith, rise, one, two))
      | inr l ↦ (let here = ap (λ i. (get_or log i c).at.seconds) (let i : k ≡ j = omega (arith, l, inside) in i) in omega (arith, one, two, here))
    ]
  where
    same-read : (xs : List (Change TextPlace)) (q : ℕ) (y z : Change TextPlace) → q < length xs → get_or xs q y ≡ get_or xs q z
    same-read [] q y z v = absurd (omega (arith, v))
    same-read (w ∷ xs) zero y z v = refl
    same-read (w ∷ xs) (suc q) y z v = same-read xs q y z (omega (arith, v))

-- of the document's changes inside [a, b) those are noted that aren't among the ones up to a place before a time
pub record AreNotedFrom (log : List (Change TextPlace)) (doc : DocId) (a b latest place end : ℕ) (old new : List Event) : Type 0 where
  pub of : IsOf doc log place
  pub kept : (x : Event) → Contains old x → Contains new x
  pub only : (x : Event) → Contains new x → Contains old x ⊎ ((x.doc ≡ doc) × (a ≤ x.at.seconds) × (x.at.seconds < b))
  pub noted : (c : Change TextPlace) → Contains (take (latest + 1) log) c → c.doc ≡ doc → a < c.at.seconds → c.at.seconds < b → IsThere new doc c.at.seconds ⊎ (Contains (take (place + 1) log) c × (c.at.seconds < end))

module _ (log : List (Change TextPlace)) (doc : DocId) (a b latest place end : ℕ) (old new : List Event) (up : IsNonDecreasingBy (λ y. y.at.seconds) log) (h : AreNotedFrom log doc a b latest place end old new) where
  pub out : AreBehind doc (end - 1) log place → (c : Change TextPlace) → Contains (take (latest + 1) log) c → c.doc ≡ doc → a < c.at.seconds → c.at.seconds < b → IsThere new doc c.at.seconds
  out g c k e x y = elim (h.noted c k e x y) [ inl t ↦ t | inr r ↦ absurd (g c r.0 e (omega (arith, r.1))) ]

  module _ (found : ℕ) (n : found < length log) (x : Change TextPlace) (r : IsReached doc (end - 1) log place found) where
    pub early : (get_or log found x).at.seconds ≤ a → (c : Change TextPlace) → Contains (take (latest + 1) log) c → c.doc ≡ doc → a < c.at.seconds → c.at.seconds < b → IsThere new doc c.at.seconds
    early l c k e lo hi = elim (h.noted c k e lo hi) [ inl t ↦ t | inr q ↦ absurd (omega (arith, l, lo, not-later log found x c up n (r.rest c q.0 e (omega (arith, q.1))))) ]

    pub noted-more : (more : List Event) (event : Event) → more ≡ new ++ event ∷ [] → event.doc ≡ doc → event.at.seconds ≡ (get_or log found x).at.seconds → a < (get_or log found x).at.seconds → (get_or log found x).at.seconds < b
        → AreNotedFrom log doc a b latest found (get_or log found x).at.seconds old more
    noted-more more event is d t lo hi = record {
      of = r.of;
      kept = λ y c. grown y (h.kept y c);
      only = λ y c. elim (Contains-push_cases new event y (subst (λ l. Contains l y) is c)) [
        | inl m ↦ h.only y m
        | inr s ↦ inr (ap (λ (z : Event). z.doc) (sym s) ∙ d, omega (arith, ap (λ (z : Event). z.at.seconds) s, t, lo), omega (arith, ap (λ (z : Event). z.at.seconds) s, t, hi))
      ];
      noted = λ c k e l m. elim (h.noted c k e l m) [
        | inl (y, q, i, j) ↦ inl (y, grown y q, i, j)
        | inr q ↦ (
            let within = r.rest c q.0 e (omega (arith, q.1)) in
            elim (cases_lt c.at.seconds (get_or log found x).at.seconds) [
              | inl s ↦ inr (within, s)
              | inr s ↦ inl (event, subst (λ l. Contains l event) (sym is) (Contains-push new event), d, omega (arith, s, t, not-later log found x c up n within))
            ])
      ];
    }
      where
        grown : (y : Event) → Contains new y → Contains more y
        grown y c = subst (λ l. Contains l y) (sym is) (Contains-append_left new (event ∷ []) y c)

-- where a document's latest change lies, all of them lie up to there
pub all-upto : (doc : DocId) (log : List (Change TextPlace)) (i : ℕ) → IsLatest doc log (Some i) → (c : Change TextPlace) → Contains log c → c.doc ≡ doc → Contains (take (i + 1) log) c
all-upto doc log i h c k e =
    let at = some_of (slice_get log i) _ h in
    let upto : take (i + 1) log ≡ take i log ++ at.0 ∷ [] = take-next log i at.0 at.1 in
    let mine = filter-in (λ x. x.doc.0 == doc.0) c log k (eq-eqb c.doc.0 doc.0 (ap (λ (x : DocId). x.0) e)) in
    elim (Contains-push_cases (changes_of doc (take i log)) at.0 c (subst (λ xs. Contains xs c) at.2.1 mine)) [
      | inl m ↦ subst (λ xs. Contains xs c) (sym upto) (Contains-append_left (take i log) (at.0 ∷ []) c (filter-from (λ x. x.doc.0 == doc.0) c (take i log) m).0)
      | inr q ↦ subst (λ xs. Contains xs c) (sym upto) (subst (λ x. Contains (take i log ++ at.0 ∷ []) x) q (Contains-push (take i log) at.0))
    ]

pub is-of : (doc : DocId) (log : List (Change TextPlace)) (i : ℕ) → IsLatest doc log (Some i) → IsOf doc log i
is-of doc log i h = let at = some_of (slice_get log i) _ h in rw at.1 at.2.0

pub never : (doc : DocId) (log : List (Change TextPlace)) → IsLatest doc log None → (c : Change TextPlace) → Contains log c → c.doc ≡ doc → ⊥
never doc log h c k e = none c (subst (λ xs. Contains xs c) h (filter-in (λ x. x.doc.0 == doc.0) c log k (eq-eqb c.doc.0 doc.0 (ap (λ (x : DocId). x.0) e))))
