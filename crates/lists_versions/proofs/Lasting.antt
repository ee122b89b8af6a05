-- The last life of a document, as changes come.
use Rattle.std.specs.Prelude.{◌≡◌, ◌⊎◌, ◌↔◌, ℕ, ◌<◌, ◌≤◌, ◌==◌, false, List, [], ◌∷◌, ◌++◌, length, Option, Some, None, IsSome, IfSome, MatchOption, All, refl}
use Rattle.std.specs.List.Sorted.{IsNonDecreasingBy}
use Rattle.std.proofs.Common.{arith, ap, sym, subst, ◌∙◌, inl, inr, length-append}
use Rattle.std.proofs.Math.Seq.{get_or-append_seam}
use Rattle.std.proofs.lemmas.Bool.{eq-eqb, cases_lt, false≢true}
use Rattle.std.proofs.lemmas.List.{get_or_append_left}
use Rattle.std.proofs.lemmas.List.Elements.{All-filter}
use Rattle.base_types.specs.declared.ids.DocId.{DocId}
use Rattle.base_types.specs.declared.text_place.TextPlace.{TextPlace}
use Rattle.base_types.specs.declared.time.Time.{Time}
use Rattle.lists_versions.specs.declared.change.Change.{Change}
use Rattle.lists_versions.specs.declared.last_life.LastLife.{LastLife}
use Rattle.lists_versions.specs.Changes.{held_at}
use Rattle.lists_versions.specs.LastLives.{LastsAt, IsLastLife}
use Rattle.lists_versions.proofs.Valid.{held_at-later, held_at-other, held_at-same}

-- a change of another document leaves it
pub IsLastLife-other : (doc : DocId) (log : List (Change TextPlace)) (c : Change TextPlace) (life : LastLife) → c.doc.0 == doc.0 ≡ false → IsLastLife doc log life → IsLastLife doc (log ++ c ∷ []) life
IsLastLife-other doc log c life e h t l = let P : Option TextPlace → Type 0 = λ o. IsSome o ↔ LastsAt life t in subst P (sym (held_at-other doc t log c e)) (h t l)

-- a document whose last life has no end is alive from its start on
pub living : (doc : DocId) (log : List (Change TextPlace)) (life : LastLife) → life.until ≡ None → IsLastLife doc log life → (t : ℕ) → life.since.seconds ≤ t → IsSome (held_at doc t log)
living doc log life e h t l = (h t l).1 (rw e tt)

-- a document's last life begins with a change, or has no end and goes on
pub goes_on : (log : List (Change TextPlace)) (c : Change TextPlace) (before : Option LastLife) (life : LastLife) (since start : Time) → before ≡ Some life → IfSome before (IsLastLife c.doc log) → ((life.until ≡ None) × (start ≡ life.since)) ⊎ (start ≡ c.at) → since ≡ start
    → (since ≡ c.at) ⊎ ((t : ℕ) → since.seconds ≤ t → IsSome (held_at c.doc t log))
goes_on log c before life since start is known (inr e) s = inl (s ∙ e)
goes_on log c before life since start is known (inl e) s = inr (λ t l. living c.doc log life e.0 (subst (λ (o : Option LastLife). IfSome o (IsLastLife c.doc log)) is known) t (let same = ap (λ (x : Time). x.seconds) (s ∙ e.1) in omega (arith, same, l)))

-- a change ends a life at its time where it is a deletion, and else not
abbrev pub Ends : Change TextPlace → Option Time → Type 0
Ends c until = MatchOption c.held (until ≡ Some c.at) (λ _. until ≡ None)

module _ (log : List (Change TextPlace)) (c : Change TextPlace) (up : IsNonDecreasingBy (λ d. d.at.seconds) (log ++ c ∷ [])) where
  -- no change is later than the last one
  early : (t : ℕ) → c.at.seconds ≤ t → All (λ d. d.at.seconds ≤ t) log
  early t n k d l =
      let rises = up k (length log) d (omega (arith, l)) (omega (arith, length-append log (c ∷ []))) in
      let one = ap (λ (x : Change TextPlace). x.at.seconds) (get_or_append_left log (c ∷ []) d k l) in
      let last = ap (λ (x : Change TextPlace). x.at.seconds) (get_or-append_seam log c [] d) in
      omega (arith, rises, one, last, n)

  -- from the change on, the document holds what the change does
  from-then : (t : ℕ) → c.at.seconds ≤ t → held_at c.doc t (log ++ c ∷ []) ≡ c.held
  from-then t n = held_at-same c.doc t log c (eq-eqb c.doc.0 c.doc.0 refl) (All-filter (λ d. d.doc.0 == c.doc.0) (λ d. d.at.seconds ≤ t) log (early t n)) n

  -- the last life behind the change: it begins there, or goes on
  pub lasts : (place : ℕ) (since : Time) (until : Option Time) → (since ≡ c.at) ⊎ ((t : ℕ) → since.seconds ≤ t → IsSome (held_at c.doc t log)) → Ends c until → IsLastLife c.doc (log ++ c ∷ []) (record { place = place; since = since; until = until })
  lasts place since until begun ends t l = elim (cases_lt t c.at.seconds) [ inl n ↦ subst P (sym (held_at-later c.doc t log c n)) (before begun n) | inr n ↦ subst P (sym (from-then t n)) (behind c.held until n ends) ]
    where
      P : Option TextPlace → Type 0
      P o = IsSome o ↔ IfSome until (λ end. t < end.seconds)

      is_on : (held : Option TextPlace) (until : Option Time) → t < c.at.seconds → MatchOption held (until ≡ Some c.at) (λ _. until ≡ None) → IfSome until (λ end. t < end.seconds)
      is_on None until n e = rw e n
      is_on (Some text) until n e = rw e tt

      before : (since ≡ c.at) ⊎ ((t : ℕ) → since.seconds ≤ t → IsSome (held_at c.doc t log)) → t < c.at.seconds → IsSome (held_at c.doc t log) ↔ IfSome until (λ end. t < end.seconds)
      before (inl e) n = absurd (let at = ap (λ (x : Time). x.seconds) e in omega (arith, at, l, n))
      before (inr alive) n = (λ _. is_on c.held until n ends, λ _. alive t l)

      behind : (held : Option TextPlace) (until : Option Time) → c.at.seconds ≤ t → MatchOption held (until ≡ Some c.at) (λ _. until ≡ None) → IsSome held ↔ IfSome until (λ end. t < end.seconds)
      behind None until n e = rw e (λ s. absurd (false≢true s), λ k. absurd (omega (arith, k, n)))
      behind (Some text) until n e = rw e (λ _. tt, λ _. refl)
