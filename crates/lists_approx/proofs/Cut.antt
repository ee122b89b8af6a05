-- A list in which a posting is cut in two, and what follows for a longest-first approximation: it is fewest.
use Rattle.std.specs.Prelude.{◌≡◌, ◌⊎◌, ℕ, zero, suc, ◌<◌, ◌≤◌, List, [], ◌∷◌, ◌++◌, Contains, refl}
use Rattle.std.proofs.Common.{arith, ap, sym, ◌∙◌, subst, inl, inr}
use Rattle.std.proofs.lemmas.Bool.{cases_lt}
use Rattle.std.proofs.lemmas.List.Elements.{Contains-append_right}
use Rattle.base_types.specs.declared.posting.Posting.{Posting}
use Rattle.lists_postings.specs.Lists.{ComesBefore, IsList, frequency}
use Rattle.lists_postings.proofs.Coalesced.{rows-joined}
use Rattle.lists_postings.proofs.Frequencies.{frequency-of, found}
use Rattle.lists_postings.proofs.Order.{Heads, next-tail, next-head, next-cons}
use Rattle.lists_approx.specs.Approximations.{IsNear, Approximates, IsLongestFirst, IsFewest}
use Rattle.base_types.specs.declared.tolerance.Tolerance.{Tolerance}
use Rattle.lists_approx.proofs.Fewest.{EndsIn, ends-count}
use Rattle.lists_approx.proofs.Near.{near_none, none_near}
use Rattle.lists_approx.proofs.Places.{replace, front-same}

-- a list around one of its elements
record IsAround (list : List Posting) (q : Posting) : Type 0 where
  pub front : List Posting
  pub back : List Posting
  pub is : list ≡ front ++ q ∷ back

around : (list : List Posting) (q : Posting) → Contains list q → IsAround list q
around [] q (k, l, e) = absurd (omega (arith, l))
around (p ∷ list) q (zero, l, e) = record { front = []; back = list; is = ap (λ x. x ∷ list) e }
around (p ∷ list) q (suc k, l, e) = let r = around list q (k, omega (arith, l), e) in record { front = p ∷ r.front; back = r.back; is = ap (λ x. p ∷ x) r.is }

-- the part of a posting up to a time, and from it on
abbrev first-part : (q : Posting) (s : ℕ) → q.span.from < s → s < q.span.to → Posting
first-part q s a b = record { doc = q.doc; tf = q.tf; span = record { from = q.span.from; to = s; ordered = a; in_time = let t = q.span.in_time in omega (arith, b, t) }; numbered = q.numbered; counted = q.counted; bounded = q.bounded }

abbrev last-part : (q : Posting) (s : ℕ) → q.span.from < s → s < q.span.to → Posting
last-part q s a b = record { doc = q.doc; tf = q.tf; span = record { from = s; to = q.span.to; ordered = b; in_time = q.span.in_time }; numbered = q.numbered; counted = q.counted; bounded = q.bounded }

module _ (tolerance : Tolerance) (list short : List Posting) (h : IsLongestFirst tolerance list short) where
  -- a posting of another approximation that holds the start of one of these ends no later
  no-later : (other : List Posting) (p q : Posting) → IsList other → Approximates tolerance other list → Contains short p → Contains other q → q.doc.0 ≡ p.doc.0 → q.span.from ≤ p.span.from → p.span.from < q.span.to → q.span.to ≤ p.span.to
  no-later other p q lo n c k d f t = go (cases_lt q.span.from p.span.from)
    where
      go : ((q.span.from < p.span.from) ⊎ (p.span.from ≤ q.span.from)) → q.span.to ≤ p.span.to
      go (inr e) = h.longest other p q lo n c k d (omega (arith, e, f))
      go (inl a) = h.longest (r.front ++ one ∷ two ∷ r.back) p two ordered near c (Contains-append_right r.front (one ∷ two ∷ r.back) two (suc zero, omega arith, refl)) d refl
        where
          r : IsAround other q
          r = around other q k

          one : Posting
          one = first-part q p.span.from a t

          two : Posting
          two = last-part q p.span.from a t

          whole : IsList (r.front ++ q ∷ r.back)
          whole = subst (λ x. IsList x) r.is lo

          ahead : (back : List Posting) → Heads ComesBefore q back → Heads ComesBefore two back
          ahead [] x = tt
          ahead (b ∷ back) x = x

          ordered : IsList (r.front ++ one ∷ two ∷ r.back)
          ordered = replace ComesBefore r.front q one r.back (two ∷ r.back) (λ b x. x) (λ x. (inr (refl, omega arith), next-cons ComesBefore two r.back (ahead r.back (next-head ComesBefore q r.back x)) (next-tail ComesBefore q r.back x))) whole

          near : Approximates tolerance (r.front ++ one ∷ two ∷ r.back) list
          near e s =
              let rows : frequency e s (q ∷ r.back) ≡ frequency e s (one ∷ two ∷ r.back) = rows-joined one two q r.back (record { doc = refl; tf = refl; at = refl }) (record { doc = refl; tf = refl; from = refl; to = refl }) e s in
              let same : frequency e s other ≡ frequency e s (r.front ++ one ∷ two ∷ r.back) = ap (λ x. frequency e s x) r.is ∙ front-same e s r.front (q ∷ r.back) (one ∷ two ∷ r.back) rows in
              subst (λ m. IsNear tolerance m (frequency e s list)) same (n e s)

  pub longest-first-fewest : IsFewest tolerance list short
  longest-first-fewest other lo n = ends-count short other h.ordered lo each
    where
      positive : (m : ℕ) → (m ≡ 0 → ⊥) → 0 < m
      positive zero x = absurd (x refl)
      positive (suc m) x = omega arith

      each : (p : Posting) → Contains short p → (q : Posting) × Contains other q × EndsIn p q
      each p c =
          let o : p.span.from < p.span.to = p.span.ordered in
          let a : frequency p.doc.0 p.span.from short ≡ p.tf = frequency-of p.doc.0 p.span.from p short h.ordered c refl (omega arith) o in
          let z : frequency p.doc.0 p.span.from other ≡ 0 → ⊥ = λ e. omega (arith, a, p.counted, near_none tolerance (frequency p.doc.0 p.span.from short) (frequency p.doc.0 p.span.from list) (h.near p.doc.0 p.span.from) (none_near tolerance (frequency p.doc.0 p.span.from other) (frequency p.doc.0 p.span.from list) (n p.doc.0 p.span.from) e)) in
          let (q, m, d, b, e, f) = found p.doc.0 p.span.from other (positive (frequency p.doc.0 p.span.from other) z) in
          (q, m, record { doc = sym d; after = e; most = no-later other p q lo n c m d b e })
