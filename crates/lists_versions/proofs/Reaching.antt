-- How far a step back through a document's changes leads.
use Rattle.std.specs.Prelude.{◌≡◌, ℕ, ◌+◌, ◌<◌, ◌≤◌, List, [], ◌∷◌, ◌++◌, length, take, drop, ◌==◌, slice_get, Option, Some, None, IfSome, MatchOption, Contains, get_or}
use Rattle.std.proofs.Common.{arith, ap, sym, ◌∙◌, subst, inl, inr}
use Rattle.std.proofs.lemmas.Bool.{eq-eqb, cases_lt}
use Rattle.std.proofs.lemmas.List.{length-take, length-take-le, get_or-take, take-append-drop, take-append-le}
use Rattle.std.proofs.lemmas.List.Elements.{Contains-append_left, Contains-push, Contains-push_cases}
use Rattle.std.proofs.lemmas.Option.{slice_get_within, slice_get-get_or}
use Rattle.base_types.specs.declared.ids.DocId.{DocId}
use Rattle.base_types.specs.declared.text_place.TextPlace.{TextPlace}
use Rattle.lists_postings.proofs.Elements.{filter-in, filter-from, none}
use Rattle.lists_versions.specs.declared.change.Change.{Change}
use Rattle.lists_versions.specs.declared.link.Link.{Link}
use Rattle.lists_versions.specs.Changes.{changes_of}
use Rattle.lists_versions.specs.Index.{IsLatest, IsLinked, AreLinked}
use Rattle.lists_versions.specs.Walks.{IsOf, IsReached, AreBehind}
use Rattle.lists_versions.proofs.Listed.{some_of, slice_get-grown, element_at}
use Rattle.lists_versions.proofs.Valid.{take-next}

pub when-none : {A : Type 0} (o : Option A) (P : Type 0) (Q : A → Type 0) → o ≡ None → MatchOption o P Q → P
when-none o P Q e m = let h : MatchOption None P Q = subst (λ x. MatchOption x P Q) e m in h

pub behind-more : (doc : DocId) (t : ℕ) (log : List (Change TextPlace)) (i j : ℕ) → IsReached doc t log i j → AreBehind doc t log j → AreBehind doc t log i
behind-more doc t log i j h g = λ c m e l. g c (h.rest c m e l) e l

module _ (log : List (Change TextPlace)) (links : List Link) (w : AreLinked log links) (i : ℕ) (n : i < length log) (d : Link) (t : ℕ) (behind : IfSome (slice_get log i) (λ c. t < c.at.seconds)) (doc : DocId) (of : IsOf doc log i) where
  abbrev there : (c : Change TextPlace) × (slice_get log i ≡ Some c) × IsLinked log i c.doc (get_or links i d)
  there = let at = element_at log i n in (at.0, at.1, w.linked i at.0 (get_or links i d) at.1 (slice_get-get_or links i d (omega (arith, w.as_many))))

  late : t < there.0.at.seconds
  late = rw there.1 at behind

  mine : there.0.doc ≡ doc
  mine = rw there.1 at of

  -- what isn't behind the time lies before the place
  before : (c : Change TextPlace) → Contains (take (i + 1) log) c → c.doc ≡ doc → c.at.seconds ≤ t → Contains (changes_of doc (take i log)) c
  before c k e l = elim (Contains-push_cases (take i log) there.0 c (subst (λ xs. Contains xs c) (take-next log i there.0 there.1) k)) [
    | inl m ↦ filter-in (λ x. x.doc.0 == doc.0) c (take i log) m (eq-eqb c.doc.0 doc.0 (ap (λ (x : DocId). x.0) e))
    | inr s ↦ absurd (omega (arith, late, l, ap (λ (x : Change TextPlace). x.at.seconds) s))
  ]

  before_is : (place : Option ℕ) → (get_or links i d).before ≡ place → IsLatest doc (take i log) place
  before_is place e = subst (λ (o : Option ℕ). IsLatest doc (take i log) o) e (subst (λ (x : DocId). IsLatest x (take i log) (get_or links i d).before) mine there.2.before)

  -- where the document has no change before
  pub all-behind : (get_or links i d).before ≡ None → AreBehind doc t log i
  all-behind e = λ c k s l. none c (subst (λ xs. Contains xs c) (before_is None e) (before c k s l))

  -- the change before
  pub to-before : (b : ℕ) → (get_or links i d).before ≡ Some b → IsReached doc t log i b
  to-before b e =
      let at = some_of (slice_get (take i log) b) _ (before_is (Some b) e) in
      let in_front : b < length (take i log) = slice_get_within (take i log) b at.0 at.1 in
      let in_log : slice_get log b ≡ Some at.0 = subst (λ (xs : List (Change TextPlace)). slice_get xs b ≡ Some at.0) (take-append-drop i log) (slice_get-grown (take i log) (drop i log) b at.0 at.1) in
      let front : take b (take i log) ≡ take b log = sym (take-append-le b (take i log) (drop i log) (omega arith)) ∙ ap (take b) (take-append-drop i log) in
      let upto : take (b + 1) log ≡ take b log ++ at.0 ∷ [] = take-next log b at.0 in_log in
      record {
        back = omega (arith, in_front, length-take i log);
        of = rw in_log at.2.0;
        rest = λ c k s l. elim (Contains-push_cases (changes_of doc (take b (take i log))) at.0 c (subst (λ xs. Contains xs c) at.2.1 (before c k s l))) [
          | inl m ↦ subst (λ xs. Contains xs c) (sym upto) (Contains-append_left (take b log) (at.0 ∷ []) c (subst (λ xs. Contains xs c) front (filter-from (λ x. x.doc.0 == doc.0) c (take b (take i log)) m).0))
          | inr q ↦ subst (λ xs. Contains xs c) (sym upto) (subst (λ x. Contains (take b log ++ at.0 ∷ []) x) q (Contains-push (take b log) at.0))
        ];
      }

  -- where the jump leads, if that is behind the time too
  pub to-jump : (x : Change TextPlace) → t < (get_or log (get_or links i d).jump x).at.seconds → IsReached doc t log i (get_or links i d).jump
  to-jump x later =
      let j = (get_or links i d).jump in
      let to = some_of (slice_get log j) _ there.2.same in
      let within : j < length log = omega (arith, n, there.2.back) in
      record {
        back = omega (arith, there.2.back);
        of = rw to.1 (to.2 ∙ mine);
        rest = λ c k s l. go j within later c k l;
      }
    where
      go : (j : ℕ) → j < length log → t < (get_or log j x).at.seconds → (c : Change TextPlace) → Contains (take (i + 1) log) c → c.at.seconds ≤ t → Contains (take (j + 1) log) c
      go j within later c (k, m, e) l =
          let whole : length (take (i + 1) log) ≡ i + 1 = length-take-le (i + 1) log (omega (arith, n)) in
          let inside : k < i + 1 = omega (arith, m, whole) in
          let is : get_or log k c ≡ c = sym (get_or-take (i + 1) log k c inside) ∙ e in
          elim (cases_lt k (j + 1)) [
            | inl near ↦ (k, omega (arith, near, length-take-le (j + 1) log (omega (arith, within))), get_or-take (j + 1) log k c near ∙ is)
            | inr far ↦ absurd (let up = w.ascending j k c (omega (arith, far)) (omega (arith, inside, n)) in
                let one = ap (λ (y : Change TextPlace). y.at.seconds) is in
                let two = ap (λ (y : Change TextPlace). y.at.seconds) (same-read log j c x within) in
                omega (arith, up, one, two, later, l))
          ]
        where
          same-read : (xs : List (Change TextPlace)) (q : ℕ) (y z : Change TextPlace) → q < length xs → get_or xs q y ≡ get_or xs q z
          same-read xs q y z v = some-one (sym (slice_get-get_or xs q y v) ∙ slice_get-get_or xs q z v)
            where
              some-one : Some (get_or xs q y) ≡ Some (get_or xs q z) → get_or xs q y ≡ get_or xs q z
              some-one e = cc
