-- The walk back through a document's changes.
use Rattle.std.specs.Prelude.{◌≡◌, ℕ, ◌+◌, ◌<◌, ◌≤◌, List, [], ◌∷◌, ◌++◌, length, take, drop, ◌==◌, slice_get, Option, Some, None, IfSome, get_or, refl}
use Rattle.std.proofs.Common.{arith, ap, sym, ◌∙◌, subst}
use Rattle.std.proofs.lemmas.List.{length-take, take-append-drop, take-append-le}
use Rattle.std.proofs.lemmas.Bool.{eq-eqb}
use Rattle.lists_versions.proofs.Latest.{changes_of-same}
use Rattle.std.proofs.lemmas.Option.{slice_get_within, slice_get-get_or}
use Rattle.base_types.specs.declared.ids.DocId.{DocId}
use Rattle.base_types.specs.declared.text_place.TextPlace.{TextPlace}
use Rattle.lists_versions.specs.declared.change.Change.{Change}
use Rattle.lists_versions.specs.declared.link.Link.{Link}
use Rattle.lists_versions.specs.Changes.{changes_of, held_at, valid_at}
use Rattle.lists_versions.specs.Index.{IsLatest, IsLinked, AreLinked, Leads}
use Rattle.lists_versions.proofs.Listed.{some_of, slice_get-grown, element_at}
use Rattle.lists_versions.proofs.Valid.{take-next, held_at-cut, held_at-reached, held_at-passed}

-- the changes up to one of the document's
up_to : (doc : DocId) (log : List (Change TextPlace)) (i : ℕ) (c : Change TextPlace) → slice_get log i ≡ Some c → c.doc ≡ doc → changes_of doc (take (i + 1) log) ≡ changes_of doc (take i log) ++ c ∷ []
up_to doc log i c e is = ap (changes_of doc) (take-next log i c e) ∙ changes_of-same doc (take i log) c (ap (λ d. d.0 == doc.0) is ∙ eq-eqb doc.0 doc.0 refl)

-- a document's latest change leads to all of them
pub start : (doc : DocId) (t : ℕ) (log : List (Change TextPlace)) (i : ℕ) → IsLatest doc log (Some i) → Leads doc t log i
start doc t log i h =
    let at = some_of (slice_get log i) _ h in
    record {
      of = rw at.1 at.2.0;
      rest = ap (valid_at t) (at.2.1 ∙ sym (up_to doc log i at.0 at.1 at.2.0));
    }

-- a change that isn't behind the time is the one that is valid
pub reached : (log : List (Change TextPlace)) (links : List Link) → AreLinked log links → (doc : DocId) (t i : ℕ) (x : Change TextPlace) → Leads doc t log i → i < length log → (get_or log i x).at.seconds ≤ t → (get_or log i x).held ≡ held_at doc t log
reached log links w doc t i x h n early =
    let e : slice_get log i ≡ Some (get_or log i x) = slice_get-get_or log i x n in
    sym (h.rest ∙ held_at-reached doc t log i (get_or log i x) w.ascending e (rw e at h.of) early)

module _ (log : List (Change TextPlace)) (links : List Link) (w : AreLinked log links) (i : ℕ) (n : i < length log) (d : Link) where
  -- the change at the place, with its link
  there : (c : Change TextPlace) × (slice_get log i ≡ Some c) × IsLinked log i c.doc (get_or links i d)
  there = let at = element_at log i n in (at.0, at.1, w.linked i at.0 (get_or links i d) at.1 (slice_get-get_or links i d (omega (arith, w.as_many))))

  -- the jump leads to a place of the log
  pub jump_within : (get_or links i d).jump < length log
  jump_within = omega (arith, there.2.back)

  -- where there is a change before, the jump leads back
  pub jump_back : (b : ℕ) → (get_or links i d).before ≡ Some b → (get_or links i d).jump < i
  jump_back b e = omega (arith, there.2.back, there.2.moves (rw e refl))

  -- the change before is before
  pub before_back : (b : ℕ) → (get_or links i d).before ≡ Some b → b < i
  before_back b e =
      let latest : IsLatest there.0.doc (take i log) (Some b) = subst (λ (o : Option ℕ). IsLatest there.0.doc (take i log) o) e there.2.before in
      let at = some_of (slice_get (take i log) b) _ latest in
      omega (arith, slice_get_within (take i log) b at.0 at.1, length-take i log)

  module _ (t : ℕ) (behind : IfSome (slice_get log i) (λ c. t < c.at.seconds)) (doc : DocId) (h : Leads doc t log i) where
    late : t < there.0.at.seconds
    late = rw there.1 at behind

    mine : there.0.doc ≡ doc
    mine = rw there.1 at h.of

    before_is : (place : Option ℕ) → (get_or links i d).before ≡ place → IsLatest doc (take i log) place
    before_is place e = subst (λ (o : Option ℕ). IsLatest doc (take i log) o) e (subst (λ (x : DocId). IsLatest x (take i log) (get_or links i d).before) mine there.2.before)

    -- where the document has no change before one behind the time, it holds nothing
    pub none_left : (get_or links i d).before ≡ None → None ≡ held_at doc t log
    none_left e = sym (held_at-cut doc t log i there.0 w.ascending there.1 late ∙ ap (valid_at t) (before_is None e))

    -- the change before one behind the time
    pub to_before : (b : ℕ) → (get_or links i d).before ≡ Some b → Leads doc t log b
    to_before b e =
        let at = some_of (slice_get (take i log) b) _ (before_is (Some b) e) in
        let in_front : b < length (take i log) = slice_get_within (take i log) b at.0 at.1 in
        let in_log : slice_get log b ≡ Some at.0 = subst (λ (xs : List (Change TextPlace)). slice_get xs b ≡ Some at.0) (take-append-drop i log) (slice_get-grown (take i log) (drop i log) b at.0 at.1) in
        let front : take b (take i log) ≡ take b log = sym (take-append-le b (take i log) (drop i log) (omega arith)) ∙ ap (take b) (take-append-drop i log) in
        record {
          of = rw in_log at.2.0;
          rest = held_at-cut doc t log i there.0 w.ascending there.1 late ∙ ap (valid_at t) (at.2.1 ∙ ap (λ xs. changes_of doc xs ++ at.0 ∷ []) front ∙ sym (up_to doc log b at.0 in_log at.2.0));
        }

    -- where the jump leads, if that is behind the time too
    pub to_jump : (x : Change TextPlace) → t < (get_or log (get_or links i d).jump x).at.seconds → Leads doc t log (get_or links i d).jump
    to_jump x later =
        let to = some_of (slice_get log (get_or links i d).jump) _ there.2.same in
        record {
          of = rw to.1 (to.2 ∙ mine);
          rest = held_at-passed doc t log (get_or links i d).jump _ w.ascending (slice_get-get_or log (get_or links i d).jump x jump_within) later;
        }
