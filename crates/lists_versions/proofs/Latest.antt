-- Where a document's latest change lies, and how that goes on as changes come.
use Rattle.std.specs.Prelude.{◌≡◌, ◌≢◌, ℕ, suc, ◌-◌, ◌≤◌, true, false, cond, ◌==◌, List, [], ◌∷◌, ◌++◌, length, take, slice_get, Option, Some, None, All, refl}
use Rattle.std.proofs.Common.{arith, ap, sym, ◌∙◌}
use Rattle.std.proofs.lemmas.Bool.{ne_eqb}
use Rattle.std.proofs.lemmas.Option.{slice_get_within}
use Rattle.std.proofs.lemmas.List.{take-append-le, append-nil}
use Rattle.std.proofs.lemmas.List.Elements.{filter-append, All-head, All-tail}
use Rattle.std.proofs.Math.Seq.{take-append_seam}
use Rattle.base_types.specs.declared.ids.DocId.{DocId}
use Rattle.lists_versions.specs.declared.change.Change.{Change}
use Rattle.lists_versions.specs.Changes.{changes_of, latest, last_of, last_time}
use Rattle.std.specs.Option.{option_map}
use Rattle.lists_versions.specs.Index.{IsLatest}
use Rattle.lists_versions.proofs.Listed.{some_of, slice_get-end, slice_get-grown, last_of-push}

-- a longer list has the same last element
pub last_of-cons : {A : Type 0} (x y : A) (ys : List A) → last_of (x ∷ y ∷ ys) ≡ last_of (y ∷ ys)
last_of-cons x y ys =
    let m : suc (suc (length ys)) - 1 ≡ suc (length ys) = omega arith in
    let n : suc (length ys) - 1 ≡ length ys = omega arith in
    rw (m, n) refl

module _ {A : Type 0} where
  -- one more change of the document
  pub changes_of-same : (doc : DocId) (changes : List (Change A)) (c : Change A) → c.doc.0 == doc.0 ≡ true → changes_of doc (changes ++ c ∷ []) ≡ changes_of doc changes ++ c ∷ []
  changes_of-same doc changes c e = filter-append (λ d. d.doc.0 == doc.0) changes (c ∷ []) ∙ ap (λ b. changes_of doc changes ++ cond b (c ∷ []) []) e

  -- one more change of another document
  pub changes_of-other : (doc : DocId) (changes : List (Change A)) (c : Change A) → c.doc.0 == doc.0 ≡ false → changes_of doc (changes ++ c ∷ []) ≡ changes_of doc changes
  changes_of-other doc changes c e = filter-append (λ d. d.doc.0 == doc.0) changes (c ∷ []) ∙ ap (λ b. changes_of doc changes ++ cond b (c ∷ []) []) e ∙ append-nil (changes_of doc changes)

  -- other documents' changes alone
  pub changes_of-none : (doc : DocId) (changes : List (Change A)) → All (λ c. c.doc.0 ≢ doc.0) changes → changes_of doc changes ≡ []
  changes_of-none doc [] a = refl
  changes_of-none doc (c ∷ changes) a =
      let ne : c.doc.0 == doc.0 ≡ false = ne_eqb c.doc.0 doc.0 (All-head (λ (c : Change A). c.doc.0 ≢ doc.0) c changes a) in
      rw ne (changes_of-none doc changes (All-tail (λ c. c.doc.0 ≢ doc.0) c changes a))

  -- the change at the place is the latest
  pub latest-some : (doc : DocId) (changes : List (Change A)) (i : ℕ) → IsLatest doc changes (Some i) → latest doc changes ≡ slice_get changes i
  latest-some doc changes i h = let at = some_of (slice_get changes i) _ h in ap last_of at.2.1 ∙ last_of-push (changes_of doc (take i changes)) at.0 ∙ sym at.1

  -- a change of another document leaves it
  pub IsLatest-other : (doc : DocId) (changes : List (Change A)) (place : Option ℕ) (c : Change A) → c.doc.0 == doc.0 ≡ false → IsLatest doc changes place → IsLatest doc (changes ++ c ∷ []) place
  IsLatest-other doc changes None c e h = changes_of-other doc changes c e ∙ h
  IsLatest-other doc changes (Some i) c e h =
      let at = some_of (slice_get changes i) _ h in
      let n : i ≤ length changes = omega (arith, slice_get_within changes i at.0 at.1) in
      rw (slice_get-grown changes (c ∷ []) i at.0 at.1) (at.2.0, changes_of-other doc changes c e ∙ at.2.1 ∙ ap (λ xs. changes_of doc xs ++ at.0 ∷ []) (sym (take-append-le i changes (c ∷ []) n)))

  -- a change of the document takes its place
  pub IsLatest-same : (doc : DocId) (changes : List (Change A)) (c : Change A) → c.doc ≡ doc → c.doc.0 == doc.0 ≡ true → IsLatest doc (changes ++ c ∷ []) (Some (length changes))
  IsLatest-same doc changes c is e =
      rw (slice_get-end changes c) (is, changes_of-same doc changes c e ∙ ap (λ xs. changes_of doc xs ++ c ∷ []) (sym (take-append_seam changes (c ∷ []))))

  -- the time of the last change, as one more comes
  pub last_time-push : (changes : List (Change A)) (c : Change A) → last_time (changes ++ c ∷ []) ≡ Some c.at
  last_time-push changes c = ap (option_map (λ d. d.at)) (last_of-push changes c)
