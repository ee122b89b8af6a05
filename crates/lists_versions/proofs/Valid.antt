-- Which version is valid at a time, by the changes up to a place.
use Rattle.std.specs.Prelude.{◌≡◌, ℕ, zero, suc, ◌+◌, ◌-◌, ◌<◌, ◌≤◌, ◌==◌, ◌&&◌, nat_lt, nat_le, Bool, true, false, cond, List, [], ◌∷◌, ◌++◌, length, take, get_or, slice_get, Some, None, All, refl}
use Rattle.std.specs.List.Sorted.{IsNonDecreasingBy}
use Rattle.std.proofs.Common.{arith, ap, sym, ◌∙◌}
use Rattle.std.proofs.lemmas.Bool.{eq-eqb, lt-ltb, le-ltb, le-leb, lt-leb}
use Rattle.std.proofs.lemmas.List.{take_more, take_all, length-take, get_or-take}
use Rattle.std.proofs.lemmas.List.Elements.{All-head, All-tail, All-filter}
use Rattle.std.proofs.lemmas.Option.{slice_get_within, get_or_from_slice_get}
use Rattle.base_types.specs.declared.ids.DocId.{DocId}
use Rattle.lists_versions.specs.declared.change.Change.{Change}
use Rattle.lists_versions.specs.Changes.{changes_of, valid_at, held_at}
use Rattle.lists_versions.proofs.Latest.{changes_of-same, changes_of-other}

-- a change stands at its place, behind those before it
pub take-next : {A : Type 0} (xs : List A) (i : ℕ) (x : A) → slice_get xs i ≡ Some x → take (i + 1) xs ≡ take i xs ++ x ∷ []
take-next xs i x e = take_more xs i x (slice_get_within xs i x e) ∙ ap (λ y. take i xs ++ y ∷ []) (get_or_from_slice_get xs i x x e)

module _ {A : Type 0} where
  -- a change behind the time leaves what is valid
  pub valid_at-later : (t : ℕ) (changes : List (Change A)) (c : Change A) → t < c.at.seconds → valid_at t (changes ++ c ∷ []) ≡ valid_at t changes
  valid_at-later t [] c h = rw (lt-leb c.at.seconds t h) refl
  valid_at-later t (d ∷ []) c h = rw (lt-ltb t c.at.seconds h, lt-leb c.at.seconds t h) (go (nat_le d.at.seconds t))
    where
      go : (b : Bool) → cond (b && true) d.held None ≡ cond b d.held None
      go true = refl
      go false = refl
  valid_at-later t (d ∷ e ∷ changes) c h = ap (cond (nat_le d.at.seconds t && nat_lt t e.at.seconds) d.held) (valid_at-later t (e ∷ changes) c h)

  -- the last change is valid at times from its own on
  pub valid_at-last : (t : ℕ) (changes : List (Change A)) (c : Change A) → All (λ d. d.at.seconds ≤ t) changes → c.at.seconds ≤ t → valid_at t (changes ++ c ∷ []) ≡ c.held
  valid_at-last t [] c a h = rw (le-leb c.at.seconds t h) refl
  valid_at-last t (d ∷ []) c a h = rw (le-ltb t c.at.seconds h, le-leb c.at.seconds t h) (go (nat_le d.at.seconds t))
    where
      go : (b : Bool) → cond (b && false) d.held c.held ≡ c.held
      go true = refl
      go false = refl
  valid_at-last t (d ∷ e ∷ changes) c a h =
      let rest : All (λ d. d.at.seconds ≤ t) (e ∷ changes) = All-tail (λ d. d.at.seconds ≤ t) d (e ∷ changes) a in
      rw (le-ltb t e.at.seconds (All-head (λ d. d.at.seconds ≤ t) e changes rest)) (go (nat_le d.at.seconds t) (valid_at-last t (e ∷ changes) c rest h))
    where
      go : (b : Bool) → valid_at t ((e ∷ changes) ++ c ∷ []) ≡ c.held → cond (b && false) d.held (valid_at t ((e ∷ changes) ++ c ∷ [])) ≡ c.held
      go true q = q
      go false q = q

  -- a change behind the time leaves what the document holds then
  pub held_at-later : (doc : DocId) (t : ℕ) (changes : List (Change A)) (c : Change A) → t < c.at.seconds → held_at doc t (changes ++ c ∷ []) ≡ held_at doc t changes
  held_at-later doc t changes c h = go (c.doc.0 == doc.0) refl
    where
      go : (b : Bool) → c.doc.0 == doc.0 ≡ b → held_at doc t (changes ++ c ∷ []) ≡ held_at doc t changes
      go true e = ap (valid_at t) (changes_of-same doc changes c e) ∙ valid_at-later t (changes_of doc changes) c h
      go false e = ap (valid_at t) (changes_of-other doc changes c e)

  -- nothing counts from a change behind the time on
  pub held_at-cut : (doc : DocId) (t : ℕ) (log : List (Change A)) (i : ℕ) (c : Change A) → IsNonDecreasingBy (λ d. d.at.seconds) log → slice_get log i ≡ Some c → t < c.at.seconds → held_at doc t log ≡ held_at doc t (take i log)
  held_at-cut doc t log i c up e h =
      let n : i < length log = slice_get_within log i c e in
      ap (held_at doc t) (sym (take_all (i + (length log - i)) log (omega arith))) ∙ go (length log - i) (omega arith)
    where
      go : (n : ℕ) → i + n ≤ length log → held_at doc t (take (i + n) log) ≡ held_at doc t (take i log)
      go zero m = ap (λ k. held_at doc t (take k log)) (let z : i + 0 ≡ i = omega arith in z)
      go (suc n) m =
          let k : i + suc n ≡ (i + n) + 1 = omega arith in
          let before : c.at.seconds ≤ (get_or log (i + n) c).at.seconds = omega (arith, up i (i + n) c (omega arith) (omega arith), ap (λ d. d.at.seconds) (get_or_from_slice_get log i c c e)) in
          rw (k, take_more log (i + n) c (omega arith)) (held_at-later doc t (take (i + n) log) (get_or log (i + n) c) (omega arith) ∙ go n (omega arith))

  -- a change of the document that isn't behind the time is what is valid among the changes up to it
  pub held_at-reached : (doc : DocId) (t : ℕ) (log : List (Change A)) (i : ℕ) (c : Change A) → IsNonDecreasingBy (λ d. d.at.seconds) log → slice_get log i ≡ Some c → c.doc ≡ doc → c.at.seconds ≤ t → held_at doc t (take (i + 1) log) ≡ c.held
  held_at-reached doc t log i c up e is h =
      ap (λ cs. held_at doc t cs) (take-next log i c e)
      ∙ ap (valid_at t) (changes_of-same doc (take i log) c (ap (λ d. d.0 == doc.0) is ∙ eq-eqb doc.0 doc.0 refl))
      ∙ valid_at-last t (changes_of doc (take i log)) c (All-filter (λ d. d.doc.0 == doc.0) (λ d. d.at.seconds ≤ t) (take i log) early) h
    where
      early : All (λ d. d.at.seconds ≤ t) (take i log)
      early = λ k d n.
          let m : k < i = omega (arith, n, length-take i log) in
          let in_log : i < length log = slice_get_within log i c e in
          rw (get_or-take i log k d m) (let up_to : (get_or log k d).at.seconds ≤ (get_or log i d).at.seconds = up k i d (omega arith) in_log in let is_c : (get_or log i d).at.seconds ≡ c.at.seconds = ap (λ x. x.at.seconds) (get_or_from_slice_get log i c d e) in omega arith)

  -- a change of the document behind the time: only those before it count, and they are those up to it
  pub held_at-passed : (doc : DocId) (t : ℕ) (log : List (Change A)) (i : ℕ) (c : Change A) → IsNonDecreasingBy (λ d. d.at.seconds) log → slice_get log i ≡ Some c → t < c.at.seconds → held_at doc t log ≡ held_at doc t (take (i + 1) log)
  held_at-passed doc t log i c up e h = held_at-cut doc t log i c up e h ∙ sym (ap (held_at doc t) (take-next log i c e) ∙ held_at-later doc t (take i log) c h)

  -- a change of another document leaves what the document holds
  pub held_at-other : (doc : DocId) (t : ℕ) (changes : List (Change A)) (c : Change A) → c.doc.0 == doc.0 ≡ false → held_at doc t (changes ++ c ∷ []) ≡ held_at doc t changes
  held_at-other doc t changes c e = ap (valid_at t) (changes_of-other doc changes c e)

  -- a change of the document holds from its time on
  pub held_at-same : (doc : DocId) (t : ℕ) (changes : List (Change A)) (c : Change A) → c.doc.0 == doc.0 ≡ true → All (λ d. d.at.seconds ≤ t) (changes_of doc changes) → c.at.seconds ≤ t → held_at doc t (changes ++ c ∷ []) ≡ c.held
  held_at-same doc t changes c e a h = ap (valid_at t) (changes_of-same doc changes c e) ∙ valid_at-last t (changes_of doc changes) c a h
