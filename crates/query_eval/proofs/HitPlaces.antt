-- The places between which the hits of a document lie.
use Rattle.std.proofs.Common.{◌≡◌, ◌≢◌, ℕ, ◌+◌, ◌-◌, ◌<◌, ◌≤◌, nat_le, nat_lt, ◌==◌, true, false, List, ◌++◌, length, get_or, take, drop, All, ap, sym, ◌∙◌, arith, append_assoc, inl, inr}
use Rattle.std.specs.List.Sorted.{IsPartitionedBy, IsPartitionPoint, IsNonDecreasingBy}
use Rattle.std.proofs.lemmas.Bool.{eq-eqb, cases_lt}
use Rattle.std.proofs.lemmas.Bool.Decides.{nat_tests}
use Rattle.std.proofs.lemmas.List.{take_all, take-append-drop, length-take-le, length-drop, get_or-take, get_or-drop}
use Rattle.std.proofs.lemmas.List.Elements.{All-from_get_or}
use Rattle.std.proofs.Math.Seq.{take-add}
use Rattle.base_types.specs.declared.ids.DocId.{DocId}
use Rattle.query_eval.specs.declared.hit.Hit.{Hit}
use Rattle.query_eval.specs.Hits.{hits_of, is_before, is_up_to, IsCut}
use Rattle.query_eval.proofs.FoundLemmas.{get-any}
use Rattle.query_eval.proofs.HitLemmas.{middle}

pub before_first : (doc : ℕ) (hits : List Hit) → IsNonDecreasingBy (λ h. h.doc.0) hits → IsPartitionedBy (is_before doc) hits
before_first doc hits up i j d h m e = go (get_or hits i d) (get_or hits j d) (up i j d h m) e
  where
    go : (p q : Hit) → p.doc.0 ≤ q.doc.0 → nat_lt q.doc.0 doc ≡ true → nat_lt p.doc.0 doc ≡ true
    go p q h e = grind (arith, nat_tests)

pub up_to_first : (doc : ℕ) (hits : List Hit) → IsNonDecreasingBy (λ h. h.doc.0) hits → IsPartitionedBy (is_up_to doc) hits
up_to_first doc hits up i j d h m e = go (get_or hits i d) (get_or hits j d) (up i j d h m) e
  where
    go : (p q : Hit) → p.doc.0 ≤ q.doc.0 → nat_le q.doc.0 doc ≡ true → nat_le p.doc.0 doc ≡ true
    go p q h e = grind (arith, nat_tests)

pub drop_rises : (hits : List Hit) (s : ℕ) → IsNonDecreasingBy (λ h. h.doc.0) hits → IsNonDecreasingBy (λ h. h.doc.0) (drop s hits)
drop_rises hits s up i j d h m = rw (get_or-drop s hits i d, get_or-drop s hits j d) (up (s + i) (s + j) d (omega (arith, h)) (omega (arith, m, length-drop s hits)))

pub between : (doc : DocId) (hits : List Hit) (s k : ℕ) → s ≤ length hits → IsPartitionPoint (λ h. is_before doc.0 h ≡ true) (λ h. is_before doc.0 h ≡ false) hits s
    → k ≤ length (drop s hits) → IsPartitionPoint (λ h. is_up_to doc.0 h ≡ true) (λ h. is_up_to doc.0 h ≡ false) (drop s hits) k
    → take k (take (length hits - s) (drop s hits)) ≡ hits_of doc hits
between doc hits s k sl p kl q =
    ap (take k) (take_all (length hits - s) (drop s hits) (omega (arith, length-drop s hits)))
    ∙ sym (middle doc (take s hits) (take k (drop s hits)) (drop k (drop s hits)) early mine late)
    ∙ ap (hits_of doc) (append_assoc (take s hits) (take k (drop s hits)) (drop k (drop s hits)) ∙ ap (λ (l : List Hit). take s hits ++ l) (take-append-drop k (drop s hits)) ∙ take-append-drop s hits)
  where
    x : Hit
    x = record { doc = doc; place = 0; tf = 0 }

    lt : (h : Hit) → is_before doc.0 h ≡ true → h.doc.0 < doc.0
    lt h e = grind (arith, nat_tests)

    eq : (h : Hit) → is_before doc.0 h ≡ false → is_up_to doc.0 h ≡ true → h.doc.0 ≡ doc.0
    eq h e f = grind (arith, nat_tests)

    gt : (h : Hit) → is_up_to doc.0 h ≡ false → doc.0 < h.doc.0
    gt h e = grind (arith, nat_tests)

    early : All (λ h. h.doc.0 < doc.0) (take s hits)
    early = All-from_get_or (λ (h : Hit). h.doc.0 < doc.0) (take s hits) x (λ i m.
        let n : i < s = omega (arith, m, length-take-le s hits sl) in
        rw (get_or-take s hits i x n) (lt (get_or hits i x) (p.0 i x (omega arith) n)))

    not_before : (i : ℕ) → i < length (drop s hits) → is_before doc.0 (get_or (drop s hits) i x) ≡ false
    not_before i m = rw (get_or-drop s hits i x) (p.1 (s + i) x (omega arith) (omega (arith, m, length-drop s hits)))

    mine : All (λ h. h.doc.0 ≡ doc.0) (take k (drop s hits))
    mine = All-from_get_or (λ (h : Hit). h.doc.0 ≡ doc.0) (take k (drop s hits)) x (λ i m.
        let n : i < k = omega (arith, m, length-take-le k (drop s hits) kl) in
        rw (get_or-take k (drop s hits) i x n) (eq (get_or (drop s hits) i x) (not_before i (omega (arith, n, kl))) (q.0 i x (omega arith) n)))

    late : All (λ h. doc.0 < h.doc.0) (drop k (drop s hits))
    late = All-from_get_or (λ (h : Hit). doc.0 < h.doc.0) (drop k (drop s hits)) x (λ i m.
        rw (get_or-drop k (drop s hits) i x) (gt (get_or (drop s hits) (k + i) x) (q.1 (k + i) x (omega arith) (omega (arith, m, length-drop k (drop s hits))))))

-- hits of one document between a cut and the next hit of another are the document's
module _ (hits : List Hit) (s e doc : ℕ) (x : Hit) (up : IsNonDecreasingBy (λ h. h.doc.0) hits) (cut : IsCut hits s) (behind : s < e) (inside : e ≤ length hits)
    (same : (i : ℕ) (h : Hit) → s ≤ i → i < e → (get_or hits i h).doc.0 ≡ doc) (other : e < length hits → (get_or hits e x).doc.0 == doc ≡ false) where
  differ : (n : ℕ) → n == doc ≡ false → n ≢ doc
  differ n h i = absurd (let t = eq-eqb n doc i in cc)

  past : (j : ℕ) (h : Hit) → e ≤ j → j < length hits → doc < (get_or hits j h).doc.0
  past j h l m =
      let a = same s h (omega arith) behind in
      let b = up s e h (omega (arith, behind)) (omega (arith, l, m)) in
      let c = up e j h l m in
      let k : e < length hits = omega (arith, l, m) in
      let n = differ (get_or hits e x).doc.0 (other k) in
      let d = ap (λ (y : Hit). y.doc.0) (get-any hits e x h k) in
      elim (cases_lt doc (get_or hits e h).doc.0) [ inl i ↦ omega (arith, i, c) | inr i ↦ absurd (n (d ∙ omega (arith, a, b, i))) ]

  pub next_cut : IsCut hits e
  next_cut i j h k l m =
      let a = up i (e - 1) h (omega (arith, k)) (omega (arith, behind, inside)) in
      let b = same (e - 1) h (omega (arith, behind)) (omega (arith, behind)) in
      let c = past j h l m in
      omega (arith, a, b, c)

  pub group_is : (h : Hit) → take (e - s) (drop s hits) ≡ hits_of (get_or hits s h).doc hits
  group_is h = sym (middle d (take s hits) (take (e - s) (drop s hits)) (drop e hits) early mine late) ∙ ap (hits_of d) split
    where
      d : DocId
      d = (get_or hits s h).doc

      is : d.0 ≡ doc
      is = same s h (omega arith) behind

      split : take s hits ++ take (e - s) (drop s hits) ++ drop e hits ≡ hits
      split =
          let n : s + (e - s) ≡ e = omega (arith, behind) in
          ap (λ (l : List Hit). l ++ drop e hits) (sym (take-add s (e - s) hits) ∙ ap (λ k. take k hits) n) ∙ take-append-drop e hits

      early : All (λ x. x.doc.0 < d.0) (take s hits)
      early = All-from_get_or (λ (x : Hit). x.doc.0 < d.0) (take s hits) h (λ i m.
          let n : i < s = omega (arith, m, length-take-le s hits (omega (arith, behind, inside))) in
          rw (get_or-take s hits i h n) (cut i s h n (omega arith) (omega (arith, behind, inside))))

      mine : All (λ x. x.doc.0 ≡ d.0) (take (e - s) (drop s hits))
      mine = All-from_get_or (λ (x : Hit). x.doc.0 ≡ d.0) (take (e - s) (drop s hits)) h (λ i m.
          let n : i < e - s = omega (arith, m, length-take-le (e - s) (drop s hits) (omega (arith, inside, length-drop s hits))) in
          rw (get_or-take (e - s) (drop s hits) i h n, get_or-drop s hits i h) (same (s + i) h (omega arith) (omega (arith, n)) ∙ sym is))

      late : All (λ x. d.0 < x.doc.0) (drop e hits)
      late = All-from_get_or (λ (x : Hit). d.0 < x.doc.0) (drop e hits) h (λ i m.
          let p = past (e + i) h (omega arith) (omega (arith, m, length-drop e hits)) in
          rw (get_or-drop e hits i h) (omega (arith, p, is)))
