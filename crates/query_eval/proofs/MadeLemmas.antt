-- Rows made of hits, one document after another.
use Rattle.std.proofs.Common.{option_to_list, ◌≡◌, ◌↔◌, ℕ, ◌+◌, ◌-◌, ◌<◌, ◌≤◌, Bool, true, false, cond, List, [], ◌∷◌, ◌++◌, length, map, filter, take, drop, get_or, Contains, Option, Some, None, refl, sym, ap, subst, ◌∙◌, arith, inl, inr}
use Rattle.std.proofs.lemmas.List.{map-append, length-drop, length-take-le, get_or-take, get_or-drop}
use Rattle.std.proofs.lemmas.List.Elements.{filter_map-append, Contains-get_or, Contains-append_left, Contains-append_right, Contains-append_cases}
use Rattle.std.proofs.Math.Seq.{take-add}
use Rattle.std.specs.List.{filter_map}
use Rattle.base_types.specs.declared.ids.DocId.{DocId}
use Rattle.query_lang.specs.Grammar.{Query}
use Rattle.query_lang.specs.Meaning.{words_of}
use Rattle.query_eval.specs.Found.{row_of}
use Rattle.query_eval.specs.Hits.{found, hits_of, AreMade}
use Rattle.query_eval.specs.declared.answer.Row.{Row}
use Rattle.query_eval.specs.declared.hit.Hit.{Hit}
use Rattle.lists_postings.proofs.Elements.{here, here-or-later, none}
use Rattle.query_eval.proofs.FoundLemmas.{row-is}
use Rattle.query_eval.proofs.HasHitLemmas.{of-from, document-in, document-from}

-- the row that is left of a document's, where it is alive
left : (alive : DocId → Bool) (f : DocId → Option Row) (doc : DocId) (b : Bool) → alive doc ≡ b → ((r : Row) → f doc ≡ Some r → doc ≡ r.doc) → filter (λ r. alive r.doc) (option_to_list (f doc)) ≡ filter_map f (cond b (doc ∷ []) [])
left alive f doc b is own = go b (f doc) refl is
  where
    go : (b : Bool) (o : Option Row) → f doc ≡ o → alive doc ≡ b → filter (λ r. alive r.doc) (option_to_list o) ≡ filter_map f (cond b (doc ∷ []) [])
    go true None e i = rw e refl
    go true (Some r) e i = let there : alive r.doc ≡ true = sym (ap alive (own r e)) ∙ i in rw (e, there) refl
    go false None e i = refl
    go false (Some r) e i = let gone : alive r.doc ≡ false = sym (ap alive (own r e)) ∙ i in rw gone refl

-- one document more, by its hits
module _ (alive : DocId → Bool) (query : Query) (hits : List Hit) (s e : ℕ) (h : Hit) (behind : s < e) (inside : e ≤ length hits) (group : take (e - s) (drop s hits) ≡ hits_of (get_or hits s h).doc hits) where
  abbrev pub doc : DocId
  doc = (get_or hits s h).doc

  abbrev pub mine : List Hit
  mine = take (e - s) (drop s hits)

  has : Contains mine (get_or hits s h)
  has =
      let n : 0 < e - s = omega (arith, behind) in
      let l : 0 < length mine = omega (arith, n, inside, length-drop s hits, length-take-le (e - s) (drop s hits) (omega (arith, inside, length-drop s hits))) in
      let zero : s + 0 ≡ s = omega arith in
      subst (λ x. Contains mine x) (get_or-take (e - s) (drop s hits) 0 h n ∙ get_or-drop s hits 0 h ∙ ap (λ k. get_or hits k h) zero) (Contains-get_or mine 0 h l)

  of-group : (d : DocId) → Contains (map (λ x. x.doc) mine) d ↔ (doc ≡ d)
  of-group d = (
    λ c. let (x, k, i) = document-from mine d c in let (m, j) = of-from doc hits x (subst (λ l. Contains l x) group k) in sym j ∙ i,
    λ i. subst (λ y. Contains (map (λ x. x.doc) mine) y) i (document-in mine (get_or hits s h) has),
  )

  split : map (λ (x : Hit). x.doc) (take e hits) ≡ map (λ (x : Hit). x.doc) (take s hits) ++ map (λ (x : Hit). x.doc) mine
  split =
      let n : e ≡ s + (e - s) = omega (arith, behind) in
      ap (λ k. map (λ (x : Hit). x.doc) (take k hits)) n ∙ ap (map (λ (x : Hit). x.doc)) (take-add s (e - s) hits) ∙ map-append (λ (x : Hit). x.doc) (take s hits) mine

  pub made_more : (rows new : List Row) (row : Option Row) → AreMade alive query hits (take s hits) rows
      → ((often : List ℕ → ℕ) → ((k : ℕ) → k < length (words_of query) → found mine k ≡ often (get_or (words_of query) k [])) → row ≡ row_of query often doc)
      → new ≡ rows ++ filter (λ r. alive r.doc) (option_to_list row) → AreMade alive query hits (take e hits) new
  made_more rows new row made is put = record {
    docs = made.docs ++ more (alive doc);
    had = λ d. (
      λ c. elim (Contains-append_cases made.docs (more (alive doc)) d c) [
        | inl k ↦ (let m = (made.had d).0 k in (subst (λ l. Contains l d) (sym split) (Contains-append_left (map (λ x. x.doc) (take s hits)) (map (λ x. x.doc) mine) d m.0), m.1))
        | inr k ↦ (let m = more-is d (alive doc) refl k in (subst (λ l. Contains l d) (sym split) (Contains-append_right (map (λ x. x.doc) (take s hits)) (map (λ x. x.doc) mine) d ((of-group d).1 m.0)), m.1))
      ],
      λ c. elim (Contains-append_cases (map (λ x. x.doc) (take s hits)) (map (λ x. x.doc) mine) d (subst (λ l. Contains l d) split c.0)) [
        | inl k ↦ Contains-append_left made.docs (more (alive doc)) d ((made.had d).1 (k, c.1))
        | inr k ↦ Contains-append_right made.docs (more (alive doc)) d (more-has d (alive doc) refl ((of-group d).0 k) c.1)
      ],
    );
    rows = λ often tell.
        let f : DocId → Option Row = λ d. row_of query (often d) d in
        let p : Row → Bool = λ r. alive r.doc in
        let r : row ≡ f doc = is (often doc) (λ k l. ap (λ g. found g k) group ∙ tell doc k l) in
        put ∙ ap (λ l. l ++ filter p (option_to_list row)) (made.rows often tell)
        ∙ ap (λ o. filter_map f made.docs ++ o) (ap (λ o. filter p (option_to_list o)) r ∙ left alive f doc (alive doc) refl (λ x i. (row-is query (often doc) doc x i).0))
        ∙ sym (filter_map-append f made.docs (more (alive doc)));
  }
    where
      more : Bool → List DocId
      more b = cond b (doc ∷ []) []

      only : (d : DocId) → Contains (doc ∷ []) d → doc ≡ d
      only d c = elim (here-or-later doc d [] c) [ inl i ↦ i | inr k ↦ absurd (none d k) ]

      more-is : (d : DocId) (b : Bool) → alive doc ≡ b → Contains (cond b (doc ∷ []) []) d → (doc ≡ d) × (alive d ≡ true)
      more-is d true i k = let e = only d k in (e, sym (ap alive e) ∙ i)
      more-is d false i k = absurd (none d k)

      more-has : (d : DocId) (b : Bool) → alive doc ≡ b → doc ≡ d → alive d ≡ true → Contains (cond b (doc ∷ []) []) d
      more-has d true i e a = subst (λ x. Contains (doc ∷ []) x) e (here doc [])
      more-has d false i e a = absurd (let same = ap alive e in cc)
