-- What parts tell of documents, and the answer that is made of it.
use Rattle.std.proofs.Common.{◌*◌, option_to_list, ◌≡◌, ◌≢◌, ◌⊎◌, ◌↔◌, ℕ, zero, suc, ◌+◌, ◌<◌, ◌==◌, ◌&&◌, Bool, true, false, cond, List, [], ◌∷◌, ◌++◌, length, map, take, get_or, filter, sum_by, All, Contains, Option, Some, None, refl, sym, ap, subst, ◌∙◌, arith, inl, inr, add-one, if◌then◌else◌}
use Rattle.std.proofs.lemmas.Bool.{eq-eqb, eqb-true}
use Rattle.std.proofs.lemmas.Bool.Decides.{nat_tests, eqb_tells}
use Rattle.std.proofs.lemmas.List.{get_or-map, length-map, same_lists, take_more}
use Rattle.std.proofs.lemmas.List.Elements.{filter-append, filter_map-append}
use Rattle.std.proofs.lemmas.List.Sums.{sum_by-cons}
use Rattle.std.proofs.lemmas.List.Sorted.{Contains-permutation, IsPermutation-sym}
use Rattle.std.specs.List.{filter_map, cons_option, AllByRecursion, IsDistinct}
use Rattle.std.specs.List.Sorted.{IsPermutation}
use Rattle.std.specs.Ordering.{is_lt, nat_cmp, ordering_then}
use Rattle.std.specs.Str.{bytes_eq}
use Rattle.base_types.specs.declared.ids.DocId.{DocId}
use Rattle.base_types.specs.declared.posting.Posting.{Posting}
use Rattle.text_words.proofs.CountLemmas.{itself}
use Rattle.lists_postings.specs.Lists.{holds, rows_at, frequency}
use Rattle.lists_postings.proofs.Order.{Heads, next-cons}
use Rattle.query_lang.specs.Grammar.{Query}
use Rattle.query_lang.specs.Meaning.{matches, words_of, weight, score}
use Rattle.query_lang.proofs.Deciding.{agreeing, matches-same, score-same}
use Rattle.query_eval.specs.Answers.{RanksBefore, AreRanked, IsRow, IsAnswer}
use Rattle.query_eval.specs.Firsts.{AreInOrder}
use Rattle.query_eval.specs.Found.{told, row_of, same_row, once, AreSorted}
use Rattle.query_eval.specs.Hits.{hit_of, hits_in, gathered, is_of, hits_of, found}
use Rattle.query_eval.specs.declared.answer.Row.{Row}
use Rattle.query_eval.specs.declared.hit.Hit.{Hit}
use Rattle.query_eval.specs.declared.part.Part.{Part}
use Rattle.lists_postings.proofs.Elements.{here, later, here-or-later, none}
use Rattle.query_eval.proofs.Ranks.{same-row, in-order, in_order}

-- a place of a list by any default
pub get-any : {X : Type 0} (xs : List X) (k : ℕ) (d e : X) → k < length xs → get_or xs k d ≡ get_or xs k e
get-any [] k d e l = absurd (omega (arith, l))
get-any (x ∷ xs) zero d e l = refl
get-any (x ∷ xs) (suc k) d e l = get-any xs k d e (omega (arith, l))

-- counts by the hits of a document are the frequencies of the words
pub counts-are : (counts : List ℕ) (words : List (List ℕ)) (often : List ℕ → ℕ) (group : List Hit) → length counts ≡ length words → ((k : ℕ) → k < length words → get_or counts k 0 ≡ found group k)
    → ((k : ℕ) → k < length words → found group k ≡ often (get_or words k [])) → counts ≡ map often words
counts-are counts words often group n c f =
    same_lists counts (map often words) (n ∙ sym (length-map words often)) (λ k d l.
    let m : k < length words = omega (arith, l, n) in
    get-any counts k d 0 l ∙ c k m ∙ f k m ∙ sym (get_or-map often words k [] d m))

sum-zeros : (weigh : List ℕ → ℕ) (words : List (List ℕ)) → sum_by (λ w. weigh w * 0) words ≡ 0
sum-zeros weigh [] = refl
sum-zeros weigh (w ∷ words) = let h = sum-zeros weigh words in let c = sum_by-cons (λ w. weigh w * 0) w words in omega (arith, c, h)

-- where there is no hit, no word occurs
no-hits : (words : List (List ℕ)) (often : List ℕ → ℕ) (group : List Hit) → group ≡ [] → ((k : ℕ) → k < length words → found group k ≡ often (get_or words k [])) → All (λ w. often w ≡ 0) words
no-hits words often group e f = λ k d l. ap often (get-any words k d [] l) ∙ sym (f k l) ∙ ap (λ g. found g k) e

pub row-some : (query : Query) (often : List ℕ → ℕ) (doc : DocId) (n : ℕ) → matches query often ≡ true → n ≡ score query often → Some (let r : Row = record { doc = doc; score = n } in r) ≡ row_of query often doc
row-some query often doc n m e = ap {B = Option Row} (λ s. Some (record { doc = doc; score = s })) e ∙ sym (ap (λ b. if b then Some (let r : Row = record { doc = doc; score = score query often } in r) else None) m)

pub row-none : (query : Query) (often : List ℕ → ℕ) (doc : DocId) → matches query often ≡ false → None ≡ row_of query often doc
row-none query often doc m = sym (ap (λ b. if b then Some (let r : Row = record { doc = doc; score = score query often } in r) else None) m)

bare-matches : (query : Query) (often : List ℕ → ℕ) (group : List Hit) → group ≡ [] → ((k : ℕ) → k < length (words_of query) → found group k ≡ often (get_or (words_of query) k []))
    → (matches query often ≡ matches query (λ _. 0)) × (score query often ≡ 0)
bare-matches query often group e f =
    let a = no-hits (words_of query) often group e f in
    (matches-same often (λ _. 0) query (agreeing often (λ _. 0) query a), score-same often (λ _. 0) query a ∙ sum-zeros (weight query) (words_of query))

pub bare-some : (query : Query) (often : List ℕ → ℕ) (doc : DocId) (group : List Hit) → group ≡ [] → ((k : ℕ) → k < length (words_of query) → found group k ≡ often (get_or (words_of query) k []))
    → matches query (λ _. 0) ≡ true → Some (let r : Row = record { doc = doc; score = 0 } in r) ≡ row_of query often doc
bare-some query often doc group e f m = let b = bare-matches query often group e f in row-some query often doc 0 (b.0 ∙ m) (sym b.1)

pub bare-none : (query : Query) (often : List ℕ → ℕ) (doc : DocId) (group : List Hit) → group ≡ [] → ((k : ℕ) → k < length (words_of query) → found group k ≡ often (get_or (words_of query) k []))
    → matches query (λ _. 0) ≡ false → None ≡ row_of query often doc
bare-none query often doc group e f m = row-none query often doc ((bare-matches query often group e f).0 ∙ m)

differ : (m n : ℕ) → m ≢ n → m == n ≡ false
differ m n h = elim (eqb_tells m n) [ inl y ↦ absurd (h y.1) | inr y ↦ y.0 ]

-- hits of another word are passed over
skipped : (d j m : ℕ) (ps : List Posting) (rest : List Hit) → j ≢ m → found (filter (is_of d) (map (hit_of j) ps) ++ rest) m ≡ found rest m
skipped d j m [] rest n = refl
skipped d j m (p ∷ ps) rest n = go (p.doc.0 == d) (skipped d j m ps rest n)
  where
    go : (b : Bool) → found (filter (is_of d) (map (hit_of j) ps) ++ rest) m ≡ found rest m
        → found (cond b (hit_of j p ∷ filter (is_of d) (map (hit_of j) ps)) (filter (is_of d) (map (hit_of j) ps)) ++ rest) m ≡ found rest m
    go true h = ap (λ b. if b then p.tf else found (filter (is_of d) (map (hit_of j) ps) ++ rest) m) (differ j m n) ∙ h
    go false h = h

-- the hits of a word say its frequency
found-in : (t d j : ℕ) (list : List Posting) (rest : List Hit) → found rest j ≡ 0 → found (filter (is_of d) (hits_in t j list) ++ rest) j ≡ frequency d t list
found-in t d j [] rest z = z
found-in t d j (p ∷ list) rest z = go (holds t p) (p.doc.0 == d) (found-in t d j list rest z)
  where
    mine : List Hit
    mine = filter (is_of d) (hits_in t j list)

    inside : (b : Bool) → found (mine ++ rest) j ≡ frequency d t list → found (cond b (hit_of j p ∷ mine) mine ++ rest) j ≡ (if b && true then p.tf else frequency d t list)
    inside true h = ap (λ b. if b then p.tf else found (mine ++ rest) j) (eq-eqb j j refl)
    inside false h = h

    outside : (b : Bool) → (if b && false then p.tf else frequency d t list) ≡ frequency d t list
    outside true = refl
    outside false = refl

    go : (a b : Bool) → found (mine ++ rest) j ≡ frequency d t list
        → found (filter (is_of d) (map (hit_of j) (cond a (p ∷ rows_at t list) (rows_at t list))) ++ rest) j ≡ (if (p.doc.0 == d) && a then p.tf else frequency d t list)
    go true b h = inside (p.doc.0 == d) h
    go false b h = h ∙ sym (outside (p.doc.0 == d))

later-none : (t d j m : ℕ) (parts : List Part) → m < j → found (filter (is_of d) (gathered t j parts)) m ≡ 0
later-none t d j m [] l = refl
later-none t d j m (p ∷ parts) l =
    ap (λ h. found h m) (filter-append (is_of d) (hits_in t j p.list.items) (gathered t (j + 1) parts))
    ∙ skipped d j m (rows_at t p.list.items) _ (λ e. omega (arith, e, l))
    ∙ later-none t d (j + 1) m parts (omega (arith, l))

all-get : (P : List ℕ → Type 0) (words : List (List ℕ)) (k : ℕ) → AllByRecursion P words → k < length words → P (get_or words k [])
all-get P [] k h l = absurd (omega (arith, l))
all-get P (w ∷ words) zero h l = h.0
all-get P (w ∷ words) (suc k) h l = all-get P words k h.1 (omega (arith, l))

-- the hits of parts say what the parts tell
found-gathered : (t d j : ℕ) (words : List (List ℕ)) (parts : List Part) (k : ℕ) → IsDistinct bytes_eq words → length parts ≡ length words → k < length words
    → found (filter (is_of d) (gathered t j parts)) (j + k) ≡ told words parts t d (get_or words k [])
unfolding IsDistinct
found-gathered t d j [] parts k a n l = absurd (omega (arith, l))
found-gathered t d j (w ∷ words) [] k a n l = absurd (omega (arith, n))
found-gathered t d j (w ∷ words) (p ∷ parts) zero a n l =
    ap (λ h. found h (j + 0)) (filter-append (is_of d) (hits_in t j p.list.items) (gathered t (j + 1) parts))
    ∙ ap (found (filter (is_of d) (hits_in t j p.list.items) ++ filter (is_of d) (gathered t (j + 1) parts))) (let e : j + 0 ≡ j = omega arith in e)
    ∙ found-in t d j p.list.items _ (later-none t d (j + 1) j parts (omega arith))
    ∙ sym (ap (λ b. if b then frequency d t p.list.items else told words parts t d w) (itself w))
found-gathered t d j (w ∷ words) (p ∷ parts) (suc k) a n l =
    ap (λ h. found h (j + suc k)) (filter-append (is_of d) (hits_in t j p.list.items) (gathered t (j + 1) parts))
    ∙ skipped d j (j + suc k) (rows_at t p.list.items) _ (λ e. omega (arith, e))
    ∙ ap (found (filter (is_of d) (gathered t (j + 1) parts))) (let e : j + suc k ≡ (j + 1) + k = omega arith in e)
    ∙ found-gathered t d (j + 1) words parts k a.1 (omega (arith, n)) (omega (arith, l))
    ∙ sym (ap (λ b. if b then frequency d t p.list.items else told words parts t d (get_or words k [])) (all-get (λ y. bytes_eq w y ≡ false) words k a.0 (omega (arith, l))))

-- hits by document say what the parts tell
pub hits-tell : (t : ℕ) (words : List (List ℕ)) (parts : List Part) (hits : List Hit) → IsDistinct bytes_eq words → length parts ≡ length words
    → ((d : ℕ) → filter (is_of d) hits ≡ filter (is_of d) (gathered t 0 parts)) → (doc : DocId) (k : ℕ) → k < length words → found (hits_of doc hits) k ≡ told words parts t doc.0 (get_or words k [])
hits-tell t words parts hits a n e doc k l =
    ap (λ h. found h k) (e doc.0) ∙ ap (found (filter (is_of doc.0) (gathered t 0 parts))) (let z : k ≡ 0 + k = omega arith in z) ∙ found-gathered t doc.0 0 words parts k a n l

rows-same : (a b : Row) → same_row a b ≡ true → a ≡ b
rows-same a b h = go (a.doc.0 == b.doc.0) (a.score == b.score) refl refl h
  where
    go : (p q : Bool) → a.doc.0 == b.doc.0 ≡ p → a.score == b.score ≡ q → p && q ≡ true → a ≡ b
    go true true e f h = same-row a b (eqb-true _ _ e) (eqb-true _ _ f)
    go true false e f h = absurd cc
    go false q e f h = absurd cc

rows-apart : (a b : Row) → same_row a b ≡ false → a ≡ b → ⊥
rows-apart a b h e =
    let d : a.doc.0 == b.doc.0 ≡ true = eq-eqb _ _ (ap (λ (r : Row). r.doc.0) e) in
    let s : a.score == b.score ≡ true = eq-eqb _ _ (ap (λ (r : Row). r.score) e) in
    absurd (let both : same_row a b ≡ true = rw (d, s) refl in cc)

-- the same rows are there once
once-in : (row : Row) (rows : List Row) → Contains rows row → Contains (once rows) row
once-in row [] c = c
once-in row (x ∷ []) c = c
once-in row (x ∷ y ∷ rows) c = go (same_row x y) refl (here-or-later x row (y ∷ rows) c) (λ k. once-in row (y ∷ rows) k)
  where
    go : (b : Bool) → same_row x y ≡ b → (x ≡ row) ⊎ Contains (y ∷ rows) row → (Contains (y ∷ rows) row → Contains (once (y ∷ rows)) row) → Contains (if b then once (y ∷ rows) else x ∷ once (y ∷ rows)) row
    go true e (inl i) f = f (subst (λ r. Contains (y ∷ rows) r) (sym (rows-same x y e) ∙ i) (here y rows))
    go true e (inr k) f = f k
    go false e (inl i) f = subst (λ r. Contains (x ∷ once (y ∷ rows)) r) i (here x (once (y ∷ rows)))
    go false e (inr k) f = later x row (once (y ∷ rows)) (f k)

once-from : (row : Row) (rows : List Row) → Contains (once rows) row → Contains rows row
once-from row [] c = c
once-from row (x ∷ []) c = c
once-from row (x ∷ y ∷ rows) c = go (same_row x y) c (λ k. once-from row (y ∷ rows) k)
  where
    go : (b : Bool) → Contains (if b then once (y ∷ rows) else x ∷ once (y ∷ rows)) row → (Contains (once (y ∷ rows)) row → Contains (y ∷ rows) row) → Contains (x ∷ y ∷ rows) row
    go true k f = later x row (y ∷ rows) (f k)
    go false k f = elim (here-or-later x row (once (y ∷ rows)) k) [
      | inl i ↦ subst (λ r. Contains (x ∷ y ∷ rows) r) i (here x (y ∷ rows))
      | inr m ↦ later x row (y ∷ rows) (f m)
    ]

-- their first is the first
heads-once : (w x : Row) (rows : List Row) → RanksBefore w x → Heads RanksBefore w (once (x ∷ rows))
heads-once w x [] h = h
heads-once w x (y ∷ rows) h = go (same_row x y) refl (λ b. heads-once w y rows b)
  where
    go : (b : Bool) → same_row x y ≡ b → (RanksBefore w y → Heads RanksBefore w (once (y ∷ rows))) → Heads RanksBefore w (if b then once (y ∷ rows) else x ∷ once (y ∷ rows))
    go true e f = f (subst (λ r. RanksBefore w r) (rows-same x y e) h)
    go false e f = h

-- rows that are sorted are ranked where each is there once
ranked-once : (rows : List Row) → ((k : ℕ) (d : Row) → suc k < length rows → RanksBefore (get_or rows (suc k) d) (get_or rows k d) → ⊥) → AreRanked (once rows)
ranked-once [] s = tt
ranked-once (x ∷ []) s = tt
ranked-once (x ∷ y ∷ rows) s = go (same_row x y) refl (in-order x y) (s 0 x (omega arith)) (ranked-once (y ∷ rows) (λ k d l. s (suc k) d (omega (arith, l))))
  where
    go : (b : Bool) → same_row x y ≡ b → RanksBefore x y ⊎ ((x ≡ y) ⊎ RanksBefore y x) → (RanksBefore y x → ⊥) → AreRanked (once (y ∷ rows)) → AreRanked (if b then once (y ∷ rows) else x ∷ once (y ∷ rows))
    go true e o n h = h
    go false e (inl b) n h = next-cons RanksBefore x (once (y ∷ rows)) (heads-once x y rows b) h
    go false e (inr (inl i)) n h = absurd (rows-apart x y e i)
    go false e (inr (inr a)) n h = absurd (n a)

-- what is made of documents
made-from : (f : DocId → Option Row) (row : Row) (docs : List DocId) → Contains (filter_map f docs) row → (doc : DocId) × Contains docs doc × (f doc ≡ Some row)
made-from f row [] c = absurd (none row c)
made-from f row (d ∷ docs) c = go (f d) refl c (λ k. made-from f row docs k)
  where
    go : (o : Option Row) → f d ≡ o → Contains (cons_option o (filter_map f docs)) row → (Contains (filter_map f docs) row → (doc : DocId) × Contains docs doc × (f doc ≡ Some row))
        → (doc : DocId) × Contains (d ∷ docs) doc × (f doc ≡ Some row)
    go None e k rest = let (doc, m, i) = rest k in (doc, later d doc docs m, i)
    go (Some r) e k rest = elim (here-or-later r row (filter_map f docs) k) [
      | inl i ↦ (d, here d docs, e ∙ ap (λ x. Some x) i)
      | inr m ↦ (let (doc, n, j) = rest m in (doc, later d doc docs n, j))
    ]

made-in : (f : DocId → Option Row) (row : Row) (doc : DocId) (docs : List DocId) → Contains docs doc → f doc ≡ Some row → Contains (filter_map f docs) row
made-in f row doc [] c e = absurd (none doc c)
made-in f row doc (d ∷ docs) c e = go (f d) refl (here-or-later d doc docs c) (λ k. made-in f row doc docs k e)
  where
    go : (o : Option Row) → f d ≡ o → (d ≡ doc) ⊎ Contains docs doc → (Contains docs doc → Contains (filter_map f docs) row) → Contains (cons_option o (filter_map f docs)) row
    go None h (inl i) rest = absurd (let same = ap f i in cc)
    go None h (inr k) rest = rest k
    go (Some r) h (inl i) rest = let same : r ≡ row = (let j = ap f i in cc) in subst (λ x. Contains (r ∷ filter_map f docs) x) same (here r (filter_map f docs))
    go (Some r) h (inr k) rest = later r row (filter_map f docs) (rest k)

pub row-is : (query : Query) (often : List ℕ → ℕ) (doc : DocId) (row : Row) → row_of query often doc ≡ Some row → (doc ≡ row.doc) × (matches query often ≡ true) × (row.score ≡ score query often)
row-is query often doc row e = go (matches query often) refl e
  where
    go : (b : Bool) → matches query often ≡ b → (if b then Some (let r : Row = record { doc = doc; score = score query often } in r) else None) ≡ Some row → (doc ≡ row.doc) × (matches query often ≡ true) × (row.score ≡ score query often)
    go true m e =
        let r : Row = record { doc = doc; score = score query often } in
        let same : r ≡ row = cc in
        (ap (λ (x : Row). x.doc) same, m, sym (ap (λ (x : Row). x.score) same))
    go false m e = absurd cc

-- the rows made of documents are those of the answer
made-rows : (alive : List DocId) (often : DocId → List ℕ → ℕ) (query : Query) (row : Row) → Contains (filter_map (λ doc. row_of query (often doc) doc) alive) row ↔ IsRow (λ doc. Contains alive doc) often query row
made-rows alive often query row = (
  λ c.
      let (doc, k, e) = made-from (λ doc. row_of query (often doc) doc) row alive c in
      let (d, t, n) = row-is query (often doc) doc row e in
      record { alive = subst (λ x. Contains alive x) d k; matching = subst (λ x. matches query (often x) ≡ true) d t; scored = subst (λ x. row.score ≡ score query (often x)) d n },
  λ r.
      let e : row_of query (often row.doc) row.doc ≡ Some row = sym (row-some query (often row.doc) row.doc row.score r.matching r.scored) in
      made-in (λ doc. row_of query (often doc) doc) row row.doc alive r.alive e,
)

-- a sort by score, downwards, and then by document puts rows into their order, without repeats
pub sorted-are : (made sorted rows : List Row) → IsPermutation made sorted → AreSorted sorted → rows ≡ once sorted → AreInOrder rows made
sorted-are made sorted rows p s o = record {
  ranked = subst AreRanked (sym o) (ranked-once sorted (λ k d i b. backwards (get_or sorted k d) (get_or sorted (suc k) d) (rw add-one at (s k d (omega arith) (omega (arith, i)))) b));
  each = λ row. (
    λ c. Contains-permutation sorted made row (IsPermutation-sym _ _ p) (once-from row sorted (subst (λ l. Contains l row) o c)),
    λ c. subst (λ l. Contains l row) (sym o) (once-in row sorted (Contains-permutation made sorted row p c)),
  );
}
  where
    backwards : (a b : Row) → is_lt (ordering_then (nat_cmp a.score b.score) (nat_cmp b.doc.0 a.doc.0)) ≡ false → RanksBefore b a → ⊥
    backwards a b n r = grind (arith, nat_tests)

-- the rows made of documents are in their order the answer
pub answer-is : (alive : List DocId) (often : DocId → List ℕ → ℕ) (query : Query) (made rows : List Row) → made ≡ filter_map (λ doc. row_of query (often doc) doc) alive → AreInOrder rows made
    → IsAnswer (λ doc. Contains alive doc) often query rows
answer-is alive often query made rows m o = record {
  ranked = o.ranked;
  each = λ row. (
    λ c. (made-rows alive often query row).0 (subst (λ l. Contains l row) m ((o.each row).0 c)),
    λ r. (o.each row).1 (subst (λ l. Contains l row) (sym m) ((made-rows alive often query row).1 r)),
  );
}

-- in some order they are the answer
pub each-answer : (alive : List DocId) (often : DocId → List ℕ → ℕ) (query : Query) → (rows : List Row) × IsAnswer (λ doc. Contains alive doc) often query rows
each-answer alive often query =
    let (rows, o) = in_order (filter_map (λ doc. row_of query (often doc) doc) alive) in
    (rows, answer-is alive often query (filter_map (λ doc. row_of query (often doc) doc) alive) rows refl o)

-- one document more
pub made-more : (f : DocId → Option Row) (docs : List DocId) (i : ℕ) (doc : DocId) (rows new : List Row) (row : Option Row) → i < length docs → doc ≡ get_or docs i doc → rows ≡ filter_map f (take i docs) → row ≡ f doc
    → new ≡ rows ++ option_to_list row → new ≡ filter_map f (take (i + 1) docs)
made-more f docs i doc rows new row l is before e n =
    n ∙ ap (λ r. r ++ option_to_list row) before ∙ ap (λ o. filter_map f (take i docs) ++ option_to_list o) (e ∙ ap f is)
    ∙ go (f (get_or docs i doc)) ∙ sym (filter_map-append f (take i docs) (get_or docs i doc ∷ [])) ∙ ap (filter_map f) (sym (take_more docs i doc l))
  where
    go : (o : Option Row) → filter_map f (take i docs) ++ option_to_list o ≡ filter_map f (take i docs) ++ cons_option o []
    go None = refl
    go (Some r) = refl
