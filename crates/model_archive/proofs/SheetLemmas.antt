-- What there is of a word at a time: the headers are true, and it tells how often a document has the word.
use Rattle.std.proofs.Common.{◌≡◌, ◌⊎◌, ℕ, zero, suc, ◌+◌, ◌*◌, ◌<◌, ◌≤◌, ◌^◌, ◌==◌, ◌&&◌, max, nat_lt, Bool, true, false, cond, if◌then◌else◌, List, [], ◌∷◌, ◌++◌, length, map, take, drop, sum_by, slice_index, Option, Some, None, refl, ap, ap₂, sym, subst, ◌∙◌, arith, inl, inr}
use Rattle.std.specs.List.{AllZip}
use Rattle.std.specs.List.Sorted.{IsStrictlyIncreasing}
use Rattle.std.proofs.lemmas.Bool.{cases_lt}
use Rattle.std.proofs.lemmas.Bool.Decides.{nat_tests}
use Rattle.std.proofs.lemmas.List.{append-nil, length-drop, take-append-drop}
use Rattle.std.proofs.lemmas.List.Elements.{filter_passes}
use Rattle.std.proofs.lemmas.List.Sums.{sum_by-cons}
use Rattle.base_types.specs.declared.ids.DocId.{DocId}
use Rattle.base_types.specs.declared.posting.Posting.{Posting}
use Rattle.lists_postings.specs.Lists.{IsList, frequency, holds, meets, rows_at, sublist}
use Rattle.lists_postings.proofs.Clipping.{one_list_of, outside, rows_list, sublist_list}
use Rattle.journal_entries.specs.declared.place.Layout.{Layout}
use Rattle.journal_entries.specs.declared.place.Layout.TheVariants.{Flat, Blocks}
use Rattle.journal_entries.specs.declared.plan.PlanEntry.{PlanEntry}
use Rattle.pages_codec.specs.Fields.{fields}
use Rattle.pages_codec.specs.Blocks.{pieces, top_of}
use Rattle.pages_codec.specs.Blocks.{last_doc as last_field}
use Rattle.pages_sublists.specs.Segments.{AreCutsOf, next_cut, seconds}
use Rattle.query_lang.specs.Grammar.{Query}
use Rattle.query_lang.specs.Meaning.{score, weight, words_of}
use Rattle.query_top.specs.Firsts.{Each}
use Rattle.query_top.specs.Sheets.{IsHead, IsSheet, Sheet, greatest, joined, last_doc, often, total}
use Rattle.query_top.specs.Sheets.{score as top_score}
use Rattle.model_archive.specs.Answers.{frequency_at}
use Rattle.model_archive.specs.Bests.{AreSheets, IsSheetOf, header, in_pieces, sheet_laid, sublist_at, weights_in}
use Rattle.model_archive.specs.Chosen.{IsTailFor}
use Rattle.model_archive.specs.Histories.{History}
use Rattle.model_archive.specs.Legal.{IsLoadable}
use Rattle.model_archive.specs.Planning.{IsListUpTo}
use Rattle.model_archive.specs.Plans.{plan_of}
use Rattle.model_archive.proofs.BoundLemmas.{are_cuts, word_planned}

-- ---- parts of a list

missed : (a b t : ℕ) (p : Posting) → meets a b p ≡ false → a ≤ t → t < b → holds t p ≡ false
missed a b t p out from to = grind (arith, nat_tests)

-- what stands in a window of a list says how often a document has the word inside it
pub part_tells : (a b d t : ℕ) (list : List Posting) → a ≤ t → t < b → frequency d t (sublist a b list) ≡ frequency d t list
part_tells a b d t [] from to = refl
part_tells a b d t (p ∷ list) from to = go (meets a b p) refl (part_tells a b d t list from to)
  where
    neither : (c : Bool) → (if (c && false) then p.tf else frequency d t list) ≡ frequency d t list
    neither true = refl
    neither false = refl

    go : (m : Bool) → meets a b p ≡ m → frequency d t (sublist a b list) ≡ frequency d t list
        → frequency d t (cond m (p ∷ sublist a b list) (sublist a b list)) ≡ (if (p.doc.0 == d && holds t p) then p.tf else frequency d t list)
    go true e rest = ap (λ (n : ℕ). if (p.doc.0 == d && holds t p) then p.tf else n) rest
    go false e rest = rest ∙ sym (ap (λ (h : Bool). if (p.doc.0 == d && h) then p.tf else frequency d t list) (missed a b t p e from to) ∙ neither (p.doc.0 == d))

-- ---- headers are true

top-greatest : (top : ℕ) (ps : List Posting) → top_of top (map fields ps) ≡ max top (greatest ps)
top-greatest top [] = omega arith
top-greatest top (p ∷ ps) = omega (arith, top-greatest (max top p.tf) ps)

last-same : (d : ℕ) (ps : List Posting) → last_field d (map fields ps) ≡ last_doc d ps
last-same d [] = refl
last-same d (p ∷ ps) = last-same p.doc.0 ps

header-true : (p : Posting) (ps : List Posting) → IsHead (header (p ∷ ps)) (p ∷ ps)
header-true p ps = (refl, last-same p.doc.0 ps, top-greatest 0 (p ∷ ps) ∙ omega arith)

headers-true : (most : ℕ) (list : List Posting) → AllZip IsHead (map header (pieces most list)) (pieces most list)
headers-true zero [] = tt
headers-true (suc most) [] = tt
headers-true zero (p ∷ list) = tt
headers-true (suc most) (p ∷ list) = (header-true p (take 127 list), headers-true most (drop 127 list))

joined-pieces : (most : ℕ) (list : List Posting) → length list ≤ most → joined (pieces most list) ≡ list
joined-pieces zero [] l = refl
joined-pieces (suc most) [] l = refl
joined-pieces zero (p ∷ list) l = absurd (omega (arith, l))
joined-pieces (suc most) (p ∷ list) l =
    ap (λ (xs : List Posting). take 128 (p ∷ list) ++ xs) (joined-pieces most (drop 127 list) (omega (arith, l, length-drop 127 list)))
    ∙ take-append-drop 128 (p ∷ list)

pub pieces-joined : (list : List Posting) → joined (in_pieces list) ≡ list
pieces-joined list = joined-pieces (length list) list (omega arith)

-- of what is stored and what is behind the horizon one is nothing
abbrev pub IsOneOf : List Posting → List Posting → Type 0
IsOneOf stored tail = (stored ≡ []) ⊎ (tail ≡ [])

one-list : (stored tail : List Posting) → IsList stored → IsList tail → IsOneOf stored tail → IsList (stored ++ tail)
one-list stored tail s l (inl none) = subst (λ (xs : List Posting). IsList (xs ++ tail)) (sym none) l
one-list stored tail s l (inr none) = subst (λ (xs : List Posting). IsList (stored ++ xs)) (sym none) (subst IsList (sym (append-nil stored)) s)

pub sheet-true : (layout : Layout) (t : ℕ) (stored tail : List Posting) → IsList stored → IsList tail → IsOneOf stored tail → IsSheet t (sheet_laid layout t stored tail)
sheet-true Flat t stored tail s l one = record {
  heads_are = tt;
  listed = tt;
  flat_listed = rows_list t (stored ++ tail) (one-list stored tail s l one);
  flat_holds = filter_passes (holds t) (stored ++ tail);
  one_kind = inl refl;
}
sheet-true Blocks t stored tail s l one = record {
  heads_are = headers-true (length stored) stored;
  listed = subst IsList (sym (pieces-joined stored)) s;
  flat_listed = rows_list t tail l;
  flat_holds = filter_passes (holds t) tail;
  one_kind = elim one [ inl none ↦ inl (ap in_pieces none) | inr none ↦ inr (ap (rows_at t) none) ];
}

-- ---- how often a document has the word

rows-tell : (d t : ℕ) (list : List Posting) → frequency d t (rows_at t list) ≡ frequency d t list
rows-tell d t [] = refl
rows-tell d t (p ∷ list) = go (holds t p) refl (p.doc.0 == d) (rows-tell d t list)
  where
    go : (b : Bool) → holds t p ≡ b → (c : Bool) → frequency d t (rows_at t list) ≡ frequency d t list
        → frequency d t (cond b (p ∷ rows_at t list) (rows_at t list)) ≡ cond (p.doc.0 == d && holds t p) p.tf (frequency d t list)
    go true e c rest = ap (λ n. cond (p.doc.0 == d && holds t p) p.tf n) rest
    go false e c rest = rest ∙ sym (ap (λ b. cond (p.doc.0 == d && b) p.tf (frequency d t list)) e ∙ none (p.doc.0 == d))
      where
        none : (c : Bool) → cond (c && false) p.tf (frequency d t list) ≡ frequency d t list
        none true = refl
        none false = refl

laid-tells : (layout : Layout) (d t : ℕ) (stored tail : List Posting) → IsOneOf stored tail → often t d (sheet_laid layout t stored tail) ≡ frequency d t (stored ++ tail)
laid-tells Flat d t stored tail one = rows-tell d t (stored ++ tail)
laid-tells Blocks d t stored tail (inl none) =
    ap₂ (λ (xs ys : List Posting). frequency d t (joined (in_pieces xs) ++ ys)) none refl
    ∙ rows-tell d t tail ∙ ap (λ (xs : List Posting). frequency d t (xs ++ tail)) (sym none)
laid-tells Blocks d t stored tail (inr none) =
    ap₂ (λ (xs ys : List Posting). frequency d t (xs ++ rows_at t ys)) (pieces-joined stored) none
    ∙ ap (λ (ys : List Posting). frequency d t (stored ++ ys)) (sym none)

-- ---- the sublist of the segment that has the time

behind : (xs : List ℕ) (x : ℕ) → IsStrictlyIncreasing (x ∷ xs) → IsStrictlyIncreasing xs
behind xs x up = λ k l. let plus : suc k + 1 ≡ suc (k + 1) = omega arith in subst (λ j. slice_index xs k < slice_index (x ∷ xs) j) plus (up (suc k) (omega (arith, l)))

first-two : (f h : ℕ) (cuts : List ℕ) → IsStrictlyIncreasing (f ∷ cuts ++ h ∷ []) → f < next_cut cuts h
first-two f h [] up = up 0 (omega arith)
first-two f h (g ∷ cuts) up = up 0 (omega arith)

next-below : (h : ℕ) (cuts : List ℕ) → IsStrictlyIncreasing (cuts ++ h ∷ []) → next_cut cuts h ≤ h
next-below h [] up = omega arith
next-below h (f ∷ cuts) up = omega (arith, first-two f h cuts up, next-below h cuts (behind (cuts ++ h ∷ []) f up))

-- whether a segment has the time
has : (f g t : ℕ) → f ≤ t → t < g → (nat_lt f (t + 1) && nat_lt t g) ≡ true
has f g t a b = grind (arith, nat_tests)

misses : (f g t : ℕ) → (t < f) ⊎ (g ≤ t) → (nat_lt f (t + 1) && nat_lt t g) ≡ false
misses f g t (inl a) = grind (arith, nat_tests)
misses f g t (inr b) = grind (arith, nat_tests)

-- before the first segment nothing is stored
stored-before : (t h : ℕ) (list : List Posting) (cuts : List ℕ) → IsStrictlyIncreasing (cuts ++ h ∷ []) → t < next_cut cuts h → sublist_at t h list cuts ≡ []
stored-before t h list [] up l = refl
stored-before t h list (f ∷ cuts) up l =
    ap (λ b. cond b (sublist f (next_cut cuts h) list) (sublist_at t h list cuts)) (misses f (next_cut cuts h) t (inl l))
    ∙ stored-before t h list cuts (behind (cuts ++ h ∷ []) f up) (omega (arith, l, first-two f h cuts up))

-- and from the horizon on
pub stored-after : (t h : ℕ) (list : List Posting) (cuts : List ℕ) → IsStrictlyIncreasing (cuts ++ h ∷ []) → h ≤ t → sublist_at t h list cuts ≡ []
stored-after t h list [] up l = refl
stored-after t h list (f ∷ cuts) up l =
    let later = behind (cuts ++ h ∷ []) f up in
    ap (λ b. cond b (sublist f (next_cut cuts h) list) (sublist_at t h list cuts)) (misses f (next_cut cuts h) t (inr (omega (arith, l, next-below h cuts later))))
    ∙ stored-after t h list cuts later l

-- between these it tells what the list tells
stored-tells : (d t h : ℕ) (list : List Posting) (cuts : List ℕ) → IsStrictlyIncreasing (cuts ++ h ∷ []) → next_cut cuts h ≤ t → t < h → frequency d t (sublist_at t h list cuts) ≡ frequency d t list
stored-tells d t h list [] up from to = absurd (omega (arith, from, to))
stored-tells d t h list (f ∷ cuts) up from to = elim (cases_lt t (next_cut cuts h)) [
  | inl here ↦
      ap (λ b. frequency d t (cond b (sublist f (next_cut cuts h) list) (sublist_at t h list cuts))) (has f (next_cut cuts h) t from here)
      ∙ part_tells f (next_cut cuts h) d t list from here
  | inr later ↦
      ap (λ b. frequency d t (cond b (sublist f (next_cut cuts h) list) (sublist_at t h list cuts))) (misses f (next_cut cuts h) t (inr later))
      ∙ stored-tells d t h list cuts (behind (cuts ++ h ∷ []) f up) later to
]

pub stored-list : (t h : ℕ) (list : List Posting) (cuts : List ℕ) → IsList list → IsList (sublist_at t h list cuts)
stored-list t h list [] is = tt
stored-list t h list (f ∷ cuts) is = go (nat_lt f (t + 1) && nat_lt t (next_cut cuts h)) (stored-list t h list cuts is)
  where
    go : (b : Bool) → IsList (sublist_at t h list cuts) → IsList (cond b (sublist f (next_cut cuts h) list) (sublist_at t h list cuts))
    go true rest = sublist_list f (next_cut cuts h) list is
    go false rest = rest

-- before the horizon what is stored tells all, and behind it the tail does
joined-tells : (h : History) (word : List ℕ) (t horizon : ℕ) (sealed tail : List Posting) (cuts : List ℕ) → t < 2 ^ 40 → AreCutsOf sealed cuts horizon → IsListUpTo h word horizon sealed
    → IsTailFor h word (t + 1) horizon tail → (doc : DocId) → IsOneOf (sublist_at t horizon sealed cuts) tail × (frequency doc.0 t (sublist_at t horizon sealed cuts ++ tail) ≡ frequency_at h word doc t)
joined-tells h word t horizon sealed tail cuts now are up_to is_tail doc = elim (cases_lt t horizon) [
  | inl early ↦
      let none = no_tail early is_tail in (
        inr none,
        ap (λ (xs : List Posting). frequency doc.0 t (sublist_at t horizon sealed cuts ++ xs)) none
            ∙ ap (frequency doc.0 t) (append-nil (sublist_at t horizon sealed cuts))
            ∙ tells early (cases_lt t (next_cut cuts horizon)) ∙ up_to.same doc.0 t (omega arith) early,
      )
  | inr late ↦
      let none = stored-after t horizon sealed cuts are.ascending late in (
        inl none,
        ap (λ (xs : List Posting). frequency doc.0 t (xs ++ tail)) none ∙ tail_is late is_tail,
      )
]
  where
    no_tail : t < horizon → IsTailFor h word (t + 1) horizon tail → tail ≡ []
    no_tail early (inl (past, list)) = absurd (omega (arith, early, past))
    no_tail early (inr (within, none)) = none

    tail_is : horizon ≤ t → IsTailFor h word (t + 1) horizon tail → frequency doc.0 t tail ≡ frequency_at h word doc t
    tail_is late (inl (past, list)) = list.same doc.0 t late now
    tail_is late (inr (within, none)) = absurd (omega (arith, late, within))

    tells : t < horizon → (t < next_cut cuts horizon) ⊎ (next_cut cuts horizon ≤ t) → frequency doc.0 t (sublist_at t horizon sealed cuts) ≡ frequency doc.0 t sealed
    tells early (inl first) = ap (frequency doc.0 t) (stored-before t horizon sealed cuts are.ascending first) ∙ sym (outside (next_cut cuts horizon) horizon sealed are.inside doc.0 t (inl first))
    tells early (inr from) = stored-tells doc.0 t horizon sealed cuts are.ascending from early

-- the segments of a live plan stand in turn
pub live_in_turn : (h : History) (word : List ℕ) (plan : PlanEntry) → IsLoadable h → plan_of h word ≡ Some plan → IsStrictlyIncreasing (seconds plan.cuts ++ plan.horizon.seconds ∷ [])
live_in_turn h word plan loads live =
    let planned = word_planned h word plan loads live in
    (are_cuts plan.kind planned.list plan.fraction plan.cuts plan.horizon planned.list_is.ordered planned.some planned.list_is.inside planned.fit).ascending

-- ---- sheets of words

-- a sheet is true, and tells its word
pub record TellsWord (h : History) (t : ℕ) (word : List ℕ) (s : Sheet) : Type 0 where
  pub true_is : IsSheet t s
  pub tells : (doc : DocId) → often t doc.0 s ≡ frequency_at h word doc t

pub sheet_tells : (h : History) (t : ℕ) (word : List ℕ) (s : Sheet) → IsLoadable h → t < 2 ^ 40 → IsSheetOf h word (plan_of h word) t s → TellsWord h t word s
sheet_tells h t word s loads now = go (plan_of h word) refl
  where
    go : (o : Option PlanEntry) → plan_of h word ≡ o → IsSheetOf h word o t s → TellsWord h t word s
    go None live (whole, is_list, is) = subst (TellsWord h t word) (sym is) (record {
      true_is = sheet-true Flat t [] whole tt is_list.ordered (inl refl);
      tells = λ doc. rows-tell doc.0 t whole ∙ is_list.same doc.0 t (omega arith) now;
    })
    go (Some plan) live (sealed, tail, up_to, is_tail, is) =
        let horizon = plan.horizon.seconds in
        let f : ℕ → ℕ → ℕ = λ doc t. frequency_at h word (record { 0 = doc }) t in
        let planned = word_planned h word plan loads live in
        let same = one_list_of f 0 horizon planned.list sealed planned.list_is up_to in
        let own = are_cuts plan.kind planned.list plan.fraction plan.cuts plan.horizon planned.list_is.ordered planned.some planned.list_is.inside planned.fit in
        let are = subst (λ (l : List Posting). AreCutsOf l (seconds plan.cuts) horizon) same own in
        let stored = sublist_at t horizon sealed (seconds plan.cuts) in
        let told = joined-tells h word t horizon sealed tail (seconds plan.cuts) now are up_to is_tail in
        let one = (told (record { 0 = 0 })).0 in
        subst (TellsWord h t word) (sym is) (record {
          true_is = sheet-true plan.layout t stored tail (stored-list t horizon sealed (seconds plan.cuts) up_to.ordered) (tail_list is_tail) one;
          tells = λ doc. laid-tells plan.layout doc.0 t stored tail one ∙ (told doc).1;
        })
      where
        tail_list : IsTailFor h word (t + 1) plan.horizon.seconds tail → IsList tail
        tail_list (inl (past, list)) = list.ordered
        tail_list (inr (within, none)) = subst IsList (sym none) tt

module _ (h : History) (t : ℕ) (loads : IsLoadable h) (now : t < 2 ^ 40) where
  pub sheets_true : (words : List (List ℕ)) (ss : List Sheet) → AreSheets h t words ss → Each (IsSheet t) ss
  sheets_true [] [] are = tt
  sheets_true [] (s ∷ ss) are = absurd are
  sheets_true (w ∷ words) [] are = absurd are
  sheets_true (w ∷ words) (s ∷ ss) are = ((sheet_tells h t w s loads now are.0).true_is, sheets_true words ss are.1)

  totals : (weigh : List ℕ → ℕ) (words : List (List ℕ)) (ss : List Sheet) (doc : DocId) → AreSheets h t words ss
      → total (often t doc.0) (map weigh words) ss ≡ sum_by (λ w. weigh w * frequency_at h w doc t) words
  totals weigh [] [] doc are = refl
  totals weigh [] (s ∷ ss) doc are = absurd are
  totals weigh (w ∷ words) [] doc are = absurd are
  totals weigh (w ∷ words) (s ∷ ss) doc are =
      ap₂ (λ (n m : ℕ). weigh w * n + m) ((sheet_tells h t w s loads now are.0).tells doc) (totals weigh words ss doc are.1)
      ∙ sym (sum_by-cons (λ w. weigh w * frequency_at h w doc t) w words)

  -- the score by the sheets of a query's words is the query's
  pub sheets_score : (query : Query) (ss : List Sheet) (doc : DocId) → AreSheets h t (words_of query) ss → top_score t (weights_in query) ss doc.0 ≡ score query (λ word. frequency_at h word doc t)
  sheets_score query ss doc are = totals (weight query) (words_of query) ss doc are
