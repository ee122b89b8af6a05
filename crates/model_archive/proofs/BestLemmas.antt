-- The first rows that are found by blocks: they are the first of the answer; there are such rows, and they differ in how many blocks were opened alone.
use Rattle.std.proofs.Common.{◌≡◌, ◌⊎◌, ℕ, ◌*◌, ◌<◌, ◌^◌, ◌||◌, nat_lt, Bool, true, false, List, [], ◌∷◌, length, map, take, sum_by, Contains, Option, Some, None, IsSome, option_map, unwrap_or, refl, ap, ap₂, sym, subst, ◌∙◌, arith, inl, inr}
use Rattle.std.specs.List.{AllZip}
use Rattle.std.proofs.lemmas.Bool.Decides.{nat_tests, eqb_tells}
use Rattle.std.proofs.lemmas.List.{length-map, length-take}
use Rattle.std.proofs.lemmas.List.Sums.{sum_by-cons}
use Rattle.base_types.specs.declared.ids.DocId.{DocId}
use Rattle.lists_postings.proofs.Elements.{here, later, here-or-later, none}
use Rattle.lists_postings.proofs.Order.{Heads, next-cons, next-later, next-tail}
use Rattle.text_words.specs.Terms.{occurrences}
use Rattle.query_lang.specs.Grammar.{Query}
use Rattle.query_lang.specs.Meaning.{matches, score, weight, words_of}
use Rattle.query_eval.specs.Answers.{RanksBefore}
use Rattle.query_eval.specs.Answers.{AreRanked as AreInTurn}
use Rattle.query_eval.specs.declared.answer.Row.{Row}
use Rattle.query_eval.proofs.FirstLemmas.{AllBefore, first-or-behind, one-first, take-from, take-ranked}
use Rattle.query_eval.proofs.Ranks.{ranks-trans, same-row}
use Rattle.query_top.specs.Firsts.{AreFirst, AreRanked, Beats, Each, shows}
use Rattle.query_top.specs.Sheets.{Sheet}
use Rattle.query_top.specs.Sheets.{score as top_score}
use Rattle.query_top.specs.declared.ranking.Row.{Row as TopRow}
use Rattle.query_top.proofs.ShownLemmas.{may_open, shows-row}
use Rattle.model_archive.specs.declared.refusal.Refusal.TheVariants as refusals
use Rattle.model_archive.specs.Answers.{IsAnswerAt, frequency_at}
use Rattle.model_archive.specs.Bests.{AreFoundByBlocks, AreSheets, IsSheetOf, top_row, weights_in}
use Rattle.model_archive.specs.Histories.{History, text_at}
use Rattle.model_archive.specs.Legal.{IsLoadable}
use Rattle.model_archive.specs.Plans.{plan_of}
use Rattle.model_archive.proofs.SheetLemmas.{sheets_score, sheets_true}

-- ---- rows of one kind and of the other

abbrev pub eval_row : TopRow → Row
eval_row row = record { doc = row.doc; score = row.score }

pub tops-back : (tops : List TopRow) → map top_row (map eval_row tops) ≡ tops
tops-back [] = refl
tops-back (r ∷ tops) = ap (λ (rs : List TopRow). r ∷ rs) (tops-back tops)

eval-has : (tops : List TopRow) (r : TopRow) → Contains tops r → Contains (map eval_row tops) (eval_row r)
eval-has [] r c = absurd (none r c)
eval-has (q ∷ tops) r c = elim (here-or-later q r tops c) [
  | inl i ↦ subst (λ (x : TopRow). Contains (map eval_row (q ∷ tops)) (eval_row x)) i (here (eval_row q) (map eval_row tops))
  | inr k ↦ later (eval_row q) (eval_row r) (map eval_row tops) (eval-has tops r k)
]

eval-from : (tops : List TopRow) (r : Row) → Contains (map eval_row tops) r → (q : TopRow) × Contains tops q × (eval_row q ≡ r)
eval-from [] r c = absurd (none r c)
eval-from (q ∷ tops) r c = elim (here-or-later (eval_row q) r (map eval_row tops) c) [
  | inl i ↦ (q, here q tops, i)
  | inr k ↦ let (p, m, e) = eval-from tops r k in (p, later q p tops m, e)
]

each-has : (P : TopRow → Type 0) (tops : List TopRow) (r : TopRow) → Each P tops → Contains tops r → P r
each-has P [] r e c = absurd (none r c)
each-has P (q ∷ tops) r e c = elim (here-or-later q r tops c) [ inl i ↦ subst P i e.0 | inr k ↦ each-has P tops r e.1 k ]

each-rows : (P : TopRow → Type 0) (rows : List Row) → ((r : Row) → Contains rows r → P (top_row r)) → Each P (map top_row rows)
each-rows P [] f = tt
each-rows P (r ∷ rows) f = (f r (here r rows), each-rows P rows (λ q c. f q (later r q rows c)))

shown-has : (tops : List TopRow) (d : ℕ) → shows tops d ≡ true → (r : TopRow) × Contains tops r × (r.doc.0 ≡ d)
shown-has [] d h = absurd cc
shown-has (r ∷ tops) d h = elim (eqb_tells r.doc.0 d) [
  | inl y ↦ (r, here r tops, y.1)
  | inr n ↦ let (q, c, e) = shown-has tops d (sym (ap (λ (b : Bool). b || shows tops d) n.0) ∙ h) in (q, later r q tops c, e)
]

has-top : (rows : List Row) (r : Row) → Contains rows r → Contains (map top_row rows) (top_row r)
has-top [] r c = absurd (none r c)
has-top (q ∷ rows) r c = elim (here-or-later q r rows c) [
  | inl i ↦ subst (λ (x : Row). Contains (map top_row (q ∷ rows)) (top_row x)) i (here (top_row q) (map top_row rows))
  | inr k ↦ later (top_row q) (top_row r) (map top_row rows) (has-top rows r k)
]

ranked-tops : (rows : List Row) → AreInTurn rows → AreRanked (map top_row rows)
ranked-tops [] is = tt
ranked-tops (r ∷ rows) is = (
  each-rows (λ q. Beats (top_row r) q.doc.0 q.score) rows (λ q c. next-later RanksBefore ranks-trans r q rows is c),
  ranked-tops rows (next-tail RanksBefore r rows is),
)

ranked-evals : (tops : List TopRow) → AreRanked tops → AreInTurn (map eval_row tops)
ranked-evals [] is = tt
ranked-evals (r ∷ tops) is = next-cons RanksBefore (eval_row r) (map eval_row tops) (head tops is.0) (ranked-evals tops is.1)
  where
    head : (tops : List TopRow) → Each (λ q. Beats r q.doc.0 q.score) tops → Heads RanksBefore (eval_row r) (map eval_row tops)
    head [] e = tt
    head (q ∷ tops) e = e.0

-- ---- the first rows of an answer, by scores

abbrev often_at : History → ℕ → DocId → List ℕ → ℕ
often_at h t doc word = frequency_at h word doc t

sum-zeros : (weigh : List ℕ → ℕ) (words : List (List ℕ)) → sum_by (λ w. weigh w * 0) words ≡ 0
sum-zeros weigh [] = refl
sum-zeros weigh (w ∷ words) = let c = sum_by-cons (λ w. weigh w * 0) w words in omega (arith, c, sum-zeros weigh words)

-- a document that isn't alive has no score
score-alive : (h : History) (t : ℕ) (query : Query) (doc : DocId) → 0 < score query (often_at h t doc) → IsSome (text_at h doc t)
score-alive h t query doc some = go (text_at h doc t) some
  where
    go : (held : Option (List ℕ)) → 0 < score query (λ word. unwrap_or (option_map (occurrences word) held) 0) → IsSome held
    go None some = absurd (omega (arith, some, sum-zeros (weight query) (words_of query)))
    go (Some text) some = refl

module _ (h : History) (t : ℕ) (query : Query) (whole : List Row) (of : ℕ → ℕ) (any : (f : List ℕ → ℕ) → matches query f ≡ nat_lt 0 (score query f))
    (scores : (doc : DocId) → of doc.0 ≡ score query (often_at h t doc)) (answer : IsAnswerAt h t query whole) where
  -- the row of a document with a score
  row_in : (doc : DocId) → 0 < of doc.0 → Contains whole (record { doc = doc; score = of doc.0 })
  row_in doc some =
      let is = scores doc in
      let some-is : 0 < score query (often_at h t doc) = omega (arith, some, is) in
      (answer.each (record { doc = doc; score = of doc.0 })).1 (record {
        alive = score-alive h t query doc some-is;
        matching = any (often_at h t doc) ∙ grind (arith, nat_tests, some-is);
        scored = is;
      })

  -- a row of the answer has the score of its document
  in_row : (row : Row) → Contains whole row → (row.score ≡ of row.doc.0) × (0 < row.score)
  in_row row c =
      let r = (answer.each row).0 c in
      let is = scores row.doc in
      let m : nat_lt 0 (score query (often_at h t row.doc)) ≡ true = sym (any (often_at h t row.doc)) ∙ r.matching in
      let some : 0 < score query (often_at h t row.doc) = grind (arith, nat_tests, m) in
      (r.scored ∙ sym is, omega (arith, some, r.scored))

  -- the first of the answer are the first by score
  pub first_by_score : (n : ℕ) → AreFirst of n (map top_row (take n whole))
  first_by_score n = record {
    ranked = ranked-tops (take n whole) (take-ranked n whole answer.ranked);
    few = omega (arith, length-map (take n whole) top_row, length-take n whole);
    scored = each-rows (λ r. (r.score ≡ of r.doc.0) × (0 < r.score)) (take n whole) (λ r c. in_row r (take-from n whole r c));
    rest = λ d some hidden. last d some hidden (first-or-behind n whole (record { doc = record { 0 = d }; score = of d }) answer.ranked (row_in (record { 0 = d }) some));
  }
    where
      last : (d : ℕ) → 0 < of d → shows (map top_row (take n whole)) d ≡ false
          → Contains (take n whole) (record { doc = record { 0 = d }; score = of d }) ⊎ ((length (take n whole) ≡ n) × AllBefore (take n whole) (record { doc = record { 0 = d }; score = of d }))
          → (length (map top_row (take n whole)) ≡ n) × Each (λ r. Beats r d (of d)) (map top_row (take n whole))
      last d some hidden (inl c) =
          let row : Row = record { doc = record { 0 = d }; score = of d } in
          absurd (let s = shows-row (map top_row (take n whole)) (top_row row) (has-top (take n whole) row c) in cc)
      last d some hidden (inr (full, before)) = (
        length-map (take n whole) top_row ∙ full,
        each-rows (λ r. Beats r d (of d)) (take n whole) (λ r c. before r c),
      )

  -- and what is first by score is the first of the answer
  pub score_by_first : (n : ℕ) (tops : List TopRow) → AreFirst of n tops → map eval_row tops ≡ take n whole
  score_by_first n tops is =
      one-first n (map eval_row tops) whole (ranked-evals tops is.ranked) answer.ranked (omega (arith, is.few, length-map tops eval_row))
      (λ q c. let (r, m, e) = eval-from tops q c in subst (λ (x : Row). Contains whole x) e (there r m))
      (λ q c. rest q c (shows tops q.doc.0) refl)
    where
      there : (r : TopRow) → Contains tops r → Contains whole (eval_row r)
      there r m =
          let s = each-has (λ (r : TopRow). (r.score ≡ of r.doc.0) × (0 < r.score)) tops r is.scored m in
          let c = row_in r.doc (omega (arith, s.0, s.1)) in
          subst (λ (x : ℕ). Contains whole (record { doc = r.doc; score = x })) (sym s.0) c

      rest : (q : Row) → Contains whole q → (b : Bool) → shows tops q.doc.0 ≡ b → Contains (map eval_row tops) q ⊎ ((length (map eval_row tops) ≡ n) × AllBefore (map eval_row tops) q)
      rest q c true e =
          let (r, m, doc) = shown-has tops q.doc.0 e in
          let s = each-has (λ (r : TopRow). (r.score ≡ of r.doc.0) × (0 < r.score)) tops r is.scored m in
          let same = same-row (eval_row r) q doc (s.0 ∙ ap of doc ∙ sym (in_row q c).0) in
          inl (subst (λ (x : Row). Contains (map eval_row tops) x) same (eval-has tops r m))
      rest q c false e =
          let mine = in_row q c in
          let behind = is.rest q.doc.0 (omega (arith, mine.0, mine.1)) e in
          inr (
            length-map tops eval_row ∙ behind.0,
            λ x k. (let (r, m, i) = eval-from tops x k in
                subst (λ (y : Row). RanksBefore y q) i (subst (λ (n : ℕ). Beats r q.doc.0 n) (sym mine.0) (each-has (λ r. Beats r q.doc.0 (of q.doc.0)) tops r behind.1 m))),
          )

-- ---- there are such rows

-- sheets of some words
pub each_sheets : (h : History) (t : ℕ) → ((word : List ℕ) → (s : Sheet) × IsSheetOf h word (plan_of h word) t s) → (words : List (List ℕ)) → (ss : List Sheet) × AreSheets h t words ss
each_sheets h t each [] = ([], tt)
each_sheets h t each (w ∷ words) = let (s, is) = each w in let (ss, are) = each_sheets h t each words in (s ∷ ss, (is, are))

pub one_zip : (R : List ℕ → Sheet → Type 0) → ((w : List ℕ) (s r : Sheet) → R w s → R w r → s ≡ r) → (words : List (List ℕ)) (ss rs : List Sheet) → AllZip R words ss → AllZip R words rs → ss ≡ rs
one_zip R one [] [] [] a b = refl
one_zip R one [] [] (r ∷ rs) a b = absurd b
one_zip R one [] (s ∷ ss) rs a b = absurd a
one_zip R one (w ∷ words) [] rs a b = absurd a
one_zip R one (w ∷ words) (s ∷ ss) [] a b = absurd b
one_zip R one (w ∷ words) (s ∷ ss) (r ∷ rs) a b = ap₂ (λ (x : Sheet) (xs : List Sheet). x ∷ xs) (one w s r a.0 b.0) (one_zip R one words ss rs a.1 b.1)

-- what may be opened for the first rows of an answer
pub found_by_blocks : (h : History) (t count : ℕ) (query : Query) (whole : List Row) (ss : List Sheet) → IsLoadable h → t < 2 ^ 40 → ((f : List ℕ → ℕ) → matches query f ≡ nat_lt 0 (score query f))
    → IsAnswerAt h t query whole → AreSheets h t (words_of query) ss → (opened blocks : ℕ) × AreFoundByBlocks h t count query (take count whole) opened blocks
found_by_blocks h t count query whole ss loads now any answer are =
    let of = top_score t (weights_in query) ss in
    let first = first_by_score h t query whole of any (λ doc. sheets_score h t loads now query ss doc are) answer count in
    let may = may_open t (weights_in query) ss count (map top_row (take count whole)) (sheets_true h t loads now (words_of query) ss are) first in (
      length may.os,
      sum_by (λ (s : Sheet). length s.heads) ss,
      record {
        sheets = ss;
        sheets_are = are;
        os = may.os;
        inside = may.inside;
        distinct = may.distinct;
        wanted = may.wanted;
        shown = may.shown;
        opened_is = refl;
        blocks_are = refl;
      },
    )
