-- The first rows: what a pass keeps has them.
use Rattle.std.proofs.Common.{◌≡◌, ◌⊎◌, ℕ, zero, suc, ◌+◌, ◌-◌, ◌<◌, ◌≤◌, List, [], ◌∷◌, ◌++◌, length, take, get_or, Contains, Option, Some, None, IfSome, IsSome, refl, ap, sym, subst, ◌∙◌, arith, inl, inr}
use Rattle.std.proofs.lemmas.List.{take_all, length-take}
use Rattle.std.proofs.lemmas.List.Elements.{Contains-append_cases, Contains-append_left, Contains-append_right}
use Rattle.lists_postings.proofs.Elements.{here, later, here-or-later, none}
use Rattle.lists_postings.proofs.Order.{Heads, next-tail, next-head, next-cons, next-later}
use Rattle.query_eval.specs.Answers.{RanksBefore, AreRanked}
use Rattle.query_eval.specs.Firsts.{AreInOrder, AreFirst, AreEnough, IsLast, IsFront, AreWantedOf}
use Rattle.query_eval.specs.declared.answer.Row.{Row}
use Rattle.query_eval.specs.declared.answer.Wanted.{Wanted}
use Rattle.query_eval.specs.declared.answer.Wanted.TheVariants.{All}
use Rattle.query_eval.proofs.Ranks.{ranks-trans, never-both, in-order, in_order}

-- ---- rows in their order, and the first of them

pub take-from : (n : ℕ) (xs : List Row) (r : Row) → Contains (take n xs) r → Contains xs r
take-from zero xs r c = absurd (none r c)
take-from (suc n) [] r c = c
take-from (suc n) (x ∷ xs) r c = elim (here-or-later x r (take n xs) c) [
  | inl i ↦ subst (λ w. Contains (x ∷ xs) w) i (here x xs)
  | inr k ↦ later x r xs (take-from n xs r k)
]

heads-take : (x : Row) (n : ℕ) (xs : List Row) → Heads RanksBefore x xs → Heads RanksBefore x (take n xs)
heads-take x zero xs h = tt
heads-take x (suc n) [] h = h
heads-take x (suc n) (y ∷ ys) h = h

pub take-ranked : (n : ℕ) (xs : List Row) → AreRanked xs → AreRanked (take n xs)
take-ranked zero xs h = tt
take-ranked (suc n) [] h = h
take-ranked (suc n) (x ∷ xs) h = next-cons RanksBefore x (take n xs) (heads-take x n xs (next-head RanksBefore x xs h)) (take-ranked n xs (next-tail RanksBefore x xs h))

-- all rows of some stand before this one
abbrev pub AllBefore : List Row → Row → Type 0
AllBefore rows r = (q : Row) → Contains rows q → RanksBefore q r

-- a row behind x, and all of some that are
more-before : (x : Row) (rows : List Row) (r : Row) → RanksBefore x r → AllBefore rows r → AllBefore (x ∷ rows) r
more-before x rows r b each q c = elim (here-or-later x q rows c) [ inl i ↦ subst (λ w. RanksBefore w r) i b | inr k ↦ each q k ]

-- a row is among the first, or so many stand before it
pub first-or-behind : (n : ℕ) (xs : List Row) (r : Row) → AreRanked xs → Contains xs r → Contains (take n xs) r ⊎ ((length (take n xs) ≡ n) × AllBefore (take n xs) r)
first-or-behind zero xs r h c = inr (refl, λ q k. absurd (none q k))
first-or-behind (suc n) [] r h c = absurd (none r c)
first-or-behind (suc n) (x ∷ xs) r h c = go (here-or-later x r xs c) (first-or-behind n xs r (next-tail RanksBefore x xs h))
  where
    go : (x ≡ r) ⊎ Contains xs r → (Contains xs r → Contains (take n xs) r ⊎ ((length (take n xs) ≡ n) × AllBefore (take n xs) r))
        → Contains (x ∷ take n xs) r ⊎ ((length (x ∷ take n xs) ≡ suc n) × AllBefore (x ∷ take n xs) r)
    go (inl i) rest = inl (subst (λ w. Contains (x ∷ take n xs) w) i (here x (take n xs)))
    go (inr k) rest = elim (rest k) [
      | inl m ↦ inl (later x r (take n xs) m)
      | inr (m, each) ↦ inr (omega (arith, m), more-before x (take n xs) r (next-later RanksBefore ranks-trans x r xs h k) each)
    ]

-- where so many stand before a row, the first so many do
crowd : (some xs : List Row) (r : Row) → AreRanked some → AreRanked xs → ((q : Row) → Contains some q → Contains xs q) → AllBefore some r
    → (length (take (length some) xs) ≡ length some) × AllBefore (take (length some) xs) r
crowd [] xs r s h among each = (refl, λ q k. absurd (none q k))
crowd (y ∷ ys) [] r s h among each = absurd (none y (among y (here y ys)))
crowd (y ∷ ys) (x ∷ xs) r s h among each =
    let rest =
    crowd ys xs r (next-tail RanksBefore y ys s) (next-tail RanksBefore x xs h) (λ q c. elim (here-or-later x q xs (among q (later y q ys c))) [ inl i ↦ absurd (apart q c i) | inr k ↦ k ])
    (λ q c. each q (later y q ys c)) in
    (omega (arith, rest.0), more-before x (take (length ys) xs) r first rest.1)
  where
    first : RanksBefore x r
    first = elim (here-or-later x y xs (among y (here y ys))) [
      | inl i ↦ subst (λ w. RanksBefore w r) (sym i) (each y (here y ys))
      | inr k ↦ ranks-trans x y r (next-later RanksBefore ranks-trans x y xs h k) (each y (here y ys))
    ]

    -- the first of some isn't behind the first of all, so a later one isn't the first of all
    apart : (q : Row) → Contains ys q → x ≡ q → ⊥
    apart q c i =
        let b : RanksBefore y x = subst (λ w. RanksBefore y w) (sym i) (next-later RanksBefore ranks-trans y q ys s c) in
        elim (here-or-later x y xs (among y (here y ys))) [
          | inl j ↦ (let o : RanksBefore x x = subst (λ w. RanksBefore w x) (sym j) b in never-both x x o o)
          | inr k ↦ never-both x y (next-later RanksBefore ranks-trans x y xs h k) b
        ]

-- rows that have each of the first so many, and no more rows, are the first so many
pub one-first : (n : ℕ) (best xs : List Row) → AreRanked best → AreRanked xs → length best ≤ n → ((q : Row) → Contains best q → Contains xs q)
    → ((q : Row) → Contains xs q → Contains best q ⊎ ((length best ≡ n) × AllBefore best q)) → best ≡ take n xs
one-first zero [] xs b h few only rest = refl
one-first zero (y ∷ ys) xs b h few only rest = absurd (omega (arith, few))
one-first (suc n) [] [] b h few only rest = refl
one-first (suc n) [] (x ∷ xs) b h few only rest = absurd (elim (rest x (here x xs)) [ inl k ↦ none x k | inr (m, each) ↦ omega (arith, m) ])
one-first (suc n) (y ∷ ys) [] b h few only rest = absurd (none y (only y (here y ys)))
one-first (suc n) (y ∷ ys) (x ∷ xs) b h few only rest =
    let tails =
    one-first n ys xs (next-tail RanksBefore y ys b) (next-tail RanksBefore x xs h) (omega (arith, few)) (λ q c. elim (here-or-later x q xs (only q (later y q ys c))) [ inl i ↦ absurd (behind q c i) | inr k ↦ k ])
    (λ q c. elim (rest q (later x q xs c)) [
      | inl k ↦ elim (here-or-later y q ys k) [ inl i ↦ absurd (ahead q c i) | inr m ↦ inl m ]
      | inr (m, each) ↦ inr (omega (arith, m), λ z k. each z (later y z ys k))
    ]) in
    ap (λ (w : Row). w ∷ ys) same ∙ ap (λ (l : List Row). x ∷ l) tails
  where
    -- y is x, or x stands before it; and the other way round
    one : (x ≡ y) ⊎ RanksBefore x y
    one = elim (here-or-later x y xs (only y (here y ys))) [ inl i ↦ inl i | inr k ↦ inr (next-later RanksBefore ranks-trans x y xs h k) ]

    other : (y ≡ x) ⊎ RanksBefore y x
    other = elim (rest x (here x xs)) [
      | inl c ↦ elim (here-or-later y x ys c) [ inl i ↦ inl i | inr k ↦ inr (next-later RanksBefore ranks-trans y x ys b k) ]
      | inr (m, each) ↦ inr (each y (here y ys))
    ]

    same : y ≡ x
    same = elim other [
      | inl i ↦ i
      | inr p ↦ elim one [ inl j ↦ sym j | inr q ↦ absurd (never-both x y q p) ]
    ]

    behind : (q : Row) → Contains ys q → x ≡ q → ⊥
    behind q c i = let p = next-later RanksBefore ranks-trans y q ys b c in let o : RanksBefore q q = subst (λ w. RanksBefore w q) (same ∙ i) p in never-both q q o o

    ahead : (q : Row) → Contains xs q → y ≡ q → ⊥
    ahead q c i = let p = next-later RanksBefore ranks-trans x q xs h c in let o : RanksBefore q q = subst (λ w. RanksBefore w q) (sym same ∙ i) p in never-both q q o o

-- ---- along a pass

one-more : (made : List Row) (row r : Row) → Contains (made ++ row ∷ []) r → Contains made r ⊎ (row ≡ r)
one-more made row r c = elim (Contains-append_cases made (row ∷ []) r c) [
  | inl k ↦ inl k
  | inr k ↦ elim (here-or-later row r [] k) [ inl i ↦ inr i | inr m ↦ absurd (none r m) ]
]

in-front : (made : List Row) (row r : Row) → Contains made r → Contains (made ++ row ∷ []) r
in-front made row r c = Contains-append_left made (row ∷ []) r c

at-end : (made : List Row) (row : Row) → Contains (made ++ row ∷ []) row
at-end made row = Contains-append_right made (row ∷ []) row (here row [])

-- what is enough among some rows is so among more
enough-more : {P : Row → Type 0} (count : ℕ) (kept more : List Row) → ((r : Row) → Contains kept r → Contains more r) → AreEnough count kept P → AreEnough count more P
enough-more count kept more into e = record { some = e.some; ranked = e.ranked; enough = e.enough; among = λ r c. into r (e.among r c); each = e.each }

-- a row that stands behind the last is passed
pub front-passed : (count : ℕ) (made kept : List Row) (last row : Row) → IsFront count made kept (Some last) → (RanksBefore row last → ⊥) → IsFront count (made ++ row ∷ []) kept (Some last)
front-passed count made kept last row front behind = record {
  only = λ r c. in-front made row r (front.only r c);
  rest = λ r c. elim (one-more made row r c) [ inl k ↦ front.rest r k | inr i ↦ subst (λ w. Contains kept w ⊎ AreEnough count kept (λ x. RanksBefore x w)) i here-is ];
  bar = front.bar;
}
  where
    here-is : Contains kept row ⊎ AreEnough count kept (λ x. RanksBefore x row)
    here-is = elim (in-order row last) [
      | inl b ↦ absurd (behind b)
      | inr (inl i) ↦ inl (subst (λ w. Contains kept w) (sym i) front.bar.0)
      | inr (inr b) ↦
          let e = front.bar.1 in
          inr (record {
            some = e.some;
            ranked = e.ranked;
            enough = e.enough;
            among = e.among;
            each = λ r c. elim (e.each r c) [ inl i ↦ subst (λ w. RanksBefore w row) (sym i) b | inr p ↦ ranks-trans r last row p b ];
          })
    ]

pub front-behind : (count : ℕ) (made kept : List Row) (last : Option Row) (row : Row) → IsFront count made kept last → IfSome last (λ x. RanksBefore row x → ⊥) × IsSome last → IsFront count (made ++ row ∷ []) kept last
front-behind count made kept None row front (behind, some) = absurd cc
front-behind count made kept (Some last) row front (behind, some) = front-passed count made kept last row front behind

-- another one is kept
pub front-put : (count : ℕ) (made kept more : List Row) (last : Option Row) (row : Row) → IsFront count made kept last → more ≡ kept ++ row ∷ [] → IsFront count (made ++ row ∷ []) more last
front-put count made kept more last row front is = subst (λ (k : List Row). IsFront count (made ++ row ∷ []) k last) (sym is) (record {
  only = λ r c. elim (one-more kept row r c) [ inl k ↦ in-front made row r (front.only r k) | inr i ↦ subst (λ w. Contains (made ++ row ∷ []) w) i (at-end made row) ];
  rest = λ r c. elim (one-more made row r c) [
    | inl k ↦ elim (front.rest r k) [ inl m ↦ inl (in-front kept row r m) | inr e ↦ inr (enough-more count kept (kept ++ row ∷ []) (λ q d. in-front kept row q d) e) ]
    | inr i ↦ inl (subst (λ w. Contains (kept ++ row ∷ []) w) i (at-end kept row))
  ];
  bar = go last front.bar;
})
  where
    go : (o : Option Row) → IsLast count kept o → IsLast count (kept ++ row ∷ []) o
    go None b = tt
    go (Some last) b = (in-front kept row last b.0, enough-more count kept (kept ++ row ∷ []) (λ q d. in-front kept row q d) b.1)

-- and the first of those that are kept are enough
pub front-cut : (count : ℕ) (made kept first : List Row) (last now : Option Row) → IsFront count made kept last → AreFirst count kept first → IsLast count first now → IsFront count made first now
front-cut count made kept first last now front (all, o, is) bar = record {
  only = λ r c. front.only r ((o.each r).0 (take-from count all r (subst (λ l. Contains l r) is c)));
  rest = λ r c. subst (λ l. Contains l r ⊎ AreEnough count l (λ x. RanksBefore x r)) (sym is) (elim (front.rest r c) [
    | inl k ↦ elim (first-or-behind count all r o.ranked ((o.each r).1 k)) [ inl m ↦ inl m | inr (n, each) ↦ inr (these r n each) ]
    | inr e ↦
        let (n, each) = subst (λ m. (length (take m all) ≡ m) × AllBefore (take m all) r) e.enough (crowd e.some all r e.ranked o.ranked (λ q d. (o.each q).1 (e.among q d)) e.each) in
        inr (these r n each)
  ]);
  bar = bar;
}
  where
    these : (r : Row) → length (take count all) ≡ count → AllBefore (take count all) r → AreEnough count (take count all) (λ x. RanksBefore x r)
    these r n each = record { some = take count all; ranked = take-ranked count all o.ranked; enough = n; among = λ q c. c; each = each }

-- each of some rows stands up to the last of them
up-to-last : (n : ℕ) (xs : List Row) (last q : Row) → AreRanked xs → n + 1 ≡ length xs → get_or xs n last ≡ last → Contains xs q → (q ≡ last) ⊎ RanksBefore q last
up-to-last n [] last q h m is c = absurd (none q c)
up-to-last zero (x ∷ []) last q h m is c = elim (here-or-later x q [] c) [ inl i ↦ inl (sym i ∙ is) | inr k ↦ absurd (none q k) ]
up-to-last zero (x ∷ y ∷ ys) last q h m is c = absurd (omega (arith, m))
up-to-last (suc n) (x ∷ xs) last q h m is c = elim (here-or-later x q xs c) [
  | inl i ↦ inr (subst (λ w. RanksBefore w last) i (next-later RanksBefore ranks-trans x last xs h (n, omega (arith, m), is)))
  | inr k ↦ up-to-last n xs last q (next-tail RanksBefore x xs h) (omega (arith, m)) is k
]

-- what is said of the last of so many
abbrev pub IsAt : List Row → ℕ → Row → Type 0
IsAt rows count last = (0 < count) × (count ≤ length rows) × (last ≡ get_or rows (count - 1) last)

last-is : (count : ℕ) (kept first : List Row) (last : Row) → AreFirst count kept first → IsAt first count last → IsLast count first (Some last)
last-is count kept first last (all, o, same) (some, enough, at) = (
  (count - 1, omega (arith, some, enough), sym at),
  record { some = first; ranked = ranked; enough = n; among = λ q c. c; each = λ q c. up-to-last (count - 1) first last q ranked (omega (arith, some, n)) (sym at) c },
)
  where
    ranked : AreRanked first
    ranked = subst AreRanked (sym same) (take-ranked count all o.ranked)

    n : length first ≡ count
    n = omega (arith, enough, ap length same, length-take count all)

pub front-shortened : (count : ℕ) (made kept first : List Row) (last now : Option Row) → IsFront count made kept last → AreFirst count kept first → IfSome now (IsAt first count) → IsFront count made first now
front-shortened count made kept first last now front are at = front-cut count made kept first last now front are (go now at)
  where
    go : (o : Option Row) → IfSome o (IsAt first count) → IsLast count first o
    go None at = tt
    go (Some last) at = last-is count kept first last are at

-- so at the end they are the first of all
pub front-first : (count : ℕ) (made kept first : List Row) (last : Option Row) → IsFront count made kept last → AreFirst count kept first → AreFirst count made first
front-first count made kept first last front are = (
  all.0,
  all.1,
  one-first count first all.0 ranked all.1.ranked few (λ q c. (all.1.each q).1 (cut.only q c)) (λ q c. elim (cut.rest q ((all.1.each q).0 c)) [
    | inl k ↦ inl k
    | inr e ↦
        let (n, each) = crowd e.some first q e.ranked ranked e.among e.each in
        let whole : take (length e.some) first ≡ first = ap (λ m. take m first) e.enough ∙ take_all count first few in
        inr (omega (arith, sym (ap length whole), n, e.enough), subst (λ l. AllBefore l q) whole each)
  ]),
)
  where
    all : (rows : List Row) × AreInOrder rows made
    all = in_order made

    cut : IsFront count made first None
    cut = front-cut count made kept first last None front are tt

    ranked : AreRanked first
    ranked = subst AreRanked (sym are.2) (take-ranked count are.0 are.1.ranked)

    few : length first ≤ count
    few = omega (arith, ap length are.2, length-take count are.0)

-- ---- rows that are asked for

-- what is so of rows is so of those that are asked for
pub wanted-weaker : {P Q : List Row → Type 0} (wanted : Wanted) (rows : List Row) → ((all : List Row) → P all → Q all) → AreWantedOf wanted P rows → AreWantedOf wanted Q rows
wanted-weaker wanted rows so (all, is, cut) = (all, so all is, cut)

-- where all are asked for, it is so of them
pub wanted-all : (P : List Row → Type 0) (rows : List Row) → AreWantedOf All P rows → P rows
wanted-all P rows (all, is, same) = subst P (sym same) is
