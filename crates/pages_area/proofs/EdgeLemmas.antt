-- Edges in order, how many lead to a page, and the lowest free pages by them.
use Rattle.std.proofs.Common.{◌≡◌, Bool, ℕ, zero, suc, ◌+◌, ◌%◌, ◌<◌, ◌≤◌, ◌^◌, max, List, [], ◌∷◌, length, get_or, insert, remove, inl, inr, ap, cond, arith}
use Rattle.std.proofs.lemmas.Bool.{cases_lt, le-leb, lt-leb}
use Rattle.std.proofs.lemmas.Bool.Decides.{nat_tests}
use Rattle.std.proofs.lemmas.List.{places, get_or_default}
use Rattle.std.proofs.lemmas.List.Sums.{sum_by-cons}
use Rattle.pages_area.specs.Edges.{AreEdges, AreFree, BeginNoEarlier, edge, edges_to, step}

pub step_on : (p e : ℕ) → e ≤ p → step p e ≡ 1
step_on p e le = ap {B = ℕ} (λ (b : Bool). cond b 1 0) (le-leb e p le)

pub step_off : (p e : ℕ) → p < e → step p e ≡ 0
step_off p e lt = ap {B = ℕ} (λ (b : Bool). cond b 1 0) (lt-leb e p lt)

pub step_falls : (p a b : ℕ) → a ≤ b → step p b ≤ step p a
step_falls p a b le = grind (arith, nat_tests)

-- ---- the order

pub no_fall : (edges : List ℕ) (i j : ℕ) → AreEdges edges → i ≤ j → j < length edges → get_or edges i 0 ≤ get_or edges j 0
no_fall edges i j are le within = elim (cases_lt i j) [
  | inl lt ↦ omega (arith, are.rise i j lt within)
  | inr same ↦ (let e : i ≡ j = omega (arith, le, same) in omega (arith, ap (λ (k : ℕ). get_or edges k 0) e))
]

-- an edge that isn't at the end of all pages has another behind it, if only that end
pub next_edge : (edges : List ℕ) (i : ℕ) → AreEdges edges → edge edges i < 2 ^ 28 → (i < length edges) × (edge edges i < edge edges (i + 1))
next_edge edges i are below =
    let within : i < length edges = grind (arith, places) in
    (within, grind (arith, places, are.rise i (i + 1)))

pub edges_insert : (edges : List ℕ) (i page : ℕ) → AreEdges edges → page ≤ 2 ^ 28 → i ≤ length edges → ((k : ℕ) → k < i → get_or edges k 0 < page)
    → ((k : ℕ) → i ≤ k → k < length edges → page < get_or edges k 0) → AreEdges (insert edges i page)
edges_insert edges i page are limit le low high = record {
  rise = λ a b lt within. grind (arith, places);
  limit = λ a within. grind (arith, places);
}

pub edges_remove : (edges : List ℕ) (i : ℕ) → AreEdges edges → i < length edges → AreEdges (remove edges i)
edges_remove edges i are lt = record {
  rise = λ a b lt within. grind (arith, places);
  limit = λ a within. grind (arith, places, are.limit a, are.limit (a + 1));
}

pub ruleset order_stays = (edges_insert, edges_remove)

-- ---- how many lead to a page

-- as many as lie up to it, where the others lie behind it
pub count_at : (edges : List ℕ) (i p : ℕ) → i ≤ length edges → ((k : ℕ) → k < i → get_or edges k 0 ≤ p) → ((k : ℕ) → i ≤ k → k < length edges → p < get_or edges k 0) → edges_to edges p ≡ i
count_at [] i p le low high = omega (arith, le)
count_at (e ∷ edges) zero p le low high =
    let others = count_at edges zero p (omega arith) (λ k lt. absurd (omega (arith, lt))) (λ k from within. high (suc k) (omega arith) (omega (arith, within))) in
    omega (arith, sum_by-cons (step p) e edges, step_off p e (high 0 (omega arith) (omega arith)), others)
count_at (e ∷ edges) (suc i) p le low high =
    let others = count_at edges i p (omega (arith, le)) (λ k lt. low (suc k) (omega (arith, lt))) (λ k from within. high (suc k) (omega (arith, from)) (omega (arith, within))) in
    omega (arith, sum_by-cons (step p) e edges, step_on p e (low 0 (omega arith)), others)

-- the edge behind them tells of all others
count_upto : (edges : List ℕ) (i p : ℕ) → AreEdges edges → i ≤ length edges → ((k : ℕ) → k < i → get_or edges k 0 ≤ p) → p < edge edges i → edges_to edges p ≡ i
count_upto edges i p are le low high = count_at edges i p le low (λ k from within. omega (arith, no_fall edges i k are from within, high, get_or_default edges i 0 (2 ^ 28) (omega (arith, from, within))))

-- ---- whether pages are free

-- pages behind an even number of edges are free up to the next one
pub free_between : (edges : List ℕ) (i first n : ℕ) → AreEdges edges → i ≤ length edges → i % 2 ≡ 0 → ((k : ℕ) → k < i → get_or edges k 0 ≤ first) → first + n ≤ edge edges i → AreFree edges first n
free_between edges i first n are le even low high = λ p from below. omega (arith, even, count_upto edges i p are le (λ k lt. omega (arith, low k lt, from)) (omega (arith, high, below)))

-- and from there on they are taken, up to the next but one
pub taken_from : (edges : List ℕ) (i p : ℕ) → AreEdges edges → i % 2 ≡ 0 → i < length edges → edge edges i ≤ p → p < edge edges (i + 1) → edges_to edges p % 2 ≡ 1
taken_from edges i p are even within past high =
    let here = get_or_default edges i (2 ^ 28) 0 within in
    omega (arith, even, count_upto edges (i + 1) p are (omega (arith, within)) (λ k lt. omega (arith, no_fall edges k i are (omega (arith, lt)) within, here, past)) high)

-- where the free pages up to an edge are too few, those that are enough begin no earlier than at the edge behind
pub next_gap : (edges : List ℕ) (i first n : ℕ) → AreEdges edges → i % 2 ≡ 0 → 1 ≤ n → edge edges i < first + n → BeginNoEarlier n edges first → BeginNoEarlier n edges (edge edges (i + 1))
next_gap edges i first n are even some short lowest other limit free =
    let from = lowest other limit free in
    let next = next_edge edges i are (omega (arith, short, from, limit)) in
    let page = max other (edge edges i) in
    elim (cases_lt page (edge edges (i + 1))) [
      | inl lt ↦ absurd (omega (arith, free page (omega arith) (omega (arith, short, from, some)), taken_from edges i page are even next.0 (omega arith) lt))
      | inr le ↦ omega (arith, le, next.1)
    ]
