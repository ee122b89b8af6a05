-- The machine reads each text as the grammar has it.
use Rattle.std.specs.Prelude.{◌≡◌, ℕ, zero, suc, nat_eq, nat_lt, Bool, true, false, ◌<◌, ◌≤◌, List, [], ◌∷◌, length, take, Option, Some, None, option_and_then, Result, Ok, Err, refl}
use Rattle.std.proofs.Common.{arith, ap, sym, ◌∙◌, eqb-true, ltb-true, ltb-false}
use Rattle.std.proofs.lemmas.List.{length-map}
use Rattle.std.proofs.lemmas.Bool.{eqb-false}
use Rattle.std.proofs.Math.Seq.{take-length}
use Rattle.query_lang.specs.declared.term.Term.{Term}
use Rattle.query_lang.specs.declared.token.Token.{Token}
use Rattle.query_lang.specs.declared.token.Placed.{Placed}
use Rattle.query_lang.specs.Tokens.{tokens, plain}
use Rattle.query_lang.specs.Grammar.{Query, Writes, BreakAt, place_at, IsRead}
use Rattle.query_lang.specs.Machine.{Reading, Wants, step, whole, run, read_from, read, or_place}
use Rattle.query_lang.proofs.Complete.{writes-run, begins-run}
use Rattle.query_lang.proofs.Sound.{run-begins, run-writes}

-- one text has one query
pub one_query : (ts : List Token) (p q : Query) → Writes ts p → Writes ts q → p ≡ q
one_query ts p q v w =
    let a = writes-run ts p v in
    let b = writes-run ts q w in
    let same : a.0 ≡ b.0 = cc in
    cc

-- where a front stops, each longer front stops
stops : (ts : List Token) (r : Reading) (k m : ℕ) → k ≤ m → run r (take k ts) ≡ None → run r (take m ts) ≡ None
stops ts r zero m h e = absurd cc
stops [] r (suc k) m h e = absurd cc
stops (t ∷ ts) r (suc k) zero h e = absurd (omega (arith, h))
stops (t ∷ ts) r (suc k) (suc m) h e = go (λ x. stops ts x k m (omega (arith, h))) (step r t) e
  where
    go : ((x : Reading) → run x (take k ts) ≡ None → run x (take m ts) ≡ None) → (o : Option Reading)
        → option_and_then (λ x. run x (take k ts)) o ≡ None → option_and_then (λ x. run x (take m ts)) o ≡ None
    go f None e = refl
    go f (Some x) e = f x e

-- what reading from here on comes to
record StopsAt (end : ℕ) (r : Reading) (ss : List Placed) (at n : ℕ) : Type 0 where
  within : n ≤ length ss
  place : at ≡ place_at end ss n
  reached : Reading
  before : run r (take n (plain ss)) ≡ Some reached
  unfinished : n ≡ length ss → whole reached ≡ None
  stopped : n < length ss → run r (take (suc n) (plain ss)) ≡ None

abbrev ReadsTo : ℕ → Reading → List Placed → Result Query ℕ → Type 0
ReadsTo end r ss (Ok q) = (s : Reading) × (run r (plain ss) ≡ Some s) × (whole s ≡ Some q)
ReadsTo end r ss (Err at) = (n : ℕ) × StopsAt end r ss at n

reads-on : (end : ℕ) (s : Placed) (ss : List Placed) (r m : Reading) (result : Result Query ℕ)
    → step r s.token ≡ Some m → ReadsTo end m ss result → ReadsTo end r (s ∷ ss) result
reads-on end s ss r m (Ok q) h l = (l.0, rw h l.1, l.2)
reads-on end s ss r m (Err at) h (n, l) = (
  suc n,
  record {
    within = omega (arith, l.within);
    place = l.place;
    reached = l.reached;
    before = rw h l.before;
    unfinished = λ e. l.unfinished (omega (arith, e));
    stopped = λ lt. rw h (l.stopped (omega (arith, lt)));
  },
)

reads : (end : ℕ) (ss : List Placed) (r : Reading) → ReadsTo end r ss (read_from end r ss)
reads end [] r = go (whole r) refl
  where
    go : (o : Option Query) → whole r ≡ o → ReadsTo end r [] (or_place end (λ q. Ok q) o)
    go (Some q) h = (r, refl, h)
    go None h = (0, record { within = omega arith; place = refl; reached = r; before = refl; unfinished = λ e. h; stopped = λ lt. absurd (omega (arith, lt)) })
reads end (s ∷ ss) r = go (λ m. reads end ss m) (step r s.token) refl
  where
    go : ((m : Reading) → ReadsTo end m ss (read_from end m ss)) → (o : Option Reading) → step r s.token ≡ o
        → ReadsTo end r (s ∷ ss) (or_place s.at (λ m. read_from end m ss) o)
    go f (Some m) h = reads-on end s ss r m (read_from end m ss) h (f m)
    go f None h = (0, record { within = omega arith; place = refl; reached = r; before = refl; unfinished = λ e. absurd (omega (arith, e)); stopped = λ lt. rw h refl })

-- Each text is read as the grammar has it.
pub is_read : (key : List ℕ → Option Term) (text : List ℕ) → IsRead key text (read key text)
is_read key text = go (read key text) (reads (length text) (tokens key text) (Wants []))
  where
    ss : List Placed
    ss = tokens key text

    ts : List Token
    ts = plain ss

    same_length : length ts ≡ length ss
    same_length = length-map ss _

    go : (result : Result Query ℕ) → ReadsTo (length text) (Wants []) ss result → IsRead key text result
    go (Ok q) l = run-writes ts l.0 q l.1 l.2
    go (Err at) (n, l) = (
      n,
      record {
        within = omega (arith, l.within, same_length);
        begins = run-begins (take n ts) l.reached l.before;
        longest = λ m lt le b. longer m lt le (begins-run (take m ts) b);
        unwritten = λ q w. unwritten q (writes-run ts q w) (nat_eq n (length ss)) refl;
      },
      l.place,
    )
      where
        longer : (m : ℕ) → n < m → m ≤ length ts → (s : Reading) × (run (Wants []) (take m ts) ≡ Some s) → ⊥
        longer m lt le b =
            let stop = stops ts (Wants []) (suc n) m (omega (arith, lt)) (l.stopped (omega (arith, lt, le, same_length))) in
            absurd cc

        unwritten : (q : Query) → (s : Reading) × (run (Wants []) ts ≡ Some s) × (whole s ≡ Some q) → (b : Bool) → nat_eq n (length ss) ≡ b → ⊥
        unwritten q w true h =
            let e : n ≡ length ss = eqb-true _ _ h in
            let all : take n ts ≡ ts = ap (λ k. take k ts) (e ∙ sym same_length) ∙ take-length ts in
            let here = l.before in
            let none = l.unfinished e in
            let again : run (Wants []) (take n ts) ≡ run (Wants []) ts = ap (run (Wants [])) all in
            absurd cc
        unwritten q w false h =
            let lt : n < length ss = omega (arith, l.within, eqb-false _ _ h) in
            let all : take (length ts) ts ≡ ts = take-length ts in
            let stop = stops ts (Wants []) (suc n) (length ts) (omega (arith, lt, same_length)) (l.stopped lt) in
            let again : run (Wants []) (take (length ts) ts) ≡ run (Wants []) ts = ap (run (Wants [])) all in
            absurd cc

one_break : (ts : List Token) (n m : ℕ) → BreakAt ts n → BreakAt ts m → n ≡ m
one_break ts n m a b = go (nat_lt n m) (nat_lt m n) refl refl
  where
    go : (p q : Bool) → nat_lt n m ≡ p → nat_lt m n ≡ q → n ≡ m
    go true q h k = absurd (a.longest m (ltb-true _ _ h) b.within b.begins)
    go false true h k = absurd (b.longest n (ltb-true _ _ k) a.within a.begins)
    go false false h k = omega (arith, ltb-false _ _ h, ltb-false _ _ k)

-- a text is read one way
pub one_reading : (key : List ℕ → Option Term) (text : List ℕ) (a b : Result Query ℕ) → IsRead key text a → IsRead key text b → a ≡ b
one_reading key text (Ok p) (Ok q) v w = ap (λ x. Ok x) (one_query _ p q v w)
one_reading key text (Ok p) (Err at) v (n, b, e) = absurd (b.unwritten p v)
one_reading key text (Err at) (Ok q) (n, b, e) w = absurd (b.unwritten q w)
one_reading key text (Err at) (Err there) (n, a, e) (m, b, f) =
    ap (λ x. Err x) (e ∙ ap (place_at (length text) (tokens key text)) (one_break _ n m a b) ∙ sym f)
