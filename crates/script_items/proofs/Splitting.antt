-- Bytes split into items in one way, and a script is broken at one place at most.
use Rattle.std.specs.Prelude.{◌≡◌, ◌⊎◌, ℕ, ◌+◌, ◌-◌, ◌≤◌, Bool, true, false, List, [], ◌∷◌, ◌++◌, length, drop, filter_map, Option, Some, None, refl}
use Rattle.std.proofs.Common.{inl, inr, arith, ap, sym, ◌∙◌, subst, append-nil, length-drop}
use Rattle.base_commands.specs.declared.command.Item.{Item}
use Rattle.script_read.specs.declared.part.Part.{Part}
use Rattle.script_read.specs.declared.first.First.{First}
use Rattle.script_read.specs.declared.first.First.TheVariants.{Whole, Broken, More, End}
use Rattle.script_read.specs.Items as parted
use Rattle.script_read.specs.Items.{first, Pieces, IsNoPiece}
use Rattle.script_read.proofs.Joins as joins
use Rattle.script_read.proofs.Splitting as below
use Rattle.script_items.specs.Groups.{Begun, Made, makes}
use Rattle.script_items.specs.Items.{Items, IsNoSkip, Begins, Splits, IsBrokenAt, IsScript, Waits, found_behind}
use Rattle.script_items.proofs.GroupLemmas.{divide, nothing_made, one_front}

-- ---- what is found

no_skip : (f : First) → IsNoPiece f → IsNoSkip f
no_skip (Whole part n) unfinished = absurd unfinished
no_skip (Broken n) unfinished = tt
no_skip More unfinished = tt
no_skip End unfinished = tt

more_so : (begun : Option Begun) (before len : ℕ) (f : First) → IsNoPiece f → More ≡ found_behind begun before len f → f ≡ More
more_so begun before len (Whole part n) unfinished is = absurd unfinished
more_so begun before len (Broken n) unfinished is = cc
more_so begun before len More unfinished is = refl
more_so None before len End unfinished is = cc
more_so (Some batch) before len End unfinished is = cc

end_so : (begun : Option Begun) (before len : ℕ) (f : First) → IsNoPiece f → End ≡ found_behind begun before len f → (f ≡ End) × (begun ≡ None)
end_so begun before len (Whole part n) unfinished is = absurd unfinished
end_so begun before len (Broken n) unfinished is = cc
end_so begun before len More unfinished is = cc
end_so None before len End unfinished is = (refl, refl)
end_so (Some batch) before len End unfinished is = cc

broken_so : (begun : Option Begun) (before len within : ℕ) (f : First) → IsNoPiece f → Broken within ≡ found_behind begun before len f → ((n : ℕ) × (f ≡ Broken n)) ⊎ (f ≡ End)
broken_so begun before len within (Whole part n) unfinished is = absurd unfinished
broken_so begun before len within (Broken n) unfinished is = inl (n, refl)
broken_so begun before len within More unfinished is = cc
broken_so begun before len within End unfinished is = inr refl

-- where no part and no skipped line stands in front, nothing is passed over
nothing_passed : (e : Bool) (bytes tail : List ℕ) (pieces : List (Option Part)) → Pieces e bytes pieces tail → filter_map (λ p. p) pieces ≡ [] → IsNoSkip (first e bytes) → tail ≡ bytes
nothing_passed e bytes tail [] turn none in_front = turn
nothing_passed e bytes tail (None ∷ pieces) (n, whole, turn) none in_front = absurd (subst IsNoSkip whole in_front)
nothing_passed e bytes tail (Some part ∷ pieces) turn none in_front = absurd cc

pub end-is : (e : Bool) (bytes : List ℕ) → Begins e bytes End → (e ≡ true) × (bytes ≡ [])
end-is e bytes b =
    let so = end_so (makes None b.parts).begun b.before (length bytes) (first e b.tail) b.unfinished b.found_is in
    let last = below.end-is e b.tail so.0 in
    let none : filter_map (λ p. p) b.in_turn.pieces ≡ [] = b.in_turn.items_are ∙ nothing_made b.parts b.none_whole so.1 in
    (last.0, sym (nothing_passed e bytes b.tail b.in_turn.pieces b.in_turn.in_turn none b.in_front) ∙ last.1)

pub never-more : (bytes : List ℕ) → Begins true bytes More → ⊥
never-more bytes b = below.never-more b.tail (more_so (makes None b.parts).begun b.before (length bytes) (first true b.tail) b.unfinished b.found_is)

-- where more is wanted the end was not told
pub more-open : (e : Bool) (bytes : List ℕ) → Begins e bytes More → e ≡ false
more-open e bytes b = below.more-open e b.tail (more_so (makes None b.parts).begun b.before (length bytes) (first e b.tail) b.unfinished b.found_is)

-- ---- where bytes are cut

-- Bytes that are parts are these parts, skipped lines behind the last of them too, and then those.
record Cut (e : Bool) (bytes : List ℕ) (a b : List Part) (tail : List ℕ) : Type 0 where
  pub mid : List ℕ
  pub front : parted.Items e bytes a mid
  pub behind : parted.Items e mid b tail
  pub in_front : IsNoSkip (first e mid)

cut_nothing : (e : Bool) (bytes tail : List ℕ) (a b : List Part) → tail ≡ bytes → [] ≡ a ++ b → IsNoPiece (first e tail) → Cut e bytes a b tail
cut_nothing e bytes tail [] b turn are unfinished = record {
  mid = bytes;
  front = record { pieces = []; items_are = refl; in_turn = refl };
  behind = record { pieces = []; items_are = are; in_turn = turn };
  in_front = subst (λ (l : List ℕ). IsNoSkip (first e l)) turn (no_skip (first e tail) unfinished);
}
cut_nothing e bytes tail (x ∷ a) b turn are unfinished = absurd cc

cut : (e : Bool) (bytes tail : List ℕ) (pieces : List (Option Part)) (a b : List Part) → Pieces e bytes pieces tail → filter_map (λ p. p) pieces ≡ a ++ b → IsNoPiece (first e tail)
    → Cut e bytes a b tail
cut e bytes tail [] a b turn are unfinished = cut_nothing e bytes tail a b turn are unfinished
cut e bytes tail (None ∷ pieces) a b (n, whole, turn) are unfinished =
    let c = cut e (drop n bytes) tail pieces a b turn are unfinished in
    record {
      mid = c.mid;
      front = record { pieces = None ∷ c.front.pieces; items_are = c.front.items_are; in_turn = (n, whole, c.front.in_turn) };
      behind = c.behind;
      in_front = c.in_front;
    }
cut e bytes tail (Some part ∷ pieces) [] b (n, whole, turn) are unfinished = record {
  mid = bytes;
  front = record { pieces = []; items_are = refl; in_turn = refl };
  behind = record { pieces = Some part ∷ pieces; items_are = are; in_turn = (n, whole, turn) };
  in_front = subst IsNoSkip (sym whole) tt;
}
cut e bytes tail (Some part ∷ pieces) (x ∷ a) b (n, whole, turn) are unfinished =
    let head : part ≡ x = cc in
    let tails : filter_map (λ p. p) pieces ≡ a ++ b = cc in
    let c = cut e (drop n bytes) tail pieces a b turn tails unfinished in
    record {
      mid = c.mid;
      front = record { pieces = Some part ∷ c.front.pieces; items_are = (let rest = c.front.items_are in cc); in_turn = (n, whole, c.front.in_turn) };
      behind = c.behind;
      in_front = c.in_front;
    }

shorter : (e : Bool) (bytes rest : List ℕ) (pieces : List (Option Part)) → Pieces e bytes pieces rest → length rest ≤ length bytes
shorter e bytes rest [] turn = omega (arith, ap length turn)
shorter e bytes rest (p ∷ pieces) (n, whole, turn) = omega (arith, shorter e (drop n bytes) rest pieces turn, length-drop n bytes)

-- Behind lines that are skipped, bytes of which no item is whole begin with what the tail begins with.
pub record Behind (e : Bool) (bytes : List ℕ) (parts : List Part) (tail : List ℕ) (f : First) : Type 0 where
  pub rest : List ℕ
  pub skipped : Items e bytes [] rest
  pub in_turn : parted.Items e rest parts tail
  pub before : ℕ
  pub place : before + length tail ≡ length rest
  pub begins : Begins e rest (found_behind (makes None parts).begun before (length rest) f)

begins_by : (e : Bool) (bytes : List ℕ) (parts : List Part) (tail : List ℕ) → parted.Items e bytes parts tail → IsNoSkip (first e bytes) → (makes None parts).items ≡ [] → IsNoPiece (first e tail)
    → Begins e bytes (found_behind (makes None parts).begun (length bytes - length tail) (length bytes) (first e tail))
begins_by e bytes parts tail turn in_front none unfinished = record {
  in_front = in_front;
  parts = parts;
  tail = tail;
  in_turn = turn;
  none_whole = none;
  unfinished = unfinished;
  before = length bytes - length tail;
  place = omega (arith, shorter e bytes tail turn.pieces turn.in_turn);
  found_is = refl;
}

pub behind_skipped : (e : Bool) (bytes : List ℕ) (parts : List Part) (tail : List ℕ) (f : First) → parted.Items e bytes parts tail → (makes None parts).items ≡ [] → IsNoPiece f → first e tail ≡ f
    → Behind e bytes parts tail f
behind_skipped e bytes parts tail f turn none unfinished is =
    let so : IsNoPiece (first e tail) = subst IsNoPiece (sym is) unfinished in
    let c = cut e bytes tail turn.pieces [] parts turn.in_turn turn.items_are so in
    record {
      rest = c.mid;
      skipped = record { parts = []; in_turn = c.front; are = refl };
      in_turn = c.behind;
      before = length c.mid - length tail;
      place = omega (arith, shorter e c.mid tail c.behind.pieces c.behind.in_turn);
      begins = subst (λ (f : First). Begins e c.mid (found_behind (makes None parts).begun (length c.mid - length tail) (length c.mid) f)) is (begins_by e c.mid parts tail c.behind c.in_front none so);
    }

-- parts of which no item is whole, and behind which more is wanted, are an item that waits
pub waits_so : (e : Bool) (bytes : List ℕ) (parts : List Part) (tail : List ℕ) → parted.Items e bytes parts tail → (makes None parts).items ≡ [] → parted.Waits e tail → Waits e bytes
waits_so e bytes parts tail turn none (rest, skipped, more) =
    let all : parted.Items e bytes parts rest = subst (λ (l : List Part). parted.Items e bytes l rest) (append-nil parts) (joins.items-join e bytes tail rest parts [] turn skipped) in
    let b = behind_skipped e bytes parts rest More all none tt more in
    (b.rest, b.skipped, b.begins)

pub each_splits : (e : Bool) (bytes : List ℕ) → (items : List Item) × (rest : List ℕ) × Splits e bytes items rest
each_splits e bytes =
    let has = below.each_splits e bytes in
    let d = divide [] None has.0 refl in
    let turn = has.2.0 in
    let c = cut e bytes has.1 turn.pieces d.whole d.behind turn.in_turn (turn.items_are ∙ d.parts_are) has.2.1 in (
      (makes None has.0).items,
      c.mid,
      (
        record { parts = d.whole; in_turn = c.front; are = d.are },
        (found_behind (makes None d.behind).begun (length c.mid - length has.1) (length c.mid) (first e has.1), begins_by e c.mid d.behind has.1 c.behind c.in_front (ap (λ (m : Made). m.items) d.under_way) has.2.1),
      ),
    )

-- ---- in one way

one_rest : (e : Bool) (bytes r s : List ℕ) (ps qs : List (Option Part)) → Pieces e bytes ps r → Pieces e bytes qs s → filter_map (λ p. p) ps ≡ filter_map (λ p. p) qs
    → IsNoSkip (first e r) → IsNoSkip (first e s) → r ≡ s
one_rest e bytes r s [] [] a b same front other = a ∙ sym b
one_rest e bytes r s [] (None ∷ qs) a (n, whole, b) same front other = absurd (subst IsNoSkip (ap (first e) a ∙ whole) front)
one_rest e bytes r s [] (Some q ∷ qs) a b same front other = absurd cc
one_rest e bytes r s (None ∷ ps) [] (n, whole, a) b same front other = absurd (subst IsNoSkip (ap (first e) b ∙ whole) other)
one_rest e bytes r s (Some p ∷ ps) [] a b same front other = absurd cc
one_rest e bytes r s (None ∷ ps) (None ∷ qs) (n, whole, a) (m, here, b) same front other =
    let told : Whole None n ≡ Whole None m = sym whole ∙ here in
    let k : n ≡ m = cc in
    one_rest e (drop n bytes) r s ps qs a (subst (λ (k : ℕ). Pieces e (drop k bytes) qs s) (sym k) b) same front other
one_rest e bytes r s (None ∷ ps) (Some q ∷ qs) (n, whole, a) (m, here, b) same front other = absurd (let told : Whole None n ≡ Whole (Some q) m = sym whole ∙ here in cc)
one_rest e bytes r s (Some p ∷ ps) (None ∷ qs) (n, whole, a) (m, here, b) same front other = absurd (let told : Whole (Some p) n ≡ Whole None m = sym whole ∙ here in cc)
one_rest e bytes r s (Some p ∷ ps) (Some q ∷ qs) (n, whole, a) (m, here, b) same front other =
    let told : Whole (Some p) n ≡ Whole (Some q) m = sym whole ∙ here in
    let k : n ≡ m = cc in
    let tails : filter_map (λ p. p) ps ≡ filter_map (λ p. p) qs = cc in
    one_rest e (drop n bytes) r s ps qs a (subst (λ (k : ℕ). Pieces e (drop k bytes) qs s) (sym k) b) tails front other

-- all parts of bytes that are split
parts_of : (e : Bool) (bytes : List ℕ) (xs : List Item) (r : List ℕ) (i : Items e bytes xs r) (f : First) (b : Begins e r f) → parted.Splits e bytes (i.parts ++ b.parts) b.tail
parts_of e bytes xs r i f b = (joins.items-join e bytes r b.tail i.parts b.parts i.in_turn b.in_turn, b.unfinished)

pub one_split : (e : Bool) (bytes : List ℕ) (xs ys : List Item) (r s : List ℕ) → Splits e bytes xs r → Splits e bytes ys s → (xs ≡ ys) × (r ≡ s)
one_split e bytes xs ys r s (a, (f, p)) (b, (g, q)) =
    let all = below.one_split e bytes (a.parts ++ p.parts) (b.parts ++ q.parts) p.tail q.tail (parts_of e bytes xs r a f p) (parts_of e bytes ys s b g q) in
    let begun : (l : List Part) (items : List Item) → makes None l ≡ record { items = items; begun = None } → (makes None l).begun ≡ None = λ l items is. ap (λ (m : Made). m.begun) is in
    let whole = one_front None a.parts p.parts b.parts q.parts (begun a.parts xs a.are) (begun b.parts ys b.are) p.none_whole q.none_whole all.0 in (
      ap (λ (m : Made). m.items) (sym a.are ∙ ap (makes None) whole ∙ b.are),
      one_rest e bytes r s a.in_turn.pieces b.in_turn.pieces a.in_turn.in_turn b.in_turn.in_turn (a.in_turn.items_are ∙ whole ∙ sym b.in_turn.items_are) p.in_front q.in_front,
    )

-- bytes begin with one thing
pub begins_once : (e : Bool) (bytes : List ℕ) (f g : First) → Begins e bytes f → Begins e bytes g → f ≡ g
begins_once e bytes f g a b =
    let same = below.one_split e bytes a.parts b.parts a.tail b.tail (a.in_turn, a.unfinished) (b.in_turn, b.unfinished) in
    let place : a.before ≡ b.before = omega (arith, a.place, b.place, ap length same.1) in
    let one : found_behind (makes None a.parts).begun a.before (length bytes) (first e a.tail) ≡ found_behind (makes None b.parts).begun b.before (length bytes) (first e b.tail) =
    rw (same.0, same.1, place) refl in
    a.found_is ∙ one ∙ sym b.found_is

broken_split : (e : Bool) (bytes : List ℕ) (at : ℕ) → (b : IsBrokenAt e bytes at) → Splits e bytes b.items b.rest
broken_split e bytes at b = (b.before, (Broken b.within, b.broken))

-- the script is broken at one place at most
pub broken_once : (e : Bool) (bytes : List ℕ) (one other : ℕ) → IsBrokenAt e bytes one → IsBrokenAt e bytes other → one ≡ other
broken_once e bytes one other a b =
    let same = one_split e bytes a.items b.items a.rest b.rest (broken_split e bytes one a) (broken_split e bytes other b) in
    let told : Broken a.within ≡ Broken b.within = begins_once e b.rest (Broken a.within) (Broken b.within) (subst (λ (l : List ℕ). Begins e l (Broken a.within)) same.1 a.broken) b.broken in
    let within : a.within ≡ b.within = cc in
    omega (arith, a.place, b.place, within, ap length same.1)

-- where more is wanted the script isn't broken
pub not_broken : (e : Bool) (bytes : List ℕ) (items : List Item) (rest : List ℕ) → Splits e bytes items rest → Begins e rest More → (at : ℕ) → IsBrokenAt e bytes at → ⊥
not_broken e bytes items rest split more at b =
    let same = one_split e bytes items b.items rest b.rest split (broken_split e bytes at b) in
    let told : More ≡ Broken b.within = begins_once e b.rest More (Broken b.within) (subst (λ (l : List ℕ). Begins e l More) same.1 more) b.broken in
    cc

-- nothing, at the end of the input
pub begins_nothing : Begins true [] End
begins_nothing = record {
  in_front = tt;
  parts = [];
  tail = [];
  in_turn = record { pieces = []; items_are = refl; in_turn = refl };
  none_whole = refl;
  unfinished = tt;
  before = 0;
  place = refl;
  found_is = refl;
}

-- A script is broken nowhere: neither the front of it while more may come, nor the whole at its end.
pub script_unbroken : (bytes : List ℕ) (at : ℕ) → IsScript bytes → IsBrokenAt true bytes at → ⊥
script_unbroken bytes at script b =
    let same = one_split true bytes script.0 b.items [] b.rest (script.1, (End, begins_nothing)) (broken_split true bytes at b) in
    let told : End ≡ Broken b.within = begins_once true b.rest End (Broken b.within) (subst (λ (l : List ℕ). Begins true l End) same.1 begins_nothing) b.broken in
    cc

pub script_whole : (front more : List ℕ) (at : ℕ) → IsScript (front ++ more) → IsBrokenAt false front at → ⊥
script_whole front more at script b =
    go (broken_so (makes None p.parts).begun p.before (length b.rest) b.within (first false p.tail) p.unfinished p.found_is)
  where
    p : Begins false b.rest (Broken b.within)
    p = b.broken

    go : ((n : ℕ) × (first false p.tail ≡ Broken n)) ⊎ (first false p.tail ≡ End) → ⊥
    go (inl (n, is)) =
        let broken : first true (p.tail ++ more) ≡ Broken n = below.broken-append p.tail more n is in
        let turn = joins.items-append true front more p.tail (b.before.parts ++ p.parts) (parts_of false front b.items b.rest b.before (Broken b.within) p).0 in
        let same = below.one_split true (front ++ more) script.1.parts (b.before.parts ++ p.parts) [] (p.tail ++ more) (script.1.in_turn, tt) (turn, subst IsNoPiece (sym broken) tt) in
        let told : End ≡ Broken n = ap (first true) same.1 ∙ broken in
        cc
    go (inr is) = let told = (below.end-is false p.tail is).0 in cc
