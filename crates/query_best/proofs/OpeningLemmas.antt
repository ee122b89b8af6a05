-- What many openings lead to.
use Rattle.std.specs.Prelude.{◌≡◌, ℕ, ◌+◌, ◌<◌, List, [], ◌∷◌, length, get_or}
use Rattle.std.proofs.lemmas.List.{get_or-map, length-map}
use Rattle.std.proofs.Common.{arith, ap, sym, subst, ◌∙◌}
use Rattle.pages_sublists.specs.Fetching.{IfDamaged, IfFailed}
use Rattle.pages_sublists.specs.declared.why.Damage.{Damage}
use Rattle.pages_sublists.specs.declared.why.FetchError.{FetchError}
use Rattle.pages_sublists.specs.declared.why.FetchError.TheVariants as fetches
use Rattle.query_top.specs.Firsts.{AreFirst, Each}
use Rattle.query_top.specs.Opening.{HasOpened, Opened, Opens, OpensToFault}
use Rattle.query_top.specs.Sheets.{Sheet, no_sheet, score, sheet_at}
use Rattle.query_top.specs.declared.ranking.Row.{Row}
use Rattle.query_best.specs.Held.{AreFound, IsBadBlock, IsBadOf, sheet_of}
use Rattle.query_best.specs.Opening.{IsOpening, sheets_of}
use Rattle.query_best.specs.declared.held.HeldWord.{HeldWord}
use Rattle.query_best.specs.declared.shelf.Shelf.{Shelf}

-- P holds of the damage, so Q does
pub if-damaged : (P Q : Damage → Type 0) → ((d : Damage) → P d → Q d) → (e : FetchError) → IfDamaged P e → IfDamaged Q e
if-damaged P Q f (fetches.Damaged d) is = f d is
if-damaged P Q f fetches.Failed is = tt
if-damaged P Q f fetches.Memory is = tt

-- a block of one of the words
pub bad-block : (words : List HeldWord) (word block : ℕ) (w : HeldWord) → word < length (sheets_of words) → w ≡ get_or words word w → block < length (sheet_at (sheets_of words) word).heads → (d : Damage) → IsBadBlock w.blocks block d → IsBadOf words d
bad-block words word block w there is inside d bad =
    let l : word < length words = omega (arith, there, length-map words sheet_of) in
    let here : sheet_at (sheets_of words) word ≡ sheet_of w = get_or-map sheet_of words word w no_sheet l ∙ ap sheet_of (sym is) in
    record { word = w; among = (word, l, sym is); block = block; there = subst (λ (s : Sheet). block < length s.heads) here inside; bad = bad }

-- they are counted, and each is there
pub record AreOpened (x y : Shelf) (os : List Opened) : Type 0 where
  pub same : y.words ≡ x.words
  pub counted : y.opened ≡ x.opened + length os
  pub inside : Each (λ o. o.block < length (sheet_at (sheets_of x.words.items) o.word).heads) os

pub are-opened : (x y : Shelf) (os : List Opened) → Opens (λ x word block answer y. IsOpening x word block answer y) x os y → AreOpened x y os
are-opened x y [] is = record { same = ap (λ (s : Shelf). s.words) is; counted = omega (arith, ap (λ (s : Shelf). s.opened) is); inside = tt }
are-opened x y (o ∷ os) (v, z, one, more) =
    let rest = are-opened z y os more in
    record {
      same = rest.same ∙ one.same;
      counted = omega (arith, rest.counted, one.counted);
      inside = (one.there, subst (λ ws. Each (λ o. o.block < length (sheet_at (sheets_of ws.items) o.word).heads) os) one.same rest.inside);
    }

pub bad-of : (x y : Shelf) (e : FetchError) → OpensToFault (λ x word block answer y. IsOpening x word block answer y) x e y → IfDamaged (IsBadOf x.words.items) e × IfFailed ⊥ e
bad-of x y e is =
    let same = (are-opened x is.mid is.done is.opens).same in (subst (λ ws. IfDamaged (IsBadOf ws.items) e) same is.last.damaged, is.last.failed)

-- what was opened for the first rows
pub found-of : (at : ℕ) (weights : List ℕ) (count : ℕ) (rows : List Row) (x y : Shelf) (sheets : List Sheet) → x.opened ≡ 0 → sheets_of x.words.items ≡ sheets → AreFirst (score at weights (sheets_of x.words.items)) count rows
    → HasOpened (λ x word block answer y. IsOpening x word block answer y) at weights (sheets_of x.words.items) count rows x y → AreFound at weights sheets count rows y.opened
found-of at weights count rows x y sheets none same first opened =
    let are = are-opened x y opened.os opened.opens in
    let here : AreFound at weights (sheets_of x.words.items) count rows y.opened = record {
      first = first;
      os = opened.os;
      inside = are.inside;
      distinct = opened.distinct;
      wanted = opened.wanted;
      shown = opened.shown;
      opened_is = omega (arith, are.counted, none);
    } in
    subst (λ (ss : List Sheet). AreFound at weights ss count rows y.opened) same here
