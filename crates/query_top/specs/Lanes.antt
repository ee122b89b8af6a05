-- How far a word's blocks are gone through.
use Rattle.std.specs.Prelude.{◌≡◌, ℕ, zero, suc, ◌+◌, ◌*◌, ◌<◌, ◌≤◌, ◌^◌, ◌==◌, ◌&&◌, max, true, if◌then◌else◌, List, [], ◌∷◌, length, take, drop, get_or, ⊤}
use Rattle.std.specs.List.{AllZip}
use Rattle.base_types.specs.declared.posting.Posting.{Posting}
use Rattle.lists_postings.specs.Lists.{holds}
use Rattle.query_top.specs.Sheets.{Sheet, joined, often, greatest, covers, most, no_head}
use Rattle.query_top.specs.Firsts.{Each}
use Rattle.query_top.specs.declared.lane.Lane.{Lane}

-- how often some postings have a document at the time, all in all
abbrev pub tally : ℕ → ℕ → List Posting → ℕ
tally at d [] = 0
tally at d (p ∷ ps) = (if p.doc.0 == d && holds at p then p.tf else 0) + tally at d ps

-- the documents don't fall
abbrev pub AreAscending : List Posting → Type 0
AreAscending [] = ⊤
AreAscending (p ∷ ps) = Each (λ q. p.doc.0 ≤ q.doc.0) ps × AreAscending ps

-- What is so of a lane whatever the headers and the blocks hold: it stays in its lists, and its numbers in their bounds.
pub record IsFit (heads : ℕ) (lane : Lane) : Type 0 where
  pub covering : lane.cover ≤ heads
  pub reaches : lane.after ≤ heads
  pub cursor : lane.cursor ≤ length lane.hits.items
  pub light : lane.weight ≤ 1000
  pub ends : lane.flat_to ≤ 2 ^ 32
  pub border : lane.border ≤ lane.start
  pub starts : lane.start ≤ 2 ^ 32

-- What is so of a lane at any document: of the blocks in front the passed ones end before it and the opened ones
-- begin up to it; the hits that are left say what the opened blocks and the postings outside have from there on.
pub record Keeps (at : ℕ) (s : Sheet) (d : ℕ) (lane : Lane) : Type 0 where
  pub passed : (i : ℕ) → i < lane.cover → i < length s.heads → (get_or s.heads i no_head).last.0 < d
  pub covering : lane.cover ≤ length s.heads
  pub begun : (i : ℕ) → i < lane.opened → (get_or s.heads i no_head).first.0 ≤ d
  pub within : lane.opened ≤ length s.heads
  pub tells : (x : ℕ) → d ≤ x
      → tally at x (drop lane.cursor lane.hits.items) ≡ tally at x (joined (take lane.opened s.blocks)) + tally at x s.flat
  pub ascending : AreAscending lane.hits.items
  pub ahead : (i : ℕ) → lane.opened ≤ i → i < length s.heads → Each (λ p. p.doc.0 ≤ (get_or s.heads i no_head).first.0) lane.hits.items
  pub flat_from : Each (λ p. (lane.flat_from ≤ p.doc.0) × (p.doc.0 < lane.flat_to)) s.flat
  pub flat_top : lane.flat_top ≡ greatest s.flat
  pub ends : lane.flat_to ≤ 2 ^ 32

-- What is so of it up to its border: the blocks that cover these documents, and the most that one of them has.
pub record Stands (at : ℕ) (s : Sheet) (d : ℕ) (lane : Lane) : Type 0 where
  pub high : (x : ℕ) → d ≤ x → x < lane.border → often at x s ≤ lane.top
  pub low : (x : ℕ) → d ≤ x → x < lane.border → lane.top ≤ most (covers x) s
  pub range : (x i : ℕ) → d ≤ x → x < lane.border → lane.cover ≤ i → i < lane.after → covers x (get_or s.heads i no_head) ≡ true
  pub reaches : lane.after ≤ length s.heads
  pub behind : lane.cover ≤ lane.after
  pub opened : lane.opened ≤ lane.after
  pub later : (i : ℕ) → lane.after ≤ i → i < length s.heads → lane.start ≤ (get_or s.heads i no_head).first.0
  pub border : lane.border ≤ lane.start
  pub ends : lane.start ≤ 2 ^ 32

-- a lane at a document: what it says of the documents up to its border is so, if it says something
pub record Lies (at : ℕ) (s : Sheet) (d : ℕ) (lane : Lane) : Type 0 where
  pub keeps : Keeps at s d lane
  pub stands : d < lane.border → Stands at s d lane

-- its cursor is at a hit or behind them all
abbrev pub HasCursor : Lane → Type 0
HasCursor lane = lane.cursor ≤ length lane.hits.items

-- what the hits that are left give a document, lane by lane
abbrev pub given : ℕ → ℕ → List Lane → ℕ
given at x [] = 0
given at x (l ∷ lanes) = l.weight * tally at x (drop l.cursor l.hits.items) + given at x lanes

-- the sum over lanes of the weight times what a lane has
abbrev pub weighted : (Lane → ℕ) → List Lane → ℕ
weighted f [] = 0
weighted f (l ∷ lanes) = l.weight * f l + weighted f lanes

-- the lanes' weights, in order
abbrev pub weights_of : List Lane → List ℕ
weights_of [] = []
weights_of (l ∷ lanes) = l.weight ∷ weights_of lanes

-- of a word, the first block that was neither opened nor passed over
abbrev pub opened_at : List Lane → ℕ → ℕ
opened_at [] word = 0
opened_at (l ∷ lanes) zero = l.opened
opened_at (l ∷ lanes) (suc word) = opened_at lanes word

-- each lane stays in its word's lists
abbrev pub AreFit : List Sheet → List Lane → Type 0
AreFit sheets lanes = AllZip (λ s l. IsFit (length s.heads) l) sheets lanes

-- each lane is at the document
abbrev pub Lie : ℕ → ℕ → List Sheet → List Lane → Type 0
Lie at d sheets lanes = AllZip (λ s l. Lies at s d l) sheets lanes

-- the blocks of a lane that cover the document in hand are opened, and else only its hits changed
pub record IsOpened (old new : Lane) : Type 0 where
  pub same : new ≡ record old { opened = max (max old.opened old.cover) old.after; hits = new.hits; cursor = new.cursor }
  pub cursor : new.cursor ≤ length new.hits.items

-- hits of a lane are passed, none of which is of a document from this one on
pub record IsPassed (at end : ℕ) (old new : Lane) : Type 0 where
  pub same : new ≡ record old { cursor = new.cursor }
  pub cursor : new.cursor ≤ length old.hits.items
  pub left : AreAscending old.hits.items → (x : ℕ) → end ≤ x
      → tally at x (drop new.cursor old.hits.items) ≡ tally at x (drop old.cursor old.hits.items)
