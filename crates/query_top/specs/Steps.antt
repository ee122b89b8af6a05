-- How the search goes on from document to document.
use Rattle.std.specs.Prelude.{◌≡◌, ◌⊎◌, ℕ, ◌+◌, ◌-◌, ◌<◌, max, true, List, [], ◌∷◌, ◌++◌, get_or, Contains}
use Rattle.base_types.specs.declared.posting.Posting.{Posting}
use Rattle.lists_postings.specs.Lists.{holds}
use Rattle.query_top.specs.Sheets.{Sheet, score, bound, sheet_at, head_at}
use Rattle.query_top.specs.Firsts.{Each, AreFirst, AreEnough, below, shows}
use Rattle.query_top.specs.Opening.{Opened, AreDistinct, run_of}
use Rattle.query_top.specs.Lanes.{Lie, opened_at}
use Rattle.query_top.specs.declared.lane.Lane.{Lane}
use Rattle.query_top.specs.declared.ranking.Row.{Row}

-- the blocks that cover the document in hand and weren't opened, word by word from this one on
abbrev pub runs : ℕ → List Lane → List Opened
runs word [] = []
runs word (l ∷ lanes) = run_of word (max l.opened l.cover) (l.after - max l.opened l.cover) ++ runs (word + 1) lanes

-- The documents before d are gone through, with these blocks opened: the rows are the first of those documents, no block was
-- opened twice, none is needless, and those that have a posting of a document shown are opened.
pub record AreThrough (at : ℕ) (weights : List ℕ) (sheets : List Sheet) (count d : ℕ) (lanes : List Lane) (rows : List Row)
    (os : List Opened) : Type 0 where
  pub lies : Lie at d sheets lanes
  pub first : AreFirst (below d (score at weights sheets)) count rows
  pub distinct : AreDistinct os
  pub inside : Each (λ o. o.block < opened_at lanes o.word) os
  pub wanted : Each (λ o. AreEnough (score at weights sheets) count (head_at sheets o.word o.block).first.0
      (bound weights sheets (head_at sheets o.word o.block)) → ⊥) os
  pub passed : (word i : ℕ) → i < opened_at lanes word → Contains os (record { word = word; block = i })
      ⊎ ((head_at sheets word i).last.0 < d)
  pub shown : (o : Opened) (p : Posting) → Contains (get_or (sheet_at sheets o.word).blocks o.block []) p → holds at p ≡ true
      → shows rows p.doc.0 ≡ true → Contains os o
