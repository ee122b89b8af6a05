-- The blocks that are opened, and the calls that open them.
use Rattle.std.specs.Prelude.{◌≡◌, ◌≢◌, ℕ, zero, suc, ◌+◌, List, [], ◌∷◌, Result, Ok, Err, true, get_or, Contains, ⊤}
use Rattle.std.specs.declared.alloc.Global.{Global}
use Rattle.std.specs.declared.vec.Vec.{Vec}
use Rattle.base_types.specs.declared.posting.Posting.{Posting}
use Rattle.query_top.specs.Sheets.{Sheet, score, bound, sheet_at, head_at}
use Rattle.query_top.specs.Firsts.{Each, AreEnough}
use Rattle.lists_postings.specs.Lists.{holds}
use Rattle.query_top.specs.declared.ranking.Row.{Row}

-- a block by its word and its place, from 0
pub record Opened : Type 0 where
  pub word : ℕ
  pub block : ℕ

-- what a call of `open` leads from and to, by the block and the answer
abbrev pub Call : Type 0 → Type 0 → Type 1
Call S E = S → ℕ → ℕ → Result (Vec Posting Global) E → S → Type 0

-- one call for each of these blocks, in order, each on the value that the call before left
abbrev pub Opens : {S E : Type 0} → Call S E → S → List Opened → S → Type 0
Opens call x [] y = y ≡ x
Opens {S} call x (o ∷ os) y = (v : Vec Posting Global) × (z : S) × call x o.word o.block (Ok v) z × Opens call z os y

-- blocks were opened, and the call for one more was answered by a fault
pub record OpensToFault {S E : Type 0} (call : Call S E) (x : S) (fault : E) (y : S) : Type 0 where
  pub done : List Opened
  pub mid : S
  pub opens : Opens call x done mid
  pub word : ℕ
  pub block : ℕ
  pub last : call mid word block (Err fault) y

-- the blocks of a word from this place on, so many
abbrev pub run_of : ℕ → ℕ → ℕ → List Opened
run_of word from zero = []
run_of word from (suc n) = record { word = word; block = from } ∷ run_of word (from + 1) n

-- no block stands twice
abbrev pub AreDistinct : List Opened → Type 0
AreDistinct [] = ⊤
AreDistinct (o ∷ os) = Each (λ q. o ≢ q) os × AreDistinct os

-- the block has a posting at the time of a document that is shown
pub record HasShown (at : ℕ) (sheets : List Sheet) (rows : List Row) (o : Opened) : Type 0 where
  pub row : Row
  pub shown : Contains rows row
  pub posting : Posting
  pub there : Contains (get_or (sheet_at sheets o.word).blocks o.block []) posting
  pub doc : posting.doc ≡ row.doc
  pub held : holds at posting ≡ true

-- What was opened for some rows: each of these blocks, in order, none twice, none that is needless, and each that has a posting of a document
-- that is shown.
pub record HasOpened {S E : Type 0} (call : Call S E) (at : ℕ) (weights : List ℕ) (sheets : List Sheet) (count : ℕ) (rows : List Row)
    (old new : S) : Type 0 where
  pub os : List Opened
  pub opens : Opens call old os new
  pub distinct : AreDistinct os
  pub wanted : Each (λ o. AreEnough (score at weights sheets) count (head_at sheets o.word o.block).first.0
      (bound weights sheets (head_at sheets o.word o.block)) → ⊥) os
  pub shown : (o : Opened) → HasShown at sheets rows o → Contains os o
