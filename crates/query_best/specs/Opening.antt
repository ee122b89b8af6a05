-- What a call that opens a block leads to.
use Rattle.std.specs.Prelude.{◌≡◌, ℕ, ◌+◌, ◌<◌, List, length, map, Result, IfOk, IfErr}
use Rattle.std.specs.declared.alloc.Global.{Global}
use Rattle.std.specs.declared.vec.Vec.{Vec}
use Rattle.base_types.specs.declared.posting.Posting.{Posting}
use Rattle.pages_sublists.specs.Fetching.{IfDamaged, IfFailed}
use Rattle.pages_sublists.specs.declared.why.FetchError.{FetchError}
use Rattle.query_top.specs.Sheets.{Sheet, sheet_at}
use Rattle.query_best.specs.Held.{IsBadOf, sheet_of}
use Rattle.query_best.specs.declared.held.HeldWord.{HeldWord}
use Rattle.query_best.specs.declared.shelf.Shelf.{Shelf}

-- what is held, as sheets
abbrev pub sheets_of : List HeldWord → List Sheet
sheets_of words = map sheet_of words

-- a block that is there was opened, and counted; or it is damaged
pub record IsOpening (x : Shelf) (word block : ℕ) (answer : Result (Vec Posting Global) FetchError) (y : Shelf) : Type 0 where
  pub same : y.words ≡ x.words
  pub there : block < length (sheet_at (sheets_of x.words.items) word).heads
  pub counted : IfOk answer (λ v. y.opened ≡ x.opened + 1)
  pub failed : IfErr answer (IfFailed ⊥)
  pub damaged : IfErr answer (IfDamaged (IsBadOf x.words.items))
