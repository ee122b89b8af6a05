-- What a packet is to a history, by the entry that is kept of its number.
use Rattle.std.specs.Prelude.{◌≡◌, ◌≢◌, ℕ, ◌+◌, ◌<◌, List, take, slice_get, Option}
use Rattle.journal_packets.specs.declared.case.Case.{Case}
use Rattle.journal_packets.specs.declared.case.Case.TheVariants.{Had, Conflict, Gap, Next}

-- Two lists of bytes differ first at this place, with these bytes there, None past the end.
pub record DifferAt (place : ℕ) (kept got : Option ℕ) (kept_all got_all : List ℕ) : Type 0 where
  pub same : take place kept_all ≡ take place got_all
  pub kept_is : slice_get kept_all place ≡ kept
  pub got_is : slice_get got_all place ≡ got
  pub differ : kept ≢ got

-- What the packet of an entry of which these bytes are kept is.
abbrev pub IsKeptCase : List ℕ → List ℕ → Case → Type 0
IsKeptCase kept got Had = got ≡ kept
IsKeptCase kept got (Conflict place one other) = DifferAt place one other kept got
IsKeptCase kept got Gap = ⊥
IsKeptCase kept got Next = ⊥

-- What the packet of an entry is that is not kept, where so many are.
abbrev pub IsNewCase : ℕ → ℕ → Case → Type 0
IsNewCase have number Had = ⊥
IsNewCase have number (Conflict place one other) = ⊥
IsNewCase have number Gap = have + 1 < number
IsNewCase have number Next = number ≡ have + 1
