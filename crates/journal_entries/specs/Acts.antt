-- The acts of a batch: how they are spelled, and which have a spelling.
use Rattle.std.specs.Prelude.{ℕ, ◌^◌, ◌<◌, ◌≤◌, List, [], ◌∷◌, ◌++◌, length, All, IsUtf8}
use Rattle.std.specs.Int.{w32, w64, to_be_bytes}
use Rattle.journal_entries.specs.declared.act.Act.{Act}
use Rattle.journal_entries.specs.declared.act.Act.TheVariants as acts
use Rattle.journal_entries.specs.declared.entry.Entry.{Entry}
use Rattle.journal_entries.specs.declared.entry.Entry.TheVariants.{Arrive, Delete}

-- the most bytes of a version's text
abbrev pub most_text : ℕ
most_text = 4194304

-- the most acts of a batch
abbrev pub most_acts : ℕ
most_acts = 1000

-- an act as an entry of its own
abbrev pub alone : Act → Entry
alone (acts.Arrive doc at text) = Arrive doc at text
alone (acts.Delete doc at) = Delete doc at

-- the bytes of an act: the tag, and its fields
abbrev pub act_spelling : Act → List ℕ
act_spelling (acts.Arrive doc at text) = 1 ∷ (to_be_bytes w32 doc.0 ++ (to_be_bytes w64 at.seconds ++ text))
act_spelling (acts.Delete doc at) = 2 ∷ (to_be_bytes w32 doc.0 ++ to_be_bytes w64 at.seconds)

-- how many bytes the text of an act has
abbrev pub act_length : Act → ℕ
act_length (acts.Arrive doc at text) = length text
act_length (acts.Delete doc at) = 0

-- an act behind how many bytes it has
abbrev pub act_bytes : Act → List ℕ
act_bytes act = to_be_bytes w32 (length (act_spelling act)) ++ act_spelling act

-- the bytes of acts, one after another
abbrev pub acts_bytes : List Act → List ℕ
acts_bytes [] = []
acts_bytes (act ∷ acts) = act_bytes act ++ acts_bytes acts

-- what stands in front of the acts of a batch: the tag, and how many acts there are
abbrev pub batch_front : ℕ → List ℕ
batch_front count = 4 ∷ to_be_bytes w32 count

-- the bytes of a batch
unfoldable pub batch_spelling : List Act → List ℕ
batch_spelling acts = batch_front (length acts) ++ acts_bytes acts

-- ---- what has a spelling

-- the fields of an act are in their ranges
abbrev pub IsAct : Act → Type 0
IsAct (acts.Arrive doc at text) = (doc.0 < 2 ^ 32) × (at.seconds < 2 ^ 40) × (length text ≤ most_text) × IsUtf8 text
IsAct (acts.Delete doc at) = (doc.0 < 2 ^ 32) × (at.seconds < 2 ^ 40)

-- there are as many acts as a batch may have
abbrev pub IsBatchSized : List Act → Type 0
IsBatchSized acts = (1 ≤ length acts) × (length acts ≤ most_acts)

-- a batch has acts, and their fields are in their ranges
pub record IsBatch (acts : List Act) : Type 0 where
  pub sized : IsBatchSized acts
  pub each : All IsAct acts
