-- What holds of each sample.
use Rattle.std.specs.Prelude.{◌≡◌, ℕ, ◌+◌, ◌*◌, ◌<◌, ◌≤◌, ◌^◌, length, map, All}
use Rattle.base_types.specs.declared.ids.DocId.{DocId}
use Rattle.base_commands.specs.Documents.{HasDocument}
use Rattle.base_commands.specs.declared.text.Text.{Text}
use Rattle.base_commands.specs.declared.text.Text.TheVariants.{Bytes, TooLong}
use Rattle.base_commands.specs.declared.command.Kind.{Kind}
use Rattle.base_commands.specs.declared.command.Kind.TheVariants.{Guarantee, Uniform, Since}
use Rattle.base_commands.specs.declared.command.Command.{Command}
use Rattle.base_commands.specs.declared.command.Command.TheVariants.{Arrive, Delete, Plan, Find, Verify}
use Rattle.base_commands.specs.declared.command.Item.TheVariants as item
use Rattle.base_sample.specs.Samples.{minute, sample_of}

-- A sample has its changes and nineteen commands more.
abbrev pub SamplesHaveLengths : Type 0
SamplesHaveLengths = (seed count : ℕ) → length (sample_of seed count) ≡ count + 19

-- The documents that its commands name are numbers below 2^32.
abbrev pub SamplesHaveDocuments : Type 0
SamplesHaveDocuments = (seed count : ℕ) → All HasDocument (map (λ c. item.Command c) (sample_of seed count))

-- Of 1 to 100, the documents of a sample.
abbrev pub IsSampled : DocId → Type 0
IsSampled doc = (1 ≤ doc.0) × (doc.0 ≤ 100)

-- A text whose bytes are there; a plan with a guarantee.
abbrev pub IsGiven : Text → Type 0
IsGiven (Bytes bytes) = Unit {0}
IsGiven (TooLong bytes) = ⊥

abbrev pub IsGuarantee : Kind → Type 0
IsGuarantee Guarantee = Unit {0}
IsGuarantee Uniform = ⊥
IsGuarantee (Since at) = ⊥

-- The commands that a sample may have: changes of its documents, plans with a guarantee, questions at a time, and checks.
abbrev pub MayBeSampled : Command → Type 0
MayBeSampled (Arrive doc at text) = IsSampled doc × IsGiven text
MayBeSampled (Delete doc at) = IsSampled doc
MayBeSampled (Plan word kind fraction) = IsGuarantee kind
MayBeSampled (Find at expr) = Unit {0}
MayBeSampled Verify = Unit {0}
MayBeSampled other = ⊥

-- A sample has no other commands.
abbrev pub SamplesAreOfFewKinds : Type 0
SamplesAreOfFewKinds = (seed count : ℕ) → All MayBeSampled (sample_of seed count)

-- So many minutes are 60 times as many seconds, where there is such a time.
abbrev pub MinutesAreExact : Type 0
MinutesAreExact = (minutes : ℕ) → 60 * minutes < 2 ^ 40 → (minute minutes).seconds ≡ 60 * minutes
