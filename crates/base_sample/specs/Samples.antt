-- The commands of a sample.
use Rattle.std.specs.Prelude.{ℕ, ◌+◌, ◌-◌, ◌*◌, ◌/◌, ◌%◌, ◌^◌, ◌==◌, if◌then◌else◌, List, [], ◌∷◌, ◌++◌, map, decimal, unwrap_or}
use Rattle.std.specs.List.{range_with_len, join_with_byte}
use Rattle.std.proofs.Common.{lit<, lit≤}
use Rattle.base_types.specs.declared.ids.DocId.{DocId}
use Rattle.base_types.specs.declared.time.Time.{Time}
use Rattle.base_types.specs.declared.fraction.Fraction.{Fraction}
use Rattle.base_types.specs.Times.{time_of}
use Rattle.base_commands.specs.declared.text.Text.TheVariants.{Bytes}
use Rattle.base_commands.specs.declared.command.Kind.TheVariants.{Guarantee}
use Rattle.base_commands.specs.declared.command.Command.{Command}
use Rattle.base_commands.specs.declared.command.Command.TheVariants.{Arrive, Delete, Plan, Find, Verify}

-- The numbers from one to another, both among them.
abbrev pub from_to : ℕ → ℕ → List ℕ
from_to first last = range_with_len first (last + 1 - first)

-- The last time there is.
abbrev pub last_time : Time
last_time = record { seconds = 2 ^ 40 - 1; before_now = lit< tt }

-- So many minutes behind the start of 1970; where that is no time, the last one. No sample comes to that: it has at most 100,000
-- changes, a minute apart.
abbrev pub minute : ℕ → Time
minute minutes = unwrap_or (time_of (60 * minutes)) last_time

-- The words of a sample are `w0`, `w1` and so on.
abbrev pub word : ℕ → List ℕ
word number = 119 ∷ decimal number

-- Of a seed its last three decimal digits count.
abbrev pub start_of : ℕ → ℕ
start_of seed = seed % 1000

-- A change is of one of the documents 1 to 100.
abbrev pub document : ℕ → ℕ → DocId
document start number = record { 0 = (start + 7 * number) % 100 + 1 }

-- The text of a version is five of the words `w0` to `w199`, with one space between each two of them.
abbrev pub text : ℕ → ℕ → List ℕ
text start number = join_with_byte 32 (map (λ factor. word ((start + number * factor) % 200)) (from_to 1 5))

-- The changes come a minute apart. Each tenth is a deletion, the others are arrivals.
abbrev pub change : ℕ → ℕ → Command
change start number =
    if number % 10 == 0 then Delete (document start number) (minute number)
    else Arrive (document start number) (minute number) (Bytes (text start number))

-- A plan of a word, by which a read costs at most one and a half times what it needs.
abbrev pub three_halves : Fraction
three_halves = record { over = 3; under = 2; proper = lit≤ tt; at_least_one = lit≤ tt; in_range = lit< tt }

abbrev pub plan : ℕ → Command
plan number = Plan (word number) Guarantee three_halves

-- A question for the word of a number, so many tenths of the way through the changes.
abbrev pub question : ℕ → ℕ → Command
question count tenths = Find (minute (count * tenths / 10)) (word tenths)

-- The parts of a sample with so many changes.
abbrev pub changes : ℕ → ℕ → List Command
changes seed count = map (change (start_of seed)) (from_to 1 count)

abbrev pub plans : List Command
plans = map plan (from_to 1 8)

abbrev pub questions : ℕ → List Command
questions count = map (question count) (from_to 1 10)

-- The commands of the sample of a seed with so many changes: these, eight plans, ten questions and a check.
unfoldable pub sample_of : ℕ → ℕ → List Command
sample_of seed count = changes seed count ++ (plans ++ (questions count ++ Verify ∷ []))
