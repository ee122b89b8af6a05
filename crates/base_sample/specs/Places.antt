-- Where a sample stands: which of its commands comes next. It is what `Sample` keeps; no public clause names it.
use Rattle.std.specs.Prelude.{ℕ, ◌≤◌, List, [], ◌∷◌, ◌++◌, map}
use Rattle.base_commands.specs.declared.command.Command.{Command}
use Rattle.base_commands.specs.declared.command.Command.TheVariants.{Verify}
use Rattle.base_sample.specs.declared.place.Place.{Place}
use Rattle.base_sample.specs.declared.place.Place.TheVariants.{Change, Plan, Question, Check, End}
use Rattle.base_sample.specs.Samples.{from_to, change, plan, question, plans, questions}

-- The place is one of a sample with so many changes.
abbrev pub IsPlace : ℕ → Place → Type 0
IsPlace count (Change number) = number ≤ count
IsPlace count (Plan number) = number ≤ 8
IsPlace count (Question tenths) = tenths ≤ 10
IsPlace count Check = Unit {0}
IsPlace count End = Unit {0}

-- The commands from a place on.
abbrev pub commands_from : ℕ → ℕ → Place → List Command
commands_from start count (Change number) = map (change start) (from_to number count) ++ (plans ++ (questions count ++ Verify ∷ []))
commands_from start count (Plan number) = map plan (from_to number 8) ++ (questions count ++ Verify ∷ [])
commands_from start count (Question tenths) = map (question count) (from_to tenths 10) ++ Verify ∷ []
commands_from start count Check = Verify ∷ []
commands_from start count End = []
