-- What the lines of a script say.
use Prim.Native.String.{String}
use Rattle.std.specs.Prelude.{ℕ, ◌^◌, Bool, ◌||◌, ◌==◌, ◌++◌, slice_index, if◌then◌else◌, List, [], ◌∷◌, Option, option_map, unwrap_or, codes, bytes_eq}
use Rattle.base_commands.specs.declared.command.Command.{Command}
use Rattle.base_commands.specs.declared.command.Command.TheVariants.{Delete, Plan, Begin, Format, Propose, Find, Between, Show, Certificate, Verify, Top, Best, Approx, Rough, Share}
use Rattle.base_commands.specs.declared.command.Kind.TheVariants.{Guarantee, Uniform, Since}
use Rattle.script_read.specs.declared.part.Part.{Part}
use Rattle.script_read.specs.declared.part.Part.TheVariants.{Batch}
use Rattle.script_read.specs.Parts.{told, no_command}
use Rattle.script_read.specs.Words.{word, after_word, is_blank}
use Rattle.script_read.specs.Forms.{◌▸◌, ◌▹◌, end, rest, checked, ◌or◌, named}
use Rattle.script_read.specs.Numbers.{number}
use Rattle.script_read.specs.Values.{document, time, text, expr, fraction, tolerance, top_count, best_count, batch_count, share_fraction, share_words, span_of}
use Rattle.script_read.specs.declared.line.Meaning.{Meaning}
use Rattle.script_read.specs.declared.line.Meaning.TheVariants.{Skipped, Alone, Arrival, Faulty}

-- `plan` has three forms: what a plan keeps to is told by the word before its fraction, and by the words behind it.
abbrev pub planning : List ℕ → Option Command
planning =
    (text ▸ "guarantee" ▹ fraction ▸ end) (λ w f. Plan w Guarantee f)
    or (text ▸ "space" ▹ fraction ▸ "uniform" ▹ end) (λ w f. Plan w Uniform f)
    or (text ▸ "space" ▹ fraction ▸ "since" ▹ time ▸ end) (λ w f at. Plan w (Since at) f)

-- The commands by their names, with what stands behind them. Those that change an archive, but arrivals:
abbrev pub changes : List (String × (List ℕ → Option Command))
changes =
    ("delete", (document ▸ time ▸ end) Delete)
    ∷ ("plan", planning)
    ∷ ("begin", (text ▸ "guarantee" ▹ fraction ▸ end) Begin)
    ∷ ("format", ("2" ▹ end) Format)
    ∷ []

-- Those that ask, and leave it as it is:
abbrev pub questions : List (String × (List ℕ → Option Command))
questions =
    ("find", (time ▸ rest expr) Find)
    ∷ ("between", (time ▸ time ▸ checked (rest expr)) (λ from to. option_map (λ span expr. Between span expr) (span_of from to)))
    ∷ ("show", (document ▸ time ▸ end) Show)
    ∷ ("propose", (text ▸ "guarantee" ▹ fraction ▸ end) Propose)
    ∷ ("certificate", (text ▸ end) Certificate)
    ∷ ("verify", end Verify)
    ∷ []

-- And those that report, and leave it as it is too:
abbrev pub reports : List (String × (List ℕ → Option Command))
reports =
    ("top", (top_count ▸ time ▸ rest expr) Top)
    ∷ ("best", (best_count ▸ time ▸ rest expr) Best)
    ∷ ("approx", (text ▸ tolerance ▸ end) Approx)
    ∷ ("rough", (tolerance ▸ time ▸ rest expr) Rough)
    ∷ ("share", (share_fraction ▸ rest share_words) Share)
    ∷ []

-- A line by itself is a command, or the line of a batch.
abbrev pub alone : List ℕ → List ℕ → Option Part
alone name words =
    if bytes_eq name (codes "batch") then (batch_count ▸ end) Batch words
    else option_map told (named (changes ++ questions ++ reports) name words)

-- An arrival: its text comes behind the line.
abbrev pub arrival : List ℕ → Option Meaning
arrival words = (document ▸ time ▸ number (2 ^ 40) ▸ end) Arrival words

-- A line without a word, and one that begins with #, is skipped.
abbrev pub is_skipped : List ℕ → Bool
is_skipped line = is_blank line || (slice_index line 0 == 35)

-- What a line says, without its end. A line that is no command is answered too.
unfoldable pub meaning : List ℕ → Meaning
meaning line =
    if is_skipped line then Skipped
    else (if bytes_eq (word line) (codes "arrive") then unwrap_or (arrival (after_word line)) Faulty
    else Alone (unwrap_or (alone (word line) (after_word line)) no_command))
