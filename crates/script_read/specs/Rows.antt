-- Worked rows, which hold by computation.
use Rattle.std.specs.Prelude.{◌≡◌, ℕ, nat_lt, nat_le, ◌*◌, ◌^◌, [], ◌∷◌, ◌++◌, List, Some, None, true, false, drop, codes, refl}
use Rattle.std.specs.Str.{is_utf8, chars}
use lib.Utf8.{encode}
use Rattle.std.proofs.Common.{ltb-true}
use Rattle.std.proofs.lemmas.Bool.{leb-true}
use Rattle.base_types.specs.declared.ids.DocId.{DocId}
use Rattle.base_types.specs.declared.fraction.Fraction.{Fraction}
use Rattle.base_types.specs.declared.time.Time.{Time}
use Rattle.base_types.specs.declared.tolerance.Tolerance.{Tolerance}
use Rattle.base_commands.specs.declared.count.BestCount.{BestCount}
use Rattle.base_commands.specs.declared.count.TopCount.{TopCount}
use Rattle.base_commands.specs.declared.share.ShareFraction.{ShareFraction}
use Rattle.base_commands.specs.declared.text.Text.TheVariants.{Bytes}
use Rattle.base_commands.specs.declared.command.Command.TheVariants.{Arrive, Plan, Find, Verify, Begin, Format, Top, Best, Approx, Rough, Share}
use Rattle.script_read.specs.declared.part.Part.TheVariants as parts
use Rattle.script_read.specs.Parts.{told, no_command}
use Rattle.base_commands.specs.declared.command.Kind.TheVariants.{Guarantee, Uniform, Since}
use Rattle.script_read.specs.declared.first.First.TheVariants.{Whole, Broken, More, End}
use Rattle.script_read.specs.Dates.{date, day_number}
use Rattle.script_read.specs.Values.{fraction, tolerance, top_count, best_count, share_fraction, texts}
use Rattle.script_read.specs.Forms.{named}
use Rattle.script_read.specs.Lines.{planning, questions, meaning}
use Rattle.script_read.specs.Items.{first, most_waiting}
use Rattle.script_read.specs.Reading.{most_kept}

-- the days before 1 March 2000 and 23 July 2007
pub days : (day_number 1970 1 1 ≡ 0) × (day_number 2000 3 1 ≡ 11017) × (day_number 2007 7 23 ≡ 13717)
days = (refl, refl, refl)

-- dates from 1970 on, of the calendar alone: 2000 is a leap year and 2100 is none
pub dates :
    (date (codes "2007-07-23") ≡ Some 1185148800)
    × (date (codes "1969-12-31") ≡ None)
    × (date (codes "2007-02-30") ≡ None)
    × (date (codes "2008-02-29") ≡ Some 1204243200)
    × (date (codes "2000-02-29") ≡ Some 951782400)
    × (date (codes "2100-02-29") ≡ None)
    × (date (codes "9999-12-31") ≡ Some 253402214400)
    × (date (codes "2007-7-23") ≡ None)
dates = (refl, refl, refl, refl, refl, refl, refl, refl)

-- factors below 1, of 0, with one number or three, and from 2^32 on are none
pub no_fractions : (fraction (codes "1/2") ≡ None) × (fraction (codes "1/0") ≡ None) × (fraction (codes "3") ≡ None) × (fraction (codes "4294967296/1") ≡ None) × (fraction (codes "1/1/1") ≡ None)
no_fractions = (refl, refl, refl, refl, refl)

-- a span ends behind its start
pub no_span :
    (named questions (codes "between") (codes " 41 30 v") ≡ None)
    × (named questions (codes "between") (codes " 35 35 v") ≡ None)
    × (named questions (codes "between") (codes " 15 35") ≡ None)
unfolding is_utf8 chars encode
no_span = (refl, refl, refl)

abbrev doc : ℕ → DocId
doc n = record { 0 = n }

abbrev at : (n : ℕ) → nat_lt n (2 ^ 40) ≡ true → Time
at n h = record { seconds = n; before_now = ltb-true n (2 ^ 40) h }

-- an arrival and its text
abbrev arrival : List ℕ
arrival = codes "arrive 7 10 5" ++ 10 ∷ codes "red a" ++ 10 ∷ []

pub whole : first false arrival ≡ Whole (Some (told (Arrive (doc 7) (at 10 refl) (Bytes (codes "red a"))))) 20
unfolding meaning
whole = refl

-- the text ends with the input before it is whole: at the input's length, 38
abbrev cut_short : List ℕ
cut_short = arrival ++ codes "arrive 7 70 9" ++ 10 ∷ codes "blue"

pub broken_at_the_end : first true (drop 20 cut_short) ≡ Broken 18
unfolding meaning
broken_at_the_end = refl

-- no line end behind the text: at the byte there, 17
pub broken_behind_the_text : first true (codes "arrive 7 10 3" ++ 10 ∷ codes "red a" ++ 10 ∷ []) ≡ Broken 17
unfolding meaning
broken_behind_the_text = refl

-- an arrival that ends with the input: at its first byte
pub broken_line : first true (codes "arrive 7 10") ≡ Broken 0
unfolding meaning
broken_line = refl

pub not_yet : (first false (codes "arrive 7 10") ≡ More) × (first false (codes "arrive 7 10 3" ++ 10 ∷ codes "red" ++ 13 ∷ []) ≡ More) × (first true [] ≡ End)
unfolding meaning
not_yet = (refl, refl, refl)

-- CR LF behind a line and behind a text
pub crlf : first false (codes "arrive 7 10 3" ++ 13 ∷ 10 ∷ codes "red" ++ 13 ∷ 10 ∷ [])
    ≡ Whole (Some (told (Arrive (doc 7) (at 10 refl) (Bytes (codes "red"))))) 20
unfolding meaning
crlf = refl

-- a text of bytes that are no UTF-8
pub any_bytes : first false (codes "arrive 9 5 2" ++ 10 ∷ 195 ∷ 40 ∷ 10 ∷ []) ≡ Whole (Some (told (Arrive (doc 9) (at 5 refl) (Bytes (195 ∷ 40 ∷ []))))) 16
unfolding meaning
any_bytes = refl

pub skipped : (first false (codes "# note" ++ 10 ∷ []) ≡ Whole None 7) × (first false (32 ∷ 32 ∷ 10 ∷ []) ≡ Whole None 3) × (first false (13 ∷ 10 ∷ []) ≡ Whole None 2)
unfolding meaning
skipped = (refl, refl, refl)

-- lines that are answered, also one that isn't UTF-8
pub lines : (first false (codes "hello" ++ 10 ∷ []) ≡ Whole (Some no_command) 6) × (first false (codes " # no note" ++ 10 ∷ []) ≡ Whole (Some no_command) 11)
    × (first true (codes "verify") ≡ Whole (Some (told Verify)) 6) × (first true (codes "find 10 " ++ 255 ∷ []) ≡ Whole (Some no_command) 9)
    × (first true (codes "arrived 1 2 3") ≡ Whole (Some no_command) 13)
unfolding meaning is_utf8 chars encode
lines = (refl, refl, refl, refl, refl)

-- spaces at the ends don't count, those within a question do
pub finds : first true (codes "  find   2007-07-23  red  a ") ≡ Whole (Some (told (Find (at 1185148800 refl) (codes "red  a")))) 28
unfolding meaning is_utf8 chars encode
finds = refl

pub no_such_day : (first true (codes "find 1969-12-31 red") ≡ Whole (Some no_command) 19) × (first true (codes "find 2007-02-30 red") ≡ Whole (Some no_command) 19)
unfolding meaning is_utf8 chars encode
no_such_day = (refl, refl)

-- a tolerance may be nothing, and is below the whole; counts are from 1 to their most; a shared budget is at most 16 times the lists
abbrev part : (a b : ℕ) → nat_lt a b ≡ true → nat_lt b (2 ^ 32) ≡ true → Tolerance
part a b h k = record { part = a; whole = b; below = ltb-true _ _ h; in_range = ltb-true _ _ k }

abbrev rows : (n : ℕ) → nat_le 1 n ≡ true → nat_le n 1000000 ≡ true → TopCount
rows n h k = record { number = n; some = leb-true _ _ h; few = leb-true _ _ k }

abbrev best : (n : ℕ) → nat_le 1 n ≡ true → nat_le n 1000 ≡ true → BestCount
best n h k = record { number = n; some = leb-true _ _ h; few = leb-true _ _ k }

abbrev factor : (a b : ℕ) → nat_le 1 b ≡ true → nat_le b a ≡ true → nat_lt a (2 ^ 32) ≡ true → Fraction
factor a b h k l = record { over = a; under = b; proper = leb-true _ _ h; at_least_one = leb-true _ _ k; in_range = ltb-true _ _ l }

abbrev shared : (f : Fraction) → nat_le f.over (16 * f.under) ≡ true → ShareFraction
shared f h = record { fraction = f; bounded = leb-true _ _ h }

pub bounds :
    (tolerance (codes "0/1") ≡ Some (part 0 1 refl refl))
    × (tolerance (codes "1/1") ≡ None)
    × (tolerance (codes "1/4294967296") ≡ None)
    × (top_count (codes "0") ≡ None)
    × (top_count (codes "1000000") ≡ Some (rows 1000000 refl refl))
    × (top_count (codes "1000001") ≡ None)
    × (best_count (codes "1000") ≡ Some (best 1000 refl refl))
    × (best_count (codes "1001") ≡ None)
    × (share_fraction (codes "16/1") ≡ Some (shared (factor 16 1 refl refl refl) refl))
    × (share_fraction (codes "17/1") ≡ None)
bounds = (refl, refl, refl, refl, refl, refl, refl, refl, refl, refl)

pub reports :
    (first true (codes "top 3 10 red") ≡ Whole (Some (told (Top (rows 3 refl refl) (at 10 refl) (codes "red")))) 12)
    × (first true (codes "best 2 10 a or b") ≡ Whole (Some (told (Best (best 2 refl refl) (at 10 refl) (codes "a or b")))) 16)
    × (first true (codes "approx v 1/4") ≡ Whole (Some (told (Approx (codes "v") (part 1 4 refl refl)))) 12)
    × (first true (codes "rough 1/4 15 v") ≡ Whole (Some (told (Rough (part 1 4 refl refl) (at 15 refl) (codes "v")))) 14)
    × (first true (codes "share 2/1 v moon") ≡ Whole (Some (told (Share (shared (factor 2 1 refl refl refl) refl) (codes "v" ∷ codes "moon" ∷ [])))) 16)
unfolding meaning is_utf8 chars encode texts
reports = (refl, refl, refl, refl, refl)

pub changes_to_come :
    (first true (codes "begin v guarantee 2/1") ≡ Whole (Some (told (Begin (codes "v") (factor 2 1 refl refl refl)))) 21)
    × (first true (codes "format 2") ≡ Whole (Some (told Format)) 8)
    × (first true (codes "begin v space 2/1") ≡ Whole (Some no_command) 17)
    × (first true (codes "format 3") ≡ Whole (Some no_command) 8)
    × (first true (codes "approx v 1/1") ≡ Whole (Some no_command) 12)
    × (first true (codes "share 2/1") ≡ Whole (Some no_command) 9)
unfolding meaning is_utf8 chars encode texts
changes_to_come = (refl, refl, refl, refl, refl, refl)

pub kinds :
    (planning (codes " v guarantee 2/1") ≡ Some (Plan (codes "v") Guarantee (factor 2 1 refl refl refl)))
    × (planning (codes " v space 2/1  uniform ") ≡ Some (Plan (codes "v") Uniform (factor 2 1 refl refl refl)))
    × (planning (codes " v space 2/1 since 30") ≡ Some (Plan (codes "v") (Since (at 30 refl)) (factor 2 1 refl refl refl)))
    × (planning (codes " v space 2/1 since") ≡ None)
    × (planning (codes " v guarantee 2/1 x") ≡ None)
unfolding is_utf8 chars encode
kinds = (refl, refl, refl, refl, refl)

-- what may wait for an item to be whole, and what a reader keeps
pub most_bytes : (most_waiting ≡ 4198403) × (most_kept ≡ 4263939)
most_bytes = (refl, refl)

-- a batch has 1 to 1,000 items; other lines of its name are no commands
pub batches :
    (first false (codes "batch 2" ++ 10 ∷ []) ≡ Whole (Some (parts.Batch 2)) 8)
    × (first true (codes " batch  01000 ") ≡ Whole (Some (parts.Batch 1000)) 14)
    × (first true (codes "batch 0") ≡ Whole (Some no_command) 7)
    × (first true (codes "batch 1001") ≡ Whole (Some no_command) 10)
    × (first true (codes "batch 2 2") ≡ Whole (Some no_command) 9)
    × (first true (codes "batch") ≡ Whole (Some no_command) 5)
unfolding meaning
batches = (refl, refl, refl, refl, refl, refl)
