-- Worked rows, which hold by computation.
use Rattle.std.specs.Prelude.{◌≡◌, ℕ, ◌^◌, nat_lt, true, List, [], ◌∷◌, length, codes, refl}
use Rattle.std.specs.Fmt.{digits}
use Rattle.std.proofs.Common.{ltb-true, lit<, lit≤}
use Rattle.base_types.specs.declared.time.Time.{Time}
use Rattle.base_commands.specs.declared.text.Text.TheVariants.{Bytes}
use Rattle.base_commands.specs.declared.command.Kind.TheVariants.{Guarantee}
use Rattle.base_commands.specs.declared.command.Command.{Command}
use Rattle.base_commands.specs.declared.command.Command.TheVariants.{Arrive, Delete, Plan, Find, Verify}
use Rattle.base_sample.specs.Samples.{start_of, change, sample_of}

abbrev at : (n : ℕ) → nat_lt n (2 ^ 40) ≡ true → Time
at n h = record { seconds = n; before_now = ltb-true n (2 ^ 40) h }

abbrev arrival : ℕ → Time → List ℕ → Command
arrival doc time text = Arrive (record { 0 = doc }) time (Bytes text)

abbrev deletion : ℕ → Time → Command
deletion doc time = Delete (record { 0 = doc }) time

-- `plan WORD guarantee 3/2`
abbrev plan : List ℕ → Command
plan word = Plan word Guarantee (record { over = 3; under = 2; proper = lit≤ tt; at_least_one = lit≤ tt; in_range = lit< tt })

-- a whole sample
pub smallest :
    sample_of 0 2
    ≡ arrival 8 (at 60 refl) (codes "w1 w2 w3 w4 w5")
    ∷ arrival 15 (at 120 refl) (codes "w2 w4 w6 w8 w10")
    ∷ plan (codes "w1")
    ∷ plan (codes "w2")
    ∷ plan (codes "w3")
    ∷ plan (codes "w4")
    ∷ plan (codes "w5")
    ∷ plan (codes "w6")
    ∷ plan (codes "w7")
    ∷ plan (codes "w8")
    ∷ Find (at 0 refl) (codes "w1")
    ∷ Find (at 0 refl) (codes "w2")
    ∷ Find (at 0 refl) (codes "w3")
    ∷ Find (at 0 refl) (codes "w4")
    ∷ Find (at 60 refl) (codes "w5")
    ∷ Find (at 60 refl) (codes "w6")
    ∷ Find (at 60 refl) (codes "w7")
    ∷ Find (at 60 refl) (codes "w8")
    ∷ Find (at 60 refl) (codes "w9")
    ∷ Find (at 120 refl) (codes "w10")
    ∷ Verify
    ∷ []
unfolding sample_of digits
smallest = refl

-- the tenth change is a deletion, the ones beside it are arrivals; documents and words come round
pub changes :
    (change 7 9 ≡ arrival 71 (at 540 refl) (codes "w16 w25 w34 w43 w52"))
    × (change 7 10 ≡ deletion 78 (at 600 refl))
    × (change 7 11 ≡ arrival 85 (at 660 refl) (codes "w18 w29 w40 w51 w62"))
    × (change 999 99999 ≡ arrival 93 (at 5999940 refl) (codes "w198 w197 w196 w195 w194"))
unfolding digits
changes = (refl, refl, refl, refl)

-- a seed counts by its last three digits
pub starts : (start_of 123456789 ≡ 789) × (start_of 1000 ≡ 0) × (sample_of 1789 3 ≡ sample_of 789 3)
unfolding sample_of
starts = (refl, refl, refl)

-- a sample with three changes has nineteen commands more
pub commands : length (sample_of 5 3) ≡ 22
unfolding sample_of
commands = refl
