-- Times made from numbers.
use Rattle.std.specs.Prelude.{◌≡◌, ℕ, ◌^◌, Bool, true, false, nat_lt, Option, Some, None, refl}
use Rattle.std.proofs.Common.{ltb-true}
use Rattle.base_types.specs.declared.time.Time.{Time}

-- The time of n seconds, where b tells whether n is below 2^40.
abbrev pub time_by : (n : ℕ) (b : Bool) → nat_lt n (2 ^ 40) ≡ b → Option Time
time_by n true h = Some (record { seconds = n; before_now = ltb-true n (2 ^ 40) h })
time_by n false h = None

-- The time of so many seconds, where there is one.
abbrev pub time_of : ℕ → Option Time
time_of n = time_by n (nat_lt n (2 ^ 40)) refl
