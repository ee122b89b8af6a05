-- Times made from numbers.
use Rattle.std.specs.Prelude.{◌≡◌, ℕ, ◌<◌, ◌^◌, Bool, true, false, nat_lt, Some, refl}
use Rattle.std.proofs.Common.{ap, ltb-true, lt-ltb}
use Rattle.std.specs.Coded.{le_prop}
use Rattle.base_types.specs.declared.time.Time.{Time}
use Rattle.base_types.specs.Times.{time_by, time_of}

-- times of as many seconds are one
pub one_time : (n : ℕ) (p q : n < 2 ^ 40) → (let a : Time = record { seconds = n; before_now = p } in let b : Time = record { seconds = n; before_now = q } in a ≡ b)
one_time n p q = ap (λ (h : n < 2 ^ 40). let t : Time = record { seconds = n; before_now = h } in t) (le_prop p q)

-- a time is the one of its seconds
pub time_of-seconds : (n : ℕ) (p : n < 2 ^ 40) → time_of n ≡ Some (record { seconds = n; before_now = p })
time_of-seconds n p = go (nat_lt n (2 ^ 40)) refl (lt-ltb n (2 ^ 40) p)
  where
    go : (b : Bool) (h : nat_lt n (2 ^ 40) ≡ b) → b ≡ true → time_by n b h ≡ Some (record { seconds = n; before_now = p })
    go true h e = ap Some (one_time n (ltb-true n (2 ^ 40) h) p)
    go false h e = cc
