-- The value of digits grows with each of them.
use Rattle.std.specs.Prelude.{◌≡◌, ℕ, ◌+◌, ◌-◌, ◌*◌, ◌≤◌, List, [], ◌∷◌, ◌++◌, take, drop, fold, Some, None, Bool, true, false, nat_lt, ◌&&◌, if◌then◌else◌, refl}
use Rattle.std.proofs.Common.{arith, le-ltb}
use Rattle.script_read.specs.Numbers.{value_of, are_digits, number}
use Rattle.std.proofs.lemmas.List.{take-append-drop}
use Rattle.std.proofs.lemmas.List.Sums.{fold-append}

grown : (n : ℕ) (ds : List ℕ) → n ≤ fold (λ n d. 10 * n + (d - 48)) n ds
grown n [] = omega arith
grown n (d ∷ ds) = omega (arith, grown (10 * n + (d - 48)) ds)

pub value_of-append : (front rest : List ℕ) → value_of front ≤ value_of (front ++ rest)
value_of-append front rest = rw fold-append (grown (value_of front) rest)

-- digits whose front is at least the limit are no number below it
pub number-above : (limit i : ℕ) (word : List ℕ) → limit ≤ value_of (take i word) → number limit word ≡ None
number-above limit i word h = go (are_digits word) (nat_lt (value_of word) limit) (le-ltb _ _ (omega (arith, least)))
  where
    least : value_of (take i word) ≤ value_of word
    least = rw take-append-drop at (value_of-append (take i word) (drop i word))

    go : (a b : Bool) → b ≡ false → (if a && b then Some (value_of word) else None) ≡ None
    go true false e = refl
    go false false e = refl
    go a true e = cc
