use Rattle.std.proofs.Common.{◌≡◌, ℕ, ◌+◌, ◌-◌, ◌≤◌, ◌^◌, List, ◌++◌, length}
use Rattle.pages_checked.specs.Weights.{CheckedState, weight_of_all}
use Rattle.pages_checked.proofs.known.Known.make_room.Given as goal

abbrev pub invariant-places : goal.invariant-places
invariant-places l = record {
  sum : weight_of_all l.self-inside.places.entries ≡ l.self-inside.size;
  few : l.self-inside.size ≤ 2 ^ 26;
  wide : l.self-inside.places.cap ≡ 2 ^ 64 - 1;
  behind : (gone : List (ℕ × CheckedState)) × (l.initial.self-inside.places.entries ≡ l.self-inside.places.entries ++ gone);
  enough : weight_of_all l.initial.self-inside.places.entries + l.weight ≤ 2 ^ 26 → l.self-inside.places.entries ≡ l.initial.self-inside.places.entries;
}

abbrev pub decreases-places : goal.decreases-places
decreases-places l = length l.self-inside.places.entries
