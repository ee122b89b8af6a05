-- Tails, and what a turn of a document makes of them.
use Rattle.std.specs.Prelude.{◌≡◌, ℕ, ◌+◌, ◌^◌, ◌<◌, ◌≤◌, ◌==◌, ◌&&◌, nat_le, if◌then◌else◌, List}
use Rattle.base_types.specs.declared.posting.Posting.{Posting}
use Rattle.lists_postings.specs.ListsOf.{IsListOf}

-- g, where document doc has the frequency n from the time at on.
abbrev pub turned_one : (ℕ → ℕ → ℕ) → ℕ → ℕ → ℕ → ℕ → ℕ → ℕ
turned_one g doc at n d t = if (d == doc && nat_le at t) then n else g d t

-- f, which gives each word, document and time a frequency, where document doc has the weights `new` from the time at on.
abbrev pub turned : (ℕ → ℕ → ℕ → ℕ) → ℕ → ℕ → (ℕ → ℕ) → ℕ → ℕ → ℕ → ℕ
turned f doc at new w = turned_one (f w) doc at (new w)

-- Each word's tail is the list of its frequency.
abbrev pub AreTails : (ℕ → ℕ → ℕ → ℕ) → (ℕ → List Posting) → Type 0
AreTails f tails = (w : ℕ) → w < 2 ^ 20 → IsListOf (f w) 0 (2 ^ 40) (tails w)

-- One word's tail is passed on by a turn of document doc from the frequency `old` to `new`: whatever frequency it was
-- the list of, if doc has the frequency `old` just before the turn and from it on, it is then the list of that frequency turned.
abbrev pub IsTurned : ℕ → ℕ → ℕ → ℕ → List Posting → List Posting → Type 0
IsTurned doc at old new before after =
    (g : ℕ → ℕ → ℕ) (a : ℕ) → a ≤ at → ((t : ℕ) → at ≤ t + 1 → g doc t ≡ old) → IsListOf g a (2 ^ 40) before
    → IsListOf (turned_one g doc at new) a (2 ^ 40) after
