-- How many postings a list has in an interval, at a time and on each side of a time.
use Rattle.std.specs.Prelude.{ℕ, nat_le, nat_lt, List, count_by}
use Rattle.base_types.specs.declared.posting.Posting.{Posting}
use Rattle.lists_postings.specs.Lists.{holds, meets}

-- The size of the sublist for [f, g).
abbrev pub size : ℕ → ℕ → List Posting → ℕ
size f g list = count_by (meets f g) list

-- How many postings hold the time t.
abbrev pub alive_count : ℕ → List Posting → ℕ
alive_count t list = count_by (holds t) list

-- How many postings begin before the time g.
abbrev pub begun : ℕ → List Posting → ℕ
begun g list = count_by (λ p. nat_lt p.span.from g) list

-- How many postings have ended at the time f.
abbrev pub ended : ℕ → List Posting → ℕ
ended f list = count_by (λ p. nat_le p.span.to f) list
