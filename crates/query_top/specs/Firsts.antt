-- The first rows by score.
use Rattle.std.specs.Prelude.{◌≡◌, ◌⊎◌, ℕ, ◌+◌, ◌<◌, ◌≤◌, nat_lt, ◌==◌, ◌||◌, Bool, false, if◌then◌else◌, List, [], ◌∷◌, ◌++◌, length, ⊤}
use Rattle.query_top.specs.declared.ranking.Row.{Row}

-- P holds of each element
abbrev pub Each : {X : Type 0} → (X → Type 0) → List X → Type 0
Each P [] = ⊤
Each P (x ∷ xs) = P x × Each P xs

-- a row of nothing
abbrev pub no_row : Row
no_row = record { doc = record { 0 = 0 }; score = 0 }

-- the row stands before document d with the score s: by score, downwards, and then by document
abbrev pub Beats : Row → ℕ → ℕ → Type 0
Beats r d s = (s < r.score) ⊎ ((r.score ≡ s) × (r.doc.0 < d))

-- the rows are in order, and so no document has two
abbrev pub AreRanked : List Row → Type 0
AreRanked [] = ⊤
AreRanked (r ∷ rs) = Each (λ q. Beats r q.doc.0 q.score) rs × AreRanked rs

-- a row is the document's
abbrev pub shows : List Row → ℕ → Bool
shows [] d = false
shows (r ∷ rs) d = (r.doc.0 == d) || shows rs d

-- The first rows, at most so many: of the documents that have a score above 0, each with its score, and no document
-- that isn't among them stands before one of them or has room.
pub record AreFirst (score : ℕ → ℕ) (count : ℕ) (rows : List Row) : Type 0 where
  pub ranked : AreRanked rows
  pub few : length rows ≤ count
  pub scored : Each (λ r. (r.score ≡ score r.doc.0) × (0 < r.score)) rows
  pub rest : (d : ℕ) → 0 < score d → shows rows d ≡ false → (length rows ≡ count) × Each (λ r. Beats r d (score d)) rows

-- The rows that are kept, and those that go, where one of this score comes: none, or the last one where there is no room.
pub record Goes (count s : ℕ) (keep gone : List Row) : Type 0 where
  pub room : length keep < count
  pub full : (length gone ≡ 0) ⊎ (length keep + 1 ≡ count)
  pub less : Each (λ q. q.score < s) gone

-- a row of this score makes room for itself
pub record MakesRoom (count s : ℕ) (old new : List Row) : Type 0 where
  pub gone : List Row
  pub split : old ≡ new ++ gone
  pub goes : Goes count s new gone

-- the scores of the documents before this one
abbrev pub below : ℕ → (ℕ → ℕ) → ℕ → ℕ
below n score d = if nat_lt d n then score d else 0

-- the numbers ascend
abbrev pub IsAscending : List ℕ → Type 0
IsAscending [] = ⊤
IsAscending (x ∷ xs) = Each (λ y. x < y) xs × IsAscending xs

-- At least so many documents before this one have at least this score. They are named in order.
pub record AreEnough (score : ℕ → ℕ) (count first bound : ℕ) : Type 0 where
  pub docs : List ℕ
  pub ascending : IsAscending docs
  pub each : Each (λ d. (d < first) × (bound ≤ score d)) docs
  pub enough : count ≤ length docs
