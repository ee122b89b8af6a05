-- Evaluating operators in turn, by how often each word occurs.
use Rattle.std.specs.Prelude.{ℕ, ◌+◌, ◌*◌, ◌==◌, max, slice_index, if◌then◌else◌, ◌||◌, ◌&&◌, Bool, true, false, not, nat_lt, List, [], ◌∷◌}
use Rattle.query_lang.specs.declared.op.Op.{Op}
use Rattle.query_lang.specs.declared.op.Spot.{Spot}
use Rattle.query_lang.specs.declared.op.Op.TheVariants.{Push, Negate, Conjoin, Disjoin}

-- the truths on a pile after one operator
abbrev pub truths_by : {W : Type 0} → (W → ℕ) → Op W → List Bool → List Bool
truths_by often (Push word even) truths = nat_lt 0 (often word) ∷ truths
truths_by often Negate [] = []
truths_by often Negate (b ∷ truths) = not b ∷ truths
truths_by often Conjoin [] = []
truths_by often Conjoin (b ∷ []) = b ∷ []
truths_by often Conjoin (b ∷ a ∷ truths) = (a && b) ∷ truths
truths_by often Disjoin [] = []
truths_by often Disjoin (b ∷ []) = b ∷ []
truths_by often Disjoin (b ∷ a ∷ truths) = (a || b) ∷ truths

-- and after all of them
abbrev pub truths_of : {W : Type 0} → (W → ℕ) → List (Op W) → List Bool → List Bool
truths_of often [] truths = truths
truths_of often (op ∷ ops) truths = truths_of often ops (truths_by often op truths)

-- the truth on top of a pile
abbrev pub top_truth : List Bool → Bool
top_truth [] = false
top_truth (b ∷ truths) = b

-- how often the word at a place occurs
abbrev pub count_of : List ℕ → Spot → ℕ
count_of counts spot = slice_index counts spot.place

-- the greatest weight of the word at a place under an even number of `not`
abbrev pub most_at : ℕ → List (Op Spot) → ℕ
most_at k [] = 0
most_at k (Push spot true ∷ ops) = if spot.place == k then max spot.weight (most_at k ops) else most_at k ops
most_at k (Push spot false ∷ ops) = most_at k ops
most_at k (Negate ∷ ops) = most_at k ops
most_at k (Conjoin ∷ ops) = most_at k ops
most_at k (Disjoin ∷ ops) = most_at k ops

-- the sum of the counts, each by its weight
abbrev pub scored : List ℕ → List ℕ → ℕ
scored [] counts = 0
scored (w ∷ weights) [] = 0
scored (w ∷ weights) (n ∷ counts) = w * n + scored weights counts
