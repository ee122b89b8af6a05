-- What the abstract archive is free to choose: which least plan it proposes, which least or best plan it stores, how many blocks it opens, and which best
-- choice it tells of words that share a budget.
use Rattle.std.specs.Prelude.{◌≡◌, ◌⊎◌, ℕ, List, None}
use Rattle.base_commands.specs.declared.command.Command.TheVariants as commands
use Rattle.base_commands.specs.declared.command.Item.{Item}
use Rattle.base_commands.specs.declared.command.Item.TheVariants as items
use Rattle.plans_kinds.specs.declared.proposal.Node.{Node}
use Rattle.plans_kinds.specs.declared.proposal.Segment.{Segment}
use Rattle.query_eval.specs.declared.answer.Row.{Row}
use Rattle.model_archive.specs.declared.summary.Summary.{Summary}
use Rattle.model_archive.specs.Steps.{Reply, FoundBest, Proposed}

-- the item asks for a plan, to be proposed or to be stored, for rows by blocks, or for a budget to be shared: only such an item may have several outcomes
abbrev pub IsChoice : Item → Type 0
IsChoice (items.Command (commands.Propose word fraction)) = Unit {0}
IsChoice (items.Command (commands.Plan word kind fraction)) = Unit {0}
IsChoice (items.Command (commands.Best count at expr)) = Unit {0}
IsChoice (items.Command (commands.Share factor words)) = Unit {0}
IsChoice (items.Command (commands.Begin word fraction)) = Unit {0}
IsChoice other = ⊥

-- the item asks for a plan to be stored, at once or step by step
abbrev pub IsStoring : Item → Type 0
IsStoring (items.Command (commands.Plan word kind fraction)) = Unit {0}
IsStoring (items.Command (commands.Begin word fraction)) = Unit {0}
IsStoring other = ⊥

-- the item asks for a budget to be shared
abbrev pub IsSharing : Item → Type 0
IsSharing (items.Command (commands.Share factor words)) = Unit {0}
IsSharing other = ⊥

-- the replies are two proposals that differ in their segments alone
abbrev pub SameButSegments : Reply → Reply → Type 0
SameButSegments reply other = (segments others : List Segment) × (nodes : List Node) × (total : ℕ) × (reply ≡ Proposed segments nodes total)
    × (other ≡ Proposed others nodes total)

-- or first rows that differ in how many blocks were opened for them alone
abbrev pub SameButOpened : Reply → Reply → Type 0
SameButOpened reply other = (rows : List Row) × (read opened others blocks : ℕ) × (reply ≡ FoundBest rows read opened blocks)
    × (other ≡ FoundBest rows read others blocks)

-- the replies are the same, or differ in what is chosen alone
abbrev pub SameButChosen : Reply → Reply → Type 0
SameButChosen reply other = (reply ≡ other) ⊎ SameButSegments reply other ⊎ SameButOpened reply other

-- what is told of two plans that are stored is the same, but for the number of their segments; and plans under a space bound may differ in space
pub record SamePlanned (one other : Summary) : Type 0 where
  pub length : one.length ≡ other.length
  pub full : one.full ≡ other.full
  pub horizon : one.horizon ≡ other.horizon
  pub cost : one.cost ≡ other.cost
  pub space : one.cost ≡ None → one.space ≡ other.space
