-- Which histories are legal, and which a load accepts. They differ in what is asked of a stored plan: in a legal history each is what its kind
-- promises, a least one or a best one; a load tests that it keeps its bound.
use Rattle.std.specs.Prelude.{◌≡◌, ◌≤◌, ◌<◌, List, [], ◌∷◌, ◌++◌, length, Option, Some, None}
use Rattle.base_types.specs.declared.posting.Posting.{Posting}
use Rattle.plans_kinds.specs.Plans.{Asks, IsGoodPlan, IsFitFor}
use Rattle.journal_entries.specs.Spelling.{IsEntry}
use Rattle.journal_entries.specs.declared.entry.Entry.{Entry}
use Rattle.journal_entries.specs.declared.entry.Entry.TheVariants.{Planned}
use Rattle.journal_entries.specs.declared.plan.PlanEntry.{PlanEntry}
use Rattle.model_archive.specs.Histories.{History, entry_refusal}
use Rattle.model_archive.specs.Planning.{IsListUpTo, last_second}
use Rattle.model_archive.specs.Worlds.{Job, World}

-- A plan may come after a history: its horizon isn't later than the last time, its word has postings before the horizon (so some text has the
-- word), and it is Good for the list of these, which stands for what is asked of plans by their kind.
pub record MayBePlanned (Good : Asks) (before : History) (plan : PlanEntry) : Type 0 where
  pub past : plan.horizon.seconds ≤ last_second before
  pub list : List Posting
  pub list_is : IsListUpTo before plan.word plan.horizon.seconds list
  pub some : 0 < length list
  pub suits : Good plan.kind list plan.fraction plan.cuts plan.horizon.seconds

-- where the entry is a plan, it may come; nothing is asked of another here
abbrev pub IfPlanned : Asks → History → Entry → Type 0
IfPlanned Good before (Planned plan) = MayBePlanned Good before plan
IfPlanned Good before other = Unit {0}

-- an entry may come after a history: its fields are in their ranges, nothing refuses it, and if it is a plan, it may come
pub record MayCome (Good : Asks) (before : History) (entry : Entry) : Type 0 where
  pub ranges : IsEntry entry
  pub allowed : entry_refusal before entry ≡ None
  pub planned : IfPlanned Good before entry

-- each of these entries may come after a history and the entries before it
abbrev pub EachMayCome : Asks → History → List Entry → Type 0
EachMayCome Good before [] = Unit {0}
EachMayCome Good before (entry ∷ entries) = MayCome Good before entry × EachMayCome Good (before ++ entry ∷ []) entries

-- nothing refuses each of these entries after a history and the entries before it
abbrev pub EachAllowed : History → List Entry → Type 0
EachAllowed before [] = Unit {0}
EachAllowed before (entry ∷ entries) = (entry_refusal before entry ≡ None) × EachAllowed (before ++ entry ∷ []) entries

-- an entry is legal after a history: a plan is what its kind promises
abbrev pub IsLegalEntry : History → Entry → Type 0
IsLegalEntry before entry = MayCome IsGoodPlan before entry

-- an entry passes the tests of a load after a history: a plan keeps its bound
abbrev pub IsLoadableEntry : History → Entry → Type 0
IsLoadableEntry before entry = MayCome IsFitFor before entry

-- a history is legal
abbrev pub IsLegal : History → Type 0
IsLegal history = EachMayCome IsGoodPlan [] history

-- a load accepts a history
abbrev pub IsLoadable : History → Type 0
IsLoadable history = EachMayCome IsFitFor [] history

-- a plan that is being written could be stored behind a history
abbrev pub MayBeStored : History → Option Job → Type 0
MayBeStored history None = Unit {0}
MayBeStored history (Some job) = IsLegalEntry history (Planned job.plan)

-- a state in which this holds of the history, and a plan that is being written could be stored behind it
pub record IsFair (Holds : History → Type 0) (world : World) : Type 0 where
  pub history : Holds world.history
  pub job : MayBeStored world.history world.job
