-- What a load knows while it goes over the entries.
use Rattle.std.specs.Prelude.{◌≡◌, ◌⊎◌, ℕ, ◌+◌, ◌<◌, ◌≤◌, Bool, List, [], ◌∷◌, ◌++◌, length, map, All, Some, None}
use Rattle.journal_gates.specs.declared.head.Head.{Head}
use Rattle.journal_gates.specs.Records.{first_gate, gate_bytes, front}
use Rattle.journal_gates.specs.Heads.{heads_of}
use Rattle.journal_gates.specs.Spelled.{Spells}
use Rattle.journal_gates.specs.Bodies.{BodiesState, AreBehind, AreLeft}
use Rattle.base_types.specs.declared.text_place.TextPlace.{TextPlace}
use Rattle.lists_versions.specs.declared.change.Change.{Change}
use Rattle.journal_entries.specs.Spelling.{spelling}
use Rattle.lists_versions.specs.Changes.{last_time}
use Rattle.base_types.specs.declared.posting.Posting.{Posting}
use Rattle.base_types.specs.declared.time.Time.{Time}
use Rattle.plans_kinds.specs.Plans.{IsFitFor}
use Rattle.journal_entries.specs.Spelling.{IsEntry}
use Rattle.journal_entries.specs.declared.entry.Entry.{Entry}
use Rattle.journal_entries.specs.declared.entry.Entry.TheVariants.{Planned}
use Rattle.journal_entries.specs.declared.plan.PlanEntry.{PlanEntry}
use Rattle.model_archive.specs.Histories as histories
use Rattle.model_archive.specs.declared.stored.StoredPlan.{StoredPlan}
use Rattle.model_archive.specs.Histories.{History, end_of, entry_refusal, is_marked}
use Rattle.model_archive.specs.Legal.{EachAllowed, IsLoadable}
use Rattle.model_archive.specs.Planning.{IsListUpTo}
use Rattle.model_archive.specs.Plans.{live_plans}
use Rattle.lists_index.specs.Loads.{Loaded, AreLoaded}
use Rattle.model_archive.specs.Stands.{bodies_of, IsMisspelled, IsIllegal}
use Rattle.archive_entries.specs.Places.{ArePlaced}
use Rattle.archive_entries.specs.Texts.{bare}

-- ---- entries that are gone over, before the lists are there with which plans are tested

-- a plan's horizon isn't later than the last time, which is that of these changes
abbrev pub IsTimely : {A : Type 0} → List (Change A) → PlanEntry → Type 0
IsTimely changes plan = (last : Time) × ((last_time changes ≡ Some last) × (plan.horizon.seconds ≤ last.seconds))

-- what is asked of a plan at once
abbrev pub IfTimely : History → Entry → Type 0
IfTimely before (Planned plan) = IsTimely (histories.changes before) plan
IfTimely before other = Unit {0}

-- what is asked of an entry at once: all but what needs a plan's list
pub record IsOpen (before : History) (entry : Entry) : Type 0 where
  pub ranges : IsEntry entry
  pub allowed : entry_refusal before entry ≡ None
  pub timely : IfTimely before entry

-- it holds of each of these entries after those before it, which begin with a history
abbrev pub AreOpen : History → List Entry → Type 0
AreOpen before [] = Unit {0}
AreOpen before (entry ∷ entries) = IsOpen before entry × AreOpen (before ++ entry ∷ []) entries

-- a plan of an entry with its gate, if the entry is one
abbrev pub plans_in : ℕ → Entry → List StoredPlan
plans_in gate (Planned plan) = record { gate = gate; plan = plan } ∷ []
plans_in gate other = []

-- all plans of entries, the first of which has its gate at this place
abbrev pub plans_from : ℕ → History → List StoredPlan
plans_from gate [] = []
plans_from gate (entry ∷ entries) = plans_in gate entry ++ plans_from (gate + gate_bytes + length (spelling entry)) entries

-- what is asked of a plan when the lists are there: its word has postings before the horizon, and the plan keeps the bound of its kind for them
abbrev pub IsFitIn : History → StoredPlan → Type 0
IsFitIn history stored = (list : List Posting) × (IsListUpTo history stored.plan.word stored.plan.horizon.seconds list × (0 < length list)
    × IsFitFor stored.plan.kind list stored.plan.fraction stored.plan.cuts stored.plan.horizon.seconds)

-- the gate of the first plan that isn't fit
pub record IsFirstUnfit (history : History) (plans : List StoredPlan) (at : ℕ) : Type 0 where
  pub front : List StoredPlan
  pub stored : StoredPlan
  pub back : List StoredPlan
  pub is : plans ≡ front ++ stored ∷ back
  pub fit : All (IsFitIn history) front
  pub unfit : IsFitIn history stored → ⊥
  pub at_is : at ≡ stored.gate

-- these are the changes and the plans of entries that were gone over, this tells whether the mark is among them, and the next gate is at this place
pub record IsReached (gate : ℕ) (history : History) (changes : List (Change TextPlace)) (plans : List StoredPlan)
    (marked : Bool) : Type 0 where
  pub opens : AreOpen [] history
  pub gate_is : end_of history ≡ gate + 1
  pub placed : ArePlaced first_gate history changes
  pub plans_are : plans ≡ plans_from first_gate history
  pub marked_is : marked ≡ is_marked history

-- what a load has of a history's changes: nothing refuses its entries, these are the changes but for what they hold, and the texts are loaded
pub record AreMet (history : History) (changes : List (Change TextPlace)) (loader : Loaded) : Type 0 where
  pub allowed : EachAllowed [] history
  pub same : map bare changes ≡ map bare (histories.changes history)
  pub loads : AreLoaded loader (histories.changes history)

-- the texts of a history are loaded, and perhaps those of entries behind it, which nothing refuses: the first acts of a batch that is refused
pub record HasAhead (history : History) (loader : Loaded) : Type 0 where
  pub ahead : List Entry
  pub allowed : EachAllowed history ahead
  pub loads : AreLoaded loader (histories.changes (history ++ ahead))

-- this body spells an entry that may come behind a history, as far as can be told; these are the changes and the plans with its own, and its text
-- is loaded
pub record IsGoneOver (gate : ℕ) (history : History) (body : List ℕ) (changes : List (Change TextPlace)) (plans : List StoredPlan)
    (marked : Bool) (loader : Loaded) : Type 0 where
  pub entry : Entry
  pub spelled : body ≡ spelling entry
  pub reached : IsReached (gate + gate_bytes + length body) (history ++ entry ∷ []) changes plans marked
  pub loads : AreLoaded loader (histories.changes (history ++ entry ∷ []))

-- an entry with its gate at this place that is misspelled or illegal behind a history, which shows at that place
abbrev pub IsFaulty : ℕ → History → List ℕ → ℕ → Type 0
IsFaulty gate before body at = ((offset : ℕ) × IsMisspelled body offset × (at ≡ gate + gate_bytes + offset))
    ⊎ (IsIllegal before body × (at ≡ gate))

-- Entries that are gone over while bodies are read one after another: these are their changes and plans, their texts are loaded, and their bodies are
-- those that were read of the journal, whose heads these are.
pub record IsReplaying (tells : Type 0) (journal : List ℕ) (heads : List Head) (reader : BodiesState) (changes : List (Change TextPlace))
    (plans : List StoredPlan) (marked : Bool) (loader : Loaded) : Type 0 where
  pub history : History
  pub reached : IsReached (length (front (bodies_of history))) history changes plans marked
  pub loads : AreLoaded loader (histories.changes history)
  pub behind : AreBehind heads (bodies_of history) reader
  pub left : tells → (bodies : List (List ℕ)) → heads ≡ heads_of first_gate bodies → Spells journal bodies
      → (rest : List (List ℕ)) × (bodies ≡ bodies_of history ++ rest) × AreLeft journal reader rest

-- the body behind these entries' bodies is misspelled or illegal, which shows at that place
pub record IsNextBad (before : History) (bodies : List (List ℕ)) (at : ℕ) : Type 0 where
  pub body : List ℕ
  pub rest : List (List ℕ)
  pub split : bodies ≡ bodies_of before ++ body ∷ rest
  pub fault : IsFaulty (length (front (bodies_of before))) before body at

-- Entries that were gone over up to the first body that by itself is misspelled or illegal, which shows at this place.
pub record IsStopped (tells : Type 0) (journal : List ℕ) (heads : List Head) (plans : List StoredPlan) (loader : Loaded)
    (at : ℕ) : Type 0 where
  pub history : History
  pub opens : AreOpen [] history
  pub plans_are : plans ≡ plans_from first_gate history
  pub has : HasAhead history loader
  pub next : tells → (bodies : List (List ℕ)) → heads ≡ heads_of first_gate bodies → Spells journal bodies → IsNextBad history bodies at

-- ---- a history that is loaded

-- the heads are those of a history that loads, and these are its changes and its live plans
pub record IsReplayed (history : History) (heads : List Head) (changes : List (Change TextPlace)) (plans : List StoredPlan) : Type 0 where
  pub loadable : IsLoadable history
  pub heads_are : heads ≡ heads_of first_gate (bodies_of history)
  pub placed : ArePlaced first_gate history changes
  pub plans_are : plans ≡ live_plans history

-- one of these bodies is misspelled or illegal, and those before it are those of a history that loads
pub record IsBadAmong (bodies : List (List ℕ)) (at : ℕ) : Type 0 where
  pub before : History
  pub loadable : IsLoadable before
  pub next : IsNextBad before bodies at
