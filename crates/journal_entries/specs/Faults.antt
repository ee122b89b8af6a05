-- Where bytes that spell no entry are at fault: behind the longest front with which an entry begins.
use Rattle.std.specs.Prelude.{◌≡◌, ◌≢◌, ◌⊎◌, ℕ, ◌+◌, ◌^◌, ◌<◌, ◌≤◌, List, [], ◌∷◌, ◌++◌, length, take, drop, All}
use Rattle.std.specs.Int.{w32, w64, to_be_bytes}
use Rattle.std.specs.List.{concat}
use Rattle.std.specs.List.Sorted.{IsStrictlyIncreasing}
use Rattle.journal_entries.specs.declared.act.Act.{Act}
use Rattle.journal_entries.specs.declared.entry.Entry.{Entry}
use Rattle.journal_entries.specs.declared.entry.Entry.TheVariants.{Arrive, Delete, Planned, Format, Batch}
use Rattle.journal_entries.specs.declared.plan.PlanEntry.{PlanEntry}
use Rattle.journal_entries.specs.Acts.{alone, acts_bytes, batch_front, most_acts, IsAct}
use Rattle.journal_entries.specs.PlanSpelling.{most_segments, plan_fields, IsWord, IsDigest, cut_seconds}
use Rattle.journal_entries.specs.Spelling.{spelling, IsEntry}

-- The fields of an entry, where `count` is written as the number of a plan's segments, or of a batch's acts. An arrival's text isn't one of them: it
-- goes on to the end of the bytes, so nothing says of a front of it that it is whole. Of a batch these are its tag and its number of acts.
abbrev pub fields : ℕ → Entry → List (List ℕ)
fields count (Arrive doc at text) = (1 ∷ []) ∷ to_be_bytes w32 doc.0 ∷ to_be_bytes w64 at.seconds ∷ []
fields count (Delete doc at) = (2 ∷ []) ∷ to_be_bytes w32 doc.0 ∷ to_be_bytes w64 at.seconds ∷ []
fields count (Planned plan) = plan_fields count plan
fields count Format = (5 ∷ []) ∷ (0 ∷ 2 ∷ []) ∷ []
fields count (Batch acts) = (4 ∷ []) ∷ to_be_bytes w32 count ∷ []

-- A plan of `count` segments of which the last ones may be missing: what it has is in its range.
pub record IsBegunPlan (count : ℕ) (p : PlanEntry) : Type 0 where
  pub some : 1 ≤ count
  pub most : count ≤ most_segments
  pub cuts : length p.cuts ≤ count
  pub places : length p.places ≡ length p.cuts
  pub ascend : IsStrictlyIncreasing (cut_seconds p.cuts p.horizon)
  pub word : IsWord p.word
  pub digests : All (λ place. IsDigest place.digest) p.places

-- a batch has so many acts
abbrev pub IsActCount : ℕ → Type 0
IsActCount count = (1 ≤ count) × (count ≤ most_acts)

-- an entry, of which a plan's last segments may be missing, and of a batch the acts
abbrev pub IsBegun : ℕ → Entry → Type 0
IsBegun count (Planned plan) = IsBegunPlan count plan
IsBegun count (Batch acts) = IsActCount count
IsBegun count entry = IsEntry entry

-- an entry begins with these bytes: they are its first fields, each of them whole
pub record BeginsFields (front : List ℕ) : Type 0 where
  pub entry : Entry
  pub count : ℕ
  pub begun : IsBegun count entry
  pub whole : ℕ
  pub are : concat (take whole (fields count entry)) ≡ front

-- An act behind its length begins with these bytes, in front of others: they are its length, and, where the others go on as far as the length tells,
-- its first fields.
pub record BeginsAct (front behind : List ℕ) : Type 0 where
  pub len : ℕ
  pub fits : len < 2 ^ 32
  pub act : Act
  pub begun : IsAct act
  pub whole : ℕ
  pub are : front ≡ to_be_bytes w32 len ++ concat (take whole (fields 0 (alone act)))
  pub held : (whole ≡ 0) ⊎ ((length front ≤ 4 + len) × (4 + len ≤ length front + length behind))

-- a batch begins with these bytes, in front of others: its tag and number of acts, whole acts, and what begins the next one, if there is one more
pub record BeginsActs (front behind : List ℕ) : Type 0 where
  pub count : ℕ
  pub sized : IsActCount count
  pub acts : List Act
  pub each : All IsAct acts
  pub few : length acts ≤ count
  pub next : List ℕ
  pub begins : (next ≡ []) ⊎ ((length acts < count) × BeginsAct next behind)
  pub are : batch_front count ++ (acts_bytes acts ++ next) ≡ front

-- an entry begins with these bytes, in front of others
abbrev pub Begins : List ℕ → List ℕ → Type 0
Begins front behind = BeginsFields front ⊎ BeginsActs front behind

-- These bytes spell no entry: the first `at` of them are the longest front with which an entry begins.
pub record IsFault (bytes : List ℕ) (at : ℕ) : Type 0 where
  pub within : at ≤ length bytes
  pub begins : Begins (take at bytes) (drop at bytes)
  pub longest : (n : ℕ) → at < n → n ≤ length bytes → ¬ Begins (take n bytes) (drop n bytes)
  pub misspelled : (e : Entry) → IsEntry e → bytes ≢ spelling e
