-- What a phrase needs that is to be planned: it is one term, which some text has; the word has postings before the last time; and if the plan is to
-- keep to a guarantee, its list up to there has few enough boundaries. These tests are made in this order, and the first that fails is the refusal.
-- In each definition, Refuses is what holds where a test fails, and GoesOn where none does.
use Rattle.std.specs.Prelude.{◌⊎◌, ℕ, ◌<◌, ◌≤◌, List, [], ◌∷◌, length, Contains, Option, Some, None, option_map, unwrap_or}
use Rattle.base_types.specs.declared.posting.Posting.{Posting}
use Rattle.base_commands.specs.declared.command.Kind.{Kind}
use Rattle.base_commands.specs.declared.command.Kind.TheVariants.{Guarantee}
use Rattle.lists_postings.specs.ListsOf.{IsListOf}
use Rattle.plans_partitions.specs.Boundaries.{AreBoundaries}
use Rattle.plans_partitions.specs.Partitions.{widest}
use Rattle.lists_versions.specs.Changes.{last_time}
use Rattle.model_archive.specs.declared.refusal.Refusal.{Refusal}
use Rattle.model_archive.specs.declared.refusal.Refusal.TheVariants as refusals
use Rattle.model_archive.specs.Histories.{History, changes, vocabulary}
use Rattle.model_archive.specs.Answers.{frequency_at}

-- the last time of a history, in seconds; 0 where it has no change
abbrev pub last_second : History → ℕ
last_second history = unwrap_or (option_map (λ t. t.seconds) (last_time (changes history))) 0

-- some text of the history has the word
abbrev pub IsKnown : History → List ℕ → Type 0
IsKnown history word = Contains (vocabulary history) word

-- a word's list up to a time: a posting for each of the longest spans of one frequency, clipped there
abbrev pub IsListUpTo : History → List ℕ → ℕ → List Posting → Type 0
IsListUpTo history word h list = IsListOf (λ doc t. frequency_at history word (record { 0 = doc }) t) 0 h list

-- a list that isn't empty: refused where its boundaries are too many
abbrev pub OfBoundaries : ℕ → List Posting → (Refusal → Type 0) → Type 0 → Type 0
OfBoundaries h list Refuses GoesOn =
    (times : List ℕ) × AreBoundaries list h times
    × (((widest < length times) × Refuses (refusals.TooWide (length times))) ⊎ ((length times ≤ widest) × GoesOn))

-- a list that isn't empty, by the plan's kind: under a space bound it may have any number of boundaries
abbrev pub OfWidth : Kind → ℕ → List Posting → (Refusal → Type 0) → Type 0 → Type 0
OfWidth Guarantee h list Refuses GoesOn = OfBoundaries h list Refuses GoesOn
OfWidth space h list Refuses GoesOn = GoesOn

-- a list: refused where it is empty, or its boundaries are too many
abbrev pub OfList : Kind → ℕ → List Posting → (Refusal → Type 0) → Type 0 → Type 0
OfList kind h [] Refuses GoesOn = Refuses refusals.NothingSealed
OfList kind h (p ∷ list) Refuses GoesOn = OfWidth kind h (p ∷ list) Refuses GoesOn

-- a word: refused where no text has it
abbrev pub OfKnown : History → List ℕ → (Refusal → Type 0) → Type 0 → Type 0
OfKnown history word Refuses GoesOn = ((IsKnown history word → ⊥) × Refuses refusals.UnknownWord) ⊎ (IsKnown history word × GoesOn)

-- a word, and then its list up to the last time: refused by the first of these tests that fails
abbrev pub OfWord : Kind → History → List ℕ → (Refusal → Type 0) → (List Posting → Type 0) → Type 0
OfWord kind history word Refuses GoesOn =
    OfKnown history word Refuses ((list : List Posting) × IsListUpTo history word (last_second history) list
    × OfList kind (last_second history) list Refuses (GoesOn list))

-- a phrase by its key, or by None where it isn't one term: either it is refused, or it goes on with its word and the word's list
abbrev pub OfPhrase : Kind → History → Option (List ℕ) → (Refusal → Type 0) → (List ℕ → List Posting → Type 0) → Type 0
OfPhrase kind history None Refuses GoesOn = Refuses refusals.NotOneTerm
OfPhrase kind history (Some word) Refuses GoesOn = OfWord kind history word Refuses (GoesOn word)

-- the same of a phrase of which is asked only that it is one term and that some text has the word
abbrev pub OfTerm : History → Option (List ℕ) → (Refusal → Type 0) → (List ℕ → Type 0) → Type 0
OfTerm history None Refuses GoesOn = Refuses refusals.NotOneTerm
OfTerm history (Some word) Refuses GoesOn = OfKnown history word Refuses (GoesOn word)
