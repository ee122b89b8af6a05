-- What follows from the definitions: a planned question is bounded, and what is chosen from pages that hold the live plans is the history's.
use Rattle.std.specs.Prelude.{◌≡◌, ◌↔◌, ℕ, ◌+◌, ◌*◌, ◌^◌, ◌<◌, ◌≤◌, List, length, Some, None, All, Contains, IsSome}
use Rattle.std.specs.List.Sorted.{IsStrictlyIncreasing}
use Rattle.base_types.specs.declared.ids.DocId.{DocId}
use Rattle.base_types.specs.declared.posting.Posting.{Posting}
use Rattle.lists_postings.specs.Sizes.{alive_count}
use Rattle.base_commands.specs.declared.command.Kind.TheVariants.{Guarantee}
use Rattle.plans_space.specs.Caps.{cap}
use Rattle.plans_kinds.specs.Plans.{plan_space}
use Rattle.journal_entries.specs.declared.plan.PlanEntry.{PlanEntry}
use Rattle.pages_sublists.specs.Segments.{next_cut, seconds}
use Rattle.pages_sublists.specs.declared.why.Damage.{Damage}
use Rattle.query_lang.specs.Grammar.{Query}
use Rattle.query_lang.specs.Meaning.{words_of}
use Rattle.query_eval.specs.Found.{HasHit}
use Rattle.query_eval.specs.declared.answer.Row.{Row}
use Rattle.query_eval.specs.declared.part.Part.{Part}
use Rattle.query_eval.specs.declared.spans.SpanRow.{SpanRow}
use Rattle.model_archive.specs.Histories.{History, text_at}
use Rattle.model_archive.specs.Answers.{IsAnswerAt, IsSpanAnswerAt, IsWordList, frequency_at}
use Rattle.model_archive.specs.Chosen.{AreChosen, IsReadOf, IsReadFor, IsMadeAt, IsMadeOver, IsDamagedFor}
use Rattle.model_archive.specs.Holding.{HoldsPlans}
use Rattle.model_archive.specs.Legal.{IsLegal, IsLoadable}
use Rattle.model_archive.specs.Planning.{IsListUpTo}
use Rattle.model_archive.specs.Plans.{plan_of}
use Rattle.model_archive.specs.Steps.{IsCertificate}
use Rattle.model_archive.specs.Verifying.{Verifies, sound_of}
use Rattle.model_archive.specs.declared.verdict.Verdict.{Verdict}
use Rattle.plans_kinds.specs.Proposals.{IsProposal}
use Rattle.plans_kinds.specs.declared.proposal.Node.{Node}
use Rattle.plans_kinds.specs.declared.proposal.Segment.{Segment}

-- From the first cut of a word's plan on that keeps to a guarantee, and before its horizon, a question for the word reads at most the plan's factor
-- times as many postings as hold the time.
abbrev pub PlannedReadsAreBounded : Type 0
PlannedReadsAreBounded =
    (h : History) (word : List ℕ) (plan : PlanEntry) (list : List Posting) (t read : ℕ) → IsLoadable h → plan_of h word ≡ Some plan
    → plan.kind ≡ Guarantee → IsWordList h word list
    → next_cut (seconds plan.cuts) plan.horizon.seconds ≤ t → t < plan.horizon.seconds → IsReadOf h word (Some plan) t (t + 1) read
    → read * plan.fraction.under ≤ plan.fraction.over * alive_count t list

-- The documents in whose text alive at a time a word occurs, each once, in ascending order.
pub record AreDocumentsWith (history : History) (word : List ℕ) (t : ℕ) (docs : List ℕ) : Type 0 where
  pub ascending : IsStrictlyIncreasing docs
  pub each : (doc : ℕ) → Contains docs doc ↔ (0 < frequency_at history word (record { 0 = doc }) t)

-- As many postings of a word's list hold a time as there are documents in whose text alive then the word occurs.
abbrev pub HoldersAreDocuments : Type 0
HoldersAreDocuments =
    (h : History) (word : List ℕ) (list : List Posting) (t : ℕ) → IsWordList h word list → t < 2 ^ 40
    → (docs : List ℕ) × AreDocumentsWith h word t docs × (length docs ≡ alive_count t list)

-- The sublists of a word's plan under a space bound have together at most the plan's factor times as many postings as the word's list up to the
-- horizon, rounded down.
abbrev pub PlannedSpaceIsCapped : Type 0
PlannedSpaceIsCapped =
    (h : History) (word : List ℕ) (plan : PlanEntry) (list : List Posting) → IsLoadable h → plan_of h word ≡ Some plan
    → (plan.kind ≡ Guarantee → ⊥)
    → IsListUpTo h word plan.horizon.seconds list → plan_space list plan.cuts plan.horizon.seconds ≤ cap plan.fraction (length list)

-- What is made from pages that hold the live plans is the answer, and costs what it should.
abbrev pub MadeAtStands : Type 0
MadeAtStands =
    (h : History) (pages : List ℕ) (t : ℕ) (query : Query) (rows : List Row) (read : ℕ) → IsLoadable h → HoldsPlans h pages → t < 2 ^ 40
    → IsMadeAt h pages t query rows read → IsAnswerAt h t query rows × IsReadFor h t (t + 1) (words_of query) read

abbrev pub MadeOverStands : Type 0
MadeOverStands =
    (h : History) (pages : List ℕ) (a b : ℕ) (query : Query) (rows : List SpanRow) (read : ℕ) → IsLoadable h → HoldsPlans h pages
    → b ≤ 2 ^ 40
    → IsMadeOver h pages a b query rows read → IsSpanAnswerAt h a b query rows × IsReadFor h a b (words_of query) read

-- And in such pages nothing is damaged.
abbrev pub HeldIsUndamaged : Type 0
HeldIsUndamaged =
    (h : History) (pages : List ℕ) (word : List ℕ) (a b : ℕ) (damage : Damage) → IsLoadable h → HoldsPlans h pages
    → IsDamagedFor h pages word a b damage → ⊥

-- Whatever is in Pages: a document that has one of some words without plans at a time in [a, b), by what is chosen of them for [a, b), is alive
-- then.
abbrev pub UnplannedHitsAreAlive : Type 0
UnplannedHitsAreAlive =
    (h : History) (pages : List ℕ) (a b t : ℕ) (words : List (List ℕ)) (parts : List Part) (doc : DocId) → b ≤ 2 ^ 40
    → All (λ word. plan_of h word ≡ None) words
    → AreChosen h pages a b words parts → a ≤ t → t < b → HasHit words parts t doc → IsSome (text_at h doc t)

-- Where each plan is what its kind promises, what is certified of a stored one is a proposal: the plan is least, and no partition takes less than its numbers say.
abbrev pub CertifiedPlansAreLeast : Type 0
CertifiedPlansAreLeast =
    (h : History) (word : List ℕ) (plan : PlanEntry) (list : List Posting) (segments : List Segment) (nodes : List Node) (total : ℕ)
    → IsLegal h → plan_of h word ≡ Some plan → plan.kind ≡ Guarantee
    → IsListUpTo h plan.word plan.horizon.seconds list
    → IsCertificate list plan.fraction plan.cuts plan.horizon.seconds segments nodes total
    → IsProposal list plan.fraction plan.horizon.seconds segments nodes total

-- Where each plan is what its kind promises, a check of pages that hold them tells that all is as it should be.
abbrev pub GoodPlansAreSound : Type 0
GoodPlansAreSound = (h : History) (verdict : Verdict) → IsLegal h → Verifies h verdict → verdict ≡ sound_of h
