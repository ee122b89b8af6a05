-- How the calls that ask an archive end.
use Rattle.std.specs.Prelude.{ℕ, List, Option, Result, Ok, Err}
use Rattle.std.specs.Option.{option_map}
use Rattle.plans_kinds.specs.declared.proposal.Proposal.{Proposal}
use Rattle.query_eval.specs.declared.answer.Answer.{Answer}
use Rattle.query_eval.specs.declared.spans.SpanAnswer.{SpanAnswer}
use Rattle.model_archive.specs.declared.verdict.Verdict.{Verdict}
use Rattle.model_archive.specs.Steps.{Reply, Refused, Found, FoundBest, Spanned, Approximated, Neared, Version, Proposed, RefusedIn, Shared, Verified}
use Rattle.archive_questions.specs.declared.approximating.Approximation.{Approximation}
use Rattle.archive_questions.specs.declared.approximating.RoughAnswer.{RoughAnswer}
use Rattle.archive_questions.specs.declared.besting.BestAnswer.{BestAnswer}
use Rattle.model_archive.specs.declared.sharing.Sharing.{Sharing}
use Rattle.archive_questions.specs.declared.error.AskError.{AskError}
use Rattle.archive_questions.specs.declared.error.AskError.TheVariants as asks
use Rattle.archive_questions.specs.declared.error.ShareError.{ShareError}
use Rattle.archive_questions.specs.declared.error.ShareError.TheVariants as shares
use Rattle.archive_check.specs.declared.error.VerifyError.{VerifyError}
use Rattle.archive_check.specs.declared.error.VerifyError.TheVariants as checks
use Rattle.archive_entries.specs.declared.error.Declined.{Declined}
use Rattle.archive_entries.specs.declared.error.Declined.TheVariants as declines
use Rattle.archive_entries.specs.declared.error.ReadError.{ReadError}
use Rattle.archive_entries.specs.declared.error.ReadError.TheVariants as reads
use Rattle.archive_hand.specs.Takes.{Ending, Replied, Starved, Faulted, Spoiled}

-- how queries end
abbrev pub unanswered : AskError → Ending
unanswered (asks.Refused why) = Replied (Refused why)
unanswered asks.Failed = Faulted
unanswered asks.Memory = Starved
unanswered (asks.Damaged damage) = Spoiled damage

abbrev pub answered : {T : Type 0} → (T → Reply) → Result T AskError → Ending
answered reply (Ok answer) = Replied (reply answer)
answered reply (Err error) = unanswered error

abbrev pub found : Result Answer AskError → Ending
found = answered (λ answer. Found answer.rows.items answer.read)

abbrev pub best_found : Result BestAnswer AskError → Ending
best_found = answered (λ best. FoundBest best.rows.items best.read best.opened best.blocks)

abbrev pub spanned : Result SpanAnswer AskError → Ending
spanned = answered (λ answer. Spanned answer.rows.items answer.read)

abbrev pub neared : Result RoughAnswer AskError → Ending
neared = answered (λ answer. Neared answer.rows.items answer.read)

-- how the other questions do: what needs no disk, a text that is read, and a check
abbrev pub told : {T : Type 0} → (T → Reply) → Result T Declined → Ending
told reply (Ok answer) = Replied (reply answer)
told reply (Err (declines.Refused why)) = Replied (Refused why)
told reply (Err declines.Memory) = Starved

abbrev pub proposed : Result Proposal Declined → Ending
proposed = told (λ proposal. Proposed proposal.segments.items proposal.nodes.items proposal.space)

abbrev pub approximated : Result Approximation Declined → Ending
approximated = told (λ answer. Approximated answer.short.items answer.full)

abbrev pub version_shown : {T : Type 0} → (T → List ℕ) → Result (Option T) ReadError → Ending
version_shown bytes (Ok text) = Replied (Version (option_map bytes text))
version_shown bytes (Err reads.Failed) = Faulted
version_shown bytes (Err reads.Memory) = Starved

abbrev pub verified : Result Verdict VerifyError → Ending
verified (Ok verdict) = Replied (Verified verdict)
verified (Err checks.Failed) = Faulted
verified (Err checks.Memory) = Starved

abbrev pub shared : Result Sharing ShareError → Ending
shared (Ok sharing) = Replied (Shared sharing.shares.items sharing.unit sharing.budget sharing.cost)
shared (Err (shares.Refused why index)) = Replied (RefusedIn why index)
shared (Err shares.Memory) = Starved
