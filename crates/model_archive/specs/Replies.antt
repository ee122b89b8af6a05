-- The text of a reply: one or more lines.
use Rattle.std.specs.Prelude.{ℕ, ◌/◌, ◌%◌, List, [], ◌∷◌, ◌++◌, length, get_or, Option, Some, None, codes}
use Rattle.std.specs.List.{flat_map}
use Rattle.std.specs.Fmt.{decimal}
use Rattle.base_types.specs.declared.posting.Posting.{Posting}
use Rattle.base_types.specs.declared.which.Which.{Which}
use Rattle.base_types.specs.declared.which.Which.TheVariants.{Documents, Versions, Words, Journal, Pages}
use Rattle.plans_kinds.specs.declared.proposal.Node.{Node}
use Rattle.plans_kinds.specs.declared.proposal.Segment.{Segment}
use Rattle.query_eval.specs.declared.answer.Row.{Row}
use Rattle.query_eval.specs.declared.spans.SpanRow.{SpanRow}
use Rattle.model_archive.specs.declared.refusal.Refusal.{Refusal}
use Rattle.model_archive.specs.declared.refusal.Refusal.TheVariants as refusals
use Rattle.model_archive.specs.declared.sharing.Share.{Share}
use Rattle.model_archive.specs.declared.summary.Summary.{Summary}
use Rattle.model_archive.specs.declared.verdict.Verdict.{Verdict}
use Rattle.model_archive.specs.declared.verdict.Verdict.TheVariants.{Sound, Differs, NotLeast, BadText}
use Rattle.model_archive.specs.Refusals.{number_of}
use Rattle.model_archive.specs.Steps.{Reply, Accepted, Refused, RefusedIn, Found, FoundBest, Spanned, Approximated, Neared, Version, Proposed, Planned, Verified, Shared, Begun, Finished, Silent}

-- the name of a limit in a reply
abbrev pub which_text : Which → List ℕ
which_text Documents = codes "documents"
which_text Versions = codes "versions"
which_text Words = codes "words"
which_text Journal = codes "journal"
which_text Pages = codes "pages"

-- the name of a refusal, and its detail where it has one
abbrev pub detail_text : Refusal → List ℕ
detail_text refusals.Line = codes "Line"
detail_text (refusals.TimeBack last) = codes "TimeBack " ++ decimal last.seconds
detail_text refusals.SameTime = codes "SameTime"
detail_text refusals.NoDocument = codes "NoDocument"
detail_text (refusals.TooLong limit) = codes "TooLong " ++ decimal limit
detail_text (refusals.BadText offset) = codes "BadText " ++ decimal offset
detail_text refusals.NotOneTerm = codes "NotOneTerm"
detail_text refusals.NothingSealed = codes "NothingSealed"
detail_text (refusals.TooWide boundaries) = codes "TooWide " ++ decimal boundaries
detail_text (refusals.Full which limit) = codes "Full " ++ which_text which ++ codes " " ++ decimal limit
detail_text (refusals.BadQuery offset) = codes "BadQuery " ++ decimal offset
detail_text refusals.Busy = codes "Busy"
detail_text refusals.UnknownWord = codes "UnknownWord"
detail_text refusals.NoPlan = codes "NoPlan"
detail_text refusals.OneJob = codes "OneJob"
detail_text (refusals.BatchLine index) = codes "BatchLine " ++ decimal index
detail_text (refusals.BatchTooLong limit) = codes "BatchTooLong " ++ decimal limit
detail_text refusals.OldFormat = codes "OldFormat"
detail_text refusals.HasFormat = codes "HasFormat"
detail_text refusals.NotDisjunction = codes "NotDisjunction"

-- the line of a refusal: its number, its name, and its detail
abbrev pub refusal_text : Refusal → List ℕ
refusal_text why = codes "no " ++ decimal (number_of why) ++ codes " " ++ detail_text why ++ 10 ∷ []

-- the line of a refusal for an item of a batch or a word of a line: the same, and its number
abbrev pub refusal_in_text : Refusal → ℕ → List ℕ
refusal_in_text why index = codes "no " ++ decimal (number_of why) ++ codes " " ++ detail_text why ++ codes " in " ++ decimal index ++ 10
    ∷ []

-- the line of a row: the document and the score
abbrev pub row_text : Row → List ℕ
row_text row = codes "hit " ++ decimal row.doc.0 ++ codes " " ++ decimal row.score ++ 10 ∷ []

-- the line of a row over time: the document, its first second and the one behind its last, and the score
abbrev pub span_text : SpanRow → List ℕ
span_text row =
    codes "span " ++ decimal row.doc.0 ++ codes " " ++ decimal row.span.from ++ codes " " ++ decimal row.span.to ++ codes " "
    ++ decimal row.score ++ 10 ∷ []

-- the last line of an answer: how many rows there are, and how many postings were read
abbrev pub end_text : ℕ → ℕ → List ℕ
end_text rows read = codes "end " ++ decimal rows ++ codes " read " ++ decimal read ++ 10 ∷ []

-- a line for each row, and the last line
abbrev pub answer_text : List Row → ℕ → List ℕ
answer_text rows read = flat_map row_text rows ++ end_text (length rows) read

-- the last line of the first rows that are found by blocks: the same, and how many blocks were opened, of how many
abbrev pub best_end_text : ℕ → ℕ → ℕ → ℕ → List ℕ
best_end_text rows read opened blocks = codes "end " ++ decimal rows ++ codes " read " ++ decimal read ++ codes " opened " ++ decimal opened
    ++ codes " of " ++ decimal blocks ++ 10 ∷ []

-- a line for each row, and that line
abbrev pub best_text : List Row → ℕ → ℕ → ℕ → List ℕ
best_text rows read opened blocks = flat_map row_text rows ++ best_end_text (length rows) read opened blocks

-- the same of rows over time
abbrev pub spans_text : List SpanRow → ℕ → List ℕ
spans_text rows read = flat_map span_text rows ++ end_text (length rows) read

-- the line of a posting: the document, its first second and the one behind its last, and how often it has the word
abbrev pub approx_text : Posting → List ℕ
approx_text p =
    codes "approx " ++ decimal p.doc.0 ++ codes " " ++ decimal p.span.from ++ codes " " ++ decimal p.span.to ++ codes " "
    ++ decimal p.tf ++ 10 ∷ []

-- the last line of an approximation: how many postings there are, and how many the whole list has
abbrev pub full_text : ℕ → ℕ → List ℕ
full_text count full = codes "end " ++ decimal count ++ codes " of " ++ decimal full ++ 10 ∷ []

-- a line for each posting, and the last line
abbrev pub approximated_text : List Posting → ℕ → List ℕ
approximated_text short full = flat_map approx_text short ++ full_text (length short) full

-- the line of a row by approximations: the document and the score
abbrev pub near_text : Row → List ℕ
near_text row = codes "near " ++ decimal row.doc.0 ++ codes " " ++ decimal row.score ++ 10 ∷ []

-- a line for each of these rows, and the last line
abbrev pub neared_text : List Row → ℕ → List ℕ
neared_text rows read = flat_map near_text rows ++ end_text (length rows) read

-- a line with the text's length, and the text; or that there is none
abbrev pub version_text : Option (List ℕ) → List ℕ
version_text None = codes "none" ++ 10 ∷ []
version_text (Some text) = codes "text " ++ decimal (length text) ++ 10 ∷ text ++ 10 ∷ []

-- the line of a segment: its first second and the one behind its last, and the size of its sublist
abbrev pub segment_text : Segment → List ℕ
segment_text s = codes "segment " ++ decimal s.span.from ++ codes " " ++ decimal s.span.to ++ codes " " ++ decimal s.size ++ 10 ∷ []

-- the line of a boundary: its time, and the least space up to there
abbrev pub node_text : Node → List ℕ
node_text n = codes "node " ++ decimal n.at ++ codes " " ++ decimal n.pi ++ 10 ∷ []

-- the last line of a plan: how many segments there are, and the space that they take
abbrev pub space_text : ℕ → ℕ → List ℕ
space_text segments total = codes "end " ++ decimal segments ++ codes " space " ++ decimal total ++ 10 ∷ []

-- a line for each segment and for each boundary, and the last line
abbrev pub proposal_text : List Segment → List Node → ℕ → List ℕ
proposal_text segments nodes total = (flat_map segment_text segments ++ flat_map node_text nodes) ++ space_text (length segments) total

-- what is told of a plan's expected cost, if it has one
abbrev pub cost_text : Option ℕ → List ℕ
cost_text None = []
cost_text (Some cost) = codes " cost " ++ decimal cost

-- the line of a plan that was stored, behind this word
abbrev pub summary_line : List ℕ → Summary → List ℕ
summary_line word s = word ++ codes " " ++ decimal s.length ++ codes " segments " ++ decimal s.segments ++ codes " space "
    ++ decimal s.space
    ++ codes " full " ++ decimal s.full
    ++ codes " horizon " ++ decimal s.horizon.seconds ++ cost_text s.cost ++ 10 ∷ []

-- the line of a plan that was stored at once
abbrev pub summary_text : Summary → List ℕ
summary_text s = summary_line (codes "plan") s

-- the line of a plan that was begun: how many segments and pages it has
abbrev pub begun_text : ℕ → ℕ → List ℕ
begun_text segments pages = codes "begun " ++ decimal segments ++ codes " " ++ decimal pages ++ 10 ∷ []

-- a digit in base 16
abbrev pub digit_text : ℕ → ℕ
digit_text digit = get_or (codes "0123456789abcdef") digit 0

-- a byte as two digits in base 16; or that there is none
abbrev pub byte_text : Option ℕ → List ℕ
byte_text None = codes "--"
byte_text (Some byte) = digit_text (byte / 16) ∷ digit_text (byte % 16) ∷ []

-- what a check tells: how many words with a plan are as they should be, and how many segments they have; the first byte that differs, as it was
-- found and as it is wanted; what a plan takes and the least that would do; or the version whose text isn't UTF-8
abbrev pub verdict_text : Verdict → List ℕ
verdict_text (Sound words segments) = codes "sound " ++ decimal words ++ codes " " ++ decimal segments
verdict_text (Differs word segment place found wanted) =
    codes "differs " ++ word ++ codes " " ++ decimal segment ++ codes " " ++ decimal place ++ codes " " ++ byte_text found ++ codes " "
    ++ byte_text wanted
verdict_text (NotLeast word taken least) = codes "notleast " ++ word ++ codes " " ++ decimal taken ++ codes " " ++ decimal least
verdict_text (BadText doc at) = codes "badtext " ++ decimal doc.0 ++ codes " " ++ decimal at.seconds

-- the line of a word's share: the word, what it is charged, and what its reads are expected to cost
abbrev pub share_text : Share → List ℕ
share_text s = codes "share " ++ s.word ++ codes " " ++ decimal s.taken.charge ++ codes " " ++ decimal s.taken.cost ++ 10 ∷ []

-- the last line of shares: how many there are, the unit and the budget, and the cost of all
abbrev pub budget_text : ℕ → ℕ → ℕ → ℕ → List ℕ
budget_text words unit budget cost = codes "end " ++ decimal words ++ codes " unit " ++ decimal unit ++ codes " budget " ++ decimal budget
    ++ codes " cost " ++ decimal cost ++ 10 ∷ []

-- a line for each share, and the last line
abbrev pub shared_text : List Share → ℕ → ℕ → ℕ → List ℕ
shared_text shares unit budget cost = flat_map share_text shares ++ budget_text (length shares) unit budget cost

-- the text of a reply
abbrev pub reply_text : Reply → List ℕ
reply_text (Accepted count) = codes "ok " ++ decimal count ++ 10 ∷ []
reply_text (Refused why) = refusal_text why
reply_text (RefusedIn why index) = refusal_in_text why index
reply_text (Found rows read) = answer_text rows read
reply_text (FoundBest rows read opened blocks) = best_text rows read opened blocks
reply_text (Spanned rows read) = spans_text rows read
reply_text (Approximated short full) = approximated_text short full
reply_text (Neared rows read) = neared_text rows read
reply_text (Version text) = version_text text
reply_text (Proposed segments nodes total) = proposal_text segments nodes total
reply_text (Planned summary) = summary_text summary
reply_text (Verified verdict) = verdict_text verdict ++ 10 ∷ []
reply_text (Shared shares unit budget cost) = shared_text shares unit budget cost
reply_text (Begun segments pages) = begun_text segments pages
reply_text (Finished summary) = summary_line (codes "done") summary
reply_text Silent = []
