-- What is told of a sample that was carried out.
use Rattle.std.specs.Prelude.{ℕ, List, [], ◌∷◌, ◌++◌, length, sum_by, codes}
use Rattle.std.specs.Fmt.{decimal}
use Rattle.model_archive.specs.declared.verdict.Verdict.{Verdict}
use Rattle.model_archive.specs.Replies.{reply_text}
use Rattle.model_archive.specs.Steps.{Reply, Accepted, Refused, RefusedIn, Found, Planned, Verified}
use Rattle.archive_replies.specs.declared.tally.Tally.{Tally}

-- what counts for none
abbrev pub no_count : Tally
no_count = record { accepted = 0; refused = 0; hits = 0; read = 0 }

-- What a reply counts for: a change that was accepted or a plan that was stored, a refusal, or the rows that `find` found and the postings read for
-- them. A sample asks nothing else.
abbrev pub count_of : Reply → Tally
count_of (Accepted count) = record no_count { accepted = 1 }
count_of (Planned summary) = record no_count { accepted = 1 }
count_of (Refused why) = record no_count { refused = 1 }
count_of (RefusedIn why index) = record no_count { refused = 1 }
count_of (Found rows read) = record no_count { hits = length rows; read = read }
count_of other = no_count

-- the counts over some replies
abbrev pub tally_of : List Reply → Tally
tally_of replies = record {
  accepted = sum_by (λ reply. (count_of reply).accepted) replies;
  refused = sum_by (λ reply. (count_of reply).refused) replies;
  hits = sum_by (λ reply. (count_of reply).hits) replies;
  read = sum_by (λ reply. (count_of reply).read) replies;
}

-- the line of the counts
abbrev pub tally_text : ℕ → Tally → List ℕ
tally_text changes tally =
    codes "generated " ++ decimal changes ++ codes " accepted " ++ decimal tally.accepted ++ codes " refused " ++ decimal tally.refused
    ++ codes " hits " ++ decimal tally.hits
    ++ codes " read " ++ decimal tally.read ++ 10 ∷ []

-- two lines: the counts of a sample with so many changes, and what its check told
abbrev pub sample_text : ℕ → Tally → Verdict → List ℕ
sample_text changes tally verdict = tally_text changes tally ++ reply_text (Verified verdict)
