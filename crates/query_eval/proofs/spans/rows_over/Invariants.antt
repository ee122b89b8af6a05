use Rattle.std.proofs.Common.{◌≡◌, ℕ, Option, drop, length}
use Rattle.lists_postings.specs.Events.{done}
use Rattle.lists_postings.specs.Laid.{AreLaid}
use Rattle.query_lang.specs.Meaning.{words_of}
use Rattle.query_eval.specs.Facts.{IsScored}
use Rattle.query_eval.specs.Spans.{row_kind}
use Rattle.query_eval.proofs.spans.rows_over.Given as goal

abbrev pub invariant-loop-i : goal.invariant-loop-i
invariant-loop-i l = record {
  room : length l.room.counts.items ≡ length (words_of l.query);
  laid : (f : ℕ → ℕ → Option ℕ) → IsScored l.query l.facts f → AreLaid row_kind (done f l.span.from l.span.to (drop l.i l.events.items)) l.rows.items;
}
