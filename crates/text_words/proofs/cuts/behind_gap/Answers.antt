use Rattle.std.proofs.Common.{◌∙◌, chars, sym, ap, not}
use Rattle.text_words.specs.Terms.{is_term, runs}
use Rattle.text_words.proofs.CutLemmas.{ascii_boundary, runs_behind_gap}
use Rattle.text_words.proofs.cuts.behind_gap.Goals as goal

pub split_at-requires : goal.split_at-requires
split_at-requires c =
    ascii_boundary (λ x. not (is_term x)) c.gap_len-start.result c.args.text.now
    (rw c.as_bytes.ensures.value at c.gap_len-start.ensures.within) (rw c.as_bytes.ensures.value at c.gap_len-start.ensures.front) c.utf8.text

pub returns-clause-runs : goal.returns-clause-runs
returns-clause-runs c =
    runs_behind_gap c.gap_len-start.result c.args.text.now (rw c.as_bytes.ensures.value at c.gap_len-start.ensures.front)
    ∙ ap (λ l. runs (chars l)) (sym c.split_at.ensures.back)
