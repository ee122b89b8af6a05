use Rattle.std.proofs.Common.{◌≡◌, ◌∙◌, ◌-◌, ◌<◌, ◌≤◌, ◌++◌, length, take, true, false, chars, sym, ap, ap₂, arith, slice_index, nat_lt, ltb-true, refl}
use Rattle.std.proofs.lemmas.Str.{IsCharBoundary-after_ascii}
use Rattle.text_words.specs.Terms.{is_ascii_term, closed, runs}
use Rattle.text_words.proofs.CutLemmas.{runs_whole, runs_to_end, runs_to_gap}
use Rattle.text_words.proofs.cuts.first_run.Goals as goal

pub returns-then-end-text-clause-runs : goal.returns-then-end-text-clause-runs
returns-then-end-text-clause-runs c =
    c.behind_gap-text.ensures.runs
    ∙ runs_whole (chars c.behind_gap-text.result.now) _ (runs_to_end c.ascii_len-end.result c.behind_gap-text.result.now c.if-end-text.true (rw c.as_bytes.ensures.value at c.ascii_len-end.ensures.front)) refl

pub range_from-requires : goal.range_from-requires
range_from-requires c =
    let text = c.behind_gap-text.result.now in
    let n = c.ascii_len-end.result in
    let short : n < length text = let w : n ≤ length text = rw c.as_bytes.ensures.value at c.ascii_len-end.ensures.within in omega (arith, w, c.if-end-text.false) in
    let low : nat_lt (slice_index text n) 128 ≡ true = rw c.as_bytes-2.ensures.value at (sym c.is_ascii.ensures ∙ c.if-not-is_ascii.false) in
    λ some. IsCharBoundary-after_ascii text n c.behind_gap-text.utf8 short (ltb-true _ _ low)

pub returns-clause-runs : goal.returns-clause-runs
returns-clause-runs c =
    let text = c.behind_gap-text.result.now in
    let n = c.ascii_len-end.result in
    let short : n < length text = let w : n ≤ length text = rw c.as_bytes.ensures.value at c.ascii_len-end.ensures.within in omega (arith, w, c.if-end-text.false) in
    let low : nat_lt (slice_index text n) 128 ≡ true = rw c.as_bytes-2.ensures.value at (sym c.is_ascii.ensures ∙ c.if-not-is_ascii.false) in
    let stop : is_ascii_term (slice_index text n) ≡ false = (rw c.as_bytes.ensures.value at c.ascii_len-end.ensures.stop) short in
    let whole : n - 0 ≡ n = omega arith in
    c.behind_gap-text.ensures.runs
    ∙ runs_to_gap n text short (rw c.as_bytes.ensures.value at c.ascii_len-end.ensures.front) stop low c.behind_gap-text.utf8
    ∙ ap₂ (λ a b. closed (chars a) ++ runs (chars b)) (sym (c.range.ensures.value ∙ ap (λ k. take k text) whole)) (sym c.range_from.ensures.value)
