use Rattle.std.proofs.Common.{◌+◌, ◌≤◌, ◌^◌, arith, rules}
use Rattle.std.proofs.lemmas.List.{get_or_default, get_or_past}
use Rattle.pages_area.specs.Runs.{pages_for}
use Rattle.pages_area.specs.Edges.{edge}
use Rattle.pages_area.proofs.EdgeLemmas.{no_fall, free_between, next_gap}
use Rattle.pages_area.proofs.edges.first_fit.Goals as goal

pub extent_at-requires : goal.extent_at-requires
extent_at-requires c = omega (arith, c.if-from-pages.true, c.from.ensures, c.saturating_sub.ensures, c.div_ceil-pages.ensures, c.end_at.ensures.limit, c.requires.some)

pub returns-then-from-pages : goal.returns-then-from-pages
returns-then-from-pages c =
    let so_far = c.loop-bytes.invariant in
    let enough : c.loop-bytes.first + pages_for c.args.bytes ≤ edge c.args.edges.now c.loop-bytes.at =
    omega (arith, c.if-from-pages.true, c.from.ensures, c.saturating_sub.ensures, c.div_ceil-pages.ensures, c.end_at.ensures.edge, c.requires.some) in (
      c.extent_at.ensures.bytes,
      rw c.extent_at.ensures.first (record {
        below = omega (arith, enough, c.end_at.ensures.limit, c.end_at.ensures.edge);
        free = free_between c.args.edges.now c.loop-bytes.at c.loop-bytes.first (pages_for c.args.bytes) c.requires.order so_far.within so_far.even so_far.low enough;
        lowest = so_far.lowest;
      }),
    )

pub returns-then-at-edges : goal.returns-then-at-edges
returns-then-at-edges c other limit free =
    let so_far = c.loop-bytes.invariant in
    let later = next_gap c.args.edges.now c.loop-bytes.at c.loop-bytes.first (pages_for c.args.bytes) c.requires.order so_far.even (omega (arith, c.requires.some)) (search rules) so_far.lowest in
    omega (arith, later other limit free, get_or_past c.args.edges.now (c.loop-bytes.at + 1) (2 ^ 28) c.if-at-edges.true, c.requires.some)

pub loop-bytes-preserved : goal.loop-bytes-preserved
loop-bytes-preserved c =
    let so_far = c.loop-bytes.invariant in
    let later = next_gap c.args.edges.now c.loop-bytes.at c.loop-bytes.first (pages_for c.args.bytes) c.requires.order so_far.even (omega (arith, c.requires.some)) (search rules) so_far.lowest in
    record {
      within = search rules;
      even = search rules;
      low = λ k lt. no_fall c.args.edges.now k (c.loop-bytes.at + 1) c.requires.order (omega (arith, lt)) c.if-at-edges.false;
      lowest = rw (get_or_default c.args.edges.now (c.loop-bytes.at + 1) (2 ^ 28) 0 c.if-at-edges.false) at later;
    }
