use Rattle.std.proofs.Common.{◌^◌, arith, rules}
use Rattle.std.proofs.lemmas.Bool.{leb-false}
use Rattle.std.proofs.lemmas.List.{get_or_default}
use Rattle.pages_area.specs.Runs.{pages_for}
use Rattle.pages_area.specs.Edges.{edge}
use Rattle.pages_area.proofs.EdgeLemmas.{count_at, free_between, next_edge, taken_from}
use Rattle.pages_area.proofs.edges.are_free.Goals as goal

pub returns-then-at-eq1-clause-no : goal.returns-then-at-eq1-clause-no
returns-then-at-eq1-clause-no c is =
    let up = c.up_to-at.ensures in
    (c.args.extent.first, ((omega arith, omega (arith, c.requires.some)), omega (arith, c.if-at-eq1.true, count_at c.args.edges.now c.up_to-at.result c.args.extent.first up.within up.before up.behind)))

pub returns-clause-yes : goal.returns-clause-yes
returns-clause-yes c is =
    free_between c.args.edges.now c.up_to-at.result c.args.extent.first (pages_for c.args.extent.bytes) c.requires.order c.up_to-at.ensures.within (omega (arith, c.if-at-eq1.false)) c.up_to-at.ensures.before (search rules)

pub returns-clause-no : goal.returns-clause-no
returns-clause-no c is =
    let edges = c.args.edges.now in
    let at = c.up_to-at.result in
    let short = leb-false _ _ is in
    let next = next_edge edges at c.requires.order (omega (arith, short, c.end_at.ensures.edge, c.pages.ensures.in_pages)) in
    let from = get_or_default edges at (2 ^ 28) 0 next.0 in (
      edge edges at,
      (
        (omega (arith, from, c.up_to-at.ensures.behind at (omega arith) next.0), omega (arith, short, c.end_at.ensures.edge, c.pages.ensures.value)),
        taken_from edges at (edge edges at) c.requires.order (omega (arith, c.if-at-eq1.false)) next.0 (omega arith) next.1,
      ),
    )
