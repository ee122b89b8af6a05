use Rattle.std.proofs.Common.{List, length, sym, subst, ap, arith}
use Rattle.std.proofs.lemmas.List.Sums.{length-filter}
use Rattle.base_types.specs.declared.posting.Posting.{Posting}
use Rattle.lists_postings.specs.Lists.{meets}
use Rattle.pages_sublists.specs.Segments.{seconds}
use Rattle.pages_sublists.specs.Preparing.{Serves}
use Rattle.pages_sublists.proofs.SpellLemmas.{serves_within}
use Rattle.pages_sublists.proofs.parts.narrowed.Goals as goal

pub returns-clause-serves : goal.returns-clause-serves
returns-clause-serves c =
    let reach = c.reach_of-reach in
    subst (λ (l : List Posting). Serves (seconds c.args.cuts.now) c.args.end.seconds c.args.list.now l) (sym c.in_ok-overlap.ensures.sublist)
    (serves_within reach.result.from reach.result.to c.args.list.now (seconds c.args.cuts.now) c.args.end.seconds reach.ensures.from reach.ensures.to c.requires)

pub returns-clause-half : goal.returns-clause-half
returns-clause-half c =
    let reach = c.reach_of-reach.result in
    omega (arith, ap (λ (l : List Posting). length l) c.in_ok-overlap.ensures.sublist, length-filter (meets reach.from reach.to) c.args.list.now, c.met.ensures, c.if-met-list.false)
