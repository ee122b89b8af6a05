use Rattle.std.proofs.Common.{arith, ap}
use Rattle.std.specs.Prelude.{length}
use Rattle.plans_choice.proofs.ChoiceLemmas.{few_chosen, good_of, last_cut, space_of}
use Rattle.plans_choice.proofs.choosing.choose.Goals as goal

pub choice_of-requires-clause-few : goal.choice_of-requires-clause-few
choice_of-requires-clause-few c =
    few_chosen c.args.kind c.args.list.now c.args.factor c.args.horizon.seconds c.in_ok-table.table c.in_ok-partition.partition c.in_ok-partition.cost c.in_ok-table.ensures c.in_ok-partition.ensures.fits
    (omega (arith, c.partition.invariant.many, ap length c.partition.view_is)) c.in_ok-partition.ensures.chosen

pub choice_of-requires-clause-last : goal.choice_of-requires-clause-last
choice_of-requires-clause-last c = last_cut c.args.list.now c.args.horizon.seconds c.in_ok-table.table c.in_ok-partition.partition c.in_ok-table.ensures c.in_ok-partition.ensures.fits

pub returns-clause-good : goal.returns-clause-good
returns-clause-good c =
    (good_of c.args.kind c.args.list.now c.args.factor c.args.horizon.seconds c.in_ok-table.table c.in_ok-partition.partition c.in_ok-choice.choice.cuts.items c.in_ok-partition.cost c.in_ok-table.ensures
    c.in_ok-partition.ensures.fits c.in_ok-choice.ensures.some c.in_ok-choice.ensures.cuts c.in_ok-partition.ensures.chosen).0

pub returns-clause-space : goal.returns-clause-space
returns-clause-space c =
    space_of c.args.list.now c.in_ok-partition.partition c.in_ok-choice.choice.cuts.items c.args.horizon.seconds c.in_ok-choice.choice.space c.in_ok-choice.ensures.some c.in_ok-choice.ensures.cuts
    (c.in_ok-choice.ensures.space c.args.list.now c.args.horizon.seconds c.in_ok-table.ensures)

pub returns-clause-cost : goal.returns-clause-cost
returns-clause-cost c =
    rw c.in_ok-choice.ensures.cost (good_of c.args.kind c.args.list.now c.args.factor c.args.horizon.seconds c.in_ok-table.table c.in_ok-partition.partition c.in_ok-choice.choice.cuts.items c.in_ok-partition.cost
    c.in_ok-table.ensures c.in_ok-partition.ensures.fits c.in_ok-choice.ensures.some c.in_ok-choice.ensures.cuts c.in_ok-partition.ensures.chosen).1
