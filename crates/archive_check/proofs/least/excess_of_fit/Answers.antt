use Rattle.std.proofs.Common.{◌∷◌, ◌++◌, [], length, ap, arith}
use Rattle.std.proofs.lemmas.List.{length-append, length-map}
use Rattle.plans_kinds.proofs.PlanLemmas.{narrow_cuts}
use Rattle.archive_check.proofs.LeastLemmas.{fit_told}
use Rattle.archive_check.proofs.least.excess_of_fit.Goals as goal

pub excess_by-requires-clause-few : goal.excess_by-requires-clause-few
excess_by-requires-clause-few c =
    let cuts = c.args.cuts.now in
    let few = narrow_cuts c.args.list.now c.args.factor cuts c.args.horizon.seconds c.requires.fit.0 c.requires.fit.1 in
    omega (arith, ap length c.in_ok-stored.ensures.cuts, length-map (cuts ++ c.args.horizon ∷ []) (λ t. t.seconds), length-append cuts (c.args.horizon ∷ []), few)

pub returns-clause-found : goal.returns-clause-found
returns-clause-found c =
    fit_told c.args.list.now c.args.factor c.args.cuts.now c.args.horizon c.in_ok-stored.stored c.in_ok-table.table c.excess_by.result c.in_ok-table.ensures c.requires.fit c.in_ok-stored.ensures.cuts c.excess_by.ensures.least c.excess_by.ensures.beaten
