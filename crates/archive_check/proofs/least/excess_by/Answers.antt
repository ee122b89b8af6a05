use Rattle.std.proofs.Common.{◌-◌, ℕ, List, length, ap, sym, subst, arith}
use Rattle.std.specs.Prelude.{slice_index}
use Rattle.plans_partitions.proofs.Tables.{some_time}
use Rattle.archive_check.specs.Checking.{IsBeaten}
use Rattle.archive_check.proofs.LeastLemmas.{beaten}
use Rattle.archive_check.proofs.least.excess_by.Goals as goal

pub returns-then-branch-clause-least : goal.returns-then-branch-clause-least
returns-then-branch-clause-least c = λ none list h t. c.in_ok-check.ensures.least list h t c.if-branch.true

pub overflow_sub-result : goal.overflow_sub-result
overflow_sub-result c =
    let (list, h, t) = c.requires.some in
    omega (arith, ap length c.pi-numbers.ensures, (c.in_ok-best.ensures.best list h t).long, some_time list h c.args.table.now.boundaries t.boundaries)

pub bounds-numbers-numbers : goal.bounds-numbers-numbers
bounds-numbers-numbers c =
    let (list, h, t) = c.requires.some in
    omega (arith, ap length c.pi-numbers.ensures, (c.in_ok-best.ensures.best list h t).long, some_time list h c.args.table.now.boundaries t.boundaries)

pub returns-clause-beaten : goal.returns-clause-beaten
returns-clause-beaten c = λ list h t covers.
    let B : List ℕ → Type 0 = λ l. IsBeaten list c.args.factor h c.args.stored.now c.space.result (slice_index l (length l - 1)) in
    subst B (sym c.pi-numbers.ensures)
    (beaten list c.args.factor h c.args.table.now c.in_ok-best.best c.args.stored.now c.space.result t (c.in_ok-best.ensures.best list h t) c.requires.fits covers
    (λ certified. let yes = (c.in_ok-check.ensures.exact list h t).1 certified in let no_yes = c.if-branch.false in absurd cc) (c.space.ensures.value list h t))
