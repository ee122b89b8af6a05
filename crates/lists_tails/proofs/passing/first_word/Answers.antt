use Rattle.std.proofs.Common.{rules, arith, ◌≤◌}
use Rattle.lists_tails.proofs.Words.{from-first}
use Rattle.lists_tails.proofs.passing.first_word.Goals as goal

pub returns-in-Some-Some-clause-one : goal.returns-in-Some-Some-clause-one
returns-in-Some-Some-clause-one c =
    let k = c.in-Some-Some.ensures.item in
    let m : c.min.result.number ≤ c.in-Some-Some.x.now.word.number = search rules in
    from-first c.args.one.now c.in-Some-Some.x.now c.min.result.number c.requires.one (omega (arith, k.3.0)) k.1 m

pub returns-in-Some-Some-clause-other : goal.returns-in-Some-Some-clause-other
returns-in-Some-Some-clause-other c =
    let k = c.in-Some-Some.ensures'.item in
    let m : c.min.result.number ≤ c.in-Some-Some.y.now.word.number = search rules in
    from-first c.args.other.now c.in-Some-Some.y.now c.min.result.number c.requires.other (omega (arith, k.3.0)) k.1 m

pub returns-in-Some-None-clause-one : goal.returns-in-Some-None-clause-one
returns-in-Some-None-clause-one c =
    let k = c.in-Some-None.ensures.item in
    from-first c.args.one.now c.in-Some-None.x.now c.in-Some-None.x.now.word.number c.requires.one (omega (arith, k.3.0)) k.1 (omega arith)

pub returns-in-None-Some-clause-other : goal.returns-in-None-Some-clause-other
returns-in-None-Some-clause-other c =
    let k = c.in-None-Some.ensures'.item in
    from-first c.args.other.now c.in-None-Some.y.now c.in-None-Some.y.now.word.number c.requires.other (omega (arith, k.3.0)) k.1 (omega arith)
