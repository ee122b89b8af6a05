use Rattle.run_words.proofs.ReadLemmas.{no_entry, no_sample}
use Rattle.run_words.proofs.reading.task_of.Goals as goal

pub returns-in_err-numbers_of-in-Some-Some-None-false-clause-none :
    goal.returns-in_err-numbers_of-in-Some-Some-None-false-clause-none
returns-in_err-numbers_of-in-Some-Some-None-false-clause-none c =
    let none = no_sample c.in-Some-Some-None-false.seed.now c.in-Some-Some-None-false.count.now c.in_err-numbers_of-in-Some-Some-None-false.ensures.none in
    rw (c.from_residual-in_err-numbers_of-in-Some-Some-None-false.ensures, c.in-Some-Some-None-false.is-0, c.in-Some-Some-None-false.is-1, c.in-Some-Some-None-false.is-2, c.in-Some-Some-None-false.is-3) none

pub returns-in_err-first_of-in-None-None-Some-false-clause-none : goal.returns-in_err-first_of-in-None-None-Some-false-clause-none
returns-in_err-first_of-in-None-None-Some-false-clause-none c =
    let none = no_entry c.in-None-None-Some-false.from.now c.in_err-first_of-in-None-None-Some-false.ensures.none in
    rw (c.from_residual.ensures, c.in-None-None-Some-false.is-0, c.in-None-None-Some-false.is-1, c.in-None-None-Some-false.is-2, c.in-None-None-Some-false.is-3) none
