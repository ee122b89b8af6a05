use Rattle.std.proofs.Common.{refl, arith}
use Rattle.base_sample.proofs.SampleLemmas.{from_to-first}
use Rattle.base_sample.proofs.place.Place.after.Goals as goal

pub returns-in-Change-clause-commands : goal.returns-in-Change-clause-commands
returns-in-Change-clause-commands c start = rw (c.in-Change.is, from_to-first c.in-Change.number c.args.count (omega (arith, c.if-number-count.true))) refl

pub returns-in-Question-clause-commands : goal.returns-in-Question-clause-commands
returns-in-Question-clause-commands c start = rw (c.in-Question.is, from_to-first c.in-Question.tenths 10 (omega (arith, c.if-tenths-lt-QUESTIONS.true))) refl
