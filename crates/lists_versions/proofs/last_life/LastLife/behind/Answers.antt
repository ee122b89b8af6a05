use Rattle.std.proofs.Common.{Some, None, inl, refl}
use Rattle.lists_versions.proofs.Lasting.{lasts, goes_on}
use Rattle.lists_versions.proofs.last_life.LastLife.behind.Goals as goal
use Rattle.lists_versions.proofs.last_life.LastLife.behind.Goals.{in-Some, in-None}

pub returns-in-Some-held-clause-lasts : goal.returns-in-Some-held-clause-lasts
returns-in-Some-held-clause-lasts c = λ log up k.
    elim c.match-before.branch [
      | in-Some w ↦ lasts log c.args.change.now up c.args.place c.match-before.since None (goes_on log c.args.change.now c.args.before w.in-Some.life c.match-before.since w.start_behind-since.result w.in-Some.is k w.start_behind-since.ensures w.since-is) (rw c.in-Some-held.is refl)
      | in-None w ↦ lasts log c.args.change.now up c.args.place c.match-before.since None (inl w.since-is) (rw c.in-Some-held.is refl)
    ]

pub returns-in-None-held-clause-lasts : goal.returns-in-None-held-clause-lasts
returns-in-None-held-clause-lasts c = λ log up k.
    elim c.match-before.branch [
      | in-Some w ↦ lasts log c.args.change.now up c.args.place c.match-before.since (Some c.args.change.now.at) (goes_on log c.args.change.now c.args.before w.in-Some.life c.match-before.since w.start_behind-since.result w.in-Some.is k w.start_behind-since.ensures w.since-is) (rw c.in-None-held.is refl)
      | in-None w ↦ lasts log c.args.change.now up c.args.place c.match-before.since (Some c.args.change.now.at) (inl w.since-is) (rw c.in-None-held.is refl)
    ]
