use Rattle.std.proofs.Common.{arith, None}
use Rattle.lists_versions.specs.declared.link.Link.{Link}
use Rattle.lists_versions.proofs.Steps.{jump_within, jump_back, before_back, none_left, to_before, to_jump}
use Rattle.lists_versions.proofs.Reaching.{all-behind, to-before, to-jump}
use Rattle.lists_versions.proofs.walk.step_back.Goals as goal

pub returns-in_default-clause-leads : goal.returns-in_default-clause-leads
returns-in_default-clause-leads c = λ doc h. none_left _ _ c.requires.linked c.args.place c.requires.there _ c.args.t.seconds c.requires.behind doc h c.in_default.is

pub offset_bounds-log-link : goal.offset_bounds-log-link
offset_bounds-log-link c = let none : Link = record { before = None; jump = 0; span = 0 } in omega (arith, jump_within _ _ c.requires.linked c.args.place c.requires.there none)

pub bounds-log-link : goal.bounds-log-link
bounds-log-link c = jump_within _ _ c.requires.linked c.args.place c.requires.there _

pub bounds-log-link-in-Some : goal.bounds-log-link-in-Some
bounds-log-link-in-Some c = λ _. jump_within _ _ c.requires.linked c.args.place c.requires.there _

pub returns-then-t-log-clause-earlier : goal.returns-then-t-log-clause-earlier
returns-then-t-log-clause-earlier c = jump_back _ _ c.requires.linked c.args.place c.requires.there _ c.in-Some.before c.in-Some.is

pub returns-then-t-log-clause-leads : goal.returns-then-t-log-clause-leads
returns-then-t-log-clause-leads c = λ doc h. to_jump _ _ c.requires.linked c.args.place c.requires.there _ c.args.t.seconds c.requires.behind doc h c.index-log-link.result c.if-t-log.true

pub returns-else-t-log-clause-earlier : goal.returns-else-t-log-clause-earlier
returns-else-t-log-clause-earlier c = before_back _ _ c.requires.linked c.args.place c.requires.there _ c.in-Some.before c.in-Some.is

pub returns-else-t-log-clause-leads : goal.returns-else-t-log-clause-leads
returns-else-t-log-clause-leads c = λ doc h. to_before _ _ c.requires.linked c.args.place c.requires.there _ c.args.t.seconds c.requires.behind doc h c.in-Some.before c.in-Some.is

pub returns-in_default-clause-reaches : goal.returns-in_default-clause-reaches
returns-in_default-clause-reaches c = λ doc h. all-behind _ _ c.requires.linked c.args.place c.requires.there _ c.args.t.seconds c.requires.behind doc h c.in_default.is

pub returns-then-t-log-clause-reaches : goal.returns-then-t-log-clause-reaches
returns-then-t-log-clause-reaches c = λ doc h. to-jump _ _ c.requires.linked c.args.place c.requires.there _ c.args.t.seconds c.requires.behind doc h c.index-log-link.result c.if-t-log.true

pub returns-else-t-log-clause-reaches : goal.returns-else-t-log-clause-reaches
returns-else-t-log-clause-reaches c = λ doc h. to-before _ _ c.requires.linked c.args.place c.requires.there _ c.args.t.seconds c.requires.behind doc h c.in-Some.before c.in-Some.is
