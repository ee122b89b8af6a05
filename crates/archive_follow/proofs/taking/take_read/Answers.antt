use Rattle.archive_follow.proofs.taking.take_read.Goals as goal

pub returns-in-Delete-clause-takes : goal.returns-in-Delete-clause-takes
returns-in-Delete-clause-takes g c = λ h stands idle. rw c.requires.spelled (rw c.in-Delete.is (c.take_deletion.ensures.takes h stands))
