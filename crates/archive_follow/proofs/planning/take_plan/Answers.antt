use Rattle.std.proofs.Common.{[], length, refl, ap, sym, ◌∙◌, arith}
use Rattle.std.proofs.lemmas.Bool.{false≢true}
use Rattle.journal_entries.specs.declared.entry.Entry.TheVariants.{Planned}
use Rattle.archive_hand.proofs.ByReadsLemmas.{keeps_nowhere}
use Rattle.archive_follow.specs.Taken.{MayBePut}
use Rattle.archive_follow.proofs.PutLemmas.{may_proper, put_after, put_by, put_stands, takes_put, unfound_never}
use Rattle.archive_follow.proofs.TakenLemmas.{after_none, after_starved, spells_no_next, takes_none, takes_starved}
use Rattle.archive_follow.proofs.planning.take_plan.Goals as goal

-- ---- a place without bytes that isn't at page 0

pub returns-then-not-are_proper-clause-after : goal.returns-then-not-are_proper-clause-after
returns-then-not-are_proper-clause-after g c = after_none _ _ _ _ refl c.requires.within c.requires.live

pub returns-then-not-are_proper-clause-takes : goal.returns-then-not-are_proper-clause-takes
returns-then-not-are_proper-clause-takes g c = λ h stands idle.
    let proper = rw c.as_slice.ensures at c.are_proper.ensures in
    takes_none h c.args.body.now c.args.archive.now stands (spells_no_next h (Planned c.args.plan) c.args.body.now c.requires.ranges c.requires.spelled (λ may. false≢true (sym c.if-not-are_proper.true ∙ proper.1 (may_proper h c.args.plan may))))

pub returns-then-not-are_proper-clause-by_reads : goal.returns-then-not-are_proper-clause-by_reads
returns-then-not-are_proper-clause-by_reads g c = λ tells s in_step idle. in_step

-- ---- it was to be stored

pub store_at-requires-clause-short : goal.store_at-requires-clause-short
store_at-requires-clause-short g c = omega (arith, ap length c.requires.spelled, c.what_runs_make_can_be_followed.ensures.room [] (Planned c.args.plan) c.requires.ranges refl)

pub store_at-requires-clause-legal : goal.store_at-requires-clause-legal
store_at-requires-clause-legal g c = λ h stands.
    let put : MayBePut h c.args.plan c.in-Ok-Some.list.items = rw c.in-Ok-Some.field-0-is at (c.in-Ok-Some.ensures h stands) in
    rw c.deref.ensures.value (put.legal, put.list_is)

pub returns-in-Ok-Some-clause-after : goal.returns-in-Ok-Some-clause-after
returns-in-Ok-Some-clause-after g c =
    let e = c.store_at.ensures in
    rw c.put.ensures (put_after _ _ c.store_at.result _ _ c.args.archive.now c.store_at.new.self e.failed e.within e.live e.same e.cached e.spent)

pub returns-in-Ok-Some-clause-stands : goal.returns-in-Ok-Some-clause-stands
returns-in-Ok-Some-clause-stands g c = λ h stands. rw c.put.ensures (put_stands h c.args.plan c.args.body.now c.store_at.result c.store_at.new.self c.requires.spelled (c.store_at.ensures.stores h stands))

pub returns-in-Ok-Some-clause-takes : goal.returns-in-Ok-Some-clause-takes
returns-in-Ok-Some-clause-takes g c = λ h stands idle.
    let e = c.store_at.ensures in
    let put : MayBePut h c.args.plan c.in-Ok-Some.list.items = rw c.in-Ok-Some.field-0-is at (c.in-Ok-Some.ensures h stands) in
    rw c.put.ensures (takes_put h c.args.plan c.deref.result.now c.args.body.now c.args.archive.now.job c.args.archive.now.end c.store_at.result c.store_at.new.self c.requires.ranges c.requires.spelled idle stands.end_is (rw c.deref.ensures.value put)
    (e.refused h stands) (e.placed h stands) (e.stores h stands))

pub returns-in-Ok-Some-clause-by_reads : goal.returns-in-Ok-Some-clause-by_reads
returns-in-Ok-Some-clause-by_reads g c = λ tells s in_step idle.
    let e = c.store_at.ensures in
    rw c.put.ensures (put_by s c.args.plan c.args.body.now c.store_at.result _ _ c.store_at.new.self c.requires.ranges c.requires.spelled (e.puts tells s in_step) (e.stops tells s in_step) (e.kept tells s in_step) (e.starved tells s in_step))

-- ---- it may not come next

pub returns-in-Ok-None-clause-after : goal.returns-in-Ok-None-clause-after
returns-in-Ok-None-clause-after g c = after_none _ _ _ _ refl c.requires.within c.requires.live

pub returns-in-Ok-None-clause-takes : goal.returns-in-Ok-None-clause-takes
returns-in-Ok-None-clause-takes g c = λ h stands idle.
    takes_none h c.args.body.now c.args.archive.now stands (spells_no_next h (Planned c.args.plan) c.args.body.now c.requires.ranges c.requires.spelled (unfound_never h c.args.plan (rw c.in-Ok-None.field-0-is at (c.in-Ok-None.ensures h stands))))

pub returns-in-Ok-None-clause-by_reads : goal.returns-in-Ok-None-clause-by_reads
returns-in-Ok-None-clause-by_reads g c = λ tells s in_step idle. in_step

-- ---- want of memory

pub returns-in-Err-clause-after : goal.returns-in-Err-clause-after
returns-in-Err-clause-after g c = after_starved _ _ _ c.args.archive.now c.give_up.new.self refl c.give_up.ensures.1 c.requires.within

pub returns-in-Err-clause-takes : goal.returns-in-Err-clause-takes
returns-in-Err-clause-takes g c = λ h stands idle. takes_starved h c.args.body.now c.give_up.new.self

pub returns-in-Err-clause-by_reads : goal.returns-in-Err-clause-by_reads
returns-in-Err-clause-by_reads g c = λ tells s in_step idle. keeps_nowhere _ c.args.archive.now s in_step
