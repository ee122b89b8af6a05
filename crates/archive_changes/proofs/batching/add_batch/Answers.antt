use Rattle.std.proofs.Common.{◌≡◌, ◌∷◌, [], ◌++◌, inl, refl, ap, sym, ◌∙◌}
use Rattle.std.specs.List.{flat_map}
use Rattle.std.proofs.lemmas.Result.{IfOk-weaker}
use Rattle.base_commands.specs.declared.batch.BatchItems.TheVariants.{Items}
use Rattle.base_commands.specs.declared.command.Command.TheVariants as commands
use Rattle.base_commands.specs.declared.command.Item.TheVariants as given
use Rattle.journal_entries.specs.declared.entry.Entry.TheVariants.{Batch}
use Rattle.model_archive.specs.Stands.{bodies_of}
use Rattle.model_archive.specs.Steps.{act_of, batch_cause}
use Rattle.archive_hand.specs.States.{StandsFor}
use Rattle.archive_hand.proofs.AddLemmas.{pages_nowhere}
use Rattle.archive_hand.proofs.ByReadsLemmas.{keeps_leads, keeps_nowhere}
use Rattle.archive_changes.specs.Endings.{plainly}
use Rattle.archive_changes.proofs.AddLemmas.{entry_led}
use Rattle.archive_changes.proofs.BatchLemmas.{adds_batch, adds_declined, batch_by, declined_after, on_whole, plain_again}
use Rattle.archive_changes.proofs.batching.add_batch.Goals as goal

-- ---- it was prepared

pub returns-in-Ok-clause-adds : goal.returns-in-Ok-clause-adds
returns-in-Ok-clause-adds g c = λ h stands.
    let same = c.batch.ensures.same in
    let (next, cause) = c.in-Ok.ensures.prepared h stands in
    let made = rw same at c.commit_batch.ensures.stands in
    rw c.for_whole.ensures (adds_batch c.commit_batch.result c.args.archive.now c.commit_batch.new.self h (flat_map act_of c.args.items.now) (batch_cause h c.args.items.now) c.in-Ok.prepared stands next cause
    (rw same at c.commit_batch.ensures.refused) (rw same at c.commit_batch.ensures.allowed) (made h (flat_map act_of c.args.items.now) stands next))

pub returns-in-Ok-clause-by_reads : goal.returns-in-Ok-clause-by_reads
returns-in-Ok-clause-by_reads g c = λ tells s in_step.
    let same = c.batch.ensures.same in
    let r = c.commit_batch.result in
    let e = Batch (flat_map act_of c.args.items.now) in
    let next = (c.in-Ok.ensures.prepared s.history in_step.stands).0 in
    let told : r ≡ plainly c.for_whole.result = sym (plain_again r) ∙ ap plainly (sym c.for_whole.ensures) in
    let unchanged = rw same at c.commit_batch.ensures.same in
    let made = rw same at c.commit_batch.ensures.stands in
    let crash = rw same at c.commit_batch.ensures.crash in
    let step = rw same at c.commit_batch.ensures.in_step in
    let cached = rw same at c.commit_batch.ensures.cached in
    let led = entry_led r c.commit_batch.new.self (g.D.Disk.disk c.args.disk.now) (g.D.Disk.disk c.commit_batch.new.disk) s e c.in-Ok.prepared.body.items c.args.archive.now in_step tt next.spelled
    (IfOk-weaker r _ (λ _. StandsFor c.commit_batch.new.self (s.history ++ e ∷ [])) (λ n is. is.0) (made s.history (flat_map act_of c.args.items.now) in_step.stands next))
    (crash tells (bodies_of s.history) in_step.journal) (c.commit_batch.ensures.pages tells) (c.commit_batch.ensures.pages_hold tells) (step tells (bodies_of s.history) in_step.journal) (λ ok. cached tells in_step.cached (inl ok)) (λ ok. rw same at c.commit_batch.ensures.unasked) (λ ok. rw same at c.commit_batch.ensures.idle) in
    batch_by s (given.Command (commands.Batch (Items c.args.items.now))) e (batch_cause s.history c.args.items.now) c.for_whole.result _ _ c.args.archive.now c.commit_batch.new.self tt
    (λ reply next adds job stocks. (adds, job, stocks)) in_step (returns-in-Ok-clause-adds g c s.history in_step.stands)
    (λ why index is. let was = unchanged why (told ∙ ap plainly is) in (was.0, ap g.D.Disk.disk was.1))
    (λ is. ap g.D.Disk.disk (c.commit_batch.ensures.memory (told ∙ ap plainly is)))
    (led.0, rw c.for_whole.ensures (on_whole r _ led.1))

-- ---- it was declined

pub returns-in-Err-clause-after : goal.returns-in-Err-clause-after
returns-in-Err-clause-after g c =
    declined_after g.D.Disk.disk_tells (c.args.disk.now ≡ c.args.disk.now) c.in-Err.why c.give_up.result c.args.archive.now c.give_up.new.archive (g.D.Disk.disk c.args.disk.now) refl c.requires.live c.requires.within (rw c.batch.ensures.same at c.give_up.ensures)

pub returns-in-Err-clause-by_reads : goal.returns-in-Err-clause-by_reads
returns-in-Err-clause-by_reads g c = λ tells s in_step.
    let gives = rw c.batch.ensures.same at c.give_up.ensures in
    let after = returns-in-Err-clause-after g c in
    batch_by s (given.Command (commands.Batch (Items c.args.items.now))) (Batch (flat_map act_of c.args.items.now)) (batch_cause s.history c.args.items.now) _ _ _ c.args.archive.now c.give_up.new.archive tt
    (λ reply next adds job stocks. (adds, job, stocks)) in_step
    (adds_declined c.in-Err.why c.give_up.result c.args.archive.now c.give_up.new.archive s.history c.args.items.now (c.in-Err.ensures.prepared s.history in_step.stands) gives)
    (λ why index is. ((after.same why (ap plainly is)).0, refl)) (λ is. refl)
    (keeps_leads s _ _ _ (keeps_nowhere _ c.args.archive.now s in_step), tt)

pub returns-in-Err-clause-pages : goal.returns-in-Err-clause-pages
returns-in-Err-clause-pages g c = λ tells. pages_nowhere _
