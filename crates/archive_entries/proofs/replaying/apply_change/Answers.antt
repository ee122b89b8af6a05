use Rattle.std.proofs.Common.{◌≡◌, ℕ, ◌+◌, arith, subst}
use Rattle.lists_index.specs.Loads.{loaded}
use Rattle.archive_entries.specs.Entries.{IsHeld}
use Rattle.archive_entries.proofs.ReplayLemmas.{faulty, gone_over, on_ok, reached_met}
use Rattle.archive_entries.proofs.replaying.apply_change.Goals as goal

pub returns-clause-more : goal.returns-clause-more
returns-clause-more c = λ h entry reached loads ranges makes same.
    let now = c.args.met.now in
    let added = c.add_change.ensures in
    on_ok c.add_change.result (added.more h entry (reached_met c.args.head.now.gate h now.directory.changes now.plans.items (loaded now.loader) reached loads) makes same) added.placed
    (λ more put.
    gone_over c.args.head.now.gate h entry c.args.change put.0 now.directory.changes c.add_change.new.met.directory.changes now.plans.items c.add_change.new.met.plans.items (loaded c.add_change.new.met.loader)
    reached ranges makes more.0 more.1
    (let P : ℕ → Type 0 = λ n. IsHeld n c.args.change.held put.0 in let there : c.args.head.now.body + 13 ≡ c.args.head.now.gate + 18 = omega arith in subst P there put.1)
    put.2 added.others.0 added.others.1)

pub returns-clause-bad : goal.returns-clause-bad
returns-clause-bad c = λ h entry reached loads ranges makes same at is.
    let now = c.args.met.now in
    let bad = c.add_change.ensures.bad h entry (reached_met c.args.head.now.gate h now.directory.changes now.plans.items (loaded now.loader) reached loads) makes same at is in
    faulty c.args.head.now.gate h entry at ranges bad.1 bad.0
