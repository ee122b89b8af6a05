use Rattle.std.proofs.Common.{arith, ◌∙◌}
use Rattle.machine_mem.proofs.CallLemmas.{OnlyDisk-synced, Syncs-synced, OnlyDisk-passed, Syncs-passed, OnlyDisk-stayed, Syncs-stayed, OnlyDisk-lost, Syncs-lost, allowed_by_area}
use Rattle.machine_mem.specs.Meaning.{meaning, disk_state}
use Rattle.machine_mem.proofs.disk.MemMachineDisk.sync.Goals as goal

pub returns-in-Ok-clause-only : goal.returns-in-Ok-clause-only
returns-in-Ok-clause-only c = OnlyDisk-lost _ _ _ (OnlyDisk-passed _ _ _ c.in-Ok.ensures.ok (omega arith)) c.lose.ensures.state

pub returns-in-Ok-clause-images : goal.returns-in-Ok-clause-images
returns-in-Ok-clause-images c = Syncs-lost (meaning c.args.self.now) (meaning c.try_pass.new.self) _ (Syncs-passed _ _ _ c.in-Ok.ensures.ok) c.lose.ensures.state

pub returns-in-Err-clause-only : goal.returns-in-Err-clause-only
returns-in-Err-clause-only c = OnlyDisk-lost _ _ _ (OnlyDisk-stayed _ _ _ (c.starve.ensures.same ∙ c.in-Err.ensures.err) (omega arith)) c.lose-in-Err.ensures.state

pub returns-in-Err-clause-images : goal.returns-in-Err-clause-images
returns-in-Err-clause-images c = Syncs-lost (meaning c.args.self.now) (meaning c.starve.new.self) _ (Syncs-stayed _ _ _ (c.starve.ensures.same ∙ c.in-Err.ensures.err)) c.lose-in-Err.ensures.state

pub returns-in-Ok-try_sync-clause-only : goal.returns-in-Ok-try_sync-clause-only
returns-in-Ok-try_sync-clause-only c = OnlyDisk-synced _ _ _ c.in-Ok-try_sync.ensures.ok (omega arith)

pub returns-in-Ok-try_sync-clause-images : goal.returns-in-Ok-try_sync-clause-images
returns-in-Ok-try_sync-clause-images c =
    let disk = disk_state c.args.self.now in
    Syncs-synced (meaning c.args.self.now) _ _ c.in-Ok-try_sync.ensures.ok (allowed_by_area disk.now disk.holds c.args.self.now.history.current.journal.allowed c.args.self.now.history.current.pages.allowed)

pub returns-in-Err-try_sync-clause-only : goal.returns-in-Err-try_sync-clause-only
returns-in-Err-try_sync-clause-only c = OnlyDisk-lost _ _ _ (OnlyDisk-stayed _ _ _ (c.starve-in-Err-try_sync.ensures.same ∙ c.in-Err-try_sync.ensures.err) (omega arith)) c.lose-in-Err-try_sync.ensures.state

pub returns-in-Err-try_sync-clause-images : goal.returns-in-Err-try_sync-clause-images
returns-in-Err-try_sync-clause-images c = Syncs-lost (meaning c.args.self.now) (meaning c.starve-in-Err-try_sync.new.self) _ (Syncs-stayed _ _ _ (c.starve-in-Err-try_sync.ensures.same ∙ c.in-Err-try_sync.ensures.err)) c.lose-in-Err-try_sync.ensures.state
