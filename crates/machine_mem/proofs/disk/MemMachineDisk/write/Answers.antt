use Rattle.std.proofs.Common.{arith, ◌∙◌}
use Rattle.machine_mem.proofs.CallLemmas.{OnlyDisk-wrote, Writes-wrote, OnlyDisk-stayed, Writes-stayed}
use Rattle.machine_mem.proofs.disk.MemMachineDisk.write.Goals as goal

pub returns-in-Ok-clause-only : goal.returns-in-Ok-clause-only
returns-in-Ok-clause-only c = OnlyDisk-wrote _ _ _ _ _ _ _ c.in-Ok.ensures.ok (omega arith)

pub returns-in-Ok-clause-images : goal.returns-in-Ok-clause-images
returns-in-Ok-clause-images c = Writes-wrote _ _ _ _ _ _ _ c.in-Ok.ensures.ok

pub returns-in-Err-clause-only : goal.returns-in-Err-clause-only
returns-in-Err-clause-only c = OnlyDisk-stayed _ _ _ (c.starve.ensures.same ∙ c.in-Err.ensures.err) (omega arith)

pub returns-in-Err-clause-images : goal.returns-in-Err-clause-images
returns-in-Err-clause-images c = Writes-stayed _ _ _ _ _ _ (c.starve.ensures.same ∙ c.in-Err.ensures.err)

pub returns-in-Ok-try_write-clause-only : goal.returns-in-Ok-try_write-clause-only
returns-in-Ok-try_write-clause-only c = OnlyDisk-wrote _ _ _ _ _ _ _ c.in-Ok-try_write.ensures.ok (omega arith)

pub returns-in-Ok-try_write-clause-images : goal.returns-in-Ok-try_write-clause-images
returns-in-Ok-try_write-clause-images c = Writes-wrote _ _ _ _ _ _ _ c.in-Ok-try_write.ensures.ok

pub returns-in-Err-try_write-clause-only : goal.returns-in-Err-try_write-clause-only
returns-in-Err-try_write-clause-only c = OnlyDisk-stayed _ _ _ (c.starve-in-Err-try_write.ensures.same ∙ c.in-Err-try_write.ensures.err) (omega arith)

pub returns-in-Err-try_write-clause-images : goal.returns-in-Err-try_write-clause-images
returns-in-Err-try_write-clause-images c = Writes-stayed _ _ _ _ _ _ (c.starve-in-Err-try_write.ensures.same ∙ c.in-Err-try_write.ensures.err)
