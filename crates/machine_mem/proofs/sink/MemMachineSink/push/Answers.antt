use Rattle.std.proofs.Common.{arith, refl, ◌∙◌}
use Rattle.machine_mem.proofs.PushLemmas.{Pushed-showed, Pushed-passed, Pushed-stayed, OnlySink-showed, OnlySink-passed, OnlySink-stayed}
use Rattle.machine_mem.proofs.sink.MemMachineSink.push.Goals as goal

pub returns-in-Ok-clause-only : goal.returns-in-Ok-clause-only
returns-in-Ok-clause-only c = OnlySink-showed _ _ c.args.bytes.now _ c.in-Ok.ensures.ok refl (omega arith)

pub returns-in-Ok-clause-pushed : goal.returns-in-Ok-clause-pushed
returns-in-Ok-clause-pushed c = Pushed-showed _ _ _ _ c.in-Ok.ensures.ok refl

pub returns-in-Err-clause-only : goal.returns-in-Err-clause-only
returns-in-Err-clause-only c = OnlySink-stayed _ _ _ (c.starve.ensures.same ∙ c.in-Err.ensures.err) refl (omega arith)

pub returns-in-Err-clause-pushed : goal.returns-in-Err-clause-pushed
returns-in-Err-clause-pushed c = Pushed-stayed _ _ _ _ _ (c.starve.ensures.same ∙ c.in-Err.ensures.err) refl

pub returns-in-Ok-try_pass-clause-only : goal.returns-in-Ok-try_pass-clause-only
returns-in-Ok-try_pass-clause-only c = OnlySink-passed _ _ _ c.in-Ok-try_pass.ensures.ok refl (omega arith)

pub returns-in-Ok-try_pass-clause-pushed : goal.returns-in-Ok-try_pass-clause-pushed
returns-in-Ok-try_pass-clause-pushed c = Pushed-passed _ _ _ _ _ c.in-Ok-try_pass.ensures.ok refl

pub returns-in-Err-try_pass-clause-only : goal.returns-in-Err-try_pass-clause-only
returns-in-Err-try_pass-clause-only c = OnlySink-stayed _ _ _ (c.starve-in-Err-try_pass.ensures.same ∙ c.in-Err-try_pass.ensures.err) refl (omega arith)

pub returns-in-Err-try_pass-clause-pushed : goal.returns-in-Err-try_pass-clause-pushed
returns-in-Err-try_pass-clause-pushed c = Pushed-stayed _ _ _ _ _ (c.starve-in-Err-try_pass.ensures.same ∙ c.in-Err-try_pass.ensures.err) refl
