use Rattle.std.proofs.Common.{◌≡◌, ◌≤◌, length}
use Rattle.machine_files.proofs.calls.read_front.Given as goal

abbrev pub invariant-parts : goal.invariant-parts
invariant-parts g l = (length l.buf ≡ length l.initial.buf) × (l.done ≤ length l.buf)
