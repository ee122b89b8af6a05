use Rattle.std.proofs.Common.{◌≤◌, length}
use Rattle.machine_files.proofs.calls.write_front.Given as goal

abbrev pub invariant-parts : goal.invariant-parts
invariant-parts g l = l.done ≤ length l.bytes
