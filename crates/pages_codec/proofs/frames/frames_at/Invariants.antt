use Rattle.std.proofs.Common.{◌≤◌, length}
use Rattle.pages_codec.proofs.FrameLemmas.{IsFramed}
use Rattle.pages_codec.proofs.frames.frames_at.Given as goal

abbrev pub invariant-loop-rest : goal.invariant-loop-rest
invariant-loop-rest l = record {
  inside : length l.rest ≤ length l.bytes;
  framed : IsFramed l.bytes l.heads.items l.starts.items l.rest;
}

abbrev pub decreases-loop-rest : goal.decreases-loop-rest
decreases-loop-rest l = length l.rest
