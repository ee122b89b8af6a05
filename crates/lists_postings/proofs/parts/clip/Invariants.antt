use Rattle.std.proofs.Common.{take}
use Rattle.lists_postings.specs.Clips.{IsClip}
use Rattle.lists_postings.proofs.parts.clip.Given as goal

abbrev pub invariant-loop-p : goal.invariant-loop-p
invariant-loop-p l = IsClip l.span.from l.span.to (take l.p-index l.list) l.clip.items
