use Rattle.std.specs.Prelude.{◌∷◌, take}
use Rattle.pages_sublists.specs.Segments.{seconds}
use Rattle.pages_sublists.specs.Preparing.{IsEarliest, IsLatest}
use Rattle.pages_sublists.proofs.parts.reach_of.Given as goal

abbrev pub invariant-loop-cut : goal.invariant-loop-cut
invariant-loop-cut l = record {
  from : IsEarliest (l.fn.end.seconds ∷ seconds (take l.cut-index l.cuts)) l.reach.from;
  to : IsLatest (l.fn.end.seconds ∷ seconds (take l.cut-index l.cuts)) l.reach.to;
}
