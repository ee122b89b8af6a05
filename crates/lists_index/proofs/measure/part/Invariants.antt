use Rattle.std.proofs.Common.{◌≡◌, map}
use Rattle.lists_index.proofs.measure.part.Given as goal

abbrev pub invariant-loop-key : goal.invariant-loop-key
invariant-loop-key l = record {
  keys : l.keys.items ≡ map (λ e. e.0) l.yielded;
  counts : l.counts.items ≡ map (λ e. e.1) l.yielded;
}
