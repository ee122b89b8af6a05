use Rattle.std.proofs.Common.{◌≡◌, ◌≤◌, true, List, [], ℕ, All}
use Rattle.script_read.specs.Items.{Waits}
use Rattle.script_read.specs.Reading.{StandsFor, IsAwaited, rounds}
use Rattle.script_read.proofs.CallLemmas.{Goes}
use Rattle.script_read.proofs.reader.Reader.next_item.Given as goal

abbrev pub invariant-rounds : goal.invariant-rounds
invariant-rounds g l = record {
  only : g.S.Source.only l.initial.source l.source;
  went : (since : List ℕ) → StandsFor l.initial.self since
      → Goes g.S.Source.source_tells (g.S.Source.source l.initial.source).left (g.S.Source.source l.source).left l.initial.self l.self since [];
  still : (since : List ℕ) → StandsFor l.initial.self since → ¬ (Waits l.initial.self.ended since) → l.source ≡ l.initial.source;
  awaited : (since : List ℕ) → StandsFor l.initial.self since → ((lefts : List (List ℕ)) × g.S.Source.pulled l.initial.source lefts l.source
      × (g.S.Source.source_tells → All (IsAwaited since (g.S.Source.source l.initial.source).left) lefts));
  further : l.initial.self.passed ≤ l.self.passed;
  end : g.S.Source.source_tells → (l.initial.self.ended ≡ true → (g.S.Source.source l.initial.source).left ≡ []) → l.self.ended ≡ true → (g.S.Source.source l.source).left ≡ [];
}

abbrev pub decreases-rounds : goal.decreases-rounds
decreases-rounds g l = rounds l.self
