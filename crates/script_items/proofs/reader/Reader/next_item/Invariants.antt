use Rattle.std.proofs.Common.{◌≡◌, ◌≤◌, ◌-◌, ◌^◌, true, List, [], ℕ, All}
use Rattle.script_items.specs.Items.{Waits}
use Rattle.script_items.specs.Reading.{StandsFor, IsAwaited}
use Rattle.script_items.proofs.CallLemmas.{Goes}
use Rattle.script_items.proofs.reader.Reader.next_item.Given as goal

abbrev pub invariant-parts : goal.invariant-parts
invariant-parts g l = record {
  only : g.S.Source.only l.initial.source l.source;
  went : (since : List ℕ) → StandsFor l.initial.self since
      → Goes g.S.Source.source_tells (g.S.Source.source l.initial.source).left (g.S.Source.source l.source).left l.initial.self l.self since;
  still : (since : List ℕ) → StandsFor l.initial.self since → ¬ (Waits l.initial.self.parts.ended since) → l.source ≡ l.initial.source;
  awaited : (since : List ℕ) → StandsFor l.initial.self since → ((lefts : List (List ℕ)) × g.S.Source.pulled l.initial.source lefts l.source
      × (g.S.Source.source_tells → All (IsAwaited since (g.S.Source.source l.initial.source).left) lefts));
  further : l.initial.self.parts.passed ≤ l.self.parts.passed;
  end : g.S.Source.source_tells → (l.initial.self.parts.ended ≡ true → (g.S.Source.source l.initial.source).left ≡ []) → l.self.parts.ended ≡ true → (g.S.Source.source l.source).left ≡ [];
}

abbrev pub decreases-parts : goal.decreases-parts
decreases-parts g l = 2 ^ 40 - l.self.parts.passed
