use Rattle.std.proofs.Common.{◌≡◌, true, List, [], ℕ, All}
use Rattle.journal_packets.specs.declared.first.First.TheVariants.{More}
use Rattle.journal_packets.specs.Packets.{first}
use Rattle.journal_packets.specs.Reading.{IsAwaited, Goes, rounds}
use Rattle.journal_packets.proofs.packets.Packets.next_packet.Given as goal

abbrev pub invariant-rounds : goal.invariant-rounds
invariant-rounds g l = record {
  only : g.S.Source.only l.initial.source l.source;
  went : Goes g.S.Source.source_tells (g.S.Source.source l.initial.source).left (g.S.Source.source l.source).left l.initial.self l.self;
  still : (first l.initial.self.ended l.initial.self.bytes ≡ More → ⊥) → l.source ≡ l.initial.source;
  awaited : (lefts : List (List ℕ)) × g.S.Source.pulled l.initial.source lefts l.source
      × (g.S.Source.source_tells → All (IsAwaited l.initial.self.bytes (g.S.Source.source l.initial.source).left) lefts);
  end : g.S.Source.source_tells → (l.initial.self.ended ≡ true → (g.S.Source.source l.initial.source).left ≡ []) → l.self.ended ≡ true → (g.S.Source.source l.source).left ≡ [];
}

abbrev pub decreases-rounds : goal.decreases-rounds
decreases-rounds g l = rounds l.self
