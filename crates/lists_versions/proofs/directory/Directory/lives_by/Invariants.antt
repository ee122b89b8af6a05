use Rattle.std.proofs.Common.{◌≡◌, ℕ, drop, Contains, Option}
use Rattle.lists_postings.specs.Events.{ChangesAt, done}
use Rattle.lists_postings.specs.Kinds.{life_kind}
use Rattle.lists_postings.specs.Laid.{AreLaid}
use Rattle.lists_postings.specs.declared.event.Event.{Event}
use Rattle.lists_versions.specs.Lives.{lived}
use Rattle.lists_versions.proofs.directory.Directory.lives_by.Given as goal

abbrev pub invariant-loop-i : goal.invariant-loop-i
invariant-loop-i l = (f : ℕ → ℕ → Option (Unit {0})) → ChangesAt l.events l.span.from l.span.to f
    → ((e : Event) → Contains l.events e → f e.doc.0 e.at.seconds ≡ lived l.self.changes e.doc.0 e.at.seconds)
    → AreLaid life_kind (done f l.span.from l.span.to (drop l.i l.events)) l.lives.items
