-- The kinds of stretches.
use Rattle.std.specs.Prelude.{ℕ, Bool, List}
use Rattle.std.specs.List.{list_any}
use Rattle.lists_postings.specs.Stretches.{Kind}
use Rattle.lists_postings.specs.Laid.{holds}
use Rattle.lists_postings.specs.declared.life.Life.{Life}

-- a life: the document is there
abbrev pub life_kind : Kind Life (Unit {0})
life_kind = record { doc = λ l. l.doc.0; from = λ l. l.span.from; to = λ l. l.span.to; value = λ l. tt; some = λ l. l.span.ordered }

-- some life of the document holds the time
abbrev pub is_alive : List Life → ℕ → ℕ → Bool
is_alive lives d t = list_any (holds life_kind d t) lives
