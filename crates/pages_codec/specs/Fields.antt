-- Postings as four numbers.
use Rattle.std.specs.Prelude.{ℕ, ◌^◌, ◌==◌, ◌&&◌, ◌||◌, Bool, true, nat_lt, nat_le, Option, Some, None}
use Rattle.base_types.specs.declared.posting.Posting.{Posting}

-- the numbers of a posting: document, frequency, and the ends of the span
pub record Fields : Type 0 where
  pub doc : ℕ
  pub tf : ℕ
  pub from : ℕ
  pub to : ℕ

abbrev pub fields : Posting → Fields
fields p = record { doc = p.doc.0; tf = p.tf; from = p.span.from; to = p.span.to }

-- the numbers of a posting, if there is one
abbrev pub seen : Option Posting → Option Fields
seen None = None
seen (Some p) = Some (fields p)

-- a posting may have this frequency and this span
abbrev pub is_allowed : Fields → Bool
is_allowed p = nat_le 1 p.tf && nat_lt p.from p.to && nat_le p.to (2 ^ 40)

-- a posting may stand behind this one, if there is one
abbrev pub may_follow : Option Fields → Fields → Bool
may_follow None p = true
may_follow (Some q) p = nat_lt q.doc p.doc || (q.doc == p.doc && nat_le q.to p.from)
