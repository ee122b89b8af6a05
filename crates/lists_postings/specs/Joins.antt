-- Two postings that are joined.
use Rattle.std.specs.Prelude.{◌≡◌}
use Rattle.base_types.specs.declared.posting.Posting.{Posting}

-- j is p and q in one: p's document and frequency, from p's start to q's end.
pub record IsJoined (p q j : Posting) : Type 0 where
  pub doc : j.doc.0 ≡ p.doc.0
  pub tf : j.tf ≡ p.tf
  pub from : j.span.from ≡ p.span.from
  pub to : j.span.to ≡ q.span.to
