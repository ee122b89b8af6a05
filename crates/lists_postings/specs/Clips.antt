-- Lists that are cut to an interval.
use Rattle.std.specs.Prelude.{◌≡◌, ℕ, List, min, max}
use Rattle.std.specs.List.{AllZip}
use Rattle.base_types.specs.declared.posting.Posting.{Posting}
use Rattle.lists_postings.specs.Lists.{sublist}

-- q is p with its span cut to [f, g).
pub record IsCut (f g : ℕ) (p q : Posting) : Type 0 where
  pub doc : q.doc.0 ≡ p.doc.0
  pub tf : q.tf ≡ p.tf
  pub from : q.span.from ≡ max p.span.from f
  pub to : q.span.to ≡ min p.span.to g

-- The clip of a list to [f, g): its sublist, with each span cut to [f, g).
abbrev pub IsClip : ℕ → ℕ → List Posting → List Posting → Type 0
IsClip f g list clip = AllZip (IsCut f g) (sublist f g list) clip
