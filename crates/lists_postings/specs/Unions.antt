-- The union of two lists.
use Rattle.std.specs.Prelude.{◌≡◌, ◌⊎◌, ◌<◌, ◌↔◌, List, Contains, ⊤}
use Rattle.base_types.specs.declared.posting.Posting.{Posting}
use Rattle.lists_postings.specs.Lists.{IsList}
use Rattle.lists_postings.specs.declared.merge.MergeError.{MergeError}
use Rattle.lists_postings.specs.declared.merge.MergeError.TheVariants.{Clash, Memory}

-- Two different postings of one document overlap in time.
pub record Clashes (p q : Posting) : Type 0 where
  pub doc : p.doc.0 ≡ q.doc.0
  pub begun : p.span.from < q.span.to
  pub unended : q.span.from < p.span.to
  pub differ : ¬ (p ≡ q)

-- The list has each posting of either list, and so each distinct one once, and no other.
pub record IsUnion (one other union : List Posting) : Type 0 where
  pub ordered : IsList union
  pub each : (p : Posting) → Contains union p ↔ (Contains one p ⊎ Contains other p)

-- p of one list and q of the other clash.
pub record IsClash (one other : List Posting) (p q : Posting) : Type 0 where
  pub left : Contains one p
  pub right : Contains other q
  pub clash : Clashes p q

-- What a refused merge of two lists shows.
abbrev pub Explains : List Posting → List Posting → MergeError → Type 0
Explains one other (Clash p q) = IsClash one other p q
Explains one other Memory = ⊤
