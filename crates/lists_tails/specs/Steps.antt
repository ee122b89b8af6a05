-- The postings of a document that a turn closes and opens, and where they stand.
use Rattle.std.specs.Prelude.{◌≡◌, ℕ, ◌<◌, ◌≤◌, ◌^◌, List, length, take, drop, All}
use Rattle.base_types.specs.declared.posting.Posting.{Posting}

-- q is open from the time at on, in document doc with the frequency n.
pub record IsOpened (doc at n : ℕ) (q : Posting) : Type 0 where
  pub of : q.doc.0 ≡ doc
  pub from : q.span.from ≡ at
  pub to : q.span.to ≡ 2 ^ 40
  pub tf : q.tf ≡ n

-- y is x, ended at the time.
pub record IsClosed (at : ℕ) (x y : Posting) : Type 0 where
  pub doc : y.doc.0 ≡ x.doc.0
  pub from : y.span.from ≡ x.span.from
  pub to : y.span.to ≡ at
  pub tf : y.tf ≡ x.tf

-- The first k postings are those of documents up to doc.
pub record IsPlace (doc : ℕ) (list : List Posting) (k : ℕ) : Type 0 where
  pub inside : k ≤ length list
  pub before : All (λ p. p.doc.0 ≤ doc) (take k list)
  pub after : All (λ p. doc < p.doc.0) (drop k list)
