-- The weights that are kept for documents.
use Rattle.std.proofs.Common.{◌≡◌, ℕ, ◌==◌, Bool, true, false, cond, List, Option, Some, Result, Ok, Err, OnOk, ap, sym, ◌∙◌, inl, inr, if◌then◌else◌}
use Rattle.std.proofs.lemmas.Bool.{eq-eqb}
use Rattle.std.proofs.lemmas.Bool.Decides.{eqb_tells}
use Rattle.std.specs.HashMap.{Updates, get}
use Rattle.base_types.specs.declared.ids.DocId.{DocId}
use Rattle.lists_tails.specs.declared.weight.Weight.{Weight}
use Rattle.lists_index.specs.Newest.{ByDocument, kept, weights_in}

flip : (m n : ℕ) → (m == n) ≡ (n == m)
flip m n = elim (eqb_tells m n) [
  | inl y ↦ y.0 ∙ sym (eq-eqb n m (sym y.1))
  | inr y ↦ elim (eqb_tells n m) [ inl z ↦ absurd (y.1 (sym z.1)) | inr z ↦ y.0 ∙ sym z.0 ]
]

pub put_is : {E : Type 0} (r : Result (Option (List Weight)) E) (v : Option (List Weight)) (m n : ByDocument) (doc : DocId) (w : List Weight) → r ≡ Ok v → OnOk r (Updates (λ a b. a.0 == b.0) m n doc (Some w))
    → (d : ℕ) → weights_in n d ≡ (if d == doc.0 then w else weights_in m d)
put_is (Ok v) u m n doc w is h d = ap kept (h.0 (record { 0 = d })) ∙ go (doc.0 == d) (flip doc.0 d)
  where
    go : (b : Bool) → b ≡ (d == doc.0) → kept (cond b (Some w) (get (λ a b. a.0 == b.0) m (record { 0 = d }))) ≡ (if d == doc.0 then w else weights_in m d)
    go true e = ap (λ b. if b then w else weights_in m d) e
    go false e = ap (λ b. if b then w else weights_in m d) e
put_is (Err x) u m n doc w is h d = absurd cc
