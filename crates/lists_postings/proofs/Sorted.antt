-- Events that were sorted.
use Rattle.std.specs.Prelude.{◌≡◌, ℕ, suc, ◌<◌, false, List, [], ◌∷◌, length, get_or}
use Rattle.std.specs.List.Sorted.{IsSortedBy}
use Rattle.std.specs.Ordering.{is_lt, nat_cmp, ordering_then}
use Rattle.std.proofs.Common.{arith, add-one}
use Rattle.std.proofs.lemmas.Bool.Decides.{nat_tests}
use Rattle.lists_postings.specs.Events.{NotAfter, AreInOrder}
use Rattle.lists_postings.specs.declared.event.Event.{Event}

not-after : (x y : Event) → is_lt (ordering_then (nat_cmp y.doc.0 x.doc.0) (nat_cmp y.at.seconds x.at.seconds)) ≡ false → NotAfter x y
not-after x y h = grind (arith, nat_tests)

go : (events : List Event) → ((k : ℕ) (d : Event) → suc k < length events → NotAfter (get_or events k d) (get_or events (suc k) d)) → AreInOrder events
go [] s = tt
go (x ∷ []) s = tt
go (x ∷ y ∷ events) s = (s 0 x (omega arith), go (y ∷ events) (λ k d l. s (suc k) d (omega (arith, l))))

pub in-order : (events : List Event) → IsSortedBy (λ x y. is_lt (ordering_then (nat_cmp x.doc.0 y.doc.0) (nat_cmp x.at.seconds y.at.seconds))) events → AreInOrder events
in-order events s = go events (λ k d l. not-after (get_or events k d) (get_or events (suc k) d) (rw add-one at (s k d (omega arith) (omega (arith, l)))))
