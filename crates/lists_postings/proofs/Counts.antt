-- The size of a sublist by two counts.
use Rattle.std.specs.Prelude.{◌≡◌, ℕ, ◌+◌, ◌<◌, nat_lt, nat_le, cond, List, [], ◌∷◌, refl}
use Rattle.std.proofs.Common.{arith}
use Rattle.std.proofs.lemmas.Bool.Decides.{nat_tests}
use Rattle.std.proofs.lemmas.List.Sums.{sum_by-cons}
use Rattle.base_types.specs.declared.posting.Posting.{Posting}
use Rattle.lists_postings.specs.Lists.{meets}
use Rattle.lists_postings.specs.Sizes.{size, begun, ended}

one : (f g : ℕ) (p : Posting) → f < g → cond (meets f g p) 1 0 + cond (nat_le p.span.to f) 1 0 ≡ cond (nat_lt p.span.from g) 1 0
one f g p h = let o : p.span.from < p.span.to = p.span.ordered in grind (arith, nat_tests)

pub size_ended : (list : List Posting) (f g : ℕ) → f < g → size f g list + ended f list ≡ begun g list
size_ended [] f g h = refl
size_ended (p ∷ list) f g h =
    omega (arith, sum_by-cons (λ q. cond (meets f g q) 1 0) p list, sum_by-cons (λ q. cond (nat_le q.span.to f) 1 0) p list, sum_by-cons (λ q. cond (nat_lt q.span.from g) 1 0) p list, one f g p h, size_ended list f g h)
