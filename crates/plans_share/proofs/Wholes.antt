-- The wholes of the offers.
use Rattle.std.specs.Prelude.{◌≡◌, ℕ, suc, ◌+◌, List, [], ◌∷◌, length, replicate, sum_by, All, refl}
use Rattle.std.proofs.Common.{arith, ap, sym, ◌∙◌}
use Rattle.std.proofs.lemmas.List.Sums.{sum_by-cons}
use Rattle.plans_share.specs.Choices.{Offered, picked, ArePicks}
use Rattle.plans_share.proofs.Cells.{cost_of}

pub are-wholes : (offers : List Offered) → ArePicks offers (replicate (length offers) 0)
are-wholes [] = tt
are-wholes (offer ∷ offers) = (omega arith, are-wholes offers)

-- what they cost
pub cost-of-wholes : (offers : List Offered) (picks : List ℕ) → ArePicks offers picks → All (λ k. k ≡ 0) picks → sum_by (λ (o : Offered). o.whole.cost) offers ≡ cost_of offers picks
cost-of-wholes [] [] p z = refl
cost-of-wholes [] (k ∷ picks) p z = absurd p
cost-of-wholes (offer ∷ offers) [] p z = absurd p
cost-of-wholes (offer ∷ offers) (k ∷ picks) p z =
    let e : k ≡ 0 = z 0 0 (omega arith) in
    let rest : sum_by (λ (o : Offered). o.whole.cost) offers ≡ cost_of offers picks = cost-of-wholes offers picks p.1 (λ i d l. z (suc i) d (omega (arith, l))) in
    let f : (picked offer k).cost ≡ offer.whole.cost = ap (λ n. (picked offer n).cost) e in
    let a : sum_by (λ (o : Offered). o.whole.cost) (offer ∷ offers) ≡ offer.whole.cost + sum_by (λ (o : Offered). o.whole.cost) offers = sum_by-cons (λ (o : Offered). o.whole.cost) offer offers in
    let b : cost_of (offer ∷ offers) (k ∷ picks) ≡ (picked offer k).cost + cost_of offers picks = refl in
    a ∙ omega (arith, rest, f) ∙ sym b
