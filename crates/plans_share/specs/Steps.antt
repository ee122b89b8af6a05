-- The steps of choosing: the least costs of the last offers, for at most each charge.
use Rattle.std.specs.Prelude.{◌≡◌, ℕ, ◌-◌, ◌*◌, ◌^◌, ◌<◌, ◌≤◌, nat_le, if◌then◌else◌, Option, Some, None, List, length, slice_index_or, get_or, drop, All, IfSome, Vec}
use Rattle.std.specs.Global.{Global}
use Rattle.plans_space.specs.declared.point.Point.{Point}
use Rattle.plans_space.specs.Steps.{IsLeast, IsNoWay, IsBestWay, plus}
use Rattle.plans_share.specs.Choices.{ArePicks, Offered, total}
use Rattle.plans_share.specs.declared.steps.Pick.{Pick}

-- the costs of an offer are below 2^100
pub record AreCheap (offer : Offered) : Type 0 where
  pub whole : offer.whole.cost < 2 ^ 100
  pub front : All (λ p. p.cost < 2 ^ 100) offer.front

-- picks that are charged at most so much
abbrev pub IsWithin : List Offered → ℕ → List ℕ → Type 0
IsWithin offers most picks = ArePicks offers picks × (total (λ p. p.charge) offers picks ≤ most)

-- the least cost of picks that are charged at most c, where there are any
abbrev pub IsCell : List Offered → ℕ → Option ℕ → Type 0
IsCell offers c = IsLeast (IsWithin offers c) (total (λ p. p.cost) offers)

-- the least costs by charge, below the width
pub record IsSettled (offers : List Offered) (width : ℕ) (row : List (Option ℕ)) : Type 0 where
  pub long : length row ≡ width
  pub each : (c : ℕ) → c < width → IsCell offers c (slice_index_or row c None)
  pub small : All (λ v. IfSome v (λ w. w ≤ length offers * 2 ^ 100)) row

-- the rows of the last offers, of none first; n of them
pub record AreRows (offers : List Offered) (width : ℕ) (rows : List (Vec (Option ℕ) Global)) (n : ℕ) : Type 0 where
  pub long : length rows ≡ n
  pub each : (i : ℕ) (row : Vec (Option ℕ) Global) → i < n → IsSettled (drop (length offers - i) offers) width (get_or rows i row).items

-- the least cost for at most the charge c by this point, with the least costs of the offers behind
abbrev pub through : List (Option ℕ) → Point → ℕ → Option ℕ
through below point c = if nat_le point.charge c then plus point.cost (slice_index_or below (c - point.charge) None) else None

-- the best of the first n picks: none where there is no way
abbrev pub IsBestPick : (ℕ → Option ℕ) → ℕ → Option Pick → Type 0
IsBestPick ways n None = IsNoWay ways n
IsBestPick ways n (Some best) = IsBestWay ways n best.pick best.cost
