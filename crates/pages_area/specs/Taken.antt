-- What a store of pages in hand stands for: the extents that are taken.
use Rattle.std.specs.Prelude.{◌≡◌, ℕ, ◌<◌, ◌^◌, ◌↔◌, Bool, nat_lt, List, [], ◌∷◌, ◌++◌, count_by}
use Rattle.base_types.specs.declared.extent.Extent.{Extent}
use Rattle.pages_area.specs.Runs.{IsPageOf, IsTaken}
use Rattle.pages_area.specs.Edges.{IsFree}

-- no page of the extent is among those of others
abbrev pub IsApartFrom : Extent → List Extent → Type 0
IsApartFrom e extents = (p : ℕ) → IsPageOf e p → IsTaken extents p → ⊥

-- no two of these extents share a page
abbrev pub AreApart : List Extent → Type 0
AreApart [] = Unit {0}
AreApart (e ∷ extents) = IsApartFrom e extents × AreApart extents

-- the extent has a page
abbrev pub has_pages : Extent → Bool
has_pages e = nat_lt 0 e.bytes

-- a store in hand: the edges of what is taken, and how many extents with pages are taken
pub record PagesState : Type 0 where
  pub edges : List ℕ
  pub taken : ℕ

-- these extents are taken, and no other page is
pub record HasTaken (store : PagesState) (extents : List Extent) : Type 0 where
  pub apart : AreApart extents
  pub counted : count_by has_pages extents ≡ store.taken
  pub free_are : (p : ℕ) → IsFree store.edges p ↔ ((p < 2 ^ 28) × (IsTaken extents p → ⊥))

-- the order of some extents in the middle is free
abbrev pub TakenInAnyOrder : Type 0
TakenInAnyOrder = (store : PagesState) (before these those after : List Extent) → HasTaken store (before ++ (these ++ (those ++ after)))
    → HasTaken store (before ++ (those ++ (these ++ after)))
