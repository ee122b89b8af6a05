-- Extents that are to be taken together, and the first of them that can't be.
use Rattle.std.specs.Prelude.{◌≡◌, ℕ, ◌+◌, ◌*◌, ◌<◌, ◌≤◌, List, take, length, get_or, All}
use Rattle.base_types.specs.declared.extent.Extent.{Extent}
use Rattle.pages_area.specs.Runs.{IsPageOf, IsTaken}
use Rattle.pages_area.specs.Taken.{AreApart}
use Rattle.pages_area.specs.declared.live.LiveError.{LiveError}
use Rattle.pages_area.specs.declared.live.LiveError.TheVariants.{Outside, Clash, Memory}

-- the extent lies inside so many bytes
abbrev pub IsInside : ℕ → Extent → Type 0
IsInside reach e = e.first * 4096 + e.bytes ≤ reach

-- these extents lie inside so many bytes, and no two of them share a page
abbrev pub AreLive : List Extent → ℕ → Type 0
AreLive live reach = All (IsInside reach) live × AreApart live

-- this extent stands behind so many, which pass
pub record IsNext (live : List Extent) (reach index : ℕ) (e : Extent) : Type 0 where
  pub within : index < length live
  pub is : e ≡ get_or live index e
  pub pass : AreLive (take index live) reach

-- Why extents aren't taken: the first that doesn't pass doesn't lie inside, or it does and shares a page with an earlier one.
abbrev pub IsRefused : List Extent → ℕ → LiveError → Type 0
IsRefused live reach (Outside index) = (e : Extent) × (IsNext live reach index e × (reach < e.first * 4096 + e.bytes))
IsRefused live reach (Clash index) = (e : Extent)
    × (IsNext live reach index e × (IsInside reach e × ((p : ℕ) × (IsPageOf e p × IsTaken (take index live) p))))
IsRefused live reach Memory = Unit {0}
