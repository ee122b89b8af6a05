-- A value for each of the two areas of an archive's disk.
use Rattle.std.specs.Prelude.{List, ℕ}
use Rattle.machine_model.specs.declared.area.Area.{Area}
use Rattle.machine_model.specs.declared.area.Area.TheVariants.{Journal, Pages}

pub record Both (A : Type 0) : Type 0 where
  pub journal : A
  pub pages : A

-- the value of one area
abbrev pub part : {A : Type 0} → Both A → Area → A
part both Journal = both.journal
part both Pages = both.pages

-- the values with that of one area replaced
abbrev pub replaced : {A : Type 0} → Both A → Area → A → Both A
replaced both Journal x = record { journal = x; pages = both.pages }
replaced both Pages x = record { journal = both.journal; pages = x }

-- the bytes of both areas
abbrev pub Bytes : Type 0
Bytes = Both (List ℕ)
