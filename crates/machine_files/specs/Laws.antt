-- The laws of the calls of one trait, and what the calls of one leave of the others.
use Rattle.std.proofs.Common.{◌≡◌, ◌≤◌, ◌∙◌, refl, sym, subst, arith}
use Rattle.machine_model.specs.Areas.{part}
use Rattle.machine_model.specs.States.{DiskState}
use Rattle.machine_model.specs.Pushes.{IsSameBeside}
use Rattle.machine_model.specs.declared.area.Area.{Area}
use Rattle.machine_model.specs.declared.area.Area.TheVariants.{Journal, Pages}
use Rattle.machine_files.specs.Telling.{FilesState, OnlySource, OnlySink, OnlyDisk}

pub OnlySource-same : (x : FilesState) → OnlySource x x
OnlySource-same x = record { sink = refl; disk = refl; lost = refl; faults = omega arith }

pub OnlySource-joins : (x y z : FilesState) → OnlySource x y → OnlySource y z → OnlySource x z
OnlySource-joins x y z one two = record {
  sink = two.sink ∙ one.sink;
  disk = two.disk ∙ one.disk;
  lost = two.lost ∙ one.lost;
  faults = omega (arith, one.faults, two.faults);
}

pub OnlySink-same : (x : FilesState) → OnlySink x x
OnlySink-same x = record { source = refl; disk = refl; lost = refl; faults = omega arith }

pub OnlySink-joins : (x y z : FilesState) → OnlySink x y → OnlySink y z → OnlySink x z
OnlySink-joins x y z one two = record {
  source = two.source ∙ one.source;
  disk = two.disk ∙ one.disk;
  lost = two.lost ∙ one.lost;
  faults = omega (arith, one.faults, two.faults);
}

pub OnlyDisk-same : (x : FilesState) → OnlyDisk x x
OnlyDisk-same x = record { source = refl; sink = refl; faults = omega arith; journal = omega arith; pages = omega arith; lost = λ was. was }

pub OnlyDisk-joins : (x y z : FilesState) → OnlyDisk x y → OnlyDisk y z → OnlyDisk x z
OnlyDisk-joins x y z one two = record {
  source = two.source ∙ one.source;
  sink = two.sink ∙ one.sink;
  faults = omega (arith, one.faults, two.faults);
  journal = omega (arith, one.journal, two.journal);
  pages = omega (arith, one.pages, two.pages);
  lost = λ was. two.lost (one.lost was);
}

pub OnlyDisk-reach : (x y : FilesState) (area : Area) → OnlyDisk x y → part x.disk.reach area ≤ part y.disk.reach area
OnlyDisk-reach x y Journal one = one.journal
OnlyDisk-reach x y Pages one = one.pages

-- a disk that is the same is the same beside what is shown
pub IsSameBeside-same : (old new : DiskState) → new ≡ old → IsSameBeside old new
IsSameBeside-same old new same = let P : DiskState
    → Type 0 = λ d. IsSameBeside old d in subst P (sym same) (record { same = refl; stable = refl; pending = refl })
