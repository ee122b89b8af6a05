-- Which of the images that were allowed at some moment is taken.
use Rattle.std.specs.Prelude.{◌≡◌, length}
use Rattle.machine_model.specs.Areas.{Bytes}
use Rattle.machine_model.specs.Images.{MayLeave}
use Rattle.machine_model.specs.declared.area.Image.{Image}
use Rattle.machine_mem.specs.declared.picks.Pick.{Pick}
use Rattle.machine_mem.specs.declared.picks.Picked.{Picked}
use Rattle.machine_mem.specs.Tails.{IsTail}
use Rattle.machine_mem.specs.Snapshots.{Snapshot}

-- the bytes of an image
abbrev pub bytes_of : Image → Bytes
bytes_of image = record { journal = image.journal.items; pages = image.pages.items }

-- The image was allowed at that moment, each area is the one that the pick takes, and so many bytes were shown.
pub record IsPicked (at : Snapshot) (pick : Pick) (picked : Picked) : Type 0 where
  pub allowed : MayLeave at.moment (bytes_of picked.image)
  pub journal : IsTail at.moment.stable.journal at.moment.pending.journal at.last.journal pick.journal picked.image.journal.items
  pub pages : IsTail at.moment.stable.pages at.moment.pending.pages at.last.pages pick.pages picked.image.pages.items
  pub shown : picked.shown ≡ length at.moment.beside
