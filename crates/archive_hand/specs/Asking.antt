-- What was read and kept, where Pages were asked for.
use Rattle.std.specs.Prelude.{◌≡◌, ◌+◌, List}
use Rattle.machine_model.specs.Areas.{replaced}
use Rattle.machine_model.specs.States.{DiskState}
use Rattle.machine_model.specs.declared.area.Area.TheVariants.{Pages}
use Rattle.pages_area.specs.Caches.{Kept, after_asking_all, missed_by_all}

-- Pages were asked for that gave these pieces, in turn: those that were missed were read of Pages, and nothing else; the cache is the one after
-- the asking.
pub record HasAsked (pieces was now : List Kept) (old new : DiskState) : Type 0 where
  pub count : new.bytes_read ≡ replaced old.bytes_read Pages (old.bytes_read.pages + missed_by_all pieces was)
  pub cache : now ≡ after_asking_all pieces was
