-- What calls change of a disk and of what was shown, and what comes of it.
use Rattle.std.specs.Prelude.{ℕ, List, [], ◌∷◌, ◌++◌, take, length, nat_le, cond}
use Rattle.machine_model.specs.Areas.{Bytes, part, replaced}
use Rattle.machine_model.specs.States.{Moment}
use Rattle.machine_model.specs.Calls.{written}
use Rattle.machine_model.specs.declared.area.Area.{Area}
use Rattle.machine_model.specs.declared.area.Image.{Image}
use Rattle.machine_mem.specs.Moments.{along}
use Rattle.machine_mem.specs.Picks.{bytes_of}
use Rattle.machine_mem.specs.Snapshots.{Snapshot, snapshot_from}
use Rattle.machine_mem.specs.declared.difference.Difference.{Difference}
use Rattle.machine_mem.specs.declared.difference.Difference.TheVariants.{Write, Sync, Show, Nothing}
use Rattle.machine_mem.specs.declared.difference.Recorded.{Recorded}
use Rattle.machine_mem.specs.declared.holdings.Holdings.{Holdings}

-- what a stop may leave, and what reads give
pub record Holding : Type 0 where
  pub snapshot : Snapshot
  pub holds : Bytes

abbrev pub holding_of : Holdings → Holding
holding_of x = record {
  snapshot = snapshot_from x.journal.remains x.pages.remains x.shown.items;
  holds = record { journal = x.journal.held.items; pages = x.pages.held.items };
}

-- an image, just synced, with nothing shown
abbrev pub first_of : Image → Holding
first_of image = record {
  snapshot = record {
    moment = record { stable = bytes_of image; pending = record { journal = []; pages = [] }; beside = [] };
    last = bytes_of image;
  };
  holds = bytes_of image;
}

-- after a write of which so many bytes came through
abbrev pub with_write : Area → ℕ → List ℕ → ℕ → Holding → Holding
with_write area at bytes landed x = record {
  snapshot = record {
    moment = record x.snapshot.moment {
      pending = replaced x.snapshot.moment.pending area
          (record { at = at; count = length bytes } ∷ part x.snapshot.moment.pending area);
    };
    last = replaced x.snapshot.last area (written at bytes (part x.snapshot.last area));
  };
  holds = replaced x.holds area (written at (take landed bytes) (part x.holds area));
}

-- after a call that changed this
abbrev pub played : Difference → Holding → Holding
played (Write w) x = with_write w.area w.at w.bytes.items w.landed x
played Sync x = record x {
  snapshot = record {
    moment = record x.snapshot.moment { stable = x.holds; pending = record { journal = []; pages = [] } };
    last = x.holds;
  };
}
played (Show piece) x = record
    x { snapshot = record x.snapshot { moment = record x.snapshot.moment { beside = x.snapshot.moment.beside ++ piece.items } } }
played Nothing x = x

-- after all of these calls
abbrev pub played_all : Holding → List Recorded → Holding
played_all x [] = x
played_all x (r ∷ more) = played_all (played r.difference x) more

-- what a stop may leave after so many calls, of which each that is recorded says how many came before it
abbrev pub snapshot_at : ℕ → Holding → List Recorded → Snapshot
snapshot_at n x [] = x.snapshot
snapshot_at n x (r ∷ more) = cond (nat_le n r.until) x.snapshot (snapshot_at n (played r.difference x) more)

-- the bytes that a call showed
abbrev pub piece_of : Difference → List ℕ
piece_of (Write w) = []
piece_of Sync = []
piece_of (Show piece) = piece.items
piece_of Nothing = []

-- the moments before these calls, and those inside each push among them
abbrev pub moments_of : Holding → List Recorded → List Moment
moments_of x [] = []
moments_of x (r ∷ more) = along x.snapshot.moment (piece_of r.difference) ++ moments_of (played r.difference x) more
