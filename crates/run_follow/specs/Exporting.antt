-- What an export of a loaded journal is: the packets of its entries from one on are shown.
use Rattle.std.specs.Prelude.{◌≡◌, ℕ, ◌+◌, ◌-◌, List, ◌++◌, length, slice_get, Some}
use Rattle.machine_model.specs.Pushes.{IsPrefix, OnlyShows}
use Rattle.machine_model.specs.States.{DiskState, SinkState}
use Rattle.journal_gates.specs.Records.{front}
use Rattle.journal_gates.specs.Spelled.{Spells}
use Rattle.journal_packets.specs.Packets.{packet_bytes}
use Rattle.journal_packets.specs.Streams.{export, stream}
use Rattle.model_archive.specs.Histories.{History}
use Rattle.model_archive.specs.Legal.{IsLoadable}
use Rattle.model_archive.specs.Stands.{bodies_of}

-- The bytes of a journal, which was loaded up to this end, are those of a history that a load accepts.
pub record IsJournalOf (history : History) (journal : List ℕ) (end : ℕ) : Type 0 where
  pub spelled : Spells journal (bodies_of history)
  pub loadable : IsLoadable history
  pub ends : end ≡ length (front (bodies_of history)) + 1

-- Bodies were shown as packets, and nothing was written: a front of their export is shown, and all of it where this holds, that it is done. Each image
-- left since was allowed at the start.
pub record Shows (all : List (List ℕ)) (from : ℕ) (done : Type 0) (output output_now : SinkState) (old new : DiskState) : Type 0 where
  pub shown : List ℕ
  pub shown_is : output_now.shown ≡ output.shown ++ shown
  pub front : IsPrefix shown (stream (export from all))
  pub whole : done → shown ≡ stream (export from all)
  pub beside : OnlyShows old new output.shown output_now.shown

-- The packet of one body was shown, or a front of it, and all of it where it is done.
pub record ShowsPacket (all : List (List ℕ)) (number : ℕ) (done : Type 0) (output output_now : SinkState)
    (old new : DiskState) : Type 0 where
  pub body : List ℕ
  pub body_is : slice_get all (number - 1) ≡ Some body
  pub shown : List ℕ
  pub shown_is : output_now.shown ≡ output.shown ++ shown
  pub front : IsPrefix shown (packet_bytes number body)
  pub whole : done → shown ≡ packet_bytes number body
  pub beside : OnlyShows old new output.shown output_now.shown
