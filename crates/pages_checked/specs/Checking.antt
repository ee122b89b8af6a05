-- Bytes that are checked: they have a digest, and spell a list.
use Rattle.std.specs.Prelude.{◌≡◌, ℕ, List}
use Rattle.sha2.specs.Sha256.{sha256}
use Rattle.base_types.specs.declared.posting.Posting.{Posting}
use Rattle.journal_entries.specs.declared.place.Layout.{Layout}
use Rattle.pages_checked.specs.Layouts.{Spells}

-- the bytes have the digest and spell the list
pub record IsChecked (layout : Layout) (digest bytes : List ℕ) (list : List Posting) : Type 0 where
  pub digest_is : digest ≡ sha256 bytes
  pub spelled : Spells layout bytes list
