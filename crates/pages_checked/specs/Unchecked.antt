-- Why bytes aren't checked: by the bytes and the digest, whatever was checked before.
use Rattle.std.specs.Prelude.{◌≡◌, ◌≢◌, ℕ, List}
use Rattle.sha2.specs.Sha256.{sha256}
use Rattle.journal_entries.specs.declared.place.Layout.{Layout}
use Rattle.pages_checked.specs.Layouts.{SpellsNone}
use Rattle.pages_checked.specs.declared.error.CheckError.{CheckError}
use Rattle.pages_checked.specs.declared.error.CheckError.TheVariants.{Digest, Form, Memory}
use Rattle.pages_checked.specs.declared.error.DigestError.{DigestError}
use Rattle.pages_checked.specs.declared.error.DigestError.TheVariants as digests

-- the digest differs, or else no list is spelled; nothing of want of memory
abbrev pub IsUnchecked : Layout → List ℕ → List ℕ → CheckError → Type 0
IsUnchecked layout digest bytes (Digest got) = (got ≡ sha256 bytes) × (digest ≢ got)
IsUnchecked layout digest bytes Form = (digest ≡ sha256 bytes) × SpellsNone layout bytes
IsUnchecked layout digest bytes Memory = Unit {0}

-- the bytes have another digest; nothing of want of memory
abbrev pub HasOther : List ℕ → List ℕ → DigestError → Type 0
HasOther digest bytes (digests.Other got) = (got ≡ sha256 bytes) × (digest ≢ got)
HasOther digest bytes digests.Memory = Unit {0}
