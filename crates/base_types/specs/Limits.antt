-- The limits of an archive.
use Rattle.std.specs.Prelude.{ℕ}
use Rattle.base_types.specs.declared.which.Which.{Which}
use Rattle.base_types.specs.declared.which.Which.TheVariants.{Documents, Versions, Words, Journal, Pages}

-- The most documents, versions and tombstones, words, bytes of the journal, and pages.
abbrev pub limit_of : Which → ℕ
limit_of Documents = 1048576
limit_of Versions = 4194304
limit_of Words = 1048576
limit_of Journal = 1099511627776
limit_of Pages = 268435456
