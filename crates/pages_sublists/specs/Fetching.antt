-- What is fetched from a place, and why it is refused: by the bytes that were read, and nothing else.
use Rattle.std.specs.Prelude.{◌≡◌, ◌≢◌, ℕ, Bool, true, false, ◌&&◌, nat_le, List, ◌∷◌, ◌++◌, All}
use Rattle.sha2.specs.Sha256.{sha256}
use Rattle.base_types.specs.declared.posting.Posting.{Posting}
use Rattle.journal_entries.specs.declared.place.Layout.{Layout}
use Rattle.lists_postings.specs.Lists.{meets}
use Rattle.pages_checked.specs.Layouts.{SpellsNone}
use Rattle.pages_checked.specs.Checking.{IsChecked}
use Rattle.pages_sublists.specs.declared.why.Why.{Why}
use Rattle.pages_sublists.specs.declared.why.Why.TheVariants.{Digest, Form, Astray, Clash, Bare}
use Rattle.pages_sublists.specs.declared.why.Damage.{Damage}
use Rattle.pages_sublists.specs.declared.why.FetchError.{FetchError}
use Rattle.pages_sublists.specs.declared.why.FetchError.TheVariants.{Failed, Damaged, Memory}

-- the posting has a time in [f, g) and ends by the horizon
abbrev pub belongs : ℕ → ℕ → ℕ → Posting → Bool
belongs f g h p = meets f g p && nat_le p.span.to h

-- this is the first posting of the list that doesn't belong
pub record IsFirstAstray (f g h : ℕ) (list : List Posting) (p : Posting) : Type 0 where
  pub front : List Posting
  pub back : List Posting
  pub is : list ≡ front ++ p ∷ back
  pub good : All (λ q. belongs f g h q ≡ true) front
  pub bad : belongs f g h p ≡ false

-- what a good fetch of the sublist of [f, g) gives
pub record IsFetched (layout : Layout) (digest : List ℕ) (f g h : ℕ) (bytes : List ℕ) (list : List Posting) : Type 0 where
  pub checked : IsChecked layout digest bytes list
  pub good : All (λ q. belongs f g h q ≡ true) list

-- why a fetch is refused: the first cause in order
abbrev pub Explains : Layout → List ℕ → (f g h : ℕ) → List ℕ → Why → Type 0
Explains layout digest f g h bytes (Digest kept got) = (kept ≡ digest) × (got ≡ sha256 bytes) × (kept ≢ got)
Explains layout digest f g h bytes Form = (digest ≡ sha256 bytes) × SpellsNone layout bytes
Explains layout digest f g h bytes (Astray p) = (list : List Posting) × IsChecked layout digest bytes list × IsFirstAstray f g h list p
Explains layout digest f g h bytes (Clash one other) = ⊥
Explains layout digest f g h bytes Bare = ⊥

-- P holds of the damage, where something is damaged
abbrev pub IfDamaged : (Damage → Type 0) → FetchError → Type 0
IfDamaged P (Damaged damage) = P damage
IfDamaged P Failed = Unit {0}
IfDamaged P Memory = Unit {0}

-- P holds, where the disk failed
abbrev pub IfFailed : Type 0 → FetchError → Type 0
IfFailed P Failed = P
IfFailed P (Damaged damage) = Unit {0}
IfFailed P Memory = Unit {0}
