-- Words with their lists, as they share a budget.
use Rattle.std.specs.Prelude.{◌≡◌, ℕ, ◌^◌, ◌<◌, ◌≤◌, Bool, not, bytes_eq, List, length, map, All}
use Rattle.plans_share.specs.Offers.{Sharer}
use Rattle.archive_hand.specs.declared.sealing.Sealed.{Sealed}

-- a word that was asked for its list, as it shares
abbrev pub sharer : Sealed → Sharer
sharer s = record { word = s.word; list = s.list.items }

abbrev pub sharers : List Sealed → List Sharer
sharers words = map sharer words

-- it is of another word
abbrev pub stands_apart : List ℕ → Sealed → Bool
stands_apart word s = not (bytes_eq s.word word)

-- its list can be planned: it has some postings, not too many, and all of them end by its horizon
pub record IsPlannable (s : Sealed) : Type 0 where
  pub some : 0 < length s.list.items
  pub few : length s.list.items < 2 ^ 38
  pub early : All (λ p. p.span.to ≤ s.horizon.seconds) s.list.items

-- its list ends there
abbrev pub EndsAt : ℕ → Sealed → Type 0
EndsAt horizon s = s.horizon.seconds ≡ horizon
