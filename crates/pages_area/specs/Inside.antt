-- What a cache in hand keeps.
use Rattle.std.specs.Prelude.{◌≡◌, ℕ, ◌≤◌, List, ◌∷◌, length, map}
use Rattle.std.specs.declared.vec.Vec.{Vec}
use Rattle.lru.specs.LruCache.{LruCache}
use Rattle.pages_area.specs.Caches.{Kept, AreDistinct}

module _ {A : Type 0} where
  -- the kept pages with their pieces
  abbrev pub kept_of : List (ℕ × Vec ℕ A) → List Kept
  kept_of entries = map (λ e. record { page = e.0; bytes = e.1.items }) entries

  -- no page is kept twice, 1,024 are kept at most, and there is room for one more
  pub record IsInOrder (c : LruCache ℕ (Vec ℕ A)) : Type 0 where
    pub distinct : AreDistinct (kept_of c.entries)
    pub most : length c.entries ≤ 1024
    pub room : c.cap ≡ 1025

  -- a page is in front that wasn't there
  pub record HasOneMore (page : ℕ) (old new : LruCache ℕ (Vec ℕ A)) : Type 0 where
    pub piece : Vec ℕ A
    pub entries : new.entries ≡ (page, piece) ∷ old.entries
    pub room : new.cap ≡ old.cap
