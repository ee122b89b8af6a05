-- Fractions and extents made from numbers.
use Rattle.std.specs.Prelude.{◌≡◌, ℕ, ◌+◌, ◌/◌, ◌^◌, Bool, true, false, Some, refl}
use Rattle.std.proofs.Common.{sym, ap}
use Rattle.std.proofs.lemmas.Bool.{lt-ltb, le-leb, and_from}
use Rattle.base_types.specs.declared.fraction.Fraction.{Fraction}
use Rattle.base_types.specs.declared.extent.Extent.{Extent}
use Rattle.base_types.proofs.Equal.{same_fraction, same_extent}
use Rattle.journal_entries.specs.Numbers.{is_fraction, fraction_by, fraction_of, is_extent, extent_by, extent_of}

some_is : {A : Type 0} (x y : A) → Some x ≡ Some y → x ≡ y
some_is x y e = cc

-- a fraction made from numbers has them
pub fraction_of-is : (over under : ℕ) (f : Fraction) → fraction_of over under ≡ Some f → (f.over ≡ over) × (f.under ≡ under)
fraction_of-is over under f = go (is_fraction over under) refl
  where
    go : (b : Bool) (h : is_fraction over under ≡ b) → fraction_by over under b h ≡ Some f → (f.over ≡ over) × (f.under ≡ under)
    go true h e = let s = some_is _ f e in (sym (ap (λ (x : Fraction). x.over) s), sym (ap (λ (x : Fraction). x.under) s))
    go false h e = absurd cc

-- the numbers of a fraction make it
pub fraction_again : (f : Fraction) → fraction_of f.over f.under ≡ Some f
fraction_again f = go (is_fraction f.over f.under) refl (and_from _ _ (and_from _ _ (le-leb 1 f.under f.proper) (le-leb f.under f.over f.at_least_one)) (lt-ltb f.over (2 ^ 32) f.in_range))
  where
    go : (b : Bool) (h : is_fraction f.over f.under ≡ b) → b ≡ true → fraction_by f.over f.under b h ≡ Some f
    go true h e = ap Some (same_fraction _ f refl refl)
    go false h e = absurd cc

pub fraction_of-some : (over under : ℕ) (f : Fraction) → f.over ≡ over → f.under ≡ under → fraction_of over under ≡ Some f
fraction_of-some over under f o u = rw (← o, ← u) (fraction_again f)

-- an extent made from numbers has them
pub extent_of-is : (first bytes : ℕ) (e : Extent) → extent_of first bytes ≡ Some e → (e.first ≡ first) × (e.bytes ≡ bytes)
extent_of-is first bytes x = go (is_extent first bytes) refl
  where
    go : (b : Bool) (h : is_extent first bytes ≡ b) → extent_by first bytes b h ≡ Some x → (x.first ≡ first) × (x.bytes ≡ bytes)
    go true h e = let s = some_is _ x e in (sym (ap (λ (y : Extent). y.first) s), sym (ap (λ (y : Extent). y.bytes) s))
    go false h e = absurd cc

-- the numbers of an extent make it
pub extent_again : (e : Extent) → extent_of e.first e.bytes ≡ Some e
extent_again x = go (is_extent x.first x.bytes) refl (and_from _ _ (and_from _ _ (le-leb (x.first + (x.bytes + 4095) / 4096) (2 ^ 28) x.in_pages) (lt-ltb x.first (2 ^ 32) x.numbered)) (lt-ltb x.bytes (2 ^ 64) x.sized))
  where
    go : (b : Bool) (h : is_extent x.first x.bytes ≡ b) → b ≡ true → extent_by x.first x.bytes b h ≡ Some x
    go true h e = ap Some (same_extent _ x refl refl)
    go false h e = absurd cc

pub extent_of-some : (first bytes : ℕ) (e : Extent) → e.first ≡ first → e.bytes ≡ bytes → extent_of first bytes ≡ Some e
extent_of-some first bytes x f n = rw (← f, ← n) (extent_again x)
