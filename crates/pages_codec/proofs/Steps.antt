-- What the steps of a reading that didn't fail did.
use Rattle.std.specs.Prelude.{◌≡◌, ℕ, Bool, true, false, cond, Option, Some, None, Result, Err, refl}
use Rattle.pages_codec.specs.declared.error.ListError.{ListError}
use Rattle.pages_codec.specs.declared.error.ListError.TheVariants.{Form, Memory}
use Rattle.pages_codec.specs.Decoding.{OrMemory}

-- a test that passed
pub test_some : {A : Type 0} (b : Bool) (x y : A) → cond b (Some x) None ≡ Some y → (b ≡ true) × (x ≡ y)
test_some true x y e = (refl, cc)
test_some false x y e = absurd cc

-- a test that did not fail
pub guard_some : {A : Type 0} (b : Bool) (o : Option A) (y : A) → cond b None o ≡ Some y → (b ≡ false) × (o ≡ Some y)
guard_some true o y e = absurd cc
guard_some false o y e = (refl, e)

abbrev pub failed : {A : Type 0} → ℕ → Result A ℕ
failed left = Err left

pub OrMemory-weaker : (P Q : ℕ → Type 0) (e : ListError) → ((at : ℕ) → P at → Q at) → OrMemory P e → OrMemory Q e
OrMemory-weaker P Q Memory f p = tt
OrMemory-weaker P Q (Form at) f p = f at p
