-- What answers as a definition of `Making` does is what that definition makes.
use Rattle.std.specs.Prelude.{◌≡◌, ℕ, ◌≤◌, ◌<◌, ◌^◌, ◌↔◌, Bool, true, false, nat_lt, nat_le, Option, Some, None, option_and_then, IsSome, IfSome, refl}
use Rattle.std.proofs.Common.{ap, ◌∙◌, ltb-true, lt-ltb, le-leb}
use Rattle.std.proofs.lemmas.Bool.{leb-true}
use Rattle.base_types.specs.declared.fraction.Fraction.{Fraction}
use Rattle.script_read.specs.Making.{fact, ◌≤?◌, ◌<?◌, fraction_of}
use Rattle.base_types.proofs.Equal.{same_fraction}

-- of a value that is there
pub value_is : {A B : Type 0} (o : Option A) (a : A) (make : A → Option B) (r : Option B) → Some a ≡ o → r ≡ make a → r ≡ option_and_then make o
value_is o a make r is same = same ∙ ap (option_and_then make) is

-- of a fact that an answer needs
fact_is : {A P : Type 0} (b : Bool) (tells : b ≡ true → P) (make : P → Option A) (r : Option A) → (IsSome r → b ≡ true) → ((h : P) → r ≡ make h)
    → r ≡ option_and_then make (fact b tells)
fact_is true tells make r needs same = same (tells refl)
fact_is false tells make (Some a) needs same = let no = needs refl in cc
fact_is false tells make None needs same = refl

pub at_most_is : {A : Type 0} (a b : ℕ) (make : a ≤ b → Option A) (r : Option A) → (IsSome r → a ≤ b) → ((h : a ≤ b) → r ≡ make h) → r ≡ option_and_then make (a ≤? b)
at_most_is a b make r needs same = fact_is (nat_le a b) (leb-true a b) make r (λ s. le-leb a b (needs s)) same

pub below_is : {A : Type 0} (a b : ℕ) (make : a < b → Option A) (r : Option A) → (IsSome r → a < b) → ((h : a < b) → r ≡ make h) → r ≡ option_and_then make (a <? b)
below_is a b make r needs same = fact_is (nat_lt a b) (ltb-true a b) make r (λ s. lt-ltb a b (needs s)) same

-- and at last of a value that is told
pub told_is : {A : Type 0} {P : A → Type 0} (a : A) (r : Option A) → IsSome r → IfSome r P → ((x : A) → P x → x ≡ a) → r ≡ Some a
told_is a (Some x) some told same = ap Some (same x told)
told_is a None some told same = cc

-- what `Fraction::new` answers is the factor of two numbers below 2^32
pub fraction_of_new : (a b : ℕ) (r : Option Fraction) → a < 2 ^ 32 → IsSome r ↔ ((1 ≤ b) × (b ≤ a)) → IfSome r (λ f. (f.over ≡ a) × (f.under ≡ b)) → r ≡ fraction_of a b
fraction_of_new a b r small valid value =
    at_most_is 1 b _ r (λ s. (valid.0 s).0) λ h. at_most_is b a _ r (λ s. (valid.0 s).1) λ k. below_is a (2 ^ 32) _ r (λ s. small) λ l.
    told_is _ r (valid.1 (h, k)) value (λ f e. same_fraction f _ e.0 e.1)
