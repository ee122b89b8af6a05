-- Pairs that are noted one after another are the first of all.
use Rattle.std.specs.Prelude.{◌≡◌, ℕ, zero, suc, ◌-◌, List, [], ◌∷◌, ◌++◌, length, map, take, refl}
use Rattle.std.proofs.Common.{arith, ap, sym, ◌∙◌, inl, inr, lt-ltb, append_assoc}
use Rattle.std.proofs.lemmas.Bool.{cases_lt, le-ltb}
use Rattle.std.proofs.lemmas.List.{append-nil, length_push}
use Rattle.base_types.specs.declared.time.Time.{Time}
use Rattle.plans_share.specs.Asked.{asking, noted_all}
use Rattle.plans_share.specs.declared.asked.Asking.{Asking}

nothing-taken : (n : ℕ) → take {A = Asking} n [] ≡ []
nothing-taken zero = refl
nothing-taken (suc n) = refl

pub noted-front : (pairs : List Asking) (words : List (List ℕ)) (at : Time) → noted_all pairs words at ≡ pairs ++ take (1048576 - length pairs) (map (asking at) words)
noted-front pairs [] at = sym (ap (λ l. pairs ++ l) (nothing-taken (1048576 - length pairs)) ∙ append-nil pairs)
noted-front pairs (word ∷ words) at = elim (cases_lt (length pairs) 1048576) [
  | inl room ↦
      let more = pairs ++ asking at word ∷ [] in
      let left : 1048576 - length pairs ≡ suc (1048576 - length more) = omega (arith, room, length_push pairs (asking at word)) in
      rw (lt-ltb (length pairs) 1048576 room, left) (noted-front more words at ∙ append_assoc pairs (asking at word ∷ []) (take (1048576 - length more) (map (asking at) words)))
  | inr full ↦
      let none : 1048576 - length pairs ≡ 0 = omega (arith, full) in
      rw (le-ltb (length pairs) 1048576 full, none) (rw none at (noted-front pairs words at))
]
