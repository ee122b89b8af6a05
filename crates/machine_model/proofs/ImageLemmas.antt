-- What a write that a stop cuts short may leave, from what might have been left before it.
use Rattle.std.proofs.Common.{◌≡◌, ◌⊎◌, ℕ, ◌+◌, ◌^◌, ◌<◌, ◌≤◌, min, List, [], ◌∷◌, length, take, get_or, refl, inl, inr, ap, subst, sym, ◌∙◌, arith, zero, suc}
use Rattle.std.proofs.lemmas.Bool.{cases_lt}
use Rattle.std.proofs.lemmas.List.{length-take, get_or-take, ext_get_or}
use Rattle.std.proofs.lemmas.List.Elements.{All-take, All-get_or, All-from_get_or}
use Rattle.machine_model.specs.Areas.{Both, Bytes, part, replaced}
use Rattle.machine_model.specs.States.{Moment, DiskState}
use Rattle.machine_model.specs.Images.{AreBytes, furthest, IsAllowed, MayLeave, Only, Torn, TornFrom}
use Rattle.machine_model.specs.Calls.{OnlyFails, Writes, IsSynced}
use Rattle.machine_model.specs.declared.area.Area.{Area}
use Rattle.machine_model.specs.declared.area.Area.TheVariants.{Journal, Pages}
use Rattle.machine_model.specs.declared.range.Range.{Range}

-- bytes with the range of n from a place on put back to what is stable there
undone : ℕ → ℕ → List ℕ → List ℕ → List ℕ
undone at n [] bytes = bytes
undone at n (s ∷ stable) [] = []
undone zero zero (s ∷ stable) (b ∷ bytes) = b ∷ bytes
undone zero (suc n) (s ∷ stable) (b ∷ bytes) = s ∷ undone zero n stable bytes
undone (suc at) n (s ∷ stable) (b ∷ bytes) = b ∷ undone at n stable bytes

furthest_least : (n : ℕ) (ranges : List Range) → n ≤ furthest n ranges
furthest_least n [] = omega arith
furthest_least n (r ∷ ranges) = omega (arith, furthest_least n ranges)

length-undone : (at n : ℕ) (stable bytes : List ℕ) → length (undone at n stable bytes) ≡ length bytes
unfolding undone
length-undone at n [] bytes = refl
length-undone at n (s ∷ stable) [] = refl
length-undone zero zero (s ∷ stable) (b ∷ bytes) = refl
length-undone zero (suc n) (s ∷ stable) (b ∷ bytes) = ap suc (length-undone zero n stable bytes)
length-undone (suc at) n (s ∷ stable) (b ∷ bytes) = ap suc (length-undone at n stable bytes)

undone_inside : (at n k : ℕ) (stable bytes : List ℕ) → at ≤ k → k < at + n → k < length stable → k < length bytes
    → get_or (undone at n stable bytes) k 0 ≡ get_or stable k 0
unfolding undone
undone_inside at n k [] bytes low high is here = absurd (omega (arith, is))
undone_inside at n k (s ∷ stable) [] low high is here = absurd (omega (arith, here))
undone_inside zero zero k (s ∷ stable) (b ∷ bytes) low high is here = absurd (omega (arith, high))
undone_inside zero (suc n) zero (s ∷ stable) (b ∷ bytes) low high is here = refl
undone_inside zero (suc n) (suc k) (s ∷ stable) (b ∷ bytes) low high is here = undone_inside zero n k stable bytes (omega arith) (omega arith) (omega arith) (omega arith)
undone_inside (suc at) n zero (s ∷ stable) (b ∷ bytes) low high is here = absurd (omega (arith, low))
undone_inside (suc at) n (suc k) (s ∷ stable) (b ∷ bytes) low high is here = undone_inside at n k stable bytes (omega arith) (omega arith) (omega arith) (omega arith)

undone_outside : (at n k : ℕ) (stable bytes : List ℕ) → (k < at) ⊎ (at + n ≤ k) → get_or (undone at n stable bytes) k 0 ≡ get_or bytes k 0
unfolding undone
undone_outside at n k [] bytes out = refl
undone_outside at n k (s ∷ stable) [] out = refl
undone_outside zero zero k (s ∷ stable) (b ∷ bytes) out = refl
undone_outside zero (suc n) zero (s ∷ stable) (b ∷ bytes) (inl low) = absurd (omega (arith, low))
undone_outside zero (suc n) zero (s ∷ stable) (b ∷ bytes) (inr high) = absurd (omega (arith, high))
undone_outside zero (suc n) (suc k) (s ∷ stable) (b ∷ bytes) (inl low) = absurd (omega (arith, low))
undone_outside zero (suc n) (suc k) (s ∷ stable) (b ∷ bytes) (inr high) = undone_outside zero n k stable bytes (inr (omega (arith, high)))
undone_outside (suc at) n zero (s ∷ stable) (b ∷ bytes) out = refl
undone_outside (suc at) n (suc k) (s ∷ stable) (b ∷ bytes) (inl low) = undone_outside at n k stable bytes (inl (omega (arith, low)))
undone_outside (suc at) n (suc k) (s ∷ stable) (b ∷ bytes) (inr high) = undone_outside at n k stable bytes (inr (omega (arith, high)))

undone_past : (at n k : ℕ) (stable bytes : List ℕ) → length stable ≤ k → get_or (undone at n stable bytes) k 0 ≡ get_or bytes k 0
unfolding undone
undone_past at n k [] bytes past = refl
undone_past at n k (s ∷ stable) [] past = refl
undone_past zero zero k (s ∷ stable) (b ∷ bytes) past = refl
undone_past zero (suc n) zero (s ∷ stable) (b ∷ bytes) past = absurd (omega (arith, past))
undone_past zero (suc n) (suc k) (s ∷ stable) (b ∷ bytes) past = undone_past zero n k stable bytes (omega arith)
undone_past (suc at) n zero (s ∷ stable) (b ∷ bytes) past = refl
undone_past (suc at) n (suc k) (s ∷ stable) (b ∷ bytes) past = undone_past at n k stable bytes (omega arith)

-- where a place lies: outside a range or past the stable bytes, or in the range and among them
lies : (at n k size : ℕ) → (((k < at) ⊎ (at + n ≤ k)) ⊎ (size ≤ k)) ⊎ ((at ≤ k) × (k < at + n) × (k < size))
lies at n k size = elim (cases_lt k at) [
  | inl before ↦ inl (inl (inl before))
  | inr low ↦ elim (cases_lt k (at + n)) [
    | inr behind ↦ inl (inl (inr behind))
    | inl high ↦ elim (cases_lt k size) [ inl here ↦ inr (low, high, here) | inr past ↦ inl (inr past) ]
  ]
]

undone_bytes : (at n : ℕ) (stable bytes : List ℕ) → AreBytes stable → AreBytes bytes → AreBytes (undone at n stable bytes)
undone_bytes at n stable bytes one other = All-from_get_or (λ b. b < 2 ^ 8) (undone at n stable bytes) 0 (λ k inside.
    let here : k < length bytes = omega (arith, length-undone at n stable bytes) in
    let byte : get_or bytes k 0 < 2 ^ 8 = All-get_or (λ b. b < 2 ^ 8) bytes k 0 here other in
    elim (lies at n k (length stable)) as (λ _. get_or (undone at n stable bytes) k 0 < 2 ^ 8) [
      | inl (inl out) ↦ rw (undone_outside at n k stable bytes out) byte
      | inl (inr past) ↦ rw (undone_past at n k stable bytes past) byte
      | inr place ↦ rw (undone_inside at n k stable bytes place.0 place.1 place.2 here) (All-get_or (λ b. b < 2 ^ 8) stable k 0 place.2 one)
    ])

-- an area before a write, from one that is allowed after it
undone_area : (stable image : List ℕ) (at n : ℕ) (pending : List Range) → AreBytes stable → IsAllowed stable (record { at = at; count = n } ∷ pending) image
    → (was : List ℕ) × IsAllowed stable pending was × Torn at n was image
undone_area stable image at n pending stable_bytes allowed =
    let most = furthest (length stable) pending in
    let full = undone at n stable image in
    let was = take most full in
    let long : length was ≡ min most (length image) = length-take most full ∙ ap (min most) (length-undone at n stable image) in
    let enough = furthest_least (length stable) pending in
    let at_place : (k : ℕ) → k < length was → get_or was k 0 ≡ get_or full k 0 = λ k inside. get_or-take most full k 0 (omega (arith, long)) in (
      was,
      record {
        no_shorter = omega (arith, long, enough, allowed.no_shorter);
        no_longer = omega (arith, long);
        untouched = λ k inside untouched. at_place k (omega (arith, long, enough, allowed.no_shorter)) ∙ elim (lies at n k (length stable)) as (λ _. get_or full k 0 ≡ get_or stable k 0) [
          | inl (inl out) ↦ undone_outside at n k stable image out ∙ allowed.untouched k inside (out, untouched)
          | inl (inr past) ↦ absurd (omega (arith, past, inside))
          | inr place ↦ undone_inside at n k stable image place.0 place.1 place.2 (omega (arith, inside, allowed.no_shorter))
        ];
        bytes = All-take (λ b. b < 2 ^ 8) most full (undone_bytes at n stable image stable_bytes allowed.bytes);
      },
      record {
        no_shorter = omega (arith, long);
        no_longer = omega (arith, long, allowed.no_longer);
        untouched = λ k inside out. sym (at_place k inside ∙ undone_outside at n k stable image out);
      },
    )

-- an area that was not written, after a write
other_area : (stable new_stable image : List ℕ) (pending new_pending : List Range) → new_stable ≡ stable → new_pending ≡ pending
    → IsAllowed new_stable new_pending image → IsAllowed stable pending image
other_area stable new_stable image pending new_pending one two allowed = subst (λ (s : List ℕ). IsAllowed s pending image) one (subst (λ (p : List Range). IsAllowed new_stable p image) two allowed)

torn_grown : (area : Area) (at n : ℕ) (old new : Moment) → new.stable ≡ old.stable
    → new.pending ≡ replaced old.pending area (record { at = at; count = n } ∷ part old.pending area) → ((a : Area) → AreBytes (part old.stable a))
    → (image : Bytes) → MayLeave new image → (was : Bytes) × MayLeave old was × TornFrom area at n was image
torn_grown Journal at n old new stable pending bytes image allowed =
    let mine = undone_area old.stable.journal image.journal at n old.pending.journal (bytes Journal)
    (other_area _ _ _ _ _ (ap (λ (s : Bytes). s.journal) stable) (ap (λ (p : Both (List Range)). p.journal) pending) (allowed Journal)) in
    let others = other_area old.stable.pages new.stable.pages image.pages old.pending.pages new.pending.pages (ap (λ (s : Bytes). s.pages) stable) (ap (λ (p : Both (List Range)). p.pages) pending) (allowed Pages) in (
      record { journal = mine.0; pages = image.pages },
      elim [ Journal ↦ mine.1 | Pages ↦ others ],
      record { elsewhere = elim [ Journal ↦ λ differs. absurd (differs refl) | Pages ↦ λ differs. refl ]; here = mine.2 },
    )
torn_grown Pages at n old new stable pending bytes image allowed =
    let mine = undone_area old.stable.pages image.pages at n old.pending.pages (bytes Pages)
    (other_area _ _ _ _ _ (ap (λ (s : Bytes). s.pages) stable) (ap (λ (p : Both (List Range)). p.pages) pending) (allowed Pages)) in
    let others = other_area old.stable.journal new.stable.journal image.journal old.pending.journal new.pending.journal (ap (λ (s : Bytes). s.journal) stable) (ap (λ (p : Both (List Range)). p.journal) pending) (allowed Journal) in (
      record { journal = image.journal; pages = mine.0 },
      elim [ Journal ↦ others | Pages ↦ mine.1 ],
      record { elsewhere = elim [ Journal ↦ λ differs. refl | Pages ↦ λ differs. absurd (differs refl) ]; here = mine.2 },
    )

unchanged : (old new : DiskState) → OnlyFails old new → (image : Bytes) → MayLeave new.now image → MayLeave old.now image
unchanged old new same image allowed = let P : DiskState → Type 0 = λ d. MayLeave d.now image in subst P same allowed

-- each image after a write is one from before it, torn in the range; or the write touched nothing
pub torn_image : (area : Area) (at n : ℕ) (old new : DiskState) → Writes area at n old new → ((a : Area) → AreBytes (part old.now.stable a))
    → (image : Bytes) → MayLeave new.now image → (was : Bytes) × MayLeave old.now was × ((image ≡ was) ⊎ TornFrom area at n was image)
torn_image area at n old new writes bytes image allowed =
    elim writes.pending as (λ _. (was : Bytes) × MayLeave old.now was × ((image ≡ was) ⊎ TornFrom area at n was image)) [
      | inl grown ↦ (let torn = torn_grown area at n old.now new.now writes.stable grown bytes image allowed in (torn.0, torn.1, inr torn.2))
      | inr same ↦ (image, unchanged old new same image allowed, inl refl)
    ]

-- of an area with nothing pending there is one image, the stable bytes
only_stable : (stable image : List ℕ) → IsAllowed stable [] image → image ≡ stable
only_stable stable image allowed = ext_get_or 0 image stable (omega (arith, allowed.no_shorter, allowed.no_longer)) (λ k inside. allowed.untouched k (omega (arith, inside, allowed.no_longer)) tt)

-- after a good sync the one image is what reads gave
pub only_synced : (old new : DiskState) → IsSynced old new → Only old.holds new
only_synced old new synced other allowed =
    let stable = synced.0 in
    let pending = synced.1 in
    let journal = only_stable old.holds.journal other.journal (other_area _ _ _ _ _ (ap (λ (s : Bytes). s.journal) stable) (ap (λ (p : Both (List Range)). p.journal) pending) (allowed Journal)) in
    let pages = only_stable old.holds.pages other.pages (other_area _ _ _ _ _ (ap (λ (s : Bytes). s.pages) stable) (ap (λ (p : Both (List Range)). p.pages) pending) (allowed Pages)) in
    λ i. record { journal = journal i; pages = pages i }
