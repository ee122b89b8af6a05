-- What is missed, by pages and lengths.
use Rattle.std.proofs.Common.{◌≡◌, ℕ, ◌+◌, List, [], ◌∷◌, length, take, map, replicate, refl, sym, ap, ◌∙◌, nat_eq, inl, inr}
use Rattle.std.proofs.lemmas.Bool.{cases_Bool}
use Rattle.std.proofs.lemmas.List.{take-map, length-replicate}
use Rattle.std.proofs.lemmas.Simd.{map-map}
use Rattle.pages_area.specs.Caches.{Kept, is_hit, missed, without_page, after_asking, missed_by_all}
use Rattle.pages_area.specs.CacheLaws.{sizes_of, MissesAreBySizes}

-- a page with a piece of this length, whatever its bytes
abbrev plain : ℕ × ℕ → Kept
plain x = record { page = x.0; bytes = replicate x.1 0 }

-- the same page, with such a piece of the same length
abbrev likened : Kept → Kept
likened k = plain (k.page, length k.bytes)

-- hits, what is kept without a page and what is missed are alike for these
hit-plain : (page size : ℕ) (cache : List Kept) → is_hit page size (map likened cache) ≡ is_hit page size cache
hit-plain page size [] = refl
hit-plain page size (k ∷ cache) = rw (length-replicate {A = ℕ} (length k.bytes) 0, hit-plain page size cache) refl

without-plain : (page : ℕ) (cache : List Kept) → map likened (without_page page cache) ≡ without_page page (map likened cache)
without-plain page [] = refl
without-plain page (k ∷ cache) = elim (cases_Bool (nat_eq page k.page)) [
  | inl same ↦ rw same (without-plain page cache)
  | inr other ↦ rw other (ap (λ l. likened k ∷ l) (without-plain page cache))
]

missed-plain : (ks cache : List Kept) → missed_by_all ks cache ≡ missed_by_all (map likened ks) (map likened cache)
missed-plain [] cache = refl
missed-plain (k ∷ ks) cache =
    rw (length-replicate {A = ℕ} (length k.bytes) 0, hit-plain k.page (length k.bytes) cache) (ap (λ m. missed k cache + m)
    (missed-plain ks (after_asking k cache)
    ∙ ap (λ l. missed_by_all (map likened ks) (likened k ∷ l)) (sym (take-map likened 1023 (without_page k.page cache)) ∙ ap (take 1023) (without-plain k.page cache))))

-- and they are by pages and lengths alone
likened-same : (ks ls : List Kept) → sizes_of ks ≡ sizes_of ls → map likened ks ≡ map likened ls
likened-same ks ls same =
    let all = map-map plain (λ (k : Kept). (k.page, length k.bytes)) in
    sym (all ks) ∙ ap (map plain) same ∙ all ls

pub missed-sizes : MissesAreBySizes
missed-sizes ks ls cache other same alike = missed-plain ks cache ∙ rw (likened-same ks ls same, likened-same cache other alike) (sym (missed-plain ls other))
