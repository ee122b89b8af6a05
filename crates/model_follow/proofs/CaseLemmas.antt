-- A packet is one of the cases, and only one.
use Rattle.std.proofs.Common.{◌≡◌, ◌⊎◌, ℕ, zero, suc, ◌+◌, ◌-◌, ◌<◌, ◌≤◌, List, [], ◌∷◌, ◌++◌, length, take, Option, Some, None, inl, inr, refl, ap, sym, subst, ◌∙◌, arith}
use Rattle.std.specs.Prelude.{slice_get}
use Rattle.std.proofs.lemmas.Bool.{cases_lt}
use Rattle.std.proofs.lemmas.List.{length-map}
use Rattle.std.proofs.lemmas.Option.{slice_get_cases, slice_get_within}
use Rattle.journal_entries.specs.Spelling.{spelling}
use Rattle.journal_entries.specs.declared.entry.Entry.{Entry}
use Rattle.journal_entries.proofs.EntryLemmas.{one_entry}
use Rattle.journal_packets.specs.Cases.{DifferAt}
use Rattle.journal_packets.specs.Packets.{Framed}
use Rattle.journal_packets.specs.Streams.{IsPacketOf}
use Rattle.model_archive.specs.Histories.{History}
use Rattle.model_archive.specs.Stands.{bodies_of}
use Rattle.model_follow.specs.Following.{DiffersAt, Had, Took}
use Rattle.model_follow.specs.Laws.{EndsAreApart, PacketsHaveCases, StepsAreNoEnds, StepsAreOne}

-- ---- lists of bytes that differ

some_same : (a b : List ℕ) → Some a ≡ Some b → a ≡ b
some_same a b e = cc

-- the same bytes differ nowhere
same_nowhere : (xs ys : List ℕ) (place : ℕ) (kept got : Option ℕ) → xs ≡ ys → DifferAt place kept got xs ys → ⊥
same_nowhere xs ys place kept got same is = is.differ (sym is.kept_is ∙ ap (λ (l : List ℕ). slice_get l place) same ∙ is.got_is)

-- in front of the first place at which they differ they have the same bytes
front_same : (place other : ℕ) (xs ys : List ℕ) → place < other → take other xs ≡ take other ys → slice_get xs place ≡ slice_get ys place
front_same place other xs ys less same = in_front other place xs less ∙ ap (λ (l : List ℕ). slice_get l place) same ∙ sym (in_front other place ys less)
  where
    in_front : (n k : ℕ) (zs : List ℕ) → k < n → slice_get zs k ≡ slice_get (take n zs) k
    in_front zero k zs less = absurd (omega (arith, less))
    in_front (suc n) k [] less = refl
    in_front (suc n) zero (z ∷ zs) less = refl
    in_front (suc n) (suc k) (z ∷ zs) less = in_front n k zs (omega (arith, less))

-- so there is one such place
not_before : (xs ys : List ℕ) (place other : ℕ) (kept got mine its : Option ℕ) → DifferAt place kept got xs ys → DifferAt other mine its xs ys → place < other → ⊥
not_before xs ys place other kept got mine its one two less = one.differ (sym one.kept_is ∙ front_same place other xs ys less two.same ∙ one.got_is)

one_place : (xs ys : List ℕ) (place other : ℕ) (kept got mine its : Option ℕ) → DifferAt place kept got xs ys → DifferAt other mine its xs ys → place ≡ other
one_place xs ys place other kept got mine its one two = elim (cases_lt place other) [
  | inl less ↦ absurd (not_before xs ys place other kept got mine its one two less)
  | inr least ↦ elim (cases_lt other place) [
    | inl more ↦ absurd (not_before xs ys other place mine its kept got two one more)
    | inr most ↦ omega (arith, least, most)
  ]
]

-- two lists are the same, or differ at a first place
pub record Differ (xs ys : List ℕ) : Type 0 where
  pub place : ℕ
  pub kept : Option ℕ
  pub got : Option ℕ
  pub is : DifferAt place kept got xs ys

some_numbers : (x y : ℕ) → Some x ≡ Some y → x ≡ y
some_numbers x y e = cc

differ_or_same : (xs ys : List ℕ) → (xs ≡ ys) ⊎ Differ xs ys
differ_or_same [] [] = inl refl
differ_or_same [] (y ∷ ys) = inr (record { place = 0; kept = None; got = Some y; is = record { same = refl; kept_is = refl; got_is = refl; differ = λ e. absurd cc } })
differ_or_same (x ∷ xs) [] = inr (record { place = 0; kept = Some x; got = None; is = record { same = refl; kept_is = refl; got_is = refl; differ = λ e. absurd cc } })
differ_or_same (x ∷ xs) (y ∷ ys) = elim (cases_lt x y) [
  | inl less ↦ inr (here (λ e. omega (arith, less, some_numbers x y e)))
  | inr least ↦ elim (cases_lt y x) [
    | inl more ↦ inr (here (λ e. omega (arith, more, some_numbers x y e)))
    | inr most ↦ let same : x ≡ y = omega (arith, least, most) in behind same (differ_or_same xs ys)
  ]
]
  where
    here : (Some x ≡ Some y → ⊥) → Differ (x ∷ xs) (y ∷ ys)
    here differ = record { place = 0; kept = Some x; got = Some y; is = record { same = refl; kept_is = refl; got_is = refl; differ = differ } }

    behind : x ≡ y → (xs ≡ ys) ⊎ Differ xs ys → (x ∷ xs ≡ y ∷ ys) ⊎ Differ (x ∷ xs) (y ∷ ys)
    behind same (inl rest) = inl cc
    behind same (inr d) = inr (record {
      place = suc d.place;
      kept = d.kept;
      got = d.got;
      is = record {
        same = ap (λ (z : ℕ). z ∷ take d.place xs) same ∙ ap (λ (l : List ℕ). y ∷ l) d.is.same;
        kept_is = d.is.kept_is;
        got_is = d.is.got_is;
        differ = d.is.differ;
      };
    })

-- ---- numbers of packets

-- an entry is there of a number up to the length
within : (h : History) (n : ℕ) (body : List ℕ) → 1 ≤ n → slice_get (bodies_of h) (n - 1) ≡ Some body → n ≤ length h
within h n body some is = let inside : n - 1 < length (bodies_of h) = slice_get_within (bodies_of h) (n - 1) body is in omega (arith, some, inside, length-map h spelling)

had_within : (h : History) (p : Framed) → IsPacketOf (bodies_of h) p → p.number ≤ length h
had_within h p is = within h p.number p.body is.proper.counted is.is

differs_within : (h : History) (place : ℕ) (kept got : Option ℕ) (p : Framed) → DiffersAt h place kept got p → p.number ≤ length h
differs_within h place kept got p is = within h p.number is.1.0 is.0 is.1.1

-- ---- the laws

pub steps_are_one : StepsAreOne
steps_are_one old one other p (Had n) (Had m) a b = (ap Had (a.0 ∙ sym b.0), a.2 ∙ sym b.2)
steps_are_one old one other p (Had n) (Took m) a b = absurd (omega (arith, had_within old p a.1, b.0, b.1))
steps_are_one old one other p (Took n) (Had m) a b = absurd (omega (arith, had_within old p b.1, a.0, a.1))
steps_are_one old one other p (Took n) (Took m) a b =
    let mine = a.2 in
    let its = b.2 in
    let same : mine.0 ≡ its.0 = one_entry mine.0 its.0 mine.2.legal.ranges its.2.legal.ranges (sym mine.1 ∙ its.1) in
    (ap Took (a.0 ∙ sym b.0), mine.3 ∙ ap (λ (e : Entry). old ++ e ∷ []) same ∙ sym its.3)

pub steps_are_no_ends : StepsAreNoEnds
steps_are_no_ends old new p (Had n) step = (
  (λ beyond. omega (arith, beyond, had_within old p step.1)),
  (λ place kept got differs. same_nowhere differs.1.0 p.body place kept got (some_same differs.1.0 p.body (sym differs.1.1 ∙ step.1.is)) differs.1.2),
  (λ cannot. omega (arith, cannot.0, had_within old p step.1)),
)
steps_are_no_ends old new p (Took n) step = (
  (λ beyond. omega (arith, beyond, step.0, step.1)),
  (λ place kept got differs. omega (arith, differs_within old place kept got p differs, step.0, step.1)),
  (λ cannot. cannot.1 (step.2.0, step.2.1, step.2.2)),
)

pub ends_are_apart : EndsAreApart
ends_are_apart old p = (
  (λ beyond cannot. omega (arith, beyond, cannot.0)),
  (λ place kept got differs. (
    (λ beyond. omega (arith, beyond, differs_within old place kept got p differs)),
    (λ cannot. omega (arith, cannot.0, differs_within old place kept got p differs)),
    (λ other mine its too. at_one place other kept got mine its differs too),
  )),
)
  where
    at_one : (place other : ℕ) (kept got mine its : Option ℕ) → DiffersAt old place kept got p → DiffersAt old other mine its p → (place ≡ other) × (kept ≡ mine) × (got ≡ its)
    at_one place other kept got mine its one two =
        let body = one.1.0 in
        let same : two.1.0 ≡ body = some_same two.1.0 body (sym two.1.1 ∙ one.1.1) in
        let D : List ℕ → Type 0 = λ b. DifferAt other mine its b p.body in
        let too : DifferAt other mine its body p.body = subst D same two.1.2 in
        let level : place ≡ other = one_place body p.body place other kept got mine its one.1.2 too in (
          level,
          sym one.1.2.kept_is ∙ ap (slice_get body) level ∙ too.kept_is,
          sym one.1.2.got_is ∙ ap (slice_get p.body) level ∙ too.got_is,
        )

pub packets_have_cases : PacketsHaveCases
packets_have_cases old p proper no_step not_beyond not_differs = elim (cases_lt (length old + 1) p.number) [
  | inl beyond ↦ absurd (not_beyond beyond)
  | inr near ↦ elim (cases_lt (length old) p.number) [
    | inl next ↦
        let number : p.number ≡ length old + 1 = omega (arith, near, next) in
        (number, λ spells. no_step (Took p.number) (old ++ spells.0 ∷ []) (refl, number, (spells.0, spells.1, spells.2, refl)))
    | inr had ↦ absurd (is_there had)
  ]
]
  where
    kept_or_not : (body : List ℕ) → slice_get (bodies_of old) (p.number - 1) ≡ Some body → (body ≡ p.body) ⊎ Differ body p.body → ⊥
    kept_or_not body is (inl same) = no_step (Had p.number) old (refl, record { proper = proper; is = is ∙ ap Some same }, refl)
    kept_or_not body is (inr d) = not_differs d.place d.kept d.got (proper.counted, (body, is, d.is))

    is_there : p.number ≤ length old → ⊥
    is_there had = elim (slice_get_cases (bodies_of old) (p.number - 1)).1 [
      | inl found ↦ kept_or_not found.0 found.2 (differ_or_same found.0 p.body)
      | inr past ↦ omega (arith, had, past.0, length-map old spelling, proper.counted)
    ]
