-- When what is held of a document changes.
use Rattle.std.specs.Prelude.{◌≡◌, ◌↔◌, ℕ, ◌+◌, ◌-◌, ◌<◌, ◌≤◌, ◌==◌, ◌&&◌, Bool, true, false, cond, nat_le, nat_lt, List, [], ◌∷◌, ◌++◌, length, take, drop, get_or, map, All, Contains, Option, Some, None, is_some, IsTrue, IsSome, IsPermutation, refl}
use Rattle.std.specs.List.Sorted.{IsPartitionPoint}
use Rattle.std.specs.Option.{option_map}
use Rattle.std.proofs.Common.{arith, ap, sym, ◌∙◌, subst, inl, inr}
use Rattle.std.proofs.lemmas.Bool.{cases_lt}
use Rattle.std.proofs.lemmas.Bool.Decides.{nat_tests}
use Rattle.std.proofs.lemmas.List.{length-take-le, length-drop, get_or-take, get_or-drop}
use Rattle.std.proofs.lemmas.List.Elements.{All-head, All-tail, All-filter, filter_passes, Contains-get_or, Contains-append_left, Contains-append_right, Contains-append_cases}
use Rattle.std.proofs.lemmas.List.Sorted.{Contains-permutation, IsPermutation-sym}
use Rattle.base_types.specs.declared.ids.DocId.{DocId}
use Rattle.lists_postings.specs.Events.{ChangesAt}
use Rattle.lists_postings.specs.declared.event.Event.{Event}
use Rattle.lists_postings.proofs.Elements.{map-in, map-from}
use Rattle.lists_versions.specs.declared.change.Change.{Change}
use Rattle.lists_versions.specs.Changes.{changes_of, valid_at, held_at, alive}
use Rattle.lists_versions.specs.Lives.{AreEvents, lived}
use Rattle.lists_versions.proofs.Alive.{alive-has}

-- the changes between two places are those between two times
pub within-is : {A : Type 0} (changes : List (Change A)) (a b first count : ℕ) → first ≤ length changes → IsPartitionPoint (λ c. nat_le c.at.seconds a ≡ true) (λ c. nat_le c.at.seconds a ≡ false) changes first
    → count ≤ length (drop first changes) → IsPartitionPoint (λ c. nat_lt c.at.seconds b ≡ true) (λ c. nat_lt c.at.seconds b ≡ false) (drop first changes) count
    → (c : Change A) → Contains (take count (drop first changes)) c ↔ (Contains changes c × (a < c.at.seconds) × (c.at.seconds < b))
within-is {A} changes a b first count fl p cl q c = (forth, λ h. back h.0 h.1 h.2)
  where
    late : (x : Change A) → nat_le x.at.seconds a ≡ false → a < x.at.seconds
    late x h = grind (arith, nat_tests)

    early : (x : Change A) → nat_lt x.at.seconds b ≡ true → x.at.seconds < b
    early x h = grind (arith, nat_tests)

    not-early : (x : Change A) → nat_le x.at.seconds a ≡ true → a < x.at.seconds → ⊥
    not-early x h l = grind (arith, nat_tests)

    not-late : (x : Change A) → nat_lt x.at.seconds b ≡ false → x.at.seconds < b → ⊥
    not-late x h l = grind (arith, nat_tests)

    forth : Contains (take count (drop first changes)) c → Contains changes c × (a < c.at.seconds) × (c.at.seconds < b)
    forth (k, l, e) =
        let n : k < count = omega (arith, l, length-take-le count (drop first changes) cl) in
        let f : get_or (drop first changes) k c ≡ c = sym (get_or-take count (drop first changes) k c n) ∙ e in
        let g : get_or changes (first + k) c ≡ c = sym (get_or-drop first changes k c) ∙ f in
        let m : first + k < length changes = omega (arith, n, cl, length-drop first changes) in
        ((first + k, m, g), subst (λ x. a < x.at.seconds) g (late (get_or changes (first + k) c) (p.1 (first + k) c (omega arith) m)), subst (λ x. x.at.seconds < b) f (early (get_or (drop first changes) k c) (q.0 k c (omega arith) n)))

    back : Contains changes c → a < c.at.seconds → c.at.seconds < b → Contains (take count (drop first changes)) c
    back (k, l, e) x y = elim (cases_lt k first) [
      | inl m ↦ absurd (not-early c (subst (λ z. nat_le z.at.seconds a ≡ true) e (p.0 k c (omega arith) m)) x)
      | inr m ↦ (
          let f : get_or (drop first changes) (k - first) c ≡ c = get_or-drop first changes (k - first) c ∙ ap (λ i. get_or changes i c) (let i : first + (k - first) ≡ k = omega (arith, m) in i) ∙ e in
          elim (cases_lt (k - first) count) [
            | inl n ↦ (k - first, omega (arith, n, length-take-le count (drop first changes) cl), get_or-take count (drop first changes) (k - first) c n ∙ f)
            | inr n ↦ absurd (not-late c (subst (λ z. nat_lt z.at.seconds b ≡ false) f (q.1 (k - first) c (omega (arith, n)) (omega (arith, m, l, length-drop first changes)))) y)
          ])
    ]

-- the events of documents and changes are those of the window
pub events-are : {A : Type 0} (changes late : List (Change A)) (docs : List DocId) (a b : ℕ) (f : DocId → Event) (g : Change A → Event) (events sorted : List Event) → a < b
    → ((c : Change A) → Contains late c ↔ (Contains changes c × (a < c.at.seconds) × (c.at.seconds < b))) → ((doc : DocId) → ((f doc).doc ≡ doc) × ((f doc).at.seconds ≡ a)) → ((c : Change A) → ((g c).doc ≡ c.doc) × ((g c).at.seconds ≡ c.at.seconds))
    → events ≡ map f docs ++ map g late → IsPermutation events sorted → AreEvents changes docs a b sorted
events-are {A} changes late docs a b f g events sorted o w fs gs e p = record {
  inside = λ x c. elim (Contains-append_cases (map f docs) (map g late) x (subst (λ l. Contains l x) e (Contains-permutation sorted events x (IsPermutation-sym events sorted p) c))) [
    | inl m ↦ (let (doc, n, i) = map-from f x docs m in start x doc (ap (λ y. y.at.seconds) (sym i)))
    | inr m ↦ (let (c, n, i) = map-from g x late m in change x c n (ap (λ y. y.at.seconds) (sym i)))
  ];
  started = λ doc c. (f doc, moved (f doc) (Contains-append_left (map f docs) (map g late) (f doc) (map-in f doc docs c)), (fs doc).0, (fs doc).1);
  changed = λ c m x y. (g c, moved (g c) (Contains-append_right (map f docs) (map g late) (g c) (map-in g c late ((w c).1 (m, x, y)))), (gs c).0, (gs c).1);
}
  where
    moved : (x : Event) → Contains (map f docs ++ map g late) x → Contains sorted x
    moved x c = Contains-permutation events sorted x p (subst (λ l. Contains l x) (sym e) c)

    start : (x : Event) (doc : DocId) → x.at.seconds ≡ (f doc).at.seconds → (a ≤ x.at.seconds) × (x.at.seconds < b)
    start x doc i = (omega (arith, i, (fs doc).1), omega (arith, i, (fs doc).1, o))

    change : (x : Event) (c : Change A) → Contains late c → x.at.seconds ≡ (g c).at.seconds → (a ≤ x.at.seconds) × (x.at.seconds < b)
    change x c n i = let h = (w c).0 n in (omega (arith, i, (gs c).1, h.1), omega (arith, i, (gs c).1, h.2))

module _ {A : Type 0} where
  abbrev Unmoved : ℕ → ℕ → Change A → Type 0
  Unmoved e t c = e < c.at.seconds → c.at.seconds ≤ t → ⊥

  same-begun : (e t : ℕ) (c : Change A) → e ≤ t → Unmoved e t c → nat_le c.at.seconds e ≡ nat_le c.at.seconds t
  same-begun e t c l u = elim (cases_lt e c.at.seconds) [
    | inl m ↦ elim (cases_lt t c.at.seconds) [ inl n ↦ grind (arith, nat_tests) | inr n ↦ absurd (u m (omega (arith, n))) ]
    | inr m ↦ grind (arith, nat_tests)
  ]

  same-before : (e t : ℕ) (c : Change A) → e ≤ t → Unmoved e t c → nat_lt e c.at.seconds ≡ nat_lt t c.at.seconds
  same-before e t c l u = elim (cases_lt e c.at.seconds) [
    | inl m ↦ elim (cases_lt t c.at.seconds) [ inl n ↦ grind (arith, nat_tests) | inr n ↦ absurd (u m (omega (arith, n))) ]
    | inr m ↦ grind (arith, nat_tests)
  ]

  valid-still : (e t : ℕ) (cs : List (Change A)) → e ≤ t → All (Unmoved e t) cs → valid_at e cs ≡ valid_at t cs
  valid-still e t [] l u = refl
  valid-still e t (c ∷ []) l u = ap (λ b. cond b c.held None) (same-begun e t c l (All-head (Unmoved e t) c [] u))
  valid-still e t (c ∷ d ∷ cs) l u =
      let rest = All-tail (Unmoved e t) c (d ∷ cs) u in
      rw (same-begun e t c l (All-head (Unmoved e t) c (d ∷ cs) u), same-before e t d l (All-head (Unmoved e t) d cs rest)) (ap (λ v. cond (nat_le c.at.seconds t && nat_lt t d.at.seconds) c.held v) (valid-still e t (d ∷ cs) l rest))

  -- what is held stays until the document's next change
  pub held-still : (doc : DocId) (e t : ℕ) (changes : List (Change A)) → e ≤ t → ((c : Change A) → Contains changes c → c.doc.0 ≡ doc.0 → Unmoved e t c) → held_at doc e changes ≡ held_at doc t changes
  held-still doc e t changes l u = valid-still e t (changes_of doc changes) l (λ k d m. all k d m (passes (get_or (changes_of doc changes) k d) (filter_passes (λ c. c.doc.0 == doc.0) changes k d m)))
    where
      passes : (c : Change A) → c.doc.0 == doc.0 ≡ true → c.doc.0 ≡ doc.0
      passes c h = grind (arith, nat_tests)

      all : (k : ℕ) (d : Change A) → k < length (changes_of doc changes) → (get_or (changes_of doc changes) k d).doc.0 ≡ doc.0 → Unmoved e t (get_or (changes_of doc changes) k d)
      all k d m = All-filter (λ c. c.doc.0 == doc.0) (λ c. c.doc.0 ≡ doc.0 → Unmoved e t c) changes (λ i x n. u (get_or changes i x) (Contains-get_or changes i x n)) k d m

  pub lived-by : (changes : List (Change A)) (d e t : ℕ) → held_at (record { 0 = d }) e changes ≡ held_at (record { 0 = d }) t changes → lived changes d e ≡ lived changes d t
  lived-by changes d e t h = ap (λ o. option_map (λ _. tt) o) h

  -- at the events of a window what is said of a document changes
  pub events-change : (changes : List (Change A)) (a b : ℕ) (events : List Event) → AreEvents changes (alive a changes) a b events → ChangesAt events a b (lived changes)
  events-change changes a b events w = record {
    inside = w.inside;
    still = λ d e t x l y n. lived-by changes d e t (held-still (record { 0 = d }) e t changes l (λ c m i lo hi. let (z, k, j, h) = w.changed c m (omega (arith, x, lo)) (omega (arith, hi, y)) in n z k (ap (λ (q : DocId). q.0) j ∙ i) (omega (arith, h, lo)) (omega (arith, h, hi))));
    none = λ d t x y n.
        lived-by changes d t a (sym (held-still (record { 0 = d }) a t changes x (λ c m i lo hi. let (z, k, j, h) = w.changed c m lo (omega (arith, hi, y)) in n z k (ap (λ (q : DocId). q.0) j ∙ i) (omega (arith, h, hi)))))
        ∙ silent d t x n (is_some (held_at (record { 0 = d }) a changes)) refl;
  }
    where
      silent : (d t : ℕ) → a ≤ t → ((x : Event) → Contains events x → x.doc.0 ≡ d → x.at.seconds ≤ t → ⊥) → (q : Bool) → is_some (held_at (record { 0 = d }) a changes) ≡ q → lived changes d a ≡ None
      silent d t x n true h = absurd (let (z, k, j, i) = w.started (record { 0 = d }) ((alive-has a changes (record { 0 = d })).1 h) in n z k (ap (λ (q : DocId). q.0) j) (omega (arith, i, x)))
      silent d t x n false h = go (held_at (record { 0 = d }) a changes) h
        where
          go : (o : Option A) → is_some o ≡ false → option_map (λ _. tt) o ≡ (let v : Option (Unit {0}) = None in v)
          go None h = refl
          go (Some x) h = absurd cc

  pub given-events : (changes given : List (Change A)) (docs : List DocId) (a b : ℕ) (events : List Event) → given ≡ changes → docs ≡ alive a changes → AreEvents given docs a b events → ChangesAt events a b (lived changes)
  given-events changes given docs a b events e f w = events-change changes a b events (subst (λ d. AreEvents changes d a b events) f (subst (λ g. AreEvents g docs a b events) e w))

  -- a document is alive where that is said
  pub alive-said : (changes : List (Change A)) (doc : DocId) (t : ℕ) (q : Bool) → q ≡ is_some (lived changes doc.0 t) → (IsTrue q → IsSome (held_at doc t changes)) × (IsSome (held_at doc t changes) → IsTrue q)
  alive-said changes doc t q e = (λ h. sym (e ∙ map-is (held_at doc t changes)) ∙ h, λ h. e ∙ map-is (held_at doc t changes) ∙ h)
    where
      map-is : (o : Option A) → is_some (option_map (λ _. let u : Unit {0} = tt in u) o) ≡ is_some o
      map-is None = refl
      map-is (Some x) = refl
