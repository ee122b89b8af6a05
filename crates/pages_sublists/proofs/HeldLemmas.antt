-- What sublists that are held give when they are gathered.
use Rattle.std.proofs.Common.{◌≡◌, ◌⊎◌, ◌↔◌, ℕ, ◌+◌, ◌<◌, ◌≤◌, zero-add, add-zero, add_assoc, Bool, true, false, cond, ◌&&◌, ◌||◌, if◌then◌else◌, nat_lt, List, [], ◌∷◌, ◌++◌, drop, filter, get_or, All, Contains, Ok, inl, inr, refl, ap, sym, subst, ◌∙◌, arith}
use Rattle.std.proofs.lemmas.Bool.{cases_lt}
use Rattle.std.proofs.lemmas.Bool.Decides.{nat_tests}
use Rattle.std.proofs.lemmas.List.Sums.{length-filter}
use Rattle.std.proofs.lemmas.List.Elements.{Contains-get_or}
use Rattle.std.specs.List.Sorted.{IsStrictlyIncreasing}
use Rattle.base_types.specs.declared.posting.Posting.{Posting}
use Rattle.journal_entries.specs.declared.place.Layout.{Layout}
use Rattle.journal_entries.specs.declared.place.Place.{Place}
use Rattle.lists_postings.specs.Lists.{ComesBefore, IsList, meets, sublist, frequency}
use Rattle.lists_postings.specs.Sizes.{size}
use Rattle.lists_postings.specs.Unions.{IsUnion}
use Rattle.lists_postings.proofs.Order.{before-trans, next-filter}
use Rattle.lists_postings.proofs.Frequencies.{frequency-of, found}
use Rattle.pages_sublists.specs.Segments.{next_cut, EachSegment, HoldsSublist, AreCutsOf}
use Rattle.pages_sublists.specs.Fetching.{belongs}
use Rattle.pages_sublists.specs.Gathering.{Chosen, IsBare, Joins, Gathers, chosen, stored_size}
use Rattle.pages_sublists.specs.Laws.{HeldIsGathered}
use Rattle.pages_sublists.proofs.UnionLemmas.{here, behind, cases}
use Rattle.pages_sublists.proofs.OneGathering.{one_gathering}

-- ---- postings that pass a test

-- the postings that pass a test are those of the list of which it holds
passed : (P : Posting → Bool) (list : List Posting) (p : Posting) → Contains (filter P list) p ↔ (Contains list p × (P p ≡ true))
passed P [] p = (λ c. absurd (omega (arith, c.1)), λ c. absurd (omega (arith, c.0.1)))
passed P (q ∷ list) p = go (P q) refl (passed P list p)
  where
    go : (b : Bool) → P q ≡ b → (Contains (filter P list) p ↔ (Contains list p × (P p ≡ true))) → Contains (cond b (q ∷ filter P list) (filter P list)) p ↔ (Contains (q ∷ list) p × (P p ≡ true))
    go true e rest = (
      λ c. elim (cases q p (filter P list) c) [ inl i ↦ (subst (λ x. Contains (q ∷ list) x) i (here q list), sym (ap P i) ∙ e) | inr k ↦ (let m = rest.0 k in (behind q p list m.0, m.1)) ],
      λ c. elim (cases q p list c.0) [ inl i ↦ subst (λ x. Contains (q ∷ filter P list) x) i (here q (filter P list)) | inr k ↦ behind q p (filter P list) (rest.1 (k, c.1)) ],
    )
    go false e rest = (λ c. let m = rest.0 c in (behind q p list m.0, m.1), λ c. elim (cases q p list c.0) [ inl i ↦ absurd (let two = ap P i in let t = c.1 in cc) | inr k ↦ rest.1 (k, c.1) ])

passed_none : (list : List Posting) → filter (λ p. false) list ≡ []
passed_none [] = refl
passed_none (p ∷ list) = passed_none list

or_cases : (x y : Bool) → (x || y) ≡ true → (x ≡ true) ⊎ (y ≡ true)
or_cases true y e = inl refl
or_cases false y e = inr e

or_left : (x y : Bool) → x ≡ true → (x || y) ≡ true
or_left true y e = refl
or_left false y e = absurd (cc)

or_right : (x y : Bool) → y ≡ true → (x || y) ≡ true
or_right true y e = refl
or_right false y e = e

-- what passes either of two tests is a union
either_union : (P Q : Posting → Bool) (list : List Posting) → IsList list → IsUnion (filter P list) (filter Q list) (filter (λ p. P p || Q p) list)
either_union P Q list l =
    let R : Posting → Bool = λ p. P p || Q p in
    record {
      ordered = next-filter ComesBefore R before-trans list l;
      each = λ p. (
        λ c. let m = (passed R list p).0 c in elim (or_cases (P p) (Q p) m.1) [ inl x ↦ inl ((passed P list p).1 (m.0, x)) | inr y ↦ inr ((passed Q list p).1 (m.0, y)) ],
        λ c. elim c [
          | inl x ↦ (let m = (passed P list p).0 x in (passed R list p).1 (m.0, or_left (P p) (Q p) m.1))
          | inr y ↦ (let m = (passed Q list p).0 y in (passed R list p).1 (m.0, or_right (P p) (Q p) m.1))
        ],
      );
    }

-- the list says the same of a time, where each of its postings that holds the time passes
same_frequency : (P : Posting → Bool) (list : List Posting) (d t : ℕ) → IsList list → ((p : Posting) → Contains list p → p.span.from ≤ t → t < p.span.to → P p ≡ true)
    → frequency d t (filter P list) ≡ frequency d t list
same_frequency P list d t l pass = elim (cases_lt 0 (frequency d t list)) [
  | inl some ↦ (let (p, c, x, y, z, e) = found d t list some in frequency-of d t p (filter P list) ordered ((passed P list p).1 (c, pass p c y z)) x y z ∙ sym e)
  | inr none ↦ elim (cases_lt 0 (frequency d t (filter P list))) [
    | inl some ↦ (let (p, c, x, y, z, e) = found d t (filter P list) some in e ∙ sym (frequency-of d t p list l ((passed P list p).0 c).0 x y z))
    | inr quiet ↦ omega (arith, none, quiet)
  ]
]
  where
    ordered : IsList (filter P list)
    ordered = next-filter ComesBefore P before-trans list l

-- ---- segments whose sublists are held

-- the segments are gathered behind the postings that pass a test, and give those that pass another; they have so many postings
pub record IsStored (layout : Layout) (list : List Posting) (pages : List ℕ) (a b from h : ℕ) (segments : List Chosen) (test : Posting → Bool) (read more : ℕ) : Type 0 where
  pub keep : Posting → Bool
  pub gathers : Gathers layout h pages segments (filter test list) read (Ok (filter keep list, read + more))
  pub kept : (p : Posting) → test p ≡ true → keep p ≡ true
  pub told : (p : Posting) (t : ℕ) → a ≤ t → t < b → from ≤ t → t < h → p.span.from ≤ t → t < p.span.to → keep p ≡ true

good : (list : List Posting) (f g h : ℕ) → All (λ (p : Posting). p.span.to ≤ h) list → All (λ q. belongs f g h q ≡ true) (sublist f g list)
good list f g h ended = λ k d l.
    let q : Posting = get_or (sublist f g list) k d in
    let m = (passed (meets f g) list q).0 (Contains-get_or (sublist f g list) k d l) in
    let e : q.span.to ≤ h = at q m.0 in
    let y : meets f g q ≡ true = m.1 in
    grind (arith, nat_tests)
  where
    at : (q : Posting) → Contains list q → q.span.to ≤ h
    at q (k, l, e) = subst (λ (x : Posting). x.span.to ≤ h) e (ended k q l)

-- a held sublist joins what passes a test
joins : (layout : Layout) (list : List Posting) (pages : List ℕ) (h : ℕ) (c : Chosen) (test : Posting → Bool) → IsList list → All (λ (p : Posting). p.span.to ≤ h) list
    → (IsBare c.first (sublist c.from c.to list) → ⊥) → HoldsSublist layout list pages c.from c.to c.place → Joins layout h pages c (filter test list) (filter (λ p. test p || meets c.from c.to p) list) (size c.from c.to list)
joins layout list pages h c test l ended some holds = record {
  list = sublist c.from c.to list;
  fetched = record {
    checked = record { digest_is = holds.digest; spelled = record { ordered = next-filter ComesBefore (meets c.from c.to) before-trans list l; is = holds.bytes } };
    good = good list c.from c.to h ended;
  };
  some = some;
  joined = either_union test (meets c.from c.to) list l;
  read_is = sym (length-filter (meets c.from c.to) list);
}

meets_at : (f g t : ℕ) (p : Posting) → f ≤ t → t < g → p.span.from ≤ t → t < p.span.to → meets f g p ≡ true
meets_at f g t p a b x y = grind (arith, nat_tests)

overlap_at : (a b f g t : ℕ) → a ≤ t → t < b → f ≤ t → t < g → (nat_lt f b && nat_lt a g) ≡ true
overlap_at a b f g t x y z w = grind (arith, nat_tests)

-- one segment more in front, whether it overlaps the window or not
one_more : (layout : Layout) (list : List Posting) (pages : List ℕ) (a b h : ℕ) (c : Chosen) (segments : List Chosen) (test : Posting → Bool) (read more : ℕ) (o : Bool)
    → (nat_lt c.from b && nat_lt a c.to) ≡ o
    → ((union : Posting → Bool) → Joins layout h pages c (filter union list) (filter (λ p. union p || meets c.from c.to p) list) (size c.from c.to list))
    → ((union : Posting → Bool) (n : ℕ) → IsStored layout list pages a b c.to h segments union n more)
    → IsStored layout list pages a b c.from h ((if o then c ∷ [] else []) ++ segments) test read ((if o then size c.from c.to list else 0) + more)
one_more layout list pages a b h c segments test read more false apart join rest =
    let S : ℕ → Type 0 = λ n. IsStored layout list pages a b c.from h segments test read n in
    let r = rest test read in
    subst S (sym (zero-add more)) (record {
      keep = r.keep;
      gathers = r.gathers;
      kept = r.kept;
      told = λ p t x y z w from to. elim (cases_lt t c.to) [ inl k ↦ absurd (let e = overlap_at a b c.from c.to t x y z k in cc) | inr k ↦ r.told p t x y k w from to ];
    })
one_more layout list pages a b h c segments test read more true meet join rest =
    let n : ℕ = size c.from c.to list in
    let both : Posting → Bool = λ p. test p || meets c.from c.to p in
    let r = rest both (read + n) in
    let G : ℕ → Type 0 = λ m. Gathers layout h pages segments (filter both list) (read + n) (Ok (filter r.keep list, m)) in
    record {
      keep = r.keep;
      gathers = inr (filter both list, (n, (join test, subst G (add_assoc read n more) r.gathers)));
      kept = λ p is. r.kept p (or_left (test p) (meets c.from c.to p) is);
      told = λ p t x y z w from to. elim (cases_lt t c.to) [ inl k ↦ r.kept p (or_right (test p) (meets c.from c.to p) (meets_at c.from c.to t p z k from to)) | inr k ↦ r.told p t x y k w from to ];
    }

stored : (layout : Layout) (list : List Posting) (pages : List ℕ) (a b h : ℕ) (first : Bool) (cuts : List ℕ) (places : List Place) (test : Posting → Bool) (read : ℕ)
    → IsList list → All (λ (p : Posting). p.span.to ≤ h) list
    → (IsBare first (sublist (next_cut cuts h) (next_cut (drop 1 cuts) h) list) → ⊥) → EachSegment (HoldsSublist layout list pages) cuts h places
    → IsStored layout list pages a b (next_cut cuts h) h (chosen a b h first cuts places) test read (stored_size a b h list cuts)
stored layout list pages a b h first [] [] test read l ended some each = record {
  keep = test;
  gathers = ap (λ (n : ℕ). Ok (filter test list, n)) (add-zero read);
  kept = λ p is. is;
  told = λ p t x y z w from to. absurd (omega (arith, z, w));
}
stored layout list pages a b h first [] (p ∷ places) test read l ended some each = absurd each
stored layout list pages a b h first (f ∷ cuts) [] test read l ended some each = absurd each
stored layout list pages a b h first (f ∷ cuts) (p ∷ places) test read l ended some each =
    let g : ℕ = next_cut cuts h in
    let c : Chosen = record { from = f; to = g; place = p; first = first } in
    one_more layout list pages a b h c (chosen a b h false cuts places) test read (stored_size a b h list cuts) (nat_lt f b && nat_lt a g) refl
    (λ union. joins layout list pages h c union l ended some each.0)
    (λ union n. stored layout list pages a b h false cuts places union n l ended (λ bare. absurd (let e = bare.0 in cc)) each.1)

-- the first segment holds the posting that begins at the first cut
begun : (list : List Posting) (cuts : List ℕ) (h : ℕ) → AreCutsOf list cuts h → sublist (next_cut cuts h) (next_cut (drop 1 cuts) h) list ≡ [] → ⊥
begun list cuts h are none =
    let p : Posting = are.first in
    let f : ℕ = next_cut cuts h in
    let g : ℕ = next_cut (drop 1 cuts) h in
    let o : p.span.from < p.span.to = p.span.ordered in
    let m : meets f g p ≡ true = meets_at f g f p (omega arith) (ahead cuts are.ascending refl) (omega (arith, are.begins)) (omega (arith, are.begins, o)) in
    let c : Contains [] p = subst (λ (l : List Posting). Contains l p) none ((passed (meets f g) list p).1 (are.among, m)) in
    omega (arith, c.1)
  where
    ended : are.first.span.to ≤ h
    ended = let (k, l, e) = are.among in subst (λ (x : Posting). x.span.to ≤ h) e (are.inside k are.first l).1

    ahead : (cs : List ℕ) → IsStrictlyIncreasing (cs ++ h ∷ []) → cs ≡ cuts → next_cut cs h < next_cut (drop 1 cs) h
    ahead [] up is = let b : are.first.span.from ≡ next_cut cuts h = are.begins in absurd (omega (arith, b, ended, are.first.span.ordered, ap (λ (x : List ℕ). next_cut x h) is))
    ahead (f ∷ []) up is = up 0 (omega arith)
    ahead (f ∷ g ∷ cs) up is = up 0 (omega arith)

pub held_gathered : HeldIsGathered
held_gathered layout list pages cuts h places a b outcome are each gathers =
    let segments : List Chosen = chosen a b h true cuts places in
    let n : ℕ = stored_size a b h list cuts in
    let s = stored layout list pages a b h true cuts places (λ p. false) 0 are.ordered (λ k d l. (are.inside k d l).1) (λ bare. begun list cuts h are bare.1) each in
    let all : List Posting = filter s.keep list in
    let G : List Posting → Type 0 = λ l. Gathers layout h pages segments l 0 (Ok (all, 0 + n)) in
    let other : Gathers layout h pages segments [] 0 (Ok (all, 0 + n)) = subst G (passed_none list) s.gathers in
    record {
      stored = all;
      is = elim (one_gathering layout h pages segments [] 0 outcome (Ok (all, 0 + n)) gathers other) [
        | inl e ↦ e ∙ ap (λ (m : ℕ). Ok (all, m)) (zero-add n)
        | inr clash ↦ absurd (let e = clash.1.second in cc)
      ];
      tells = λ d t x y. same_frequency s.keep list d t are.ordered (λ p c from to. let i = inside p c in s.told p t x y (omega (arith, i.0, from)) (omega (arith, i.1, to)) from to);
    }
  where
    inside : (p : Posting) → Contains list p → (next_cut cuts h ≤ p.span.from) × (p.span.to ≤ h)
    inside p (k, l, e) = subst (λ (x : Posting). (next_cut cuts h ≤ x.span.from) × (x.span.to ≤ h)) e (are.inside k p l)
