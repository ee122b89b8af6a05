-- Unions, and how a merge comes to one.
use Rattle.std.specs.Prelude.{◌≡◌, ◌⊎◌, ℕ, zero, suc, ◌<◌, ◌≤◌, Bool, true, false, cond, List, [], ◌∷◌, ◌++◌, length, Contains, refl}
use Rattle.std.proofs.Common.{arith, sym, ◌∙◌, subst, inl, inr, append_assoc}
use Rattle.std.proofs.lemmas.Bool.{cases_lt}
use Rattle.std.proofs.lemmas.List.Elements.{Contains-append_left, Contains-append_right, Contains-append_cases, Contains-push, Contains-push_cases}
use Rattle.base_types.specs.declared.posting.Posting.{Posting}
use Rattle.lists_postings.specs.Lists.{EachNext, ComesBefore, IsList, frequency}
use Rattle.lists_postings.specs.Unions.{IsUnion}
use Rattle.lists_postings.specs.Placings.{AreMerged}
use Rattle.lists_postings.proofs.Order.{next-tail}
use Rattle.lists_postings.proofs.Frequencies.{is_row, frequency-of, found}

pub append-none : (d t : ℕ) (a b : List Posting) → frequency d t a ≡ 0 → frequency d t (a ++ b) ≡ frequency d t b
append-none d t [] b h = refl
append-none d t (p ∷ a) b h = go (is_row d t p) h (append-none d t a b)
  where
    go : (c : Bool) → cond c p.tf (frequency d t a) ≡ 0 → (frequency d t a ≡ 0 → frequency d t (a ++ b) ≡ frequency d t b) → cond c p.tf (frequency d t (a ++ b)) ≡ frequency d t b
    go true e r = absurd (omega (arith, e, p.counted))
    go false e r = r e

pub append-some : (d t : ℕ) (a b : List Posting) → 0 < frequency d t a → frequency d t (a ++ b) ≡ frequency d t a
append-some d t [] b h = absurd (omega (arith, h))
append-some d t (p ∷ a) b h = go (is_row d t p) h (append-some d t a b)
  where
    go : (c : Bool) → 0 < cond c p.tf (frequency d t a) → (0 < frequency d t a → frequency d t (a ++ b) ≡ frequency d t a) → cond c p.tf (frequency d t (a ++ b)) ≡ cond c p.tf (frequency d t a)
    go true e r = refl
    go false e r = r e

pub frequency_of_union : (one other union : List Posting) → IsList one → IsList other → IsUnion one other union → (d t : ℕ) → frequency d t union ≡ frequency d t (one ++ other)
frequency_of_union one other union lo lt u d t = elim (cases_lt 0 (frequency d t one)) [
  | inl a ↦ sym (append-some d t one other a ∙ left a)
  | inr a ↦ elim (cases_lt 0 (frequency d t other)) [
    | inl b ↦ sym (append-none d t one other (omega (arith, a)) ∙ right b)
    | inr b ↦ omega (arith, append-none d t one other (omega (arith, a)), a, b, neither a b)
  ]
]
  where
    left : 0 < frequency d t one → frequency d t one ≡ frequency d t union
    left h = let (p, c, x, y, z, e) = found d t one h in e ∙ sym (frequency-of d t p union u.ordered ((u.each p).1 (inl c)) x y z)

    right : 0 < frequency d t other → frequency d t other ≡ frequency d t union
    right h = let (p, c, x, y, z, e) = found d t other h in e ∙ sym (frequency-of d t p union u.ordered ((u.each p).1 (inr c)) x y z)

    neither : frequency d t one ≤ 0 → frequency d t other ≤ 0 → frequency d t union ≤ 0
    neither a b = elim (cases_lt 0 (frequency d t union)) [
      | inr k ↦ k
      | inl k ↦ let (p, c, x, y, z, e) = found d t union k in elim ((u.each p).0 c) [
        | inl m ↦ absurd (omega (arith, a, frequency-of d t p one lo m x y z, p.counted))
        | inr m ↦ absurd (omega (arith, b, frequency-of d t p other lt m x y z, p.counted))
      ]
    ]

-- elements of a list with one more in front
here : {X : Type 0} (x : X) (xs : List X) → Contains (x ∷ xs) x
here x xs = (zero, omega arith, refl)

later : {X : Type 0} (x y : X) (xs : List X) → Contains xs y → Contains (x ∷ xs) y
later x y xs (k, l, e) = (suc k, omega (arith, l), e)

cases : {X : Type 0} (x y : X) (xs : List X) → Contains (x ∷ xs) y → (x ≡ y) ⊎ Contains xs y
cases x y xs (zero, l, e) = inl e
cases x y xs (suc k, l, e) = inr (k, omega (arith, l), e)

front : {X : Type 0} (R : X → X → Type 0) (xs ys : List X) → EachNext R (xs ++ ys) → EachNext R ys
front R [] ys h = h
front R (x ∷ xs) ys h = front R xs ys (next-tail R x (xs ++ ys) h)

-- another end behind an element
glue : {X : Type 0} (R : X → X → Type 0) (xs : List X) (p q : X) (ys zs : List X) → EachNext R (xs ++ p ∷ ys) → R p q → EachNext R (q ∷ zs) → EachNext R (xs ++ p ∷ q ∷ zs)
glue R [] p q ys zs h r z = (r, z)
glue R (x ∷ []) p q ys zs h r z = (h.0, (r, z))
glue R (x ∷ w ∷ xs) p q ys zs h r z = (h.0, glue R (w ∷ xs) p q ys zs h.1 r z)

swap : (one other done left right : List Posting) → AreMerged one other done left right → AreMerged other one done right left
swap one other done left right h = record {
  first = h.second;
  second = h.first;
  done_of = λ x c. elim (h.done_of x c) [ inl a ↦ inr a | inr b ↦ inl b ];
  left_of = h.right_of;
  right_of = h.left_of;
  one_in = h.other_in;
  other_in = h.one_in;
}

-- a posting of the first list is done
merged-before : (one other done : List Posting) (p q : Posting) (left right : List Posting) → ComesBefore p q → AreMerged one other done (p ∷ left) (q ∷ right) → AreMerged one other (done ++ p ∷ []) left (q ∷ right)
merged-before one other done p q left right b h = record {
  first = rw append_assoc h.first;
  second = rw append_assoc (glue ComesBefore done p q left right h.first b (front ComesBefore done (q ∷ right) h.second));
  done_of = λ x c. elim (Contains-push_cases done p x c) [ inl a ↦ h.done_of x a | inr e ↦ inl (h.left_of x (subst (λ w. Contains (p ∷ left) w) e (here p left))) ];
  left_of = λ x c. h.left_of x (later p x left c);
  right_of = h.right_of;
  one_in = λ x c. elim (h.one_in x c) [
    | inl a ↦ inl (Contains-append_left done (p ∷ []) x a)
    | inr a ↦ elim (cases p x left a) [ inl e ↦ inl (subst (λ w. Contains (done ++ p ∷ []) w) e (Contains-push done p)) | inr m ↦ inr m ]
  ];
  other_in = λ x c. elim (h.other_in x c) [ inl a ↦ inl (Contains-append_left done (p ∷ []) x a) | inr a ↦ inr a ];
}

merged-after : (one other done : List Posting) (p q : Posting) (left right : List Posting) → ComesBefore q p → AreMerged one other done (p ∷ left) (q ∷ right) → AreMerged one other (done ++ q ∷ []) (p ∷ left) right
merged-after one other done p q left right b h = swap other one (done ++ q ∷ []) right (p ∷ left) (merged-before other one done q p right left b (swap one other done (p ∷ left) (q ∷ right) h))

-- a posting of both lists is done
merged-same : (one other done : List Posting) (p q : Posting) (left right : List Posting) → p ≡ q → AreMerged one other done (p ∷ left) (q ∷ right) → AreMerged one other (done ++ p ∷ []) left right
merged-same one other done p q left right e h = record {
  first = rw append_assoc h.first;
  second = rw append_assoc (subst (λ w. IsList (done ++ w ∷ right)) (sym e) h.second);
  done_of = λ x c. elim (Contains-push_cases done p x c) [ inl a ↦ h.done_of x a | inr i ↦ inl (h.left_of x (subst (λ w. Contains (p ∷ left) w) i (here p left))) ];
  left_of = λ x c. h.left_of x (later p x left c);
  right_of = λ x c. h.right_of x (later q x right c);
  one_in = λ x c. elim (h.one_in x c) [
    | inl a ↦ inl (Contains-append_left done (p ∷ []) x a)
    | inr a ↦ elim (cases p x left a) [ inl i ↦ inl (subst (λ w. Contains (done ++ p ∷ []) w) i (Contains-push done p)) | inr m ↦ inr m ]
  ];
  other_in = λ x c. elim (h.other_in x c) [
    | inl a ↦ inl (Contains-append_left done (p ∷ []) x a)
    | inr a ↦ elim (cases q x right a) [ inl i ↦ inl (subst (λ w. Contains (done ++ p ∷ []) w) (e ∙ i) (Contains-push done p)) | inr m ↦ inr m ]
  ];
}

-- where one list is at its end, the rest of the other one is all that is missing
union-left : (one other done left : List Posting) → AreMerged one other done left [] → IsUnion one other (done ++ left)
union-left one other done left h = record {
  ordered = h.first;
  each = λ x. (
    λ c. elim (Contains-append_cases done left x c) [ inl a ↦ h.done_of x a | inr a ↦ inl (h.left_of x a) ],
    λ c. elim c [
      | inl a ↦ elim (h.one_in x a) [ inl d ↦ Contains-append_left done left x d | inr l ↦ Contains-append_right done left x l ]
      | inr a ↦ elim (h.other_in x a) [ inl d ↦ Contains-append_left done left x d | inr n ↦ absurd (omega (arith, n.1)) ]
    ],
  );
}

union-right : (one other done right : List Posting) → AreMerged one other done [] right → IsUnion one other (done ++ right)
union-right one other done right h =
    let u = union-left other one done right (swap one other done [] right h) in
    record { ordered = u.ordered; each = λ x. (λ c. elim ((u.each x).0 c) [ inl a ↦ inr a | inr a ↦ inl a ], λ c. (u.each x).1 (elim c [ inl a ↦ inr a | inr a ↦ inl a ])) }

-- the steps of a merge, by what the lists were and what is left of them
pub step-before : (one other done new left later right others : List Posting) (p q : Posting) → left ≡ p ∷ later → right ≡ q ∷ others → ComesBefore p q → new ≡ done ++ p ∷ [] → AreMerged one other done left right → AreMerged one other new later right
step-before one other done new left later right others p q l r b n h =
    rw (n, r) (merged-before one other done p q later others b (subst (λ x. AreMerged one other done (p ∷ later) x) r (subst (λ x. AreMerged one other done x right) l h)))

pub step-after : (one other done new left later right others : List Posting) (p q : Posting) → left ≡ p ∷ later → right ≡ q ∷ others → ComesBefore q p → new ≡ done ++ q ∷ [] → AreMerged one other done left right → AreMerged one other new left others
step-after one other done new left later right others p q l r b n h =
    rw (n, l) (merged-after one other done p q later others b (subst (λ x. AreMerged one other done (p ∷ later) x) r (subst (λ x. AreMerged one other done x right) l h)))

pub step-same : (one other done new left later right others : List Posting) (p q : Posting) → left ≡ p ∷ later → right ≡ q ∷ others → p ≡ q → new ≡ done ++ p ∷ [] → AreMerged one other done left right → AreMerged one other new later others
step-same one other done new left later right others p q l r b n h =
    rw n (merged-same one other done p q later others b (subst (λ x. AreMerged one other done (p ∷ later) x) r (subst (λ x. AreMerged one other done x right) l h)))

none-left : {X : Type 0} (xs : List X) → length xs ≡ 0 → xs ≡ []
none-left [] e = refl
none-left (x ∷ xs) e = absurd (omega (arith, e))

pub end-left : (one other done new left right : List Posting) → length left ≡ 0 → new ≡ done ++ right → AreMerged one other done left right → IsUnion one other new
end-left one other done new left right e n h = rw n (union-right one other done right (subst (λ x. AreMerged one other done x right) (none-left left e) h))

pub end-right : (one other done new left right : List Posting) → length right ≡ 0 → new ≡ done ++ left → AreMerged one other done left right → IsUnion one other new
end-right one other done new left right e n h = rw n (union-left one other done left (subst (λ x. AreMerged one other done left x) (none-left right e) h))
