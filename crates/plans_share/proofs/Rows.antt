-- The rows of the last offers.
use Rattle.std.specs.Prelude.{◌≡◌, ◌⊎◌, ℕ, ◌+◌, ◌-◌, ◌*◌, ◌^◌, ◌<◌, ◌≤◌, Option, Some, None, List, [], ◌∷◌, ◌++◌, length, get_or, drop, replicate, All, IfSome, Vec, refl}
use Rattle.std.specs.Global.{Global}
use Rattle.std.proofs.Common.{arith, ap, sym, ◌∙◌, subst, inl, inr, length-append}
use Rattle.std.proofs.lemmas.Bool.{cases_lt}
use Rattle.std.proofs.lemmas.List.{drop_more, drop_all, get_or_append_left, get_or_push, get_or_default, length-drop, get_or-replicate, length-replicate}
use Rattle.std.proofs.lemmas.List.Elements.{All-replicate}
use Rattle.plans_share.specs.Choices.{Offered}
use Rattle.plans_share.specs.Steps.{IsCell, IsSettled, AreRows}
use Rattle.plans_share.proofs.Cells.{wider-all}

-- the offers from a place on
pub offers-at : (offers : List Offered) (i : ℕ) (d : Offered) → i < length offers → drop (length offers - (i + 1)) offers ≡ get_or offers (length offers - 1 - i) d ∷ drop (length offers - i) offers
offers-at offers i d l =
    let a : length offers - (i + 1) ≡ length offers - 1 - i = omega arith in
    let b : length offers - 1 - i + 1 ≡ length offers - i = omega (arith, l) in
    ap (λ n. drop n offers) a ∙ drop_more offers (length offers - 1 - i) d (omega (arith, l)) ∙ ap (λ n. get_or offers (length offers - 1 - i) d ∷ drop n offers) b

-- of no offers nothing is to pay
pub settled_none : (width : ℕ) → IsSettled [] width (replicate width (Some 0))
settled_none width = record {
  long = length-replicate width (Some 0);
  each = λ c l. subst (λ (o : Option ℕ). IsCell [] c o) (sym (get_or-replicate width c (Some 0) None l)) (record { list = []; is = (tt, omega arith); takes = refl; least = λ x p. omega arith });
  small = All-replicate (λ v. IfSome v (λ w. w ≤ 0 * 2 ^ 100)) width (Some 0) (omega arith);
}

pub rows-first : (offers : List Offered) (width : ℕ) (rows : List (Vec (Option ℕ) Global)) (row : Vec (Option ℕ) Global) → rows ≡ [] ++ row ∷ [] → row.items ≡ replicate width (Some 0) → AreRows offers width rows 1
rows-first offers width rows row e f = rw e (record {
  long = refl;
  each = λ i d l. let z : 0 ≡ i = omega (arith, l) in subst (λ j. IsSettled (drop (length offers - j) offers) width (get_or (row ∷ []) j d).items) z (subst (λ (o : List Offered). IsSettled o width row.items) (sym (drop_all (length offers - 0) offers (omega arith))) (subst (λ (r : List (Option ℕ)). IsSettled [] width r) (sym f) (settled_none width)));
})

pub rows-more : (offers : List Offered) (width n : ℕ) (rows new : List (Vec (Option ℕ) Global)) (row : Vec (Option ℕ) Global) → new ≡ rows ++ row ∷ [] → IsSettled (drop (length offers - n) offers) width row.items → AreRows offers width rows n → AreRows offers width new (n + 1)
rows-more offers width n rows new row e s h = rw e (record {
  long = omega (arith, length-append rows (row ∷ []), h.long);
  each = λ i d l. go i d l (cases_lt i n);
})
  where
    go : (i : ℕ) (d : Vec (Option ℕ) Global) → i < n + 1 → ((i < n) ⊎ (n ≤ i)) → IsSettled (drop (length offers - i) offers) width (get_or (rows ++ row ∷ []) i d).items
    go i d l (inl m) = subst (λ (v : Vec (Option ℕ) Global). IsSettled (drop (length offers - i) offers) width v.items) (sym (get_or_append_left rows (row ∷ []) d i (omega (arith, m, h.long)))) (h.each i d m)
    go i d l (inr m) =
        let z : n ≡ i = omega (arith, l, m) in
        subst (λ j. IsSettled (drop (length offers - j) offers) width (get_or (rows ++ row ∷ []) j d).items) z
        (subst (λ (v : Vec (Option ℕ) Global). IsSettled (drop (length offers - n) offers) width v.items) (sym (get_or_push rows row d n h.long)) s)

-- a row's costs are small
pub row-small : (offers : List Offered) (width n i : ℕ) (rows : List (Vec (Option ℕ) Global)) (d : Vec (Option ℕ) Global) → length offers ≤ 16 → i < n → AreRows offers width rows n → All (λ v. IfSome v (λ w. w ≤ 2 ^ 110)) (get_or rows i d).items
row-small offers width n i rows d few l h = wider-all (length (drop (length offers - i) offers) * 2 ^ 100) (2 ^ 110) (get_or rows i d).items (omega (arith, few, length-drop (length offers - i) offers)) (h.each i d l).small

-- the row of one offer more
pub next-row : (offers : List Offered) (width i : ℕ) (rows : List (Vec (Option ℕ) Global)) (row : Vec (Option ℕ) Global) (offer : Offered) (below next : List (Option ℕ)) → i < length offers → AreRows offers width rows (i + 1)
    → row ≡ get_or rows i row → below ≡ row.items → offer ≡ get_or offers (length offers - 1 - i) offer
    → ((rest : List Offered) → IsSettled rest (length below) below → IsSettled (offer ∷ rest) (length below) next) → IsSettled (drop (length offers - (i + 1)) offers) width next
next-row offers width i rows row offer below next l h e f g step =
    let s : IsSettled (drop (length offers - i) offers) width below = subst (λ (b : List (Option ℕ)). IsSettled (drop (length offers - i) offers) width b) (sym (f ∙ ap (λ (v : Vec (Option ℕ) Global). v.items) e)) (h.each i row (omega arith)) in
    let m : length below ≡ width = s.long in
    let t : IsSettled (offer ∷ drop (length offers - i) offers) width next = subst (λ n. IsSettled (offer ∷ drop (length offers - i) offers) n next) m (step (drop (length offers - i) offers) (subst (λ n. IsSettled (drop (length offers - i) offers) n below) (sym m) s)) in
    subst (λ (o : List Offered). IsSettled o width next) (ap (λ (x : Offered). x ∷ drop (length offers - i) offers) g ∙ sym (offers-at offers i offer l)) t

-- the offers from a place on, and the row of those behind it
pub row-behind : (offers : List Offered) (width w : ℕ) (rows : List (Vec (Option ℕ) Global)) (row : Vec (Option ℕ) Global) (offer : Offered) (below : List (Option ℕ)) → w < length offers → AreRows offers width rows (length offers + 1)
    → row ≡ get_or rows (length offers - 1 - w) row → below ≡ row.items → offer ≡ get_or offers w offer → (drop w offers ≡ offer ∷ drop (w + 1) offers) × IsSettled (drop (w + 1) offers) width below
row-behind offers width w rows row offer below l h e f g =
    let i : length offers - (length offers - 1 - w) ≡ w + 1 = omega (arith, l) in (
      drop_more offers w offer l ∙ ap (λ (x : Offered). x ∷ drop (w + 1) offers) (sym g),
      subst (λ n. IsSettled (drop n offers) width below) i (subst (λ (b : List (Option ℕ)). IsSettled (drop (length offers - (length offers - 1 - w)) offers) width b) (sym (f ∙ ap (λ (v : Vec (Option ℕ) Global). v.items) e)) (h.each (length offers - 1 - w) row (omega arith))),
    )

-- the last row's cell
pub last-cell : (offers : List Offered) (budget : ℕ) (rows : List (Vec (Option ℕ) Global)) (row : Vec (Option ℕ) Global) (cell : Option ℕ) → AreRows offers (budget + 1) rows (length offers + 1) → row ≡ get_or rows (length offers) row → cell ≡ get_or row.items budget cell → IsCell offers budget cell
last-cell offers budget rows row cell h e f =
    let z : length offers - length offers ≡ 0 = omega arith in
    let s : IsSettled (drop (length offers - length offers) offers) (budget + 1) row.items = subst (λ (v : Vec (Option ℕ) Global). IsSettled (drop (length offers - length offers) offers) (budget + 1) v.items) (sym e) (h.each (length offers) row (omega arith)) in
    let t : IsSettled (drop 0 offers) (budget + 1) row.items = subst (λ n. IsSettled (drop n offers) (budget + 1) row.items) z s in
    subst (λ (o : Option ℕ). IsCell offers budget o) (sym (f ∙ get_or_default row.items budget cell None (omega (arith, t.long)))) (t.each budget (omega arith))
