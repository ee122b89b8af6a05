-- The order of rows: which rows there are has one list in their order.
use Rattle.std.specs.Prelude.{◌≡◌, ◌⊎◌, ◌↔◌, List, [], ◌∷◌, Contains}
use Rattle.std.proofs.Common.{arith, ap, sym, ◌∙◌, subst, inl, inr}
use Rattle.std.proofs.lemmas.Bool.{cases_lt}
use Rattle.lists_postings.proofs.Elements.{here, later, here-or-later, one_order as one_list}
use Rattle.lists_postings.proofs.Order.{Heads, next-tail, next-cons, next-later}
use Rattle.query_eval.specs.Answers.{RanksBefore, AreRanked}
use Rattle.query_eval.specs.Firsts.{AreInOrder}
use Rattle.query_eval.specs.declared.answer.Row.{Row}

pub ranks-trans : (a b c : Row) → RanksBefore a b → RanksBefore b c → RanksBefore a c
ranks-trans a b c x y = grind arith

pub never-both : (a b : Row) → RanksBefore a b → RanksBefore b a → ⊥
never-both a b x y = grind arith

-- a document and a score make a row
pub same-row : (a b : Row) → a.doc.0 ≡ b.doc.0 → a.score ≡ b.score → a ≡ b
same-row a b d s = ap {B = Row} (λ n. record { doc = record { 0 = n }; score = a.score }) d ∙ ap {B = Row} (λ n. record { doc = b.doc; score = n }) s

-- of two rows one is the other, or they are in order
pub in-order : (a b : Row) → RanksBefore a b ⊎ ((a ≡ b) ⊎ RanksBefore b a)
in-order a b = elim (cases_lt b.score a.score) [
  | inl h ↦ inl (inl h)
  | inr h ↦ elim (cases_lt a.score b.score) [
    | inl k ↦ inr (inr (inl k))
    | inr k ↦ elim (cases_lt a.doc.0 b.doc.0) [
      | inl i ↦ inl (inr (omega arith, i))
      | inr i ↦ elim (cases_lt b.doc.0 a.doc.0) [
        | inl j ↦ inr (inr (inr (omega arith, j)))
        | inr j ↦ inr (inl (same-row a b (omega arith) (omega arith)))
      ]
    ]
  ]
]

heads : (x : Row) (xs : List Row) → ((y : Row) → Contains xs y → RanksBefore x y) → Heads RanksBefore x xs
heads x [] h = tt
heads x (y ∷ ys) h = h y (here y ys)

placed : (x : Row) (xs : List Row) → AreRanked xs → (rows : List Row) × AreInOrder rows (x ∷ xs)
placed x [] h = (x ∷ [], record { ranked = tt; each = λ row. (λ c. c, λ c. c) })
placed x (y ∷ ys) h = go (in-order x y) (placed x ys (next-tail RanksBefore y ys h))
  where
    go : RanksBefore x y ⊎ ((x ≡ y) ⊎ RanksBefore y x) → (rows : List Row) × AreInOrder rows (x ∷ ys) → (rows : List Row) × AreInOrder rows (x ∷ y ∷ ys)
    go (inl b) rest = (x ∷ y ∷ ys, record { ranked = (b, h); each = λ row. (λ c. c, λ c. c) })
    go (inr (inl e)) rest = (
      y ∷ ys,
      record {
        ranked = h;
        each = λ row. (λ c. later x row (y ∷ ys) c, λ c. elim (here-or-later x row (y ∷ ys) c) [ inl i ↦ subst (λ w. Contains (y ∷ ys) w) (sym e ∙ i) (here y ys) | inr k ↦ k ]);
      },
    )
    go (inr (inr a)) (rows, o) = (
      y ∷ rows,
      record {
        ranked = next-cons RanksBefore y rows (heads y rows (λ z c. elim (here-or-later x z ys ((o.each z).0 c)) [ inl i ↦ subst (λ w. RanksBefore y w) i a | inr k ↦ next-later RanksBefore ranks-trans y z ys h k ])) o.ranked;
        each = λ row. (
          λ c. elim (here-or-later y row rows c) [ inl i ↦ later x row (y ∷ ys) (subst (λ w. Contains (y ∷ ys) w) i (here y ys)) | inr k ↦ elim (here-or-later x row ys ((o.each row).0 k)) [ inl i ↦ subst (λ w. Contains (x ∷ y ∷ ys) w) i (here x (y ∷ ys)) | inr m ↦ later x row (y ∷ ys) (later y row ys m) ] ],
          λ c. elim (here-or-later x row (y ∷ ys) c) [ inl i ↦ later y row rows ((o.each row).1 (subst (λ w. Contains (x ∷ ys) w) i (here x ys))) | inr k ↦ elim (here-or-later y row ys k) [ inl i ↦ subst (λ w. Contains (y ∷ rows) w) i (here y rows) | inr m ↦ later y row rows ((o.each row).1 (later x row ys m)) ] ],
        );
      },
    )

-- any rows stand in order in some list
pub in_order : (xs : List Row) → (rows : List Row) × AreInOrder rows xs
in_order [] = ([], record { ranked = tt; each = λ row. (λ c. c, λ c. c) })
in_order (x ∷ xs) =
    let (some, o) = in_order xs in
    let (rows, p) = placed x some o.ranked in (
      rows,
      record {
        ranked = p.ranked;
        each = λ row. (
          λ c. elim (here-or-later x row some ((p.each row).0 c)) [ inl i ↦ subst (λ w. Contains (x ∷ xs) w) i (here x xs) | inr k ↦ later x row xs ((o.each row).0 k) ],
          λ c. (p.each row).1 (elim (here-or-later x row xs c) [ inl i ↦ subst (λ w. Contains (x ∷ some) w) i (here x some) | inr k ↦ later x row some ((o.each row).1 k) ]),
        );
      },
    )

-- and in one
pub one_order : (xs ys : List Row) → AreRanked xs → AreRanked ys → ((row : Row) → (Contains xs row ↔ Contains ys row)) → xs ≡ ys
one_order = one_list RanksBefore ranks-trans never-both
