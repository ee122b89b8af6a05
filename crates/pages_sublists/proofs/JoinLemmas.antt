-- Lists that are joined by halves are joined in turn.
use Rattle.std.proofs.Common.{◌≡◌, ◌⊎◌, ◌↔◌, ℕ, zero, suc, ◌<◌, ◌≤◌, ◌+◌, add-one, List, [], ◌∷◌, ◌++◌, All, Contains, length, take, drop, get_or, Ok, Err, Result, inl, inr, refl, ap, sym, subst, ◌∙◌, arith}
use Rattle.std.proofs.Math.Seq.{drop-cons}
use Rattle.std.proofs.lemmas.List.{take-append-drop}
use Rattle.std.proofs.lemmas.List.Elements.{All-head, All-tail}
use Rattle.base_types.specs.declared.posting.Posting.{Posting}
use Rattle.lists_postings.specs.Lists.{ComesBefore, IsList}
use Rattle.lists_postings.specs.Unions.{IsUnion, IsClash}
use Rattle.lists_postings.proofs.Order.{before-trans, next-tail, next-later, next-cons, Heads}
use Rattle.pages_sublists.specs.Joining.{Paged, IsAmong, AreJoined, JoinInTurn}
use Rattle.pages_sublists.specs.declared.why.Why.{Why}
use Rattle.pages_sublists.specs.declared.why.Why.TheVariants.{Clash}
use Rattle.pages_sublists.specs.declared.why.Damage.{Damage}
use Rattle.pages_sublists.proofs.UnionLemmas.{one_way, here, behind, cases, rest_in, one_list}

-- ---- lists that lie in one list have a union there

-- the postings of a list stand in the other one, in this order
abbrev LiesIn : List Posting → List Posting → Type 0
LiesIn [] list = Unit {0}
LiesIn (y ∷ ys) [] = ⊥
LiesIn (y ∷ ys) (x ∷ xs) = ((y ≡ x) × LiesIn ys xs) ⊎ LiesIn (y ∷ ys) xs

later_in : (x y : Posting) (xs ys : List Posting) → IsList (y ∷ ys) → IsList (x ∷ xs) → Contains xs y → (p : Posting) → (Contains (y ∷ ys) p → Contains (x ∷ xs) p) → Contains (y ∷ ys) p → Contains xs p
later_in x y xs ys ly lx has p into is = elim (cases y p ys is) [
  | inl e ↦ subst (λ (z : Posting). Contains xs z) e has
  | inr more ↦ elim (cases x p xs (into is)) [
    | inl e ↦ absurd (one_way x y (next-later ComesBefore before-trans x y xs lx has) (subst (λ (z : Posting). ComesBefore y z) (sym e) (next-later ComesBefore before-trans y p ys ly more)))
    | inr found ↦ found
  ]
]

lies_in : (a v : List Posting) → IsList a → IsList v → ((p : Posting) → Contains a p → Contains v p) → LiesIn a v
lies_in [] v la lv into = tt
lies_in (y ∷ ys) [] la lv into = let (k, l, e) = into y (here y ys) in absurd (omega (arith, l))
lies_in (y ∷ ys) (x ∷ xs) la lv into = elim (cases x y xs (into y (here y ys))) [
  | inl e ↦ inl (sym e, lies_in ys xs (next-tail ComesBefore y ys la) (next-tail ComesBefore x xs lv) (λ p is. rest_in y ys xs la p (λ c. subst (λ (z : Posting). Contains (z ∷ xs) p) e (into p c)) is))
  | inr has ↦ inr (lies_in (y ∷ ys) xs la (next-tail ComesBefore x xs lv) (λ p is. later_in x y xs ys la lv has p (into p) is))
]

head_in : (z : Posting) (zs xs : List Posting) → LiesIn (z ∷ zs) xs → Contains xs z
head_in z zs [] lies = absurd lies
head_in z zs (x ∷ xs) (inl both) = (zero, omega arith, sym both.0)
head_in z zs (x ∷ xs) (inr lies) = behind x z xs (head_in z zs xs lies)

heads_in : (x : Posting) (ys xs : List Posting) → LiesIn ys xs → IsList (x ∷ xs) → Heads ComesBefore x ys
heads_in x [] xs lies l = tt
heads_in x (z ∷ zs) xs lies l = next-later ComesBefore before-trans x z xs l (head_in z zs xs lies)

list_in : (u v : List Posting) → LiesIn u v → IsList v → IsList u
list_in [] v lies l = tt
list_in (y ∷ ys) [] lies l = absurd lies
list_in (y ∷ ys) (x ∷ xs) (inl both) l =
    subst (λ (z : Posting). IsList (z ∷ ys)) (sym both.0) (next-cons ComesBefore x ys (heads_in x ys xs both.1 l) (list_in ys xs both.1 (next-tail ComesBefore x xs l)))
list_in (y ∷ ys) (x ∷ xs) (inr lies) l = list_in (y ∷ ys) xs lies (next-tail ComesBefore x xs l)

wider : (u xs : List Posting) (x : Posting) → LiesIn u xs → LiesIn u (x ∷ xs)
wider [] xs x lies = tt
wider (y ∷ ys) xs x lies = inr lies

-- a list has what two have
abbrev Each : List Posting → List Posting → List Posting → Type 0
Each u a b = (p : Posting) → Contains u p ↔ (Contains a p ⊎ Contains b p)

at_head : (x p : Posting) (xs : List Posting) → x ≡ p → Contains (x ∷ xs) p
at_head x p xs e = (zero, omega arith, e)

swapped : (u a b : List Posting) → Each u a b → Each u b a
swapped u a b each = λ p. (
  (λ is. elim ((each p).0 is) [ inl c ↦ inr c | inr c ↦ inl c ]),
  (λ is. elim is [ inl c ↦ (each p).1 (inr c) | inr c ↦ (each p).1 (inl c) ]),
)

each_left : (x y : Posting) (u ys b : List Posting) → y ≡ x → Each u ys b → Each (x ∷ u) (y ∷ ys) b
each_left x y u ys b same each = λ p. (
  (λ is. elim (cases x p u is) [
    | inl e ↦ inl (at_head y p ys (same ∙ e))
    | inr later ↦ elim ((each p).0 later) [ inl c ↦ inl (behind y p ys c) | inr c ↦ inr c ]
  ]),
  (λ is. elim is [
    | inl c ↦ elim (cases y p ys c) [ inl e ↦ at_head x p u (sym same ∙ e) | inr later ↦ behind x p u ((each p).1 (inl later)) ]
    | inr c ↦ behind x p u ((each p).1 (inr c))
  ]),
)

each_right : (x z : Posting) (u a zs : List Posting) → z ≡ x → Each u a zs → Each (x ∷ u) a (z ∷ zs)
each_right x z u a zs same each = swapped (x ∷ u) (z ∷ zs) a (each_left x z u zs a same (swapped u a zs each))

each_both : (x y z : Posting) (u ys zs : List Posting) → y ≡ x → z ≡ x → Each u ys zs → Each (x ∷ u) (y ∷ ys) (z ∷ zs)
each_both x y z u ys zs same also each =
    let left : Each (x ∷ u) (y ∷ ys) zs = each_left x y u ys zs same each in
    λ p. (
      (λ is. elim ((left p).0 is) [ inl c ↦ inl c | inr c ↦ inr (behind z p zs c) ]),
      (λ is. elim is [
        | inl c ↦ (left p).1 (inl c)
        | inr c ↦ elim (cases z p zs c) [ inl e ↦ at_head x p u (sym also ∙ e) | inr later ↦ (left p).1 (inr later) ]
      ]),
    )

each_none : (b : List Posting) → Each b [] b
each_none b = λ p. (
  (λ is. inr is),
  (λ is. elim is [ inl c ↦ let (k, l, e) = c in absurd (omega (arith, l)) | inr c ↦ c ]),
)

both_in : (a b v : List Posting) → LiesIn a v → LiesIn b v → (u : List Posting) × (LiesIn u v × Each u a b)
both_in [] b v la lb = (b, (lb, each_none b))
both_in (y ∷ ys) [] v la lb = (y ∷ ys, (la, swapped (y ∷ ys) [] (y ∷ ys) (each_none (y ∷ ys))))
both_in (y ∷ ys) (z ∷ zs) [] la lb = absurd la
both_in (y ∷ ys) (z ∷ zs) (x ∷ xs) (inl one) (inl other) =
    let rest = both_in ys zs xs one.1 other.1 in
    (x ∷ rest.0, (inl (refl, rest.1.0), each_both x y z rest.0 ys zs one.0 other.0 rest.1.1))
both_in (y ∷ ys) (z ∷ zs) (x ∷ xs) (inl one) (inr other) =
    let rest = both_in ys (z ∷ zs) xs one.1 other in
    (x ∷ rest.0, (inl (refl, rest.1.0), each_left x y rest.0 ys (z ∷ zs) one.0 rest.1.1))
both_in (y ∷ ys) (z ∷ zs) (x ∷ xs) (inr one) (inl other) =
    let rest = both_in (y ∷ ys) zs xs one other.1 in
    (x ∷ rest.0, (inl (refl, rest.1.0), each_right x z rest.0 (y ∷ ys) zs other.0 rest.1.1))
both_in (y ∷ ys) (z ∷ zs) (x ∷ xs) (inr one) (inr other) =
    let rest = both_in (y ∷ ys) (z ∷ zs) xs one other in
    (rest.0, (wider rest.0 xs x rest.1.0, rest.1.1))

union_within : (a b v : List Posting) → IsList a → IsList b → IsList v → ((p : Posting) → Contains a p → Contains v p) → ((p : Posting) → Contains b p → Contains v p) → (u : List Posting) × IsUnion a b u
union_within a b v la lb lv one other =
    let found = both_in a b v (lies_in a v la lv one) (lies_in b v lb lv other) in
    (found.0, record { ordered = list_in found.0 v found.1.0 lv; each = found.1.1 })

-- ---- lists that are joined are joined in turn

-- the list has what the list so far and the lists have
abbrev HasAll : List Paged → List Posting → List Posting → Type 0
HasAll lists union all = (p : Posting) → Contains all p ↔ (Contains union p ⊎ IsAmong lists p)

goes_on : (l : Paged) (lists : List Paged) (union both all : List Posting) → IsUnion union l.1 both → HasAll (l ∷ lists) union all → HasAll lists both all
goes_on l lists union both all joined each = λ p. (
  (λ is. elim ((each p).0 is) [
    | inl c ↦ inl ((joined.each p).1 (inl c))
    | inr more ↦ elim more [ inl c ↦ inl ((joined.each p).1 (inr c)) | inr c ↦ inr c ]
  ]),
  (λ is. elim is [
    | inl c ↦ elim ((joined.each p).0 c) [ inl d ↦ (each p).1 (inl d) | inr d ↦ (each p).1 (inr (inl d)) ]
    | inr c ↦ (each p).1 (inr (inr c))
  ]),
)

all_in_turn : (lists : List Paged) (union all : List Posting) → All (λ (l : Paged). IsList l.1) lists → IsList union → IsList all → HasAll lists union all → JoinInTurn lists union (Ok all)
all_in_turn [] union all each lu la has = ap (λ (l : List Posting). Ok l) (one_list all union la lu (λ p. (
  (λ is. elim ((has p).0 is) [ inl c ↦ c | inr c ↦ absurd c ]),
  (λ is. (has p).1 (inl is)),
)))
all_in_turn (l ∷ lists) union all each lu la has =
    let I : Paged → Type 0 = λ x. IsList x.1 in
    let both = union_within union l.1 all lu (All-head I l lists each) la (λ p is. (has p).1 (inl is)) (λ p is. (has p).1 (inr (inl is))) in
    inr (both.0, (both.1, all_in_turn lists both.0 all (All-tail I l lists each) both.1.ordered la (goes_on l lists union both.0 all both.1 has)))

pub in_turn : (lists : List Paged) (all : List Posting) → All (λ (l : Paged). IsList l.1) lists → AreJoined lists all → JoinInTurn lists [] (Ok all)
in_turn lists all each joined = all_in_turn lists [] all each tt joined.ordered (λ p. (
  (λ is. inr ((joined.each p).0 is)),
  (λ is. elim is [ inl c ↦ let (k, l, e) = c in absurd (omega (arith, l)) | inr c ↦ (joined.each p).1 c ]),
))

-- ---- joined by halves

pub one_joined : (l : Paged) → IsList l.1 → AreJoined (l ∷ []) l.1
one_joined l is = record { ordered = is; each = λ p. ((λ c. inl c), (λ c. elim c [ inl d ↦ d | inr d ↦ absurd d ])) }

pub first_joined : (lists : List Paged) (l : Paged) → length lists ≤ 1 → 0 < length lists → l ≡ get_or lists 0 l → All (λ (x : Paged). IsList x.1) lists → AreJoined lists l.1
first_joined [] l few some is each = absurd (omega (arith, some))
first_joined (x ∷ []) l few some is each = subst (λ (y : Paged). AreJoined (x ∷ []) y.1) (sym is) (one_joined x (All-head (λ (y : Paged). IsList y.1) x [] each))
first_joined (x ∷ y ∷ lists) l few some is each = absurd (omega (arith, few))

among_front : (front back : List Paged) (p : Posting) → IsAmong front p → IsAmong (front ++ back) p
among_front [] back p is = absurd is
among_front (l ∷ front) back p (inl c) = inl c
among_front (l ∷ front) back p (inr c) = inr (among_front front back p c)

among_back : (front back : List Paged) (p : Posting) → IsAmong back p → IsAmong (front ++ back) p
among_back [] back p is = is
among_back (l ∷ front) back p is = inr (among_back front back p is)

among_either : (front back : List Paged) (p : Posting) → IsAmong (front ++ back) p → IsAmong front p ⊎ IsAmong back p
among_either [] back p is = inr is
among_either (l ∷ front) back p (inl c) = inl (inl c)
among_either (l ∷ front) back p (inr c) = elim (among_either front back p c) [ inl d ↦ inl (inr d) | inr d ↦ inr d ]

pub halves_joined : (n : ℕ) (front back lists : List Paged) (one other both : List Posting) → front ≡ take n lists → back ≡ drop n lists → AreJoined front one → AreJoined back other → IsUnion one other both → AreJoined lists both
halves_joined n front back lists one other both before after first second union =
    let is : front ++ back ≡ lists = ap (λ (ls : List Paged). ls ++ back) before ∙ ap (λ (ls : List Paged). take n lists ++ ls) after ∙ take-append-drop n lists in
    subst (λ (ls : List Paged). AreJoined ls both) is (record {
      ordered = union.ordered;
      each = λ p. (
        (λ c. elim ((union.each p).0 c) [ inl d ↦ among_front front back p ((first.each p).0 d) | inr d ↦ among_back front back p ((second.each p).0 d) ]),
        (λ c. elim (among_either front back p c) [ inl d ↦ (union.each p).1 (inl ((first.each p).1 d)) | inr d ↦ (union.each p).1 (inr ((second.each p).1 d)) ]),
      );
    })

-- ---- a loop that joins in turn

-- What comes of the lists from one on, with the union so far, comes of all.
pub JoinOn : List Paged → List Paged → List Posting → Type 0
JoinOn all rest union = (outcome : Result (List Posting) Damage) → JoinInTurn rest union outcome → JoinInTurn all [] outcome

pub join_begins : (all : List Paged) → JoinOn all all []
unfolding JoinOn
join_begins all = λ outcome joins. joins

pub join_more : (all rest new : List Paged) (l : Paged) (union both : List Posting) → rest ≡ l ∷ new → IsUnion union l.1 both → JoinOn all rest union → JoinOn all new both
unfolding JoinOn
join_more all rest new l union both is joined on = λ outcome joins. on outcome (subst (λ (ls : List Paged). JoinInTurn ls union outcome) (sym is) (inr (both, (joined, joins))))

pub join_clash : (all rest new : List Paged) (l : Paged) (union : List Posting) (d : Damage) → rest ≡ l ∷ new
    → (d.page ≡ l.0) × ((one : Posting) × ((other : Posting) × (IsClash union l.1 one other × (d.why ≡ Clash one other)))) → JoinOn all rest union → JoinInTurn all [] (Err d)
unfolding JoinOn
join_clash all rest new l union d is clash on =
    let one = clash.1.0 in
    let other = clash.1.1.0 in
    let c = clash.1.1.1.0 in
    let why = clash.1.1.1.1 in
    let R : ℕ → Why → Damage = λ n w. record { page = n; why = w } in
    let told : Err d ≡ Err (R l.0 (Clash one other)) = ap (λ (n : ℕ). Err (R n d.why)) clash.0 ∙ ap (λ (w : Why). Err (R l.0 w)) why in
    on (Err d) (subst (λ (ls : List Paged). JoinInTurn ls union (Err d)) (sym is) (inl (one, (other, (c, told)))))

pub join_ends : (all rest : List Paged) (union : List Posting) → rest ≡ [] → JoinOn all rest union → JoinInTurn all [] (Ok union)
unfolding JoinOn
join_ends all rest union none on = on (Ok union) (subst (λ (ls : List Paged). JoinInTurn ls union (Ok union)) (sym none) refl)

pub union_of_same : (one given other taken both : List Posting) → one ≡ given → other ≡ taken → IsUnion one other both → IsUnion given taken both
union_of_same one given other taken both first second union = subst (λ (l : List Posting). IsUnion l taken both) first (subst (λ (l : List Posting). IsUnion one l both) second union)

-- ---- the list of a number

list_at : (all : List Paged) (k : ℕ) (l : Paged) → k < length all → l ≡ get_or all k l → drop k all ≡ l ∷ drop (k + 1) all
list_at all k l within is = drop-cons all k l (omega (arith, within)) ∙ ap (λ (x : Paged). x ∷ drop (suc k) all) (sym is) ∙ ap (λ (i : ℕ). l ∷ drop i all) (sym (add-one k))

pub join_more_at : (all : List Paged) (k : ℕ) (l : Paged) (union given list both : List Posting) → k < length all → l ≡ get_or all k l → given ≡ union → list ≡ l.1
    → IsUnion given list both → JoinOn all (drop k all) union → JoinOn all (drop (k + 1) all) both
join_more_at all k l union given list both within is first second joined on =
    join_more all (drop k all) (drop (k + 1) all) l union both (list_at all k l within is) (union_of_same given union list l.1 both first second joined) on

pub join_clash_at : (all : List Paged) (k : ℕ) (l : Paged) (page : ℕ) (union given list : List Posting) (d : Damage) → k < length all → l ≡ get_or all k l → page ≡ l.0 → given ≡ union → list ≡ l.1
    → (d.page ≡ page) × ((one : Posting) × ((other : Posting) × (IsClash given list one other × (d.why ≡ Clash one other)))) → JoinOn all (drop k all) union → JoinInTurn all [] (Err d)
join_clash_at all k l page union given list d within is at first second clash on =
    let C : List Posting → List Posting → Type 0 = λ u v. (one : Posting) × ((other : Posting) × (IsClash u v one other × (d.why ≡ Clash one other))) in
    join_clash all (drop k all) (drop (k + 1) all) l union d (list_at all k l within is) (clash.0 ∙ at, subst (λ (v : List Posting). C union v) second (subst (λ (u : List Posting). C u list) first clash.1)) on
