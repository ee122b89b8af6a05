-- Parts of lists are lists, and the clip of the list of a frequency is one.
use Rattle.std.specs.Prelude.{◌≡◌, ◌⊎◌, ℕ, ◌+◌, ◌<◌, ◌≤◌, Bool, true, false, cond, List, [], ◌∷◌, ◌++◌, length, get_or, take, All, refl}
use Rattle.std.specs.List.{AllZip}
use Rattle.std.proofs.Common.{arith, ap, sym, ◌∙◌, inl, inr}
use Rattle.std.proofs.lemmas.Bool.{cases_lt}
use Rattle.std.proofs.lemmas.Bool.Decides.{nat_tests}
use Rattle.std.proofs.lemmas.List.{append-nil}
use Rattle.std.proofs.lemmas.List.Elements.{AllZip-push, filter_more, All-nil, All-cons, All-head, All-tail}
use Rattle.base_types.specs.declared.posting.Posting.{Posting}
use Rattle.lists_postings.specs.Lists.{holds, meets, rows_at, sublist, ComesBefore, IsList, IsCoalesced, Continues, frequency}
use Rattle.lists_postings.specs.Clips.{IsCut, IsClip}
use Rattle.lists_postings.specs.ListsOf.{IsListOf}
use Rattle.lists_postings.proofs.Order.{IsApart, apart-trans, apart, coalesced-apart, before-trans, next-filter, next-zip}
use Rattle.lists_postings.proofs.Frequencies.{is_row, row-tells, row-is, frequency-here, frequency-skip}
use Rattle.lists_postings.proofs.Coalesced.{one_coalesced}

pub rows_list : (t : ℕ) (list : List Posting) → IsList list → IsList (rows_at t list)
rows_list t list l = next-filter ComesBefore (holds t) before-trans list l

pub sublist_list : (f g : ℕ) (list : List Posting) → IsList list → IsList (sublist f g list)
sublist_list f g list l = next-filter ComesBefore (meets f g) before-trans list l

cut-before : (f g : ℕ) (x y v w : Posting) → IsCut f g x v → IsCut f g y w → ComesBefore x y → ComesBefore v w
cut-before f g x y v w a b (inl h) = inl (omega (arith, a.doc, b.doc, h))
cut-before f g x y v w a b (inr h) = inr (a.doc ∙ h.0 ∙ sym b.doc, omega (arith, a.to, b.from, h.1))

cut-apart : (f g : ℕ) (x y v w : Posting) → IsCut f g x v → IsCut f g y w → IsApart x y → IsApart v w
cut-apart f g x y v w a b h = (cut-before f g x y v w a b h.0, λ c. h.1 (back c h.0))
  where
    back : Continues v w → ComesBefore x y → Continues x y
    back c (inl k) = absurd (omega (arith, a.doc, b.doc, c.doc, k))
    back c (inr k) =
        let o : v.span.from < v.span.to = v.span.ordered in
        let n : w.span.from < w.span.to = w.span.ordered in
        record { doc = k.0; tf = sym a.tf ∙ c.tf ∙ b.tf; at = omega (arith, a.from, a.to, b.from, b.to, c.at, k.1) }

-- the clip of a list is a list, and stays coalesced
pub clip_list : (f g : ℕ) (list clip : List Posting) → IsClip f g list clip → IsList list → IsList clip
clip_list f g list clip z l = next-zip ComesBefore ComesBefore (IsCut f g) (λ x y v w a b h. cut-before f g x y v w a b h) (sublist f g list) clip z (sublist_list f g list l)

pub clip_coalesced : (f g : ℕ) (list clip : List Posting) → IsClip f g list clip → IsList list → IsCoalesced list → IsCoalesced clip
clip_coalesced f g list clip z l c =
    coalesced-apart clip (next-zip IsApart IsApart (IsCut f g) (λ x y v w a b h. cut-apart f g x y v w a b h) (sublist f g list) clip z (next-filter IsApart (meets f g) apart-trans list (apart list l c)))

-- one more posting is looked at
pub clip-more : (f g : ℕ) (list clip : List Posting) (i : ℕ) (p q : Posting) → i < length list → p ≡ get_or list i p → IsClip f g (take i list) clip → meets f g p ≡ true → IsCut f g p q → IsClip f g (take (i + 1) list) (clip ++ q ∷ [])
clip-more f g list clip i p q l e z m c =
    let kept : sublist f g (take (i + 1) list) ≡ sublist f g (take i list) ++ p ∷ [] =
    filter_more (meets f g) list i p l ∙ ap (λ x. sublist f g (take i list) ++ cond (meets f g x) (x ∷ []) []) (sym e) ∙ ap (λ b. sublist f g (take i list) ++ cond b (p ∷ []) []) m in
    rw kept (AllZip-push (IsCut f g) (sublist f g (take i list)) clip p q z c)

pub clip-skips : (f g : ℕ) (list clip : List Posting) (i : ℕ) (p : Posting) → i < length list → p ≡ get_or list i p → IsClip f g (take i list) clip → meets f g p ≡ false → IsClip f g (take (i + 1) list) clip
clip-skips f g list clip i p l e z m =
    let kept : sublist f g (take (i + 1) list) ≡ sublist f g (take i list) =
    filter_more (meets f g) list i p l ∙ ap (λ x. sublist f g (take i list) ++ cond (meets f g x) (x ∷ []) []) (sym e) ∙ ap (λ b. sublist f g (take i list) ++ cond b (p ∷ []) []) m ∙ append-nil (sublist f g (take i list)) in
    rw kept z

meets-at : (f g t : ℕ) (p : Posting) → f ≤ t → t < g → p.span.from ≤ t → t < p.span.to → meets f g p ≡ true
meets-at f g t p a b x y = grind (arith, nat_tests)

-- a cut posting gives the same inside
cut-same : (f g : ℕ) (p q : Posting) (a b : List Posting) → IsCut f g p q → (d t : ℕ) → f ≤ t → t < g → frequency d t a ≡ frequency d t b → frequency d t (q ∷ a) ≡ frequency d t (p ∷ b)
cut-same f g p q a b c d t x y r = go (is_row d t p) refl
  where
    go : (z : Bool) → is_row d t p ≡ z → frequency d t (q ∷ a) ≡ frequency d t (p ∷ b)
    go true e =
        let h = row-tells d t p e in
        frequency-here d t q a (c.doc ∙ h.0) (omega (arith, c.from, h.1)) (omega (arith, c.to, h.2)) ∙ c.tf ∙ sym (frequency-here d t p b h.0 h.1 h.2)
    go false e =
        frequency-skip d t q a (λ u v w. let n : is_row d t p ≡ true = row-is d t p (sym c.doc ∙ u) (omega (arith, c.from, v)) (omega (arith, c.to, w)) in cc)
        ∙ r
        ∙ sym (frequency-skip d t p b (λ u v w. let n : is_row d t p ≡ true = row-is d t p u v w in cc))

pub clip_same : (f g : ℕ) (list clip : List Posting) → IsClip f g list clip → (d t : ℕ) → f ≤ t → t < g → frequency d t clip ≡ frequency d t list
clip_same f g [] [] z d t a b = refl
clip_same f g [] (q ∷ clip) z d t a b = absurd z
clip_same f g (p ∷ list) clip z d t a b = go (meets f g p) refl clip z (λ rest y. clip_same f g list rest y d t a b)
  where
    go : (x : Bool) → meets f g p ≡ x → (clip : List Posting) → AllZip (IsCut f g) (cond x (p ∷ sublist f g list) (sublist f g list)) clip
        → ((rest : List Posting) → IsClip f g list rest → frequency d t rest ≡ frequency d t list)
        → frequency d t clip ≡ frequency d t (p ∷ list)
    go true e [] z r = absurd z
    go true e (q ∷ clip) z r = cut-same f g p q clip list z.0 d t a b (r clip z.1)
    go false e clip z r = r clip z ∙ sym (frequency-skip d t p list (λ u v w. let m : meets f g p ≡ true = meets-at f g t p a b v w in cc))

-- what holds of each second element
zip-all : {X : Type 0} (Q : X → X → Type 0) (P : X → Type 0) → ((x v : X) → Q x v → P v) → (xs vs : List X) → AllZip Q xs vs → All P vs
zip-all Q P c [] [] z = All-nil P
zip-all Q P c [] (v ∷ vs) z = absurd z
zip-all Q P c (x ∷ xs) [] z = absurd z
zip-all Q P c (x ∷ xs) (v ∷ vs) z = All-cons P v vs (c x v z.0) (zip-all Q P c xs vs z.1)

-- the posting lies in [a, b)
abbrev pub IsInside : ℕ → ℕ → Posting → Type 0
IsInside a b p = (a ≤ p.span.from) × (p.span.to ≤ b)

pub clip_of_list_of : (f : ℕ → ℕ → ℕ) (a b c d : ℕ) (list clip : List Posting) → a ≤ c → d ≤ b → IsListOf f a b list → IsClip c d list clip → IsListOf f c d clip
clip_of_list_of f a b c d list clip x y h z = record {
  ordered = clip_list c d list clip z h.ordered;
  coalesced = clip_coalesced c d list clip z h.ordered h.coalesced;
  inside = zip-all (IsCut c d) (IsInside c d) (λ p q e. (omega (arith, e.from), omega (arith, e.to))) (sublist c d list) clip z;
  same = λ k t m n. clip_same c d list clip z k t m n ∙ h.same k t (omega (arith, x, m)) (omega (arith, y, n));
}

-- outside its interval a list has nothing
pub outside : (a b : ℕ) (list : List Posting) → All (IsInside a b) list → (d t : ℕ) → (t < a) ⊎ (b ≤ t) → frequency d t list ≡ 0
outside a b [] h d t o = refl
outside a b (p ∷ list) h d t o =
    let i = All-head (IsInside a b) p list h in
    frequency-skip d t p list (λ u v w. never i v w o) ∙ outside a b list (All-tail (IsInside a b) p list h) d t o
  where
    never : IsInside a b p → p.span.from ≤ t → t < p.span.to → (t < a) ⊎ (b ≤ t) → ⊥
    never i v w (inl k) = omega (arith, i.0, v, k)
    never i v w (inr k) = omega (arith, i.1, w, k)

pub one_list_of : (f : ℕ → ℕ → ℕ) (a b : ℕ) (x y : List Posting) → IsListOf f a b x → IsListOf f a b y → x ≡ y
one_list_of f a b x y hx hy = one_coalesced x y hx.ordered hx.coalesced hy.ordered hy.coalesced same
  where
    same : (d t : ℕ) → frequency d t x ≡ frequency d t y
    same d t = elim (cases_lt t a) [
      | inl k ↦ outside a b x hx.inside d t (inl k) ∙ sym (outside a b y hy.inside d t (inl k))
      | inr m ↦ elim (cases_lt t b) [
        | inl k ↦ hx.same d t m k ∙ sym (hy.same d t m k)
        | inr k ↦ outside a b x hx.inside d t (inr k) ∙ sym (outside a b y hy.inside d t (inr k))
      ]
    ]
