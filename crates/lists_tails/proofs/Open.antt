-- A turn of one document in one word's tail.
use Rattle.std.specs.Prelude.{◌≡◌, ◌≢◌, ◌⊎◌, ℕ, zero, suc, ◌+◌, ◌-◌, ◌^◌, ◌<◌, ◌≤◌, List, ◌∷◌, ◌++◌, All, Contains, refl}
use Rattle.std.proofs.Common.{arith, ap, sym, ◌∙◌, subst, inl, inr}
use Rattle.std.proofs.lemmas.Bool.{cases_lt}
use Rattle.std.proofs.lemmas.List.Elements.{Contains-append_left, Contains-append_right, Contains-append_cases, All-contains, All-cons}
use Rattle.base_types.specs.declared.posting.Posting.{Posting}
use Rattle.lists_postings.specs.Lists.{EachNext, ComesBefore, frequency}
use Rattle.lists_postings.specs.ListsOf.{IsListOf, IsLongest}
use Rattle.lists_postings.proofs.Order.{IsApart, apart, apart-trans, next-tail, next-cons}
use Rattle.lists_postings.proofs.Frequencies.{frequency-of, frequency-here, frequency-skip, found}
use Rattle.lists_postings.proofs.Clipping.{IsInside}
use Rattle.lists_postings.proofs.Spans.{longest_spans}
use Rattle.lists_tails.specs.Turns.{turned_one}
use Rattle.lists_tails.specs.Steps.{IsOpened, IsClosed}
use Rattle.lists_tails.proofs.Turned.{next-back, next-across, all-back, IsClear, AreLater, exchange, clear-apart, later-apart}

-- the document has the frequency o just before the time and from it on
abbrev pub IsSteady : (ℕ → ℕ → ℕ) → ℕ → ℕ → ℕ → Type 0
IsSteady g doc at o = (t : ℕ) → at ≤ t + 1 → g doc t ≡ o

-- what ends at the time or later has that frequency
late : (g : ℕ → ℕ → ℕ) (a doc at o : ℕ) (list : List Posting) (r : Posting) → IsListOf g a (2 ^ 40) list → IsSteady g doc at o → Contains list r → r.doc.0 ≡ doc → at ≤ r.span.to → r.tf ≡ o
late g a doc at o list r h s c d l =
    let i : IsInside a (2 ^ 40) r = All-contains (IsInside a (2 ^ 40)) list r h.inside c in
    let w : r.span.from < r.span.to = r.span.ordered in
    sym (frequency-of doc (r.span.to - 1) r list h.ordered c d (omega (arith, w)) (omega (arith, w)))
    ∙ h.same doc (r.span.to - 1) (omega (arith, i.0, w)) (omega (arith, i.1, w))
    ∙ s (r.span.to - 1) (omega (arith, l, w))

-- before the turn a document without the word has only postings that are over
pub turned-insert : (g : ℕ → ℕ → ℕ) (a doc at n : ℕ) (front back : List Posting) (q : Posting) → a ≤ at → at < 2 ^ 40 → IsSteady g doc at 0 → IsListOf g a (2 ^ 40) (front ++ back)
    → ((r : Posting) → Contains front r → r.doc.0 ≤ doc) → AreLater doc back → IsOpened doc at n q → IsListOf (turned_one g doc at n) a (2 ^ 40) (front ++ q ∷ back)
turned-insert g a doc at n front back q la lb s h order later o =
    exchange g a (2 ^ 40) doc at 0 n front back (q ∷ back) la h clear (λ r c. clear-apart doc at 0 n r q (clear r c) o.of o.from o.tf (λ e. omega (arith, e, o.tf, q.counted)))
    (next-cons IsApart q back (later-apart doc q back (omega (arith, o.of)) later) (next-back IsApart front back (apart (front ++ back) h.ordered h.coalesced)))
    (All-cons (IsInside a (2 ^ 40)) q back (omega (arith, la, o.from), omega (arith, o.to)) (all-back (IsInside a (2 ^ 40)) front back h.inside))
    others
    (λ t x y. frequency-here doc t q back o.of (omega (arith, o.from, x)) (omega (arith, o.to, y)) ∙ o.tf)
  where
    clear : (r : Posting) → Contains front r → IsClear doc at 0 r
    clear r c =
        let m : Contains (front ++ back) r = Contains-append_left front back r c in
        record {
          order = order r c;
          over = λ d. elim (cases_lt r.span.to at) [ inl k ↦ omega (arith, k) | inr k ↦ absurd (omega (arith, late g a doc at 0 (front ++ back) r h s m d k, r.counted)) ];
          same = λ d e. late g a doc at 0 (front ++ back) r h s m d (omega (arith, e));
        }

    others : (d t : ℕ) → (d ≢ doc) ⊎ (t < at) → frequency d t (q ∷ back) ≡ frequency d t back
    others d t (inl k) = frequency-skip d t q back (λ u v w. k (sym u ∙ o.of))
    others d t (inr k) = frequency-skip d t q back (λ u v w. omega (arith, k, v, o.from))

-- the list and the turn, where the document has the word before: x is the last posting of documents up to doc
pub record IsSet (g : ℕ → ℕ → ℕ) (a doc at o : ℕ) (front : List Posting) (x : Posting) (back : List Posting) : Type 0 where
  pub list : IsListOf g a (2 ^ 40) (front ++ x ∷ back)
  pub early : a ≤ at
  pub soon : at < 2 ^ 40
  pub steady : IsSteady g doc at o
  pub some : 0 < o
  pub order : (r : Posting) → Contains front r → r.doc.0 ≤ doc
  pub here : x.doc.0 ≤ doc
  pub later : AreLater doc back

-- x is the document's open posting
pub record IsLive (doc at o : ℕ) (x : Posting) : Type 0 where
  pub of : x.doc.0 ≡ doc
  pub from : x.span.from ≤ at
  pub to : x.span.to ≡ 2 ^ 40
  pub tf : x.tf ≡ o

pub live : (g : ℕ → ℕ → ℕ) (a doc at o : ℕ) (front : List Posting) (x : Posting) (back : List Posting) → IsSet g a doc at o front x back → IsLive doc at o x
live g a doc at o front x back s =
    let u : frequency doc at (front ++ x ∷ back) ≡ o = s.list.same doc at s.early s.soon ∙ s.steady at (omega arith) in
    let (y, c, d, f, e, z) = found doc at (front ++ x ∷ back) (omega (arith, u, s.some)) in
    let n : y.tf ≡ o = sym z ∙ u in
    let k : IsLongest g a (2 ^ 40) y = (longest_spans g a (2 ^ 40) (front ++ x ∷ back) s.list y).0 c in
    let to : y.span.to ≡ 2 ^ 40 = ends y d e n k.over in
    subst (λ w. IsLive doc at o w) (sym (is y d to (Contains-append_cases front (x ∷ back) y c))) (record { of = d; from = f; to = to; tf = n })
  where
    ends : (y : Posting) → y.doc.0 ≡ doc → at < y.span.to → y.tf ≡ o → (y.span.to ≡ 2 ^ 40) ⊎ (g y.doc.0 y.span.to ≢ y.tf) → y.span.to ≡ 2 ^ 40
    ends y d e n (inl k) = k
    ends y d e n (inr m) = absurd (m (ap (λ w. g w y.span.to) d ∙ s.steady y.span.to (omega (arith, e)) ∙ sym n))

    inside : IsInside a (2 ^ 40) x
    inside = All-contains (IsInside a (2 ^ 40)) (front ++ x ∷ back) x s.list.inside (Contains-append_right front (x ∷ back) x (zero, omega arith, refl))

    never : (y : Posting) → y.doc.0 ≡ doc → y.span.to ≡ 2 ^ 40 → ComesBefore y x → ⊥
    never y d e (inl k) = omega (arith, k, d, s.here)
    never y d e (inr k) = let w : x.span.from < x.span.to = x.span.ordered in omega (arith, k.1, e, w, inside.1)

    is : (y : Posting) → y.doc.0 ≡ doc → y.span.to ≡ 2 ^ 40 → Contains front y ⊎ Contains (x ∷ back) y → x ≡ y
    is y d e (inl c) = absurd (never y d e (next-across IsApart apart-trans front y x back (apart (front ++ x ∷ back) s.list.ordered s.list.coalesced) c).0)
    is y d e (inr (zero, l, i)) = i
    is y d e (inr (suc k, l, i)) = absurd (omega (arith, s.later y (k, omega (arith, l), i), d))

pub before : (g : ℕ → ℕ → ℕ) (a doc at o : ℕ) (front : List Posting) (x : Posting) (back : List Posting) → IsSet g a doc at o front x back → (r : Posting) → Contains front r → IsApart r x
before g a doc at o front x back s r c = next-across IsApart apart-trans front r x back (apart (front ++ x ∷ back) s.list.ordered s.list.coalesced) c

pub clear : (g : ℕ → ℕ → ℕ) (a doc at o : ℕ) (front : List Posting) (x : Posting) (back : List Posting) → IsSet g a doc at o front x back → (r : Posting) → Contains front r → IsClear doc at o r
clear g a doc at o front x back s r c = record {
  order = s.order r c;
  over = λ d. over d (before g a doc at o front x back s r c).0;
  same = λ d e. late g a doc at o (front ++ x ∷ back) r s.list s.steady (Contains-append_left front (x ∷ back) r c) d (omega (arith, e));
}
  where
    v : IsLive doc at o x
    v = live g a doc at o front x back s

    over : r.doc.0 ≡ doc → ComesBefore r x → r.span.to ≤ at
    over d (inl k) = absurd (omega (arith, k, d, v.of))
    over d (inr k) = omega (arith, k.1, v.from)

pub rest : (g : ℕ → ℕ → ℕ) (a doc at o : ℕ) (front : List Posting) (x : Posting) (back : List Posting) → IsSet g a doc at o front x back → EachNext IsApart back
rest g a doc at o front x back s = next-tail IsApart x back (next-back IsApart front (x ∷ back) (apart (front ++ x ∷ back) s.list.ordered s.list.coalesced))

pub lies : (g : ℕ → ℕ → ℕ) (a doc at o : ℕ) (front : List Posting) (x : Posting) (back : List Posting) → IsSet g a doc at o front x back → All (IsInside a (2 ^ 40)) (x ∷ back)
lies g a doc at o front x back s = all-back (IsInside a (2 ^ 40)) front (x ∷ back) s.list.inside

pub apart-closed : (at : ℕ) (r x y : Posting) → IsClosed at x y → IsApart r x → IsApart r y
apart-closed at r x y c h = (go h.0, λ k. h.1 (record { doc = k.doc ∙ c.doc; tf = k.tf ∙ c.tf; at = k.at ∙ c.from }))
  where
    go : ComesBefore r x → ComesBefore r y
    go (inl k) = inl (omega (arith, k, c.doc))
    go (inr k) = inr (k.0 ∙ sym c.doc, omega (arith, k.1, c.from))
