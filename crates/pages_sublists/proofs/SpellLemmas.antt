-- Spelling segments from the postings that overlap them all, and half by half.
use Rattle.std.proofs.Common.{◌≡◌, ◌≤◌, ◌<◌, ℕ, ◌+◌, Bool, true, false, cond, List, [], ◌∷◌, ◌++◌, length, filter, take, drop, get_or, min, max, All, Option, Some, None, IfSome, inl, inr, refl, ap, sym, subst, ◌∙◌, arith}
use Rattle.std.specs.Prelude.{Contains}
use Rattle.std.specs.Option.{option_map, unwrap_or}
use Rattle.std.proofs.Math.Seq.{drop-cons}
use Rattle.std.proofs.lemmas.Bool.{cases_lt}
use Rattle.std.proofs.lemmas.Bool.Decides.{nat_tests}
use Rattle.std.proofs.lemmas.List.{map-append, take-append-drop, take_more}
use Rattle.std.proofs.lemmas.List.Elements.{All-head, All-push, All-tail, All-weaker, Contains-append_left, Contains-push}
use Rattle.base_types.specs.declared.posting.Posting.{Posting}
use Rattle.base_types.specs.declared.time.Time.{Time}
use Rattle.journal_entries.specs.declared.place.Layout.{Layout}
use Rattle.lists_postings.specs.Lists.{IsList, meets, sublist}
use Rattle.lists_postings.proofs.Clipping.{sublist_list}
use Rattle.pages_checked.specs.Layouts.{spelling_in}
use Rattle.pages_sublists.specs.Segments.{seconds, next_cut}
use Rattle.pages_sublists.specs.Preparing.{spellings, Serves, IsEarliest, IsLatest}

-- ---- from a part of the list

-- what passes the one test passes the other, so the other one before it changes nothing
filter_within : (P Q : Posting → Bool) → ((p : Posting) → P p ≡ true → Q p ≡ true) → (list : List Posting) → filter P (filter Q list) ≡ filter P list
filter_within P Q wider [] = refl
filter_within P Q wider (p ∷ list) = go (Q p) refl (P p) refl (filter_within P Q wider list)
  where
    go : (q : Bool) → Q p ≡ q → (b : Bool) → P p ≡ b → filter P (filter Q list) ≡ filter P list → filter P (cond q (p ∷ filter Q list) (filter Q list)) ≡ cond b (p ∷ filter P list) (filter P list)
    go true e b f rest = ap (λ (t : Bool). cond t (p ∷ filter P (filter Q list)) (filter P (filter Q list))) f ∙ ap (λ (l : List Posting). cond b (p ∷ l) l) rest
    go false e true f rest = let w = wider p f in absurd (cc)
    go false e false f rest = rest

meets_within : (f g a b : ℕ) (p : Posting) → f ≤ a → b ≤ g → meets a b p ≡ true → meets f g p ≡ true
meets_within f g a b p x y m = grind (arith, nat_tests)

-- ---- the earliest and the latest of some times, as one more comes

pub earliest_push : (times : List ℕ) (f t : ℕ) → IsEarliest times f → IsEarliest (times ++ t ∷ []) (min f t)
earliest_push times f t is = record {
  one = elim (cases_lt f t) [
    | inl lt ↦ subst (Contains (times ++ t ∷ [])) (omega (arith, lt)) (Contains-append_left times (t ∷ []) f is.one)
    | inr ge ↦ subst (Contains (times ++ t ∷ [])) (omega (arith, ge)) (Contains-push times t)
  ];
  least = All-push (λ s. min f t ≤ s) times t (All-weaker (λ s. f ≤ s) (λ s. min f t ≤ s) (λ s le. omega (arith, le)) times is.least) (omega arith);
}

pub latest_push : (times : List ℕ) (f t : ℕ) → IsLatest times f → IsLatest (times ++ t ∷ []) (max f t)
latest_push times f t is = record {
  one = elim (cases_lt f t) [
    | inl lt ↦ subst (Contains (times ++ t ∷ [])) (omega (arith, lt)) (Contains-push times t)
    | inr ge ↦ subst (Contains (times ++ t ∷ [])) (omega (arith, ge)) (Contains-append_left times (t ∷ []) f is.one)
  ];
  greatest = All-push (λ s. s ≤ max f t) times t (All-weaker (λ s. s ≤ f) (λ s. s ≤ max f t) (λ s le. omega (arith, le)) times is.greatest) (omega arith);
}

-- the cuts up to one and with it
pub cuts_to : (cuts : List Time) (i : ℕ) (c : Time) → i < length cuts → c ≡ get_or cuts i c → seconds (take (i + 1) cuts) ≡ seconds (take i cuts) ++ c.seconds ∷ []
cuts_to cuts i c inside is = ap seconds (take_more cuts i c inside ∙ ap (λ (x : Time). take i cuts ++ x ∷ []) (sym is)) ∙ map-append (λ (x : Time). x.seconds) (take i cuts) (c ∷ [])

next_before : (g h : ℕ) (cuts : List ℕ) → All (λ s. s ≤ g) cuts → h ≤ g → next_cut cuts h ≤ g
next_before g h [] before ends = ends
next_before g h (c ∷ cuts) before ends = All-head (λ s. s ≤ g) c cuts before

spellings_within : (layout : Layout) (f g : ℕ) (list : List Posting) (cuts : List ℕ) (h : ℕ) → All (λ s. f ≤ s) cuts → All (λ s. s ≤ g) cuts → h ≤ g → spellings layout (sublist f g list) cuts h ≡ spellings layout list cuts h
spellings_within layout f g list [] h after before ends = refl
spellings_within layout f g list (c ∷ cuts) h after before ends =
    let behind = All-tail (λ s. s ≤ g) c cuts before in
    let b : ℕ = next_cut cuts h in
    let here : sublist c b (sublist f g list) ≡ sublist c b list = filter_within (meets c b) (meets f g)
    (λ p m. meets_within f g c b p (All-head (λ s. f ≤ s) c cuts after) (next_before g h cuts behind ends) m) list in
    ap (λ (l : List Posting). spelling_in layout l ∷ spellings layout (sublist f g list) cuts h) here
    ∙ ap (λ (rest : List (List ℕ)). spelling_in layout (sublist c b list) ∷ rest) (spellings_within layout f g list cuts h (All-tail (λ s. f ≤ s) c cuts after) behind ends)

-- so the part of a list that overlaps the time from the earliest to the latest serves as the list does
pub serves_within : (f g : ℕ) (list : List Posting) (cuts : List ℕ) (h : ℕ) → IsEarliest (h ∷ cuts) f → IsLatest (h ∷ cuts) g → IsList list → Serves cuts h list (sublist f g list)
serves_within f g list cuts h from to l = record {
  ordered = sublist_list f g list l;
  same = λ layout. spellings_within layout f g list cuts h (All-tail (λ s. f ≤ s) h cuts from.least) (All-tail (λ s. s ≤ g) h cuts to.greatest) (All-head (λ s. s ≤ g) h cuts to.greatest);
}

-- what is given, the part where there is one and else the list, serves as well
pub serves_or : {A B : Type 0} {cuts : List ℕ} {h : ℕ} {list given : B} (items : A → List Posting) (now : B → List Posting) (part : Option A) (shown : Option B)
    → given ≡ unwrap_or shown list → option_map now shown ≡ option_map items part → IsList (now list) → IfSome part (λ v. Serves cuts h (now list) (items v)) → Serves cuts h (now list) (now given)
serves_or items now (Some v) (Some s) is same l serves = let shows : now s ≡ items v = cc in rw (is, shows) serves
serves_or items now None None is same l serves = rw is (record { ordered = l; same = λ layout. refl })
serves_or items now (Some v) None is same l serves = absurd cc
serves_or items now None (Some s) is same l serves = absurd cc

-- ---- half by half

next_append : (a b : List ℕ) (h : ℕ) → next_cut (a ++ b) h ≡ next_cut a (next_cut b h)
next_append [] b h = refl
next_append (f ∷ a) b h = refl

spellings_append : (layout : Layout) (list : List Posting) (a b : List ℕ) (h : ℕ) → spellings layout list (a ++ b) h ≡ spellings layout list a (next_cut b h) ++ spellings layout list b h
spellings_append layout list [] b h = refl
spellings_append layout list (f ∷ a) b h =
    ap (λ (g : ℕ). spelling_in layout (sublist f g list) ∷ spellings layout list (a ++ b) h) (next_append a b h)
    ∙ ap (λ (rest : List (List ℕ)). spelling_in layout (sublist f (next_cut a (next_cut b h)) list) ∷ rest) (spellings_append layout list a b h)

-- the segments in front of a cut, and those from it on, from a list that serves for all of them
pub both_halves : (layout : Layout) (list given : List Posting) (cuts left right : List Time) (k : ℕ) (middle : Time) (h : ℕ) → Serves (seconds cuts) h list given
    → k < length cuts → middle ≡ get_or cuts k middle → left ≡ take k cuts → right ≡ drop k cuts
    → spellings layout given (seconds left) middle.seconds ++ spellings layout given (seconds right) h ≡ spellings layout list (seconds cuts) h
both_halves layout list given cuts left right k middle h serves inside is one two =
    let begins : next_cut (seconds right) h ≡ middle.seconds =
    ap (λ (cs : List Time). next_cut (seconds cs) h) (two ∙ drop-cons cuts k middle (omega (arith, inside))) ∙ ap (λ (c : Time). c.seconds) (sym is) in
    let whole : left ++ right ≡ cuts = ap (λ (cs : List Time). cs ++ right) one ∙ ap (λ (cs : List Time). take k cuts ++ cs) two ∙ take-append-drop k cuts in
    ap (λ (e : ℕ). spellings layout given (seconds left) e ++ spellings layout given (seconds right) h) (sym begins)
    ∙ sym (spellings_append layout given (seconds left) (seconds right) h)
    ∙ ap (λ (cs : List ℕ). spellings layout given cs h) (sym (map-append (λ (c : Time). c.seconds) left right) ∙ ap seconds whole) ∙ serves.same layout
