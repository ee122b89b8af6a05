-- Operators with the places of their words.
use Rattle.std.proofs.Common.{add-one, nat_lt, ◌≡◌, ◌==◌, ℕ, zero, suc, ◌+◌, ◌*◌, ◌<◌, ◌≤◌, max, Bool, true, false, cond, List, [], ◌∷◌, ◌++◌, length, map, drop, take, get_or, sum_by, All, inl, inr, refl, sym, ap, ◌∙◌, subst, arith, length-append, if◌then◌else◌}
use Rattle.std.proofs.lemmas.List.{get_or-map, map-append, length-map, take_more}
use Rattle.std.proofs.lemmas.List.Elements.{All-append}
use Rattle.std.proofs.lemmas.List.Sums.{fold-append, sum_by-cons}
use Rattle.std.proofs.lemmas.Bool.{cases_lt}
use Rattle.std.proofs.lemmas.Bool.Decides.{eqb_tells}
use Rattle.std.proofs.lemmas.Map.Keys.{apart_from_distinct}
use Rattle.std.specs.List.{list_any, IsDistinct}
use Rattle.std.specs.Str.{bytes_eq}
use Rattle.text_words.specs.Words.{entered, with_all, distinct}
use Rattle.text_words.proofs.CountLemmas.{same, itself, IsDistinct-distinct}
use Rattle.text_words.proofs.WordLemmas.{with_all-front}
use Rattle.query_lang.specs.declared.op.Op.{Op}
use Rattle.query_lang.specs.declared.op.Op.TheVariants.{Push, Negate, Conjoin, Disjoin}
use Rattle.query_lang.specs.declared.op.Spot.{Spot}
use Rattle.query_lang.specs.declared.term.Term.{Term}
use Rattle.query_lang.specs.Evaluation.{truths_by, truths_of, top_truth, count_of, most_at, scored}
use Rattle.query_lang.specs.Meaning.{matches, words_of, keys_of, greatest, weight}
use Rattle.query_lang.specs.Numbered.{term_at, named_by, named, IsPlaced, AreQuery}
use Rattle.query_lang.specs.Postfix.{postfix, pushed, pushed_even, tree}
use Rattle.query_lang.proofs.PostfixLaws.{by_key, pushed-append, pushed-postfix, pushed_even-postfix, truths-postfix}

-- the operators so far, with their words and places
pub record AreNumbered (done : List (Op Term)) (words : List (List ℕ)) (ops : List (Op Spot)) : Type 0 where
  pub words_are : words ≡ distinct (keys_of (pushed done))
  pub ops_are : named words ops ≡ done
  pub placed : All (IsPlaced (length words)) ops

placed-more : (m n : ℕ) → m ≤ n → (op : Op Spot) → IsPlaced m op → IsPlaced n op
placed-more m n h (Push place even) p = omega (arith, h, p)
placed-more m n h Negate p = tt
placed-more m n h Conjoin p = tt
placed-more m n h Disjoin p = tt

get-front : (words rest : List (List ℕ)) (n : ℕ) → n < length words → get_or (words ++ rest) n [] ≡ get_or words n []
get-front [] rest n h = absurd (omega (arith, h))
get-front (w ∷ words) rest zero h = refl
get-front (w ∷ words) rest (suc n) h = get-front words rest n (omega (arith, h))

named_by-front : (words rest : List (List ℕ)) (op : Op Spot) → IsPlaced (length words) op → named_by (words ++ rest) op ≡ named_by words op
named_by-front words rest (Push spot even) p = ap (λ (w : List ℕ). Push (record { key = w; weight = spot.weight }) even) (get-front words rest spot.place p)
named_by-front words rest Negate p = refl
named_by-front words rest Conjoin p = refl
named_by-front words rest Disjoin p = refl

-- words that come behind change no name
named-front : (words rest : List (List ℕ)) (ops : List (Op Spot)) → All (IsPlaced (length words)) ops → named (words ++ rest) ops ≡ named words ops
named-front words rest [] p = refl
named-front words rest (op ∷ ops) p =
    let one = named_by-front words rest op (p 0 op (omega arith)) in
    let more = named-front words rest ops (λ k d l. p (suc k) d (omega (arith, l))) in
    cc

-- one operator more
pub numbered-more : (done : List (Op Term)) (words new : List (List ℕ)) (ops : List (Op Spot)) (op : Op Term) (o : Op Spot)
    → AreNumbered done words ops → new ≡ with_all words (keys_of (pushed (op ∷ []))) → named_by new o ≡ op → IsPlaced (length new) o
    → AreNumbered (done ++ op ∷ []) new (ops ++ o ∷ [])
numbered-more done words new ops op o h e n p = record {
  words_are = e ∙ ap (λ w. with_all w (keys_of (pushed (op ∷ [])))) h.words_are ∙ sym (fold-append entered [] (keys_of (pushed done)) (keys_of (pushed (op ∷ []))))
      ∙ ap distinct (sym (map-append (λ (t : Term). t.key) (pushed done) (pushed (op ∷ [])))) ∙ ap (λ ts. distinct (keys_of ts)) (sym (pushed-append done (op ∷ [])));
  ops_are = map-append (named_by new) ops (o ∷ []) ∙ ap (λ x. x ++ named_by new o ∷ []) (same ∙ h.ops_are) ∙ ap (λ x. done ++ x ∷ []) n;
  placed = All-append (IsPlaced (length new)) ops (o ∷ []) (λ k d l. placed-more (length words) (length new) longer (get_or ops k d) (h.placed k d l)) only;
}
  where
    front : (rest : List (List ℕ)) × (with_all words (keys_of (pushed (op ∷ []))) ≡ words ++ rest)
    front = with_all-front words (keys_of (pushed (op ∷ [])))

    longer : length words ≤ length new
    longer = omega (arith, ap length (e ∙ front.1), length-append words front.0)

    same : named new ops ≡ named words ops
    same = ap (λ w. named w ops) (e ∙ front.1) ∙ named-front words front.0 ops h.placed

    only : All (IsPlaced (length new)) (o ∷ [])
    only zero d l = p
    only (suc k) d l = absurd (omega (arith, l))

length-entered : (words : List (List ℕ)) (key : List ℕ) → length (entered words key) ≤ length words + 1
length-entered words key = go (list_any (bytes_eq key) words)
  where
    go : (b : Bool) → length (if b then words else words ++ key ∷ []) ≤ length words + 1
    go true = omega arith
    go false = omega (arith, length-append words (key ∷ []))

length-with_all : (words found : List (List ℕ)) → length (with_all words found) ≤ length words + length found
length-with_all words [] = omega arith
length-with_all words (k ∷ found) = omega (arith, length-with_all (entered words k) found, length-entered words k)

truths_by-named : (f : Spot → ℕ) (g : Term → ℕ) (words : List (List ℕ)) → ((n : Spot) → n.place < length words → f n ≡ g (term_at words n)) → (op : Op Spot) (ts : List Bool) → IsPlaced (length words) op
    → truths_by f op ts ≡ truths_by g (named_by words op) ts
truths_by-named f g words h (Push spot even) ts p = ap (λ n. nat_lt 0 n ∷ ts) (h spot p)
truths_by-named f g words h Negate [] p = refl
truths_by-named f g words h Negate (a ∷ ts) p = refl
truths_by-named f g words h Conjoin [] p = refl
truths_by-named f g words h Conjoin (b ∷ []) p = refl
truths_by-named f g words h Conjoin (b ∷ a ∷ ts) p = refl
truths_by-named f g words h Disjoin [] p = refl
truths_by-named f g words h Disjoin (b ∷ []) p = refl
truths_by-named f g words h Disjoin (b ∷ a ∷ ts) p = refl

truths_of-named : (f : Spot → ℕ) (g : Term → ℕ) (words : List (List ℕ)) → ((n : Spot) → n.place < length words → f n ≡ g (term_at words n)) → (ops : List (Op Spot)) (ts : List Bool) → All (IsPlaced (length words)) ops
    → truths_of f ops ts ≡ truths_of g (named words ops) ts
truths_of-named f g words h [] ts p = refl
truths_of-named f g words h (op ∷ ops) ts p =
    truths_of-named f g words h ops (truths_by f op ts) (λ k d l. p (suc k) d (omega (arith, l)))
    ∙ ap (truths_of g (named words ops)) (truths_by-named f g words h op ts (p 0 op (omega arith)))

-- evaluating operators by the places of their words gives the truth of the tree that they spell
pub truth-named : (f : Spot → ℕ) (g : List ℕ → ℕ) (words : List (List ℕ)) (ops : List (Op Spot)) → named words ops ≡ postfix true (tree (named words ops)) → All (IsPlaced (length words)) ops
    → ((n : Spot) → n.place < length words → f n ≡ g (get_or words n.place [])) → top_truth (truths_of f ops []) ≡ matches (tree (named words ops)) g
truth-named f g words ops e p h =
    ap top_truth (truths_of-named f (by_key g) words h ops [] p ∙ ap (λ x. truths_of (by_key g) x []) e ∙ truths-postfix g true (tree (named words ops)) [])

-- ---- weights

-- a test of texts is the same from the other side
turned : (a b : List ℕ) → bytes_eq a b ≡ false → bytes_eq b a ≡ false
turned a b h = go (bytes_eq b a) refl
  where
    go : (x : Bool) → bytes_eq b a ≡ x → bytes_eq b a ≡ false
    go false e = e
    go true e = absurd (let s : b ≡ a = same b a e in let t = itself a in let u : bytes_eq a b ≡ true = subst (λ (y : List ℕ). bytes_eq a y ≡ true) (sym s) t in cc)

-- the weight by place is the weight by word, where no word has two places
most-named : (words : List (List ℕ)) → IsDistinct bytes_eq words → (k : ℕ) → k < length words → (ops : List (Op Spot)) → All (IsPlaced (length words)) ops
    → most_at k ops ≡ greatest (pushed_even (named words ops)) (get_or words k [])
most-named words d k l [] p = refl
most-named words d k l (Push spot false ∷ ops) p = most-named words d k l ops (λ j z m. p (suc j) z (omega (arith, m)))
most-named words d k l (Negate ∷ ops) p = most-named words d k l ops (λ j z m. p (suc j) z (omega (arith, m)))
most-named words d k l (Conjoin ∷ ops) p = most-named words d k l ops (λ j z m. p (suc j) z (omega (arith, m)))
most-named words d k l (Disjoin ∷ ops) p = most-named words d k l ops (λ j z m. p (suc j) z (omega (arith, m)))
most-named words d k l (Push spot true ∷ ops) p =
    let rest = most-named words d k l ops (λ j z m. p (suc j) z (omega (arith, m))) in
    let same = test (p 0 (Push spot true) (omega arith)) in
    ap (λ (b : Bool). cond b (max spot.weight (most_at k ops)) (most_at k ops)) same
    ∙ ap (λ n. cond (bytes_eq (get_or words k []) (get_or words spot.place [])) (max spot.weight n) n) rest
  where
    order : (i j : ℕ) → i < j → j < length words → bytes_eq (get_or words i []) (get_or words j []) ≡ false
    order i j a b = apart_from_distinct bytes_eq words i j [] d a b

    differ : spot.place < length words → (spot.place ≡ k → ⊥) → bytes_eq (get_or words k []) (get_or words spot.place []) ≡ false
    differ q n = elim (cases_lt spot.place k) [
      | inl h ↦ turned (get_or words spot.place []) (get_or words k []) (order spot.place k h l)
      | inr h ↦ order k spot.place (below h) q
    ]
      where
        below : k ≤ spot.place → k < spot.place
        below h = elim (cases_lt k spot.place) [ inl m ↦ m | inr m ↦ absurd (n (omega (arith, h, m))) ]

    test : spot.place < length words → (spot.place == k) ≡ bytes_eq (get_or words k []) (get_or words spot.place [])
    test q = elim (eqb_tells spot.place k) [
      | inl h ↦ h.0 ∙ sym (ap (λ n. bytes_eq (get_or words k []) (get_or words n [])) h.1 ∙ itself (get_or words k []))
      | inr h ↦ h.0 ∙ sym (differ q h.1)
    ]

-- lists with the same elements are one
same-lists : (a b : List ℕ) → length a ≡ length b → ((k : ℕ) → k < length a → get_or a k 0 ≡ get_or b k 0) → a ≡ b
same-lists [] [] l e = refl
same-lists [] (y ∷ b) l e = absurd (omega (arith, l))
same-lists (x ∷ a) [] l e = absurd (omega (arith, l))
same-lists (x ∷ a) (y ∷ b) l e = let h = e 0 (omega arith) in let t = same-lists a b (omega (arith, l)) (λ k m. e (suc k) (omega (arith, m))) in cc

most-light : (k : ℕ) (words : List (List ℕ)) (ops : List (Op Spot)) → All (λ t. t.weight ≤ 1000) (pushed (named words ops)) → most_at k ops ≤ 1000
most-light k words [] h = omega arith
most-light k words (Push spot false ∷ ops) h = most-light k words ops (λ j z m. h (suc j) z (omega (arith, m)))
most-light k words (Negate ∷ ops) h = most-light k words ops h
most-light k words (Conjoin ∷ ops) h = most-light k words ops h
most-light k words (Disjoin ∷ ops) h = most-light k words ops h
most-light k words (Push spot true ∷ ops) h = go (spot.place == k) (h 0 (term_at words spot) (omega arith)) (most-light k words ops (λ j z m. h (suc j) z (omega (arith, m))))
  where
    go : (b : Bool) → spot.weight ≤ 1000 → most_at k ops ≤ 1000 → cond b (max spot.weight (most_at k ops)) (most_at k ops) ≤ 1000
    go true a b = omega (arith, a, b)
    go false a b = b

-- what is noted operator by operator
pub most-append : (k : ℕ) (a b : List (Op Spot)) → most_at k (a ++ b) ≡ max (most_at k a) (most_at k b)
most-append k [] b = omega arith
most-append k (Push spot false ∷ a) b = most-append k a b
most-append k (Negate ∷ a) b = most-append k a b
most-append k (Conjoin ∷ a) b = most-append k a b
most-append k (Disjoin ∷ a) b = most-append k a b
most-append k (Push spot true ∷ a) b = go (spot.place == k) (most-append k a b)
  where
    go : (c : Bool) → most_at k (a ++ b) ≡ max (most_at k a) (most_at k b) → cond c (max spot.weight (most_at k (a ++ b))) (most_at k (a ++ b)) ≡ max (cond c (max spot.weight (most_at k a)) (most_at k a)) (most_at k b)
    go true h = omega (arith, h)
    go false h = h

-- numbered operators of a query are that query
pub is_query : (laid : List (Op Term)) (words : List (List ℕ)) (weights : List ℕ) (ops : List (Op Spot)) (bare : Bool) → laid ≡ postfix true (tree laid) → length (pushed laid) ≤ 4096 → All (λ t. t.weight ≤ 1000) (pushed laid)
    → AreNumbered laid words ops → length weights ≡ length words → ((k : ℕ) → k < length words → get_or weights k 0 ≡ most_at k ops) → bare ≡ top_truth (truths_of (λ _. 0) ops []) → AreQuery words weights ops bare
is_query laid words weights ops bare e few light h n w b = record {
  spelled = spelled;
  words_are = h.words_are ∙ ap (λ ts. distinct (keys_of ts)) (ap pushed e ∙ pushed-postfix true (tree laid)) ∙ ap (λ l. words_of (tree l)) (sym h.ops_are);
  weights_are = same-lists weights (map (weight (tree (named words ops))) words) (n ∙ sym (length-map words (weight (tree (named words ops))))) (λ k l. w k (omega (arith, l, n)) ∙ weighs k (omega (arith, l, n)) ∙ sym (get_or-map (weight (tree (named words ops))) words k [] 0 (omega (arith, l, n))));
  placed = h.placed;
  few = omega (arith, few, ap length h.words_are, length-with_all [] (keys_of (pushed laid)), length-map (pushed laid) (λ (t : Term). t.key));
  light = λ k d l. let m = most-light k words ops (subst (λ x. All (λ t. t.weight ≤ 1000) (pushed x)) (sym h.ops_are) light) in let q = w k (omega (arith, l, n)) in subst (λ x. x ≤ 1000) (sym (get_any weights k d 0 l ∙ q)) m;
  bare_is = b ∙ truth-named (λ _. 0) (λ _. 0) words ops spelled h.placed (λ n l. refl);
}
  where
    spelled : named words ops ≡ postfix true (tree (named words ops))
    spelled = h.ops_are ∙ e ∙ ap (λ l. postfix true (tree l)) (sym h.ops_are)

    apart : IsDistinct bytes_eq words
    apart = subst (IsDistinct bytes_eq) (sym h.words_are) (IsDistinct-distinct (keys_of (pushed laid)))

    weighs : (k : ℕ) → k < length words → most_at k ops ≡ weight (tree (named words ops)) (get_or words k [])
    weighs k l = most-named words apart k l ops h.placed ∙ ap (λ ts. greatest ts (get_or words k [])) (ap pushed_even spelled ∙ pushed_even-postfix true (tree (named words ops)))

    get_any : (xs : List ℕ) (k d z : ℕ) → k < length xs → get_or xs k d ≡ get_or xs k z
    get_any [] k d z l = absurd (omega (arith, l))
    get_any (x ∷ xs) zero d z l = refl
    get_any (x ∷ xs) (suc k) d z l = get_any xs k d z (omega (arith, l))

pub scored-map : (p f : List ℕ → ℕ) (words : List (List ℕ)) → scored (map p words) (map f words) ≡ sum_by (λ w. p w * f w) words
scored-map p f [] = refl
scored-map p f (w ∷ words) = ap (λ n. p w * f w + n) (scored-map p f words) ∙ sym (sum_by-cons (λ w. p w * f w) w words)

scored-suc : (weights : List ℕ) (counts : List ℕ) (i : ℕ) → i < length weights → i < length counts
    → scored (drop i weights) (drop i counts) ≡ get_or weights i 0 * get_or counts i 0 + scored (drop (suc i) weights) (drop (suc i) counts)
scored-suc [] counts i h k = absurd (omega (arith, h))
scored-suc (b ∷ weights) [] i h k = absurd (omega (arith, k))
scored-suc (b ∷ weights) (n ∷ counts) zero h k = refl
scored-suc (b ∷ weights) (n ∷ counts) (suc i) h k = scored-suc weights counts i (omega (arith, h)) (omega (arith, k))

-- one count more
pub scored-step : (weights : List ℕ) (counts : List ℕ) (i : ℕ) → i < length weights → i < length counts
    → scored (drop i weights) (drop i counts) ≡ get_or weights i 0 * get_or counts i 0 + scored (drop (i + 1) weights) (drop (i + 1) counts)
scored-step weights counts i h k = rw add-one (scored-suc weights counts i h k)

-- the truth by counts, where these are the frequencies of the words
pub truth-counts : (counts : List ℕ) (often : List ℕ → ℕ) (words : List (List ℕ)) (ops : List (Op Spot)) → named words ops ≡ postfix true (tree (named words ops)) → All (IsPlaced (length words)) ops
    → counts ≡ map often words → top_truth (truths_of (count_of counts) ops []) ≡ matches (tree (named words ops)) often
truth-counts counts often words ops e p c = truth-named (count_of counts) often words ops e p (λ n l. ap (λ x. get_or x n.place 0) c ∙ get_or-map often words n.place [] 0 l)

-- one operator more is noted
pub noted-more : (k : ℕ) (ops : List (Op Spot)) (i : ℕ) (d : Op Spot) (now was : ℕ) → i < length ops → now ≡ max was (most_at k (get_or ops i d ∷ [])) → was ≡ most_at k (take i ops) → now ≡ most_at k (take (i + 1) ops)
noted-more k ops i d now was l e h = e ∙ ap (λ n. max n (most_at k (get_or ops i d ∷ []))) h ∙ sym (most-append k (take i ops) (get_or ops i d ∷ [])) ∙ ap (most_at k) (sym (take_more ops i d l))
