-- Texts that are read one by one, and the first that isn't UTF-8.
use Rattle.std.proofs.Common.{◌≡◌, ◌⊎◌, inl, inr, ℕ, suc, ◌+◌, ◌<◌, ◌≤◌, ◌==◌, Bool, false, cond, IsTrue, ◌↔◌, List, [], ◌∷◌, ◌++◌, length, take, drop, map, get_or, All, Option, refl, ap, sym, subst, ◌∙◌, arith}
use Rattle.std.proofs.Math.Seq.{drop-cons}
use Rattle.std.proofs.lemmas.Bool.{eq-eqb, cases_lt}
use Rattle.std.proofs.lemmas.List.{map-append, take-append-drop, take_more}
use Rattle.std.proofs.lemmas.List.Elements.{All-nil, All-cons, All-head, All-tail, All-append, All-push, All-weaker, All-map, filter-append, Contains-append_left, Contains-append_right, Contains-push}
use Rattle.base_types.specs.declared.ids.DocId.{DocId}
use Rattle.base_types.specs.declared.time.Time.{Time}
use Rattle.base_types.specs.declared.text_place.TextPlace.{TextPlace}
use Rattle.lists_postings.specs.Lists.{EachNext}
use Rattle.lists_versions.specs.declared.change.Change.{Change}
use Rattle.lists_versions.specs.Changes.{changes_of, mapped}
use Rattle.lists_versions.proofs.Mapped.{changes_of-mapped}
use Rattle.lists_index.specs.Loads.{Loaded}
use Rattle.archive_entries.specs.Texts.{text_in, bare, nothing}
use Rattle.archive_check.specs.Verdicts.{with_texts, IsText, IsUpTo, IsFirstBad, AreInOrder}
use Rattle.archive_check.specs.Checking.{IsLoadedBehind, AreAllLoaded, IsStopped}

-- ---- the first text that isn't UTF-8

bad_front : (front back : List (Change (List ℕ))) (doc : DocId) (at : Time) → All IsText front → IsFirstBad back doc at → IsFirstBad (front ++ back) doc at
bad_front front back doc at good b = record {
  change = b.change;
  among = Contains-append_right front back b.change b.among;
  doc_is = b.doc_is;
  at_is = b.at_is;
  bad = b.bad;
  first = All-append (λ other. ¬ (IsText other) → IsUpTo b.change other) front back (All-weaker IsText (λ other. ¬ (IsText other) → IsUpTo b.change other) (λ other text bad. absurd (bad text)) front good) b.first;
}

pub bad_one : (c : Change (List ℕ)) → ¬ (IsText c) → IsFirstBad (c ∷ []) c.doc c.at
bad_one c bad =
    let U : Change (List ℕ) → Type 0 = λ other. ¬ (IsText other) → IsUpTo c other in
    record {
      change = c;
      among = Contains-push [] c;
      doc_is = refl;
      at_is = refl;
      bad = bad;
      first = All-cons U c [] (λ b. inr (refl, omega arith)) (All-nil U);
    }

-- one more text, behind the first or UTF-8
pub bad_keep : (texts : List (Change (List ℕ))) (c : Change (List ℕ)) (doc : DocId) (at : Time)
    → (¬ (IsText c) → (doc.0 < c.doc.0) ⊎ ((doc.0 ≡ c.doc.0) × (at.seconds ≤ c.at.seconds))) → IsFirstBad texts doc at → IsFirstBad (texts ++ c ∷ []) doc at
bad_keep texts c doc at behind b = record {
  change = b.change;
  among = Contains-append_left texts (c ∷ []) b.change b.among;
  doc_is = b.doc_is;
  at_is = b.at_is;
  bad = b.bad;
  first = All-push (λ other. ¬ (IsText other) → IsUpTo b.change other) texts c b.first
      (λ bad.
      let D : DocId → Type 0 = λ d. (d.0 < c.doc.0) ⊎ ((d.0 ≡ c.doc.0) × (at.seconds ≤ c.at.seconds)) in
      let T : Time → Type 0 = λ t. (b.change.doc.0 < c.doc.0) ⊎ ((b.change.doc.0 ≡ c.doc.0) × (t.seconds ≤ c.at.seconds)) in
      subst T b.at_is (subst D b.doc_is (behind bad)));
}

-- one more text, in front of the first, which isn't UTF-8
abbrev pub Precedes : Change (List ℕ) → DocId → Time → Type 0
Precedes c doc at = (c.doc.0 < doc.0) ⊎ ((c.doc.0 ≡ doc.0) × (c.at.seconds < at.seconds))

up_to : (c x y : Change (List ℕ)) → Precedes c x.doc x.at → IsUpTo x y → IsUpTo c y
up_to c x y (inl one) (inl other) = inl (omega (arith, one, other))
up_to c x y (inl one) (inr other) = inl (omega (arith, one, other.0))
up_to c x y (inr one) (inl other) = inl (omega (arith, one.0, other))
up_to c x y (inr one) (inr other) = inr (omega (arith, one.0, other.0), omega (arith, one.1, other.1))

pub bad_new : (texts : List (Change (List ℕ))) (c : Change (List ℕ)) (doc : DocId) (at : Time) → ¬ (IsText c) → Precedes c doc at → IsFirstBad texts doc at → IsFirstBad (texts ++ c ∷ []) c.doc c.at
bad_new texts c doc at bad before b =
    let U : Change (List ℕ) → Type 0 = λ other. ¬ (IsText other) → IsUpTo c other in
    let D : DocId → Type 0 = λ d. Precedes c d at in
    let T : Time → Type 0 = λ t. Precedes c b.change.doc t in
    let there : Precedes c b.change.doc b.change.at = subst T b.at_is (subst D b.doc_is before) in
    record {
      change = c;
      among = Contains-push texts c;
      doc_is = refl;
      at_is = refl;
      bad = bad;
      first = All-push U texts c (All-weaker (λ other. ¬ (IsText other) → IsUpTo b.change other) U (λ other behind ill. up_to c b.change other there (behind ill)) texts b.first) (λ ill. inr (refl, omega arith));
    }

-- texts with those from the first that isn't UTF-8 on
pub bad_among : (tells : Type 0) (journal : List ℕ) (changes : List (Change TextPlace)) (i : ℕ) (c : Change TextPlace) (doc : DocId) (at : Time)
    → IsStopped tells journal changes i → c ≡ get_or changes i c → (rest : List (Change TextPlace)) → rest ≡ drop (suc i) changes
    → tells → IsFirstBad (with_texts journal (c ∷ rest)) doc at → IsFirstBad (with_texts journal changes) doc at
bad_among tells journal changes i c doc at stop is rest behind told b =
    let whole : take i changes ++ (c ∷ rest) ≡ changes =
    ap (λ (l : List (Change TextPlace)). take i changes ++ l) (ap (λ (l : List (Change TextPlace)). c ∷ l) behind ∙ ap (λ (x : Change TextPlace). x ∷ drop (suc i) changes) is ∙ sym (drop-cons changes i c stop.within))
    ∙ take-append-drop i changes in
    let F : List (Change (List ℕ)) → Type 0 = λ l. IsFirstBad l doc at in
    subst F (sym (map-append (mapped (text_in journal)) (take i changes) (c ∷ rest)) ∙ ap (with_texts journal) whole) (bad_front (with_texts journal (take i changes)) (with_texts journal (c ∷ rest)) doc at (stop.utf8 told) b)

-- ---- the changes of a document rise

before_mid : {A : Type 0} (c : Change A) (cs ys : List (Change A)) → EachNext (λ a b. a.at.seconds < b.at.seconds) (cs ++ c ∷ ys) → All (λ d. d.at.seconds < c.at.seconds) cs
before_mid c [] ys each = All-nil (λ d. d.at.seconds < c.at.seconds)
before_mid c (d ∷ []) ys each = All-cons (λ x. x.at.seconds < c.at.seconds) d [] each.0 (All-nil (λ x. x.at.seconds < c.at.seconds))
before_mid {A} c (d ∷ e ∷ cs) ys each =
    let rest = before_mid c (e ∷ cs) ys each.1 in
    All-cons (λ x. x.at.seconds < c.at.seconds) d (e ∷ cs) (omega (arith, each.0, All-head (λ (x : Change A). x.at.seconds < c.at.seconds) e cs rest)) rest

-- so each comes later than the earlier ones
earlier : {A : Type 0} (changes : List (Change A)) (i : ℕ) (c : Change A) → AreInOrder changes → i < length changes → c ≡ get_or changes i c → All (λ d. d.at.seconds < c.at.seconds) (changes_of c.doc (take i changes))
earlier {A} changes i c order within is =
    let E : List (Change A) → Type 0 = λ l. EachNext (λ a b. a.at.seconds < b.at.seconds) l in
    let whole : changes ≡ take i changes ++ (c ∷ drop (suc i) changes) =
    sym (take-append-drop i changes) ∙ ap (λ (l : List (Change A)). take i changes ++ l) (drop-cons changes i c within ∙ ap (λ (x : Change A). x ∷ drop (suc i) changes) (sym is)) in
    let here : changes_of c.doc (c ∷ drop (suc i) changes) ≡ c ∷ changes_of c.doc (drop (suc i) changes) =
    ap (λ (b : Bool). cond b (c ∷ changes_of c.doc (drop (suc i) changes)) (changes_of c.doc (drop (suc i) changes))) (eq-eqb c.doc.0 c.doc.0 refl) in
    let split : changes_of c.doc changes ≡ changes_of c.doc (take i changes) ++ (c ∷ changes_of c.doc (drop (suc i) changes)) =
    ap (changes_of c.doc) whole ∙ filter-append (λ d. d.doc.0 == c.doc.0) (take i changes) (c ∷ drop (suc i) changes) ∙ ap (λ (l : List (Change A)). changes_of c.doc (take i changes) ++ l) here in
    before_mid c (changes_of c.doc (take i changes)) (changes_of c.doc (drop (suc i) changes)) (subst E split (order c.doc))

-- and so with other things held
late_same : {A B : Type 0} (doc : DocId) (t : ℕ) (xs : List (Change A)) (ys : List (Change B)) → map bare xs ≡ map bare ys → All (λ d. d.at.seconds < t) (changes_of doc ys) → All (λ d. d.at.seconds < t) (changes_of doc xs)
late_same {A} {B} doc t xs ys same late =
    let L : List (Change (Unit {0})) → Type 0 = λ l. All (λ d. d.at.seconds < t) l in
    let there : All (λ d. d.at.seconds < t) (map (bare {A = B}) (changes_of doc ys)) = All-map (λ (d : Change (Unit {0})). d.at.seconds < t) (bare {A = B}) (changes_of doc ys) late in
    let lists : map (bare {A = B}) (changes_of doc ys) ≡ map (bare {A = A}) (changes_of doc xs) =
    sym (changes_of-mapped (nothing {A = B}) doc ys) ∙ ap (changes_of doc) (sym same) ∙ changes_of-mapped (nothing {A = A}) doc xs in
    back (changes_of doc xs) (subst L lists there)
  where
    back : (zs : List (Change A)) → All (λ d. d.at.seconds < t) (map (bare {A = A}) zs) → All (λ d. d.at.seconds < t) zs
    back [] all = All-nil (λ d. d.at.seconds < t)
    back (z ∷ zs) all =
        All-cons (λ d. d.at.seconds < t) z zs (All-head (λ (d : Change (Unit {0})). d.at.seconds < t) (bare z) (map (bare {A = A}) zs) all) (back zs (All-tail (λ d. d.at.seconds < t) (bare z) (map (bare {A = A}) zs) all))

-- ---- loading

pub comes_behind : (tells : Type 0) (journal : List ℕ) (changes : List (Change TextPlace)) (i : ℕ) (c : Change TextPlace) (loader : Loaded) → AreInOrder changes → i < length changes → c ≡ get_or changes i c
    → (r : AreAllLoaded tells journal (take i changes) loader) → All (λ d. d.at.seconds < c.at.seconds) (changes_of c.doc r.texts)
comes_behind tells journal changes i c loader order within is r = late_same c.doc c.at.seconds r.texts (take i changes) r.alike (earlier changes i c order within is)

pub loaded_more : (tells : Type 0) (journal : List ℕ) (changes : List (Change TextPlace)) (i : ℕ) (c : Change TextPlace) (loader after : Loaded) → i < length changes → c ≡ get_or changes i c
    → (r : AreAllLoaded tells journal (take i changes) loader) → IsLoadedBehind tells journal r.texts c after → AreAllLoaded tells journal (take (i + 1) changes) after
loaded_more tells journal changes i c loader after within is r l =
    let new : Change (List ℕ) = record { doc = c.doc; at = c.at; held = l.text } in
    let more : take (i + 1) changes ≡ take i changes ++ c ∷ [] = take_more changes i c within ∙ ap (λ (x : Change TextPlace). take i changes ++ x ∷ []) (sym is) in
    let same : bare new ≡ bare c = ap (λ (h : Option (Unit {0})). record { doc = c.doc; at = c.at; held = h }) l.some in
    record {
      texts = r.texts ++ new ∷ [];
      loads = l.loads;
      alike = map-append bare r.texts (new ∷ []) ∙ ap (λ (x : List (Change (Unit {0}))). x ++ bare new ∷ []) r.alike ∙ ap (λ (x : Change (Unit {0})). map bare (take i changes) ++ x ∷ []) same
          ∙ sym (map-append bare (take i changes) (c ∷ [])) ∙ ap (map bare) (sym more);
      utf8 = All-push IsText r.texts new r.utf8 l.utf8;
      are = λ told. ap (λ (x : List (Change (List ℕ))). x ++ new ∷ []) (r.are told) ∙ ap (λ (h : Option (List ℕ)). with_texts journal (take i changes) ++ record { doc = c.doc; at = c.at; held = h } ∷ []) (l.is told)
          ∙ sym (map-append (mapped (text_in journal)) (take i changes) (c ∷ [])) ∙ ap (with_texts journal) (sym more);
    }

-- ---- one change more, where the first that isn't UTF-8 is known

pub next_text : (journal : List ℕ) (first : Change TextPlace) (changes : List (Change TextPlace)) (i : ℕ) (c : Change TextPlace) → i < length changes → c ≡ get_or changes i c
    → with_texts journal (first ∷ take i changes) ++ mapped (text_in journal) c ∷ [] ≡ with_texts journal (first ∷ take (i + 1) changes)
next_text journal first changes i c within is =
    sym (map-append (mapped (text_in journal)) (first ∷ take i changes) (c ∷ []))
    ∙ ap (λ (l : List (Change TextPlace)). with_texts journal (first ∷ l)) (ap (λ (x : Change TextPlace). take i changes ++ x ∷ []) is ∙ sym (take_more changes i c within))

-- it isn't in front of the first so far
pub keeps_behind : (texts : List (Change (List ℕ))) (c : Change (List ℕ)) (doc : DocId) (at : Time) (b : Bool) → (IsTrue b ↔ Precedes c doc at) → b ≡ false → IsFirstBad texts doc at → IsFirstBad (texts ++ c ∷ []) doc at
keeps_behind texts c doc at b test not_first first = bad_keep texts c doc at (λ bad. go (cases_lt c.doc.0 doc.0) (cases_lt doc.0 c.doc.0) (cases_lt c.at.seconds at.seconds)) first
  where
    never : Precedes c doc at → ⊥
    never p = let t = test.1 p in absurd cc

    go : (c.doc.0 < doc.0) ⊎ (doc.0 ≤ c.doc.0) → (doc.0 < c.doc.0) ⊎ (c.doc.0 ≤ doc.0) → (c.at.seconds < at.seconds) ⊎ (at.seconds ≤ c.at.seconds) → (doc.0 < c.doc.0) ⊎ ((doc.0 ≡ c.doc.0) × (at.seconds ≤ c.at.seconds))
    go (inl lt) o t = absurd (never (inl lt))
    go (inr ge) (inl lt) t = inl lt
    go (inr ge) (inr le) (inl lt) = absurd (never (inr (omega (arith, ge, le), lt)))
    go (inr ge) (inr le) (inr late) = inr (omega (arith, ge, le), late)

-- it is UTF-8
pub keeps_text : (texts : List (Change (List ℕ))) (c : Change (List ℕ)) (doc : DocId) (at : Time) → IsText c → IsFirstBad texts doc at → IsFirstBad (texts ++ c ∷ []) doc at
keeps_text texts c doc at text first = bad_keep texts c doc at (λ bad. absurd (bad text)) first
