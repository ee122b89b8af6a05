-- When what facts say of a document changes.
use Rattle.std.specs.Prelude.{◌≡◌, ◌⊎◌, ℕ, ◌<◌, ◌≤◌, ◌&&◌, true, cond, if◌then◌else◌, nat_le, nat_lt, max, List, [], ◌∷◌, ◌++◌, get_or, filter, All, Contains, Option, Some, None, IsPermutation, refl}
use Rattle.std.specs.List.{filter_map, list_any}
use Rattle.std.proofs.Common.{arith, ap, sym, ◌∙◌, subst, inl, inr}
use Rattle.std.proofs.lemmas.Bool.{cases_lt}
use Rattle.std.proofs.lemmas.Bool.Decides.{nat_tests}
use Rattle.std.proofs.lemmas.List.Elements.{All-head, All-tail, Contains-get_or, Contains-push_cases}
use Rattle.std.proofs.lemmas.List.Sorted.{Contains-permutation, IsPermutation-sym}
use Rattle.lists_postings.specs.Events.{ChangesAt, NoneIn}
use Rattle.lists_postings.specs.declared.event.Event.{Event}
use Rattle.lists_postings.proofs.Elements.{filter-from}
use Rattle.query_lang.specs.Grammar.{Query}
use Rattle.query_lang.specs.Meaning.{matches, score, words_of}
use Rattle.query_lang.proofs.Deciding.{agreeing, matches-same, score-same}
use Rattle.query_eval.specs.Facts.{of_doc, covers, alive_now, score_if, IsScored, AreEvents}
use Rattle.query_eval.specs.Hits.{found}
use Rattle.query_eval.specs.declared.facts.Fact.{Fact}
use Rattle.query_eval.proofs.FoundLemmas.{get-any}

-- one event more, or none
pub record IsNoted (old new : List Event) (f : Fact) (n a b : ℕ) : Type 0 where
  pub kept : (x : Event) → Contains old x → Contains new x
  pub only : (x : Event) → Contains new x → Contains old x ⊎ ((a ≤ x.at.seconds) × (x.at.seconds < b))
  pub there : a ≤ n → n < b → (x : Event) × Contains new x × (x.doc ≡ f.doc) × (x.at.seconds ≡ n)

-- the events of one fact more
pub event-more : (facts : List Fact) (f : Fact) (a b n : ℕ) (old mid new : List Event) → n ≡ max f.span.from a → a < b → AreEvents facts a b old → IsNoted old mid f n a b → IsNoted mid new f f.span.to a b → AreEvents (facts ++ f ∷ []) a b new
event-more facts f a b n old mid new m o h p q = record {
  inside = λ x c. elim (q.only x c) [ inr i ↦ i | inl d ↦ elim (p.only x d) [ inr i ↦ i | inl e ↦ h.inside x e ] ];
  begun = λ g c l. elim (Contains-push_cases facts f g c) [
    | inl d ↦ (let (x, e, i, j) = h.begun g d l in (x, q.kept x (p.kept x e), i, j))
    | inr s ↦ (let k : f.span.from < b = omega (arith, l, ap {B = ℕ} (λ z. z.span.from) s) in let (x, e, i, j) = p.there (bigger m) (smaller m k) in (x, q.kept x e, i ∙ ap (λ z. z.doc) s, j ∙ m ∙ ap (λ z. max z.span.from a) s))
  ];
  ended = λ g c l r. elim (Contains-push_cases facts f g c) [
    | inl d ↦ (let (x, e, i, j) = h.ended g d l r in (x, q.kept x (p.kept x e), i, j))
    | inr s ↦ (let k : f.span.to ≡ g.span.to = ap {B = ℕ} (λ z. z.span.to) s in let (x, e, i, j) = q.there (omega (arith, l, k)) (omega (arith, r, k)) in (x, e, i ∙ ap (λ z. z.doc) s, j ∙ k))
  ];
}
  where
    bigger : n ≡ max f.span.from a → a ≤ n
    bigger m = grind (arith, nat_tests)

    smaller : n ≡ max f.span.from a → f.span.from < b → n < b
    smaller m k = grind (arith, nat_tests)

pub events-sorted : (facts : List Fact) (a b : ℕ) (events sorted : List Event) → IsPermutation events sorted → AreEvents facts a b events → AreEvents facts a b sorted
events-sorted facts a b events sorted p h = record {
  inside = λ x c. h.inside x (Contains-permutation sorted events x (IsPermutation-sym events sorted p) c);
  begun = λ f c l. let (x, e, i, j) = h.begun f c l in (x, Contains-permutation events sorted x p e, i, j);
  ended = λ f c l r. let (x, e, i, j) = h.ended f c l r in (x, Contains-permutation events sorted x p e, i, j);
}

filter-same : (e t : ℕ) (facts : List Fact) → All (λ f. covers e f ≡ covers t f) facts → filter (covers e) facts ≡ filter (covers t) facts
filter-same e t [] h = refl
filter-same e t (f ∷ facts) h =
    rw (All-head (λ f. covers e f ≡ covers t f) f facts h) (ap (λ l. cond (covers t f) (f ∷ l) l) (filter-same e t facts (All-tail (λ f. covers e f ≡ covers t f) f facts h)))

filter-none : (t : ℕ) (facts : List Fact) → ((f : Fact) → Contains facts f → covers t f ≡ true → ⊥) → filter (covers t) facts ≡ []
filter-none t facts h = go (filter (covers t) facts) refl
  where
    go : (kept : List Fact) → filter (covers t) facts ≡ kept → kept ≡ []
    go [] e = refl
    go (f ∷ kept) e = let (c, y) = filter-from (covers t) f facts (subst (λ l. Contains l f) (sym e) (Contains-get_or (f ∷ kept) 0 f (omega arith))) in absurd (h f c y)

-- facts that are the same at two times give one score
score-still : (query : Query) (facts : List Fact) (d e t : ℕ) (f : ℕ → ℕ → Option ℕ) → IsScored query facts f → filter (covers e) (filter (of_doc d) facts) ≡ filter (covers t) (filter (of_doc d) facts) → f d e ≡ f d t
score-still query facts d e t f h s =
    let (one, tell, is) = h d e in
    let (other, tells, so) = h d t in
    let g : List Fact = filter (of_doc d) facts in
    let alive : alive_now e g ≡ alive_now t g = ap (λ l. list_any (λ x. x.alive) l) s in
    let same : All (λ w. one w ≡ other w) (words_of query) =
    (λ k z l. ap one (get-any (words_of query) k z [] l) ∙ sym (tell k l) ∙ ap (λ l. found (filter_map (λ x. x.hit) l) k) s ∙ tells k l ∙ ap other (get-any (words_of query) k [] z l)) in
    is
    ∙ ap (λ q. score_if q query one) alive
    ∙ ap (λ m. if (alive_now t g && m) then Some (score query one) else None) (matches-same one other query (agreeing one other query same))
    ∙ ap (λ n. if (alive_now t g && matches query other) then Some n else None) (score-same one other query same)
    ∙ sym so

-- where no fact holds, nothing is scored
score-none : (query : Query) (facts : List Fact) (d t : ℕ) (f : ℕ → ℕ → Option ℕ) → IsScored query facts f → filter (covers t) (filter (of_doc d) facts) ≡ [] → f d t ≡ None
score-none query facts d t f h s = let (often, tell, is) = h d t in is ∙ ap (λ q. score_if q query often) (ap (λ l. list_any (λ x. x.alive) l) s)

-- at the events of a window what is scored changes
pub events-change : (query : Query) (facts : List Fact) (a b : ℕ) (events : List Event) (f : ℕ → ℕ → Option ℕ) → IsScored query facts f → AreEvents facts a b events → ChangesAt events a b f
events-change query facts a b events f h w = record {
  inside = w.inside;
  still = λ d e t x l y n. score-still query facts d e t f h (filter-same e t (filter (of_doc d) facts) (λ k z m. let g = get_or (filter (of_doc d) facts) k z in let (c, i) = filter-from (of_doc d) g facts (Contains-get_or (filter (of_doc d) facts) k z m) in covered d e t g x l y n c (mine d g i)));
  none = λ d t x y n. score-none query facts d t f h (filter-none t (filter (of_doc d) facts) (λ g c q. let (m, i) = filter-from (of_doc d) g facts c in uncovered d t g x y n m (mine d g i) q));
}
  where
    mine : (d : ℕ) (g : Fact) → of_doc d g ≡ true → g.doc.0 ≡ d
    mine d g i = grind (arith, nat_tests)

    covered : (d e t : ℕ) (g : Fact) → a ≤ e → e ≤ t → t < b → NoneIn events d e t → Contains facts g → g.doc.0 ≡ d → covers e g ≡ covers t g
    covered d e t g x l y n c i = ap (λ q. q && nat_lt e g.span.to) (froms (cases_lt e g.span.from) (cases_lt t g.span.from)) ∙ ap (λ q. nat_le g.span.from t && q) (tos (cases_lt e g.span.to) (cases_lt t g.span.to))
      where
        starts : e < g.span.from → g.span.from ≤ t → ⊥
        starts p q = let (z, m, j, o) = w.begun g c (omega (arith, q, y)) in let u : max g.span.from a ≡ g.span.from = grind (arith, nat_tests) in n z m (ap (λ v. v.0) j ∙ i) (omega (arith, o, u, p)) (omega (arith, o, u, q))

        ends : e < g.span.to → g.span.to ≤ t → ⊥
        ends p q = let (z, m, j, o) = w.ended g c (omega (arith, x, p)) (omega (arith, q, y)) in n z m (ap (λ v. v.0) j ∙ i) (omega (arith, o, p)) (omega (arith, o, q))

        froms : (e < g.span.from) ⊎ (g.span.from ≤ e) → (t < g.span.from) ⊎ (g.span.from ≤ t) → nat_le g.span.from e ≡ nat_le g.span.from t
        froms (inl p) (inl q) = grind (arith, nat_tests)
        froms (inl p) (inr q) = absurd (starts p q)
        froms (inr p) q = grind (arith, nat_tests)

        tos : (e < g.span.to) ⊎ (g.span.to ≤ e) → (t < g.span.to) ⊎ (g.span.to ≤ t) → nat_lt e g.span.to ≡ nat_lt t g.span.to
        tos (inl p) (inl q) = grind (arith, nat_tests)
        tos (inl p) (inr q) = absurd (ends p q)
        tos (inr p) q = grind (arith, nat_tests)

    uncovered : (d t : ℕ) (g : Fact) → a ≤ t → t < b → ((x : Event) → Contains events x → x.doc.0 ≡ d → x.at.seconds ≤ t → ⊥) → Contains facts g → g.doc.0 ≡ d → covers t g ≡ true → ⊥
    uncovered d t g x y n c i q =
        let (l, r) = between q in
        let (z, m, j, o) = w.begun g c (omega (arith, l, y)) in
        n z m (ap (λ v. v.0) j ∙ i) (at-most o l)
      where
        between : covers t g ≡ true → (g.span.from ≤ t) × (t < g.span.to)
        between q = (grind (arith, nat_tests), grind (arith, nat_tests))

        at-most : {z : ℕ} → z ≡ max g.span.from a → g.span.from ≤ t → z ≤ t
        at-most o l = grind (arith, nat_tests)
