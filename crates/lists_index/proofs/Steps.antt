-- What one change more makes of the frequencies, the tails and the weights.
use Rattle.std.proofs.Common.{◌≡◌, ◌≢◌, ◌⊎◌, ℕ, ◌+◌, ◌^◌, ◌<◌, ◌≤◌, ◌==◌, true, false, cond, List, [], ◌∷◌, ◌++◌, append-nil, slice_get, Option, Some, All, refl, ap, sym, subst, ◌∙◌, arith, inl, inr}
use Rattle.std.proofs.lemmas.Bool.{eq-eqb, cases_lt, lt-leb, le-leb}
use Rattle.std.proofs.lemmas.Bool.Decides.{eqb_tells}
use Rattle.std.proofs.lemmas.List.Elements.{filter-append, All-weaker, All-pop}
use Rattle.base_types.specs.declared.ids.DocId.{DocId}
use Rattle.lists_versions.specs.declared.change.Change.{Change}
use Rattle.lists_versions.specs.Changes.{changes_of, held_at}
use Rattle.lists_versions.specs.Laws.{HeldAsChangesCome}
use Rattle.text_words.specs.Words.{with_all}
use Rattle.lists_tails.specs.Turns.{turned_one, IsTurned}
use Rattle.lists_tails.proofs.Followed.{list-same}
use Rattle.lists_index.specs.Words.{keys_in, words_in, count_of, often}
use Rattle.lists_index.specs.Indexing.{IndexValue, AreOpen, AreIndexed, ComesLater}
use Rattle.lists_index.proofs.WordSteps.{words_in-push, words-kept}

module _ (law : HeldAsChangesCome (List ℕ)) (changes : List (Change (List ℕ))) (c : Change (List ℕ)) (early : ComesLater changes c) (weights : ℕ → ℕ) (weights_are : (w : ℕ) → weights w ≡ count_of (slice_get (words_in (changes ++ c ∷ [])) w) c.held) where
  not_later : (t : ℕ) → c.at.seconds ≤ t + 1 → All (λ d. d.at.seconds ≤ t) (changes_of c.doc changes)
  not_later t le = All-weaker (λ (d : Change (List ℕ)). d.at.seconds < c.at.seconds) (λ d. d.at.seconds ≤ t) (λ d m. omega (arith, m, le)) _ early

  -- the change turns the frequency of each word
  pub often-turned : (w d t : ℕ) → turned_one (often changes w) c.doc.0 c.at.seconds (weights w) d t ≡ often (changes ++ c ∷ []) w d t
  often-turned w d t = go (eqb_tells d c.doc.0) (cases_lt t c.at.seconds)
    where
      doc : DocId
      doc = record { 0 = d }

      word : Option (List ℕ)
      word = slice_get (words_in (changes ++ c ∷ [])) w

      as_before : held_at doc t (changes ++ c ∷ []) ≡ held_at doc t changes → often changes w d t ≡ often (changes ++ c ∷ []) w d t
      as_before same = sym (words-kept changes c w d t) ∙ ap (count_of word) (sym same)

      go : ((d == c.doc.0 ≡ true) × (d ≡ c.doc.0)) ⊎ ((d == c.doc.0 ≡ false) × (d ≢ c.doc.0)) → (t < c.at.seconds) ⊎ (c.at.seconds ≤ t) → turned_one (often changes w) c.doc.0 c.at.seconds (weights w) d t ≡ often (changes ++ c ∷ []) w d t
      go (inr a) p = rw a.0 (as_before (law.other doc t changes c (λ q. a.1 (sym q))))
      go (inl a) (inl p) = rw (a.0, lt-leb c.at.seconds t p) (as_before (law.later doc t changes c p))
      go (inl a) (inr p) =
          let L : ℕ → Type 0 = λ z. All (λ (y : Change (List ℕ)). y.at.seconds ≤ t) (changes_of (record { 0 = z }) changes) in
          rw (a.0, le-leb c.at.seconds t p) (weights_are w ∙ sym (ap (count_of word) (law.last doc t changes c (sym a.1) (subst L (sym a.1) (not_later t (omega (arith, p)))) p)))

  -- the weights of its document are those of its text
  open-here : AreOpen (changes ++ c ∷ []) c.doc.0 weights
  open-here w t before =
      let mine : changes_of c.doc (changes ++ c ∷ []) ≡ changes_of c.doc changes ++ c ∷ [] =
      filter-append (λ d. d.doc.0 == c.doc.0) changes (c ∷ []) ∙ ap (λ y. changes_of c.doc changes ++ cond y (c ∷ []) []) (eq-eqb c.doc.0 c.doc.0 refl) in
      let parts = All-pop (λ (y : Change (List ℕ)). y.at.seconds ≤ t) _ (changes_of c.doc changes) (Some c) mine before in
      weights_are w ∙ sym (ap (count_of (slice_get (words_in (changes ++ c ∷ [])) w)) (law.last c.doc t changes c refl parts.0 parts.1))

  -- and those of other documents stay
  open-other : (d : ℕ) (others : ℕ → ℕ) → d ≢ c.doc.0 → AreOpen changes d others → AreOpen (changes ++ c ∷ []) d others
  open-other d others away current w t before =
      let doc : DocId = record { 0 = d } in
      let C : List (Change (List ℕ)) → Type 0 = λ cs. All (λ (y : Change (List ℕ)). y.at.seconds ≤ t) cs in
      let off : c.doc.0 == d ≡ false = other c.doc.0 d (λ q. away (sym q)) in
      let same : changes_of doc (changes ++ c ∷ []) ≡ changes_of doc changes =
      filter-append (λ y. y.doc.0 == d) changes (c ∷ []) ∙ ap (λ y. changes_of doc changes ++ cond y (c ∷ []) []) off ∙ append-nil (changes_of doc changes) in
      current w t (subst C same before) ∙ sym (words-kept changes c w d t) ∙ ap (count_of (slice_get (words_in (changes ++ c ∷ [])) w)) (sym (law.other doc t changes c (λ q. away (sym q))))
    where
      other : (m n : ℕ) → m ≢ n → m == n ≡ false
      other m n k = elim (eqb_tells m n) [ inl y ↦ absurd (k y.1) | inr y ↦ y.0 ]

  -- whoever keeps the weights so goes on
  pub open-on : (was now : ℕ → ℕ → ℕ) → ((d w : ℕ) → now d w ≡ cond (d == c.doc.0) (weights w) (was d w)) → ((d : ℕ) → AreOpen changes d (was d)) → (d : ℕ) → AreOpen (changes ++ c ∷ []) d (now d)
  open-on was now is stands d = go (eqb_tells d c.doc.0)
    where
      go : ((d == c.doc.0 ≡ true) × (d ≡ c.doc.0)) ⊎ ((d == c.doc.0 ≡ false) × (d ≢ c.doc.0)) → AreOpen (changes ++ c ∷ []) d (now d)
      go (inl a) w t before =
          let A : ℕ → Type 0 = λ n. AreOpen (changes ++ c ∷ []) n weights in
          is d w ∙ ap (λ b. cond b (weights w) (was d w)) a.0 ∙ subst A (sym a.1) open-here w t before
      go (inr a) w t before = is d w ∙ ap (λ b. cond b (weights w) (was d w)) a.0 ∙ open-other d (was d) a.1 (stands d) w t before

-- what is done to an index for one change more
pub record IsChanged (c : Change (List ℕ)) (weights : ℕ → ℕ) (old new : IndexValue) : Type 0 where
  pub weights_are : (w : ℕ) → weights w ≡ count_of (slice_get (with_all old.words (keys_in c)) w) c.held
  pub words_are : new.words ≡ with_all old.words (keys_in c)
  pub turned : (w : ℕ) → IsTurned c.doc.0 c.at.seconds (old.newest c.doc.0 w) (weights w) (old.tails w) (new.tails w)
  pub open_are : (d w : ℕ) → new.newest d w ≡ cond (d == c.doc.0) (weights w) (old.newest d w)

-- what was the index of some changes, and is so changed, is the index of the changes with one more
pub goes_on : HeldAsChangesCome (List ℕ) → (changes : List (Change (List ℕ))) (c : Change (List ℕ)) (weights : ℕ → ℕ) (old new : IndexValue)
    → AreIndexed old changes → ComesLater changes c → IsChanged c weights old new → AreIndexed new (changes ++ c ∷ [])
goes_on law changes c weights old new stands early x = record {
  words_are = words;
  tails_are = λ w m.
      list-same _ _ 0 (2 ^ 40) (new.tails w) (often-turned law changes c early weights weights_are w)
      (x.turned w (often changes w) 0 (omega arith) (λ t le. sym (stands.open_are c.doc.0 w t (not_later law changes c early weights weights_are t le))) (stands.tails_are w m));
  open_are = open-on law changes c early weights weights_are old.newest new.newest x.open_are stands.open_are;
}
  where
    words : new.words ≡ words_in (changes ++ c ∷ [])
    words = x.words_are ∙ ap (λ ws. with_all ws (keys_in c)) stands.words_are ∙ sym (words_in-push changes c)

    weights_are : (w : ℕ) → weights w ≡ count_of (slice_get (words_in (changes ++ c ∷ [])) w) c.held
    weights_are w = x.weights_are w ∙ ap (λ (ws : List (List ℕ)). count_of (slice_get ws w) c.held) (sym x.words_are ∙ words)
