-- What one change more makes of the turns, and what the turns make.
use Rattle.std.proofs.Common.{◌≡◌, ℕ, ◌^◌, ◌<◌, ◌==◌, ◌&&◌, nat_le, Bool, true, false, cond, List, [], ◌∷◌, ◌++◌, length, slice_get, Some, map, reverse, append-nil, All, refl, ap, sym, subst, ◌∙◌, arith, length-append}
use Rattle.std.proofs.lemmas.Bool.Decides.{nat_tests}
use Rattle.std.proofs.lemmas.List.{map-append, reverse-append}
use Rattle.std.proofs.lemmas.List.Elements.{filter-append, All-append, All-cons, All-nil, All-pop}
use Rattle.base_types.specs.declared.posting.Posting.{Posting}
use Rattle.lists_versions.specs.declared.change.Change.{Change}
use Rattle.lists_versions.specs.Changes.{changes_of}
use Rattle.lists_versions.specs.Laws.{HeldAsChangesCome}
use Rattle.text_words.specs.Words.{with_all}
use Rattle.lists_tails.specs.declared.document.Turn.{Turn}
use Rattle.lists_tails.specs.Acts.{LetsTurn, frequency_after, open_after, AreInOrder}
use Rattle.lists_tails.specs.Gathered.{act_of, acts_of}
use Rattle.lists_tails.specs.Turns.{turned_one, AreTails}
use Rattle.lists_tails.specs.Weights.{AreWeights, weight_of}
use Rattle.lists_tails.proofs.Followed.{list-same}
use Rattle.lists_index.specs.Words.{keys_in, words_in, count_of, often}
use Rattle.lists_index.specs.Indexing.{AreIndexed, ComesLater}
use Rattle.lists_index.specs.Loads.{Loaded, AreLoaded}
use Rattle.lists_index.specs.Measuring.{IsMeasured}
use Rattle.lists_index.proofs.WordSteps.{words_in-push}
use Rattle.lists_index.proofs.Steps.{often-turned, open-on}

pub acts-push : (turns : List Turn) (x : Turn) → acts_of (turns ++ x ∷ []) ≡ act_of x ∷ acts_of turns
acts-push turns x = ap (λ z. reverse z) (map-append act_of turns (x ∷ [])) ∙ reverse-append (map act_of turns) (act_of x ∷ [])

-- what comes later than the document's changes comes later than those in front
later-front : (changes : List (Change (List ℕ))) (c : Change (List ℕ)) (doc at : ℕ) → All (λ d. d.at.seconds < at) (changes_of (record { 0 = doc }) (changes ++ c ∷ [])) → (c.doc.0 ≡ doc → c.at.seconds < at) × All (λ d. d.at.seconds < at) (changes_of (record { 0 = doc }) changes)
later-front changes c doc at h = by (c.doc.0 == doc) refl (filter-append (λ y. y.doc.0 == doc) changes (c ∷ []))
  where
    off : c.doc.0 ≡ doc → c.doc.0 == doc ≡ true
    off e = grind (arith, nat_tests)

    by : (b : Bool) → c.doc.0 == doc ≡ b → changes_of (record { 0 = doc }) (changes ++ c ∷ []) ≡ changes_of (record { 0 = doc }) changes ++ cond (c.doc.0 == doc) (c ∷ []) [] → (c.doc.0 ≡ doc → c.at.seconds < at) × All (λ d. d.at.seconds < at) (changes_of (record { 0 = doc }) changes)
    by true e parts =
        let both = All-pop (λ (d : Change (List ℕ)). d.at.seconds < at) _ (changes_of (record { 0 = doc }) changes) (Some c) (parts ∙ ap (λ b. changes_of (record { 0 = doc }) changes ++ cond b (c ∷ []) []) e) h in
        (λ q. both.1, both.0)
    by false e parts =
        let front : changes_of (record { 0 = doc }) (changes ++ c ∷ []) ≡ changes_of (record { 0 = doc }) changes = parts ∙ ap (λ b. changes_of (record { 0 = doc }) changes ++ cond b (c ∷ []) []) e ∙ append-nil (changes_of (record { 0 = doc }) changes) in
        (λ q. absurd (let f : true ≡ false = sym (off q) ∙ e in cc), subst (All (λ (d : Change (List ℕ)). d.at.seconds < at)) front h)

-- a turn with what its text has
pub added : HeldAsChangesCome (List ℕ) → (old new : Loaded) (changes : List (Change (List ℕ))) (c : Change (List ℕ)) (x : Turn) (fresh : List (List ℕ)) → x.doc ≡ c.doc → x.at ≡ c.at → IsMeasured old.words c.held fresh x.weights.items
    → new.words ≡ with_all old.words fresh → new.turns ≡ old.turns ++ x ∷ [] → AreWeights x.weights.items → length old.turns < 2 ^ 40 → AreLoaded old changes → ComesLater changes c → AreLoaded new (changes ++ c ∷ [])
added law old new changes c x fresh doc at m words_are turns_are up few h early = record {
  words_are = words;
  frequency_is = λ w d t. ap (λ a. frequency_after a w d t) acts ∙ ap {B = ℕ} (λ z. cond (d == x.doc.0 && nat_le x.at.seconds t) (weights w) z) (h.frequency_is w d t) ∙ ap (λ y. turned_one (often changes w) y.0 x.at.seconds (weights w) d t) doc ∙ ap (λ y. turned_one (often changes w) c.doc.0 y.seconds (weights w) d t) at ∙ often-turned law changes c early weights each w d t;
  open_are = open-on law changes c early weights each (λ d w. open_after (acts_of old.turns) w d) (λ d w. open_after (acts_of new.turns) w d) (λ d w. ap (λ a. open_after a w d) acts ∙ ap (λ y. cond (d == y.0) (weights w) (open_after (acts_of old.turns) w d)) doc) h.open_are;
  in_order = subst AreInOrder (sym acts) (let l : All (LetsTurn x.doc.0 x.at.seconds) (acts_of old.turns) = h.later x.doc.0 x.at.seconds (subst (λ y. All (λ (d : Change (List ℕ)). d.at.seconds < y.seconds) (changes_of x.doc changes)) (sym at) (subst (λ y. All (λ (d : Change (List ℕ)). d.at.seconds < c.at.seconds) (changes_of y changes)) (sym doc) early)) in (l, h.in_order));
  later = λ d s a.
      let parts = later-front changes c d s a in
      subst (All (LetsTurn d s)) (sym acts) (All-cons (LetsTurn d s) (act_of x) (acts_of old.turns) (λ e. subst (λ y. y.seconds < s) (sym at) (parts.0 (ap (λ y. y.0) (sym doc) ∙ e))) (h.later d s parts.1));
  ascending = subst (All (λ (y : Turn). AreWeights y.weights.items)) (sym turns_are) (All-append (λ (y : Turn). AreWeights y.weights.items) old.turns (x ∷ []) h.ascending (All-cons (λ (y : Turn). AreWeights y.weights.items) x [] up (All-nil (λ (y : Turn). AreWeights y.weights.items))));
  few = omega (arith, ap length turns_are, length-append old.turns (x ∷ []));
}
  where
    weights : ℕ → ℕ
    weights w = weight_of w x.weights.items

    acts : acts_of new.turns ≡ act_of x ∷ acts_of old.turns
    acts = ap acts_of turns_are ∙ acts-push old.turns x

    after : with_all old.words fresh ≡ words_in (changes ++ c ∷ [])
    after = m.fresh_are ∙ ap (λ ws. with_all ws (keys_in c)) h.words_are ∙ sym (words_in-push changes c)

    words : new.words ≡ words_in (changes ++ c ∷ [])
    words = words_are ∙ after

    each : (w : ℕ) → weights w ≡ count_of (slice_get (words_in (changes ++ c ∷ [])) w) c.held
    each w = m.weights_are w ∙ ap (λ (ws : List (List ℕ)). count_of (slice_get ws w) c.held) (sym m.fresh_are ∙ after)

-- the tails and the weights that the turns make are those of the changes
pub finished : (value : Loaded) (tails : ℕ → List Posting) (newest : ℕ → ℕ → ℕ) (changes : List (Change (List ℕ))) → AreTails (frequency_after (acts_of value.turns)) tails → ((w d : ℕ) → newest d w ≡ open_after (acts_of value.turns) w d)
    → AreLoaded value changes → AreIndexed (record { words = value.words; tails = tails; newest = newest }) changes
finished value tails newest changes t n h = record {
  words_are = h.words_are;
  tails_are = λ w m. list-same (frequency_after (acts_of value.turns) w) (often changes w) 0 (2 ^ 40) (tails w) (h.frequency_is w) (t w m);
  open_are = λ d w s before. n w d ∙ h.open_are d w s before;
}
