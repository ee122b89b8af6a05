-- Tails after any turns.
use Rattle.std.specs.Prelude.{◌≡◌, ◌≢◌, ℕ, ◌+◌, ◌^◌, ◌<◌, ◌≤◌, List, [], ◌∷◌, ◌++◌, All, refl}
use Rattle.std.proofs.Common.{arith, sym, ◌∙◌, subst, inl, inr}
use Rattle.std.proofs.lemmas.Bool.{cases_eq}
use Rattle.std.proofs.lemmas.Bool.Decides.{nat_tests}
use Rattle.std.proofs.lemmas.List.Elements.{All-head, All-tail}
use Rattle.base_types.specs.declared.posting.Posting.{Posting}
use Rattle.lists_postings.specs.ListsOf.{IsListOf}
use Rattle.lists_tails.specs.Turns.{turned, turned_one, AreTails}
use Rattle.lists_tails.specs.Acts.{Act, Turns, IsNoTurn, LetsTurn, frequency_after, open_after, AreInOrder, Make}

-- a turn of the document up to the time tells its frequency, and another one doesn't
turned-here : (f : ℕ → ℕ → ℕ → ℕ) (doc at : ℕ) (new : ℕ → ℕ) (w d t : ℕ) → d ≡ doc → at ≤ t → turned f doc at new w d t ≡ new w
turned-here f doc at new w d t e l = grind (arith, nat_tests)

turned-late : (f : ℕ → ℕ → ℕ → ℕ) (doc at : ℕ) (new : ℕ → ℕ) (w d t : ℕ) → t < at → turned f doc at new w d t ≡ f w d t
turned-late f doc at new w d t l = grind (arith, nat_tests)

pub turned-away : (f : ℕ → ℕ → ℕ → ℕ) (doc at : ℕ) (new : ℕ → ℕ) (w d t : ℕ) → d ≢ doc → turned f doc at new w d t ≡ f w d t
turned-away f doc at new w d t n = grind (arith, nat_tests)

pub open-here : (doc at : ℕ) (new : ℕ → ℕ) (earlier : List Act) (w d : ℕ) → d ≡ doc → open_after (Turns doc at new ∷ earlier) w d ≡ new w
open-here doc at new earlier w d e = grind (arith, nat_tests)

pub open-away : (doc at : ℕ) (new : ℕ → ℕ) (earlier : List Act) (w d : ℕ) → d ≢ doc → open_after (Turns doc at new ∷ earlier) w d ≡ open_after earlier w d
open-away doc at new earlier w d n = grind (arith, nat_tests)

-- what the document has open is its frequency from just before its next turn on
pub steady : (acts : List Act) (w doc at : ℕ) → All (LetsTurn doc at) acts → (t : ℕ) → at ≤ t + 1 → frequency_after acts w doc t ≡ open_after acts w doc
steady [] w doc at a t l = refl
steady (Turns d s new ∷ earlier) w doc at a t l =
    let before : d ≡ doc → s < at = All-head (LetsTurn doc at) (Turns d s new) earlier a in
    elim (cases_eq doc d) [
      | inl e ↦ turned-here (frequency_after earlier) d s new w doc t e (omega (arith, before (sym e), l)) ∙ sym (open-here d s new earlier w doc e)
      | inr n ↦ turned-away (frequency_after earlier) d s new w doc t n ∙ steady earlier w doc at (All-tail (LetsTurn doc at) (Turns d s new) earlier a) t l ∙ sym (open-away d s new earlier w doc n)
    ]

-- the list of a frequency is that of another which is the same
pub list-same : (f g : ℕ → ℕ → ℕ) (a b : ℕ) (list : List Posting) → ((d t : ℕ) → f d t ≡ g d t) → IsListOf f a b list → IsListOf g a b list
list-same f g a b list e h = record { ordered = h.ordered; coalesced = h.coalesced; inside = h.inside; same = λ d t x y. h.same d t x y ∙ e d t }

made : (acts : List Act) (tails : ℕ → List Posting) → AreInOrder acts → Make acts tails → (w : ℕ) → IsListOf (frequency_after acts w) 0 (2 ^ 40) (tails w)
made [] tails o m w = subst (IsListOf (frequency_after [] w) 0 (2 ^ 40)) (sym (m w)) (record { ordered = tt; coalesced = tt; inside = λ k d l. absurd (omega (arith, l)); same = λ d t x y. refl })
made (Turns doc at new ∷ earlier) tails o (before, m, s) w =
    list-same (turned_one (frequency_after earlier w) doc at (new w)) (frequency_after (Turns doc at new ∷ earlier) w) 0 (2 ^ 40) (tails w) (λ d t. refl)
    (s w (frequency_after earlier w) 0 (omega arith) (steady earlier w doc at o.0) (made earlier before o.1 m w))

pub tails_of_acts : (acts : List Act) (tails : ℕ → List Posting) → AreInOrder acts → Make acts tails → AreTails (frequency_after acts) tails
tails_of_acts acts tails o m w l = made acts tails o m w

pub frequency_of_last_turn : (later earlier : List Act) (doc at t w : ℕ) (new : ℕ → ℕ) → at ≤ t → All (IsNoTurn doc t) later → frequency_after (later ++ Turns doc at new ∷ earlier) w doc t ≡ new w
frequency_of_last_turn [] earlier doc at t w new l a = turned-here (frequency_after earlier) doc at new w doc t refl l
frequency_of_last_turn (Turns d s other ∷ later) earlier doc at t w new l a =
    let n : d ≡ doc → t < s = All-head (IsNoTurn doc t) (Turns d s other) later a in
    let f = frequency_after (later ++ Turns doc at new ∷ earlier) in
    elim (cases_eq doc d) [
      | inl e ↦ turned-late f d s other w doc t (n (sym e)) ∙ frequency_of_last_turn later earlier doc at t w new l (All-tail (IsNoTurn doc t) (Turns d s other) later a)
      | inr m ↦ turned-away f d s other w doc t m ∙ frequency_of_last_turn later earlier doc at t w new l (All-tail (IsNoTurn doc t) (Turns d s other) later a)
    ]

pub frequency_of_no_turn : (acts : List Act) (doc t w : ℕ) → All (IsNoTurn doc t) acts → frequency_after acts w doc t ≡ 0
frequency_of_no_turn [] doc t w a = refl
frequency_of_no_turn (Turns d s other ∷ acts) doc t w a =
    let n : d ≡ doc → t < s = All-head (IsNoTurn doc t) (Turns d s other) acts a in
    elim (cases_eq doc d) [
      | inl e ↦ turned-late (frequency_after acts) d s other w doc t (n (sym e)) ∙ frequency_of_no_turn acts doc t w (All-tail (IsNoTurn doc t) (Turns d s other) acts a)
      | inr m ↦ turned-away (frequency_after acts) d s other w doc t m ∙ frequency_of_no_turn acts doc t w (All-tail (IsNoTurn doc t) (Turns d s other) acts a)
    ]
