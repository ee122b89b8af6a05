-- How the bodies of a journal are given one after another.
use Rattle.std.proofs.Common.{◌≡◌, ℕ, ◌+◌, ◌-◌, List, [], ◌∷◌, ◌++◌, length, drop, All, refl, ap, subst, sym, ◌∙◌, arith, append_assoc, length-append, length-drop}
use Rattle.std.specs.Int.{w32, to_be_bytes}
use Rattle.std.proofs.lemmas.List.{length-take}
use Rattle.std.proofs.lemmas.List.Elements.{All-head, All-tail}
use Rattle.journal_gates.specs.declared.head.Head.{Head}
use Rattle.journal_gates.specs.Records.{record_bytes, front}
use Rattle.journal_gates.specs.Heads.{heads_of, AreInRow, AreBodies, LiesBefore}
use Rattle.journal_gates.specs.Spelled.{Spells}
use Rattle.journal_gates.specs.Windows.{WindowState, IsView, Covers, piece_of}
use Rattle.journal_gates.specs.Bodies.{BodiesState, body_at, IsNext, AreBehind, AreLeft}
use Rattle.journal_gates.proofs.AppendLemmas.{front_more}
use Rattle.journal_gates.proofs.HeadLemmas.{length-front, heads_grow, heads_lead}
use Rattle.journal_gates.proofs.WindowLemmas.{piece_lies}

pub length-piece : (window : WindowState) (at count : ℕ) → Covers window at count → length (piece_of window at count) ≡ count
length-piece window at count covers = omega (arith, covers.begins, covers.ends, length-take count (drop (at - window.from) window.bytes), length-drop (at - window.from) window.bytes)

-- at first no body is given
pub behind_none : (heads : List Head) (window : WindowState) → AreInRow 16 heads window.end → AreBehind heads [] (record { left = heads; window = window })
behind_none heads window row = record {
  heads_are = refl;
  row = let R : ℕ → Type 0 = λ n. AreInRow n heads window.end in subst R (sym (length-front [])) row;
}

pub left_all : (journal : List ℕ) (bodies : List (List ℕ)) (heads : List Head) (window : WindowState) → Spells journal bodies → heads ≡ heads_of 16 bodies → IsView window journal
    → AreLeft journal (record { left = heads; window = window }) bodies
left_all journal bodies heads window spelled same view = record {
  lead = let L : List Head → Type 0 = λ l. AreBodies journal l bodies in subst L (sym same) (heads_lead journal bodies spelled);
  view = view;
}

-- the next head
pub next_is : (left behind : List Head) (window covering : WindowState) (head : Head) → left ≡ head ∷ behind → All (LiesBefore window.end) left → Covers covering head.body head.bytes
    → IsNext (record { left = left; window = window }) (record { left = behind; window = covering }) head
next_is left behind window covering head is lie covers = record {
  is = is;
  lies = All-head (LiesBefore window.end) head behind (subst (All (LiesBefore window.end)) is lie);
  covers = covers;
}

pub others_lie : (left behind : List Head) (end last : ℕ) (head : Head) → left ≡ head ∷ behind → last ≡ end → All (LiesBefore end) left → All (LiesBefore last) behind
others_lie left behind end last head is same lie =
    subst (λ (n : ℕ). All (LiesBefore n) behind) (sym same) (All-tail (LiesBefore end) head behind (subst (All (LiesBefore end)) is lie))

-- one head more is given
pub behind_next : (heads : List Head) (bodies : List (List ℕ)) (old new : BodiesState) (head : Head) → new.window.end ≡ old.window.end → IsNext old new head → AreBehind heads bodies old
    → (head.gate ≡ length (front bodies)) × AreBehind heads (bodies ++ body_at new head ∷ []) new
behind_next heads bodies old new head same next behind =
    let gate = length (front bodies) in
    let body = body_at new head in
    let here : Head = record { gate = gate; body = gate + 5; bytes = length body } in
    let R : List Head → ℕ → Type 0 = λ l end. AreInRow gate l end in
    let row : AreInRow gate (head ∷ new.left) old.window.end = subst (λ (l : List Head). R l old.window.end) next.is behind.row in
    let long = length-piece new.window head.body head.bytes next.covers in
    let is : head ≡ here = ap (λ (n : ℕ). record { gate = n; body = head.body; bytes = head.bytes }) row.0
    ∙ ap (λ (n : ℕ). record { gate = gate; body = n; bytes = head.bytes }) row.1
    ∙ ap (λ (n : ℕ). record { gate = gate; body = gate + 5; bytes = n }) (sym long) in
    let then : length (front (bodies ++ body ∷ [])) ≡ head.body + head.bytes = omega (arith, row.1, long, ap length (front_more bodies body), length-append (front bodies) (record_bytes body), length-append (to_be_bytes w32 (length body)) body) in
    let N : ℕ → ℕ → Type 0 = λ n end. AreInRow n new.left end in (
      row.0,
      record {
        heads_are = behind.heads_are
            ∙ ap (λ (l : List Head). heads_of 16 bodies ++ l) (next.is ∙ ap (λ (h : Head). h ∷ new.left) is)
            ∙ sym (append_assoc (heads_of 16 bodies) (here ∷ []) new.left)
            ∙ ap (λ (l : List Head). l ++ new.left) (sym (heads_grow bodies body));
        row = subst (λ (n : ℕ). N n new.window.end) (sym then) (subst (λ (end : ℕ). N (head.body + head.bytes) end) (sym same) row.2);
      },
    )

-- it leads to the next body of the journal
pub left_next : (journal : List ℕ) (bodies : List (List ℕ)) (old new : BodiesState) (head : Head) → IsNext old new head → IsView new.window journal → AreBodies journal old.left bodies
    → (rest : List (List ℕ)) × (bodies ≡ body_at new head ∷ rest) × AreLeft journal new rest
left_next journal bodies old new head next view lead = go bodies (let L : List Head → Type 0 = λ l. AreBodies journal l bodies in subst L next.is lead)
  where
    go : (bodies : List (List ℕ)) → AreBodies journal (head ∷ new.left) bodies → (rest : List (List ℕ)) × (bodies ≡ body_at new head ∷ rest) × AreLeft journal new rest
    go [] lead = absurd lead
    go (body ∷ rest) lead = (
      rest,
      ap (λ (b : List ℕ). b ∷ rest) (sym lead.0 ∙ sym (piece_lies new.window journal head.body head.bytes view next.covers)),
      record { lead = lead.1; view = view },
    )

-- behind the last head no body is left
pub left_none : (journal : List ℕ) (bodies : List (List ℕ)) (left : List Head) → left ≡ [] → AreBodies journal left bodies → bodies ≡ []
left_none journal [] left none lead = refl
left_none journal (body ∷ bodies) [] none lead = absurd lead
left_none journal (body ∷ bodies) (head ∷ left) none lead = absurd (omega (arith, ap length none))
