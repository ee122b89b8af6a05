-- Streams.
use Rattle.std.specs.Prelude.{◌≡◌, ◌⊎◌, ℕ, ◌≤◌, Bool, true, false, nat_lt, if◌then◌else◌, ◌==◌, List, [], ◌∷◌, ◌++◌, length, take, drop, refl}
use Rattle.std.specs.Int.{w32, w64, from_be_bytes}
use Rattle.std.proofs.Common.{arith, inl, inr, ap, sym, ◌∙◌, append_assoc, length-drop, ltb-false, ltb-true, eqb-true}
use Rattle.std.proofs.lemmas.Nat.{from_be_bytes-to_be_bytes_4, from_be_bytes-to_be_bytes_8}
use Rattle.std.proofs.lemmas.List.{take-append-le, drop-append-le}
use Rattle.std.proofs.lemmas.List.Elements.{All-head, All-tail}
use Rattle.std.proofs.Math.Seq.{take-append_seam, drop-append_seam}
use Rattle.journal_packets.specs.declared.first.First.TheVariants.{Whole, Bad, More}
use Rattle.journal_packets.specs.Packets.{Framed, IsFramed, packet_bytes, first, few, short, with_number, with_size}
use Rattle.journal_packets.specs.Streams.{stream, StreamsAreReadInOneWay, FrontsOfStreamsAreNotBad}

-- the number and the length that bytes begin with which begin with a packet
number_read : (p : Framed) → IsFramed p → (rest : List ℕ) → from_be_bytes w64 (take 8 (packet_bytes p.number p.body ++ rest)) ≡ p.number
number_read p proper rest = from_be_bytes-to_be_bytes_8 p.number proper.numbered

size_read : (p : Framed) → IsFramed p → (rest : List ℕ) → from_be_bytes w32 (take 4 (drop 8 (packet_bytes p.number p.body ++ rest))) ≡ length p.body
size_read p proper rest = from_be_bytes-to_be_bytes_4 (length p.body) (omega (arith, proper.short))

-- two packets in front of the same bytes are one
pub record AreOne (p q : Framed) (xs ys : List ℕ) : Type 0 where
  pub same : p ≡ q
  pub rest : xs ≡ ys

same_framed : (p q : Framed) → p.number ≡ q.number → p.body ≡ q.body → p ≡ q
same_framed p q n b = ap (λ k. record { number = k; body = p.body }) n ∙ ap (λ l. record { number = q.number; body = l }) b

pub front_is_one : (p q : Framed) → IsFramed p → IsFramed q → (xs ys : List ℕ) → packet_bytes p.number p.body ++ xs ≡ packet_bytes q.number q.body ++ ys → AreOne p q xs ys
front_is_one p q one other xs ys e =
    let number : p.number ≡ q.number = sym (number_read p one xs) ∙ ap (λ l. from_be_bytes w64 (take 8 l)) e ∙ number_read q other ys in
    let size : length p.body ≡ length q.body = sym (size_read p one xs) ∙ ap (λ l. from_be_bytes w32 (take 4 (drop 8 l))) e ∙ size_read q other ys in
    let behind : p.body ++ xs ≡ q.body ++ ys = ap (drop 12) e in
    record {
      same = same_framed p q number (sym (take-append_seam p.body xs) ∙ ap (take (length p.body)) behind ∙ ap (λ k. take k (q.body ++ ys)) size ∙ take-append_seam q.body ys);
      rest = sym (drop-append_seam p.body xs) ∙ ap (drop (length p.body)) behind ∙ ap (λ k. drop k (q.body ++ ys)) size ∙ drop-append_seam q.body ys;
    }

-- ---- one reading

-- one of two readings goes on from the other
abbrev OneGoesOn : (these those : List Framed) (rest more : List ℕ) → Type 0
OneGoesOn these those rest more = ((others : List Framed) × (those ≡ these ++ others) × (rest ≡ stream others ++ more))
    ⊎ ((others : List Framed) × (these ≡ those ++ others) × (more ≡ stream others ++ rest))

with_front : (p q : Framed) (these those : List Framed) (rest more : List ℕ) → p ≡ q → OneGoesOn these those rest more → OneGoesOn (p ∷ these) (q ∷ those) rest more
with_front p q these those rest more same goes = elim goes [
  | inl on ↦ inl (on.0, ap (λ x. x ∷ those) (sym same) ∙ ap (λ l. p ∷ l) on.1, on.2)
  | inr on ↦ inr (on.0, ap (λ x. x ∷ these) same ∙ ap (λ l. q ∷ l) on.1, on.2)
]

pub one_way : StreamsAreReadInOneWay
one_way [] those rest more fine others e = inl (those, refl, e)
one_way (p ∷ these) [] rest more fine others e = inr (p ∷ these, refl, sym e)
one_way (p ∷ these) (q ∷ those) rest more fine others e =
    let one : AreOne p q (stream these ++ rest) (stream those ++ more) =
    front_is_one p q (All-head IsFramed p these fine) (All-head IsFramed q those others) (stream these ++ rest) (stream those ++ more)
    (sym (append_assoc (packet_bytes p.number p.body) (stream these) rest) ∙ e ∙ append_assoc (packet_bytes q.number q.body) (stream those) more) in
    with_front p q these those rest more one.same (one_way these those rest more (All-tail IsFramed p these fine) (All-tail IsFramed q those others) one.rest)

-- ---- nothing bad

few_open : (bytes : List ℕ) → few false bytes ≡ More
few_open [] = refl
few_open (b ∷ bytes) = refl

sized_open : (number size : ℕ) (behind : List ℕ) → size ≤ 67108864 → with_size false number size behind ≡ Bad → ⊥
sized_open number size behind fits = go (nat_lt 67108864 size) (nat_lt (length behind) size) refl
  where
    go : (p q : Bool) → nat_lt 67108864 size ≡ p → (if p then Bad else if q then short false else Whole number size) ≡ Bad → ⊥
    go true q over = λ e. omega (arith, ltb-true 67108864 size over, fits)
    go false true over = λ e. cc
    go false false over = λ e. cc

-- what begins as a packet does isn't bad
front_not_bad : (p : Framed) → IsFramed p → (front more rest : List ℕ) → front ++ more ≡ packet_bytes p.number p.body ++ rest → first false front ≡ Bad → ⊥
front_not_bad p proper front more rest e = go (nat_lt (length front) 8) refl
  where
    all : List ℕ
    all = packet_bytes p.number p.body ++ rest

    number : 8 ≤ length front → from_be_bytes w64 (take 8 front) ≡ p.number
    number enough = ap (from_be_bytes w64) (sym (take-append-le 8 front more enough) ∙ ap (take 8) e) ∙ number_read p proper rest

    size : 12 ≤ length front → from_be_bytes w32 (take 4 (drop 8 front)) ≡ length p.body
    size enough =
        let behind : drop 8 front ++ more ≡ drop 8 all = sym (drop-append-le 8 front more (omega (arith, enough))) ∙ ap (drop 8) e in
        ap (from_be_bytes w32) (sym (take-append-le 4 (drop 8 front) more (omega (arith, length-drop 8 front, enough))) ∙ ap (take 4) behind) ∙ size_read p proper rest

    numbered : 8 ≤ length front → with_number false (from_be_bytes w64 (take 8 front)) (drop 8 front) ≡ Bad → ⊥
    numbered enough = two (from_be_bytes w64 (take 8 front) == 0) (nat_lt (length (drop 8 front)) 4) refl refl
      where
        two : (a b : Bool) → (from_be_bytes w64 (take 8 front) == 0) ≡ a → nat_lt (length (drop 8 front)) 4 ≡ b →
            (if a then Bad else if b then short false else with_size false (from_be_bytes w64 (take 8 front)) (from_be_bytes w32 (take 4 (drop 8 front))) (drop 4 (drop 8 front))) ≡ Bad → ⊥
        two true b zero short = λ bad. omega (arith, eqb-true (from_be_bytes w64 (take 8 front)) 0 zero, number enough, proper.counted)
        two false true zero short = λ bad. cc
        two false false zero short =
            let long : 12 ≤ length front = omega (arith, ltb-false (length (drop 8 front)) 4 short, length-drop 8 front, enough) in
            sized_open (from_be_bytes w64 (take 8 front)) (from_be_bytes w32 (take 4 (drop 8 front))) (drop 4 (drop 8 front)) (omega (arith, size long, proper.short))

    go : (b : Bool) → nat_lt (length front) 8 ≡ b → (if b then few false front else with_number false (from_be_bytes w64 (take 8 front)) (drop 8 front)) ≡ Bad → ⊥
    go true few = λ bad. absurd (no_more (sym (few_open front) ∙ bad))
      where
        no_more : More ≡ Bad → ⊥
        no_more = λ e. cc
    go false few = numbered (omega (arith, ltb-false (length front) 8 few))

nothing_bad : (front more : List ℕ) → front ++ more ≡ [] → first false front ≡ Bad → ⊥
nothing_bad [] more e = λ bad. cc
nothing_bad (b ∷ front) more e = λ bad. cc

pub never_bad : FrontsOfStreamsAreNotBad
never_bad [] front more fine e = nothing_bad front more e
never_bad (p ∷ packets) front more fine e = front_not_bad p (All-head IsFramed p packets fine) front more (stream packets) e
