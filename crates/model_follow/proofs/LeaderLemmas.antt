-- Archives that follow others keep to what those have.
use Rattle.std.specs.Prelude.{◌≡◌, ℕ, zero, suc, ◌+◌, ◌-◌, ◌≤◌, Bool, true, false, List, [], ◌∷◌, ◌++◌, length, map, slice_get, All, Option, Some, refl}
use Rattle.std.proofs.Common.{arith, inl, inr, ap, sym, subst, ◌∙◌, append_assoc, append-nil}
use Rattle.std.proofs.lemmas.List.Elements.{All-take, All-drop, All-head, All-tail, All-nil, All-weaker}
use Rattle.std.proofs.Math.Seq.{take-append_seam, drop-append_seam}
use Rattle.journal_packets.specs.Packets.{Framed, IsFramed, first}
use Rattle.journal_packets.specs.Streams.{IsPacketOf, IsStreamOf, stream}
use Rattle.journal_packets.specs.declared.first.First.TheVariants.{Bad}
use Rattle.journal_packets.proofs.StreamLemmas.{one_way, never_bad}
use Rattle.journal_entries.proofs.EntryLemmas.{one_entry}
use Rattle.journal_entries.specs.Spelling.{spelling}
use Rattle.journal_entries.specs.declared.entry.Entry.{Entry}
use Rattle.model_archive.specs.Histories.{History}
use Rattle.model_archive.specs.Runs.{state_after}
use Rattle.model_archive.specs.Standing.{last_state}
use Rattle.model_archive.specs.Stands.{bodies_of}
use Rattle.model_archive.proofs.RunLemmas.{state_after_all}
use Rattle.model_follow.specs.Taking.{CanBeFollowed, EachMayBeTaken, MayBeTaken}
use Rattle.model_follow.specs.Following.{BeginWith, CannotBeTaken, DiffersAt, Follows, Note, Had, Took}
use Rattle.model_follow.specs.Laws.{AreOf, FollowersOfALeader, FollowersStayPrefixes, GoesOnFrom}

front_all : {X : Type 0} (P : X → Type 0) (xs ys : List X) → All P (xs ++ ys) → All P xs
front_all {X} P xs ys all = let Q : List X → Type 0 = λ l. All P l in subst Q (take-append_seam xs ys) (All-take P (length xs) (xs ++ ys) all)

back_all : {X : Type 0} (P : X → Type 0) (xs ys : List X) → All P (xs ++ ys) → All P ys
back_all {X} P xs ys all = let Q : List X → Type 0 = λ l. All P l in subst Q (drop-append_seam xs ys) (All-drop P (length xs) (xs ++ ys) all)

-- the entry behind a history, by its bytes
pub record HasNext (history more : History) (body : List ℕ) : Type 0 where
  pub entry : Entry
  pub others : History
  pub more_is : more ≡ entry ∷ others
  pub spelled : spelling entry ≡ body

next_of : (history more : History) (body : List ℕ) → slice_get (map spelling (history ++ more)) (length history) ≡ Some body → HasNext history more body
next_of [] [] body e = cc
next_of [] (entry ∷ others) body e = record { entry = entry; others = others; more_is = refl; spelled = same e }
  where
    same : Some (spelling entry) ≡ Some body → spelling entry ≡ body
    same h = cc
next_of (x ∷ history) more body e =
    let next = next_of history more body e in
    record { entry = next.entry; others = next.others; more_is = next.more_is; spelled = next.spelled }

-- each entry of a history that can be followed may be taken behind those before it
middle : (before history : History) (entry : Entry) (others : History) → EachMayBeTaken before (history ++ entry ∷ others) → MayBeTaken (before ++ history) entry
middle before [] entry others each = subst (λ (h : History). MayBeTaken h entry) (sym (append-nil before)) each.0
middle before (x ∷ history) entry others each = subst (λ (h : History). MayBeTaken h entry) (append_assoc before (x ∷ []) history) (middle (before ++ x ∷ []) history entry others each.1)

pub followed_middle : (history : History) (entry : Entry) (others : History) → CanBeFollowed (history ++ entry ∷ others) → MayBeTaken history entry
followed_middle history entry others can = middle [] history entry others can

-- the leader's next entry behind a history, by a packet of it
next_by : (leader history : History) (p : Framed) → CanBeFollowed leader → (on : GoesOnFrom history leader) → HasNext history on.0 p.body
    → (entry : Entry) × (others : History) × (leader ≡ (history ++ entry ∷ []) ++ others) × (spelling entry ≡ p.body) × MayBeTaken history entry
next_by leader history p can on next =
    let whole : leader ≡ history ++ next.entry ∷ next.others = on.1 ∙ ap (λ (h : History). history ++ h) next.more_is in (
      next.entry,
      next.others,
      whole ∙ sym (append_assoc history (next.entry ∷ []) next.others),
      next.spelled,
      middle [] history next.entry next.others (subst (λ (h : History). EachMayBeTaken [] h) whole can),
    )

next_in : (leader history : History) (p : Framed) → CanBeFollowed leader → (on : GoesOnFrom history leader) → IsPacketOf (bodies_of leader) p → p.number ≡ length history + 1
    → (entry : Entry) × (others : History) × (leader ≡ (history ++ entry ∷ []) ++ others) × (spelling entry ≡ p.body) × MayBeTaken history entry
next_in leader history p can on is number =
    let place : p.number - 1 ≡ length history = omega (arith, number) in
    next_by leader history p can on
    (next_of history on.0 p.body (ap (λ (h : History). slice_get (map spelling h) (length history)) (sym on.1) ∙ ap (λ k. slice_get (bodies_of leader) k) (sym place) ∙ is.is))

-- one packet of the leader leads from a front of it to a front of it
one_step : (leader old new : History) (p : Framed) (note : Note) → CanBeFollowed leader → GoesOnFrom old leader → IsPacketOf (bodies_of leader) p → Follows old p note new → GoesOnFrom new leader
one_step leader old new p (Had number) can on is step = (on.0, on.1 ∙ ap (λ (h : History). h ++ on.0) (sym step.2))
one_step leader old new p (Took number) can on is step =
    let next = next_in leader old p can on is (sym step.0 ∙ step.1) in
    let taken = step.2 in
    let same : next.0 ≡ taken.0 = one_entry next.0 taken.0 next.4.legal.ranges taken.2.legal.ranges (next.3 ∙ taken.1) in
    (next.1, next.2 ∙ ap (λ (e : Entry). (old ++ e ∷ []) ++ next.1) same ∙ ap (λ (h : History). h ++ next.1) (sym taken.3))

pub stay_prefixes : FollowersStayPrefixes
stay_prefixes leader history packets outcomes can on are run zero l = on
stay_prefixes leader history [] [] can on are run (suc j) l = on
stay_prefixes leader history (p ∷ packets) (o ∷ outcomes) can on are run (suc j) l =
    stay_prefixes leader o.next packets outcomes can
    (one_step leader history o.next p o.reply can on (All-head (IsPacketOf (bodies_of leader)) p packets are.1) run.0)
    (All-tail IsFramed p packets are.0, All-tail (IsPacketOf (bodies_of leader)) p packets are.1) run.1 j (omega (arith, l))
stay_prefixes leader history [] (o ∷ outcomes) can on are run (suc j) l = absurd run
stay_prefixes leader history (p ∷ packets) [] can on are run (suc j) l = absurd run

-- ---- the packets of the bytes pulled are the leader's, and what is left is a front of more of them

pub record AreLeaders (bodies : List (List ℕ)) (packets : List Framed) (rest : List ℕ) : Type 0 where
  pub are : All (IsPacketOf bodies) packets
  pub others : List Framed
  pub proper : All IsFramed others
  pub more : List ℕ
  pub rest_is : rest ++ more ≡ stream others

all_proper : (bodies : List (List ℕ)) (packets : List Framed) → All (IsPacketOf bodies) packets → All IsFramed packets
all_proper bodies packets are = All-weaker (IsPacketOf bodies) IsFramed (λ p is. is.proper) packets are

no_packet : (p : Framed) (others : List Framed) (rest : List ℕ) → [] ≡ stream (p ∷ others) ++ rest → ⊥
no_packet p others rest e = cc

of_leader : (bodies : List (List ℕ)) (packets : List Framed) (rest to_come : List ℕ) → All IsFramed packets → IsStreamOf bodies ((stream packets ++ rest) ++ to_come) → AreLeaders bodies packets rest
of_leader bodies packets rest to_come proper s =
    elim (one_way packets s.0 (rest ++ to_come) [] proper (all_proper bodies s.0 s.2) (sym (append_assoc (stream packets) rest to_come) ∙ s.1 ∙ sym (append-nil (stream s.0)))) [
      | inl on ↦ (
          let all : All (IsPacketOf bodies) (packets ++ on.0) = subst (λ (ps : List Framed). All (IsPacketOf bodies) ps) on.1 s.2 in
          record {
            are = front_all (IsPacketOf bodies) packets on.0 all;
            others = on.0;
            proper = all_proper bodies on.0 (back_all (IsPacketOf bodies) packets on.0 all);
            more = to_come;
            rest_is = on.2 ∙ append-nil (stream on.0);
          })
      | inr on ↦ none on.0 on.1 on.2
    ]
  where
    none : (others : List Framed) → packets ≡ s.0 ++ others → [] ≡ stream others ++ (rest ++ to_come) → AreLeaders bodies packets rest
    none [] is e = record {
      are = subst (λ (ps : List Framed). All (IsPacketOf bodies) ps) (sym (is ∙ append-nil s.0)) s.2;
      others = [];
      proper = All-nil IsFramed;
      more = to_come;
      rest_is = sym e;
    }
    none (p ∷ others) is e = absurd (no_packet p others (rest ++ to_come) e)

-- what is kept of a number is the leader's
kept_is : (history more : History) (k : ℕ) (body : List ℕ) → slice_get (map spelling history) k ≡ Some body → slice_get (map spelling (history ++ more)) k ≡ Some body
kept_is [] more k body e = cc
kept_is (x ∷ history) more zero body e = e
kept_is (x ∷ history) more (suc k) body e = kept_is history more k body e

some_same : (a b : List ℕ) → Some a ≡ Some b → a ≡ b
some_same a b e = cc

no_conflict : (leader last : History) (place : ℕ) (kept got : Option ℕ) (p : Framed) → GoesOnFrom last leader → IsPacketOf (bodies_of leader) p → DiffersAt last place kept got p → ⊥
no_conflict leader last place kept got p on is differs =
    let had = differs.1 in
    let mine : slice_get (bodies_of leader) (p.number - 1) ≡ Some had.0 = ap (λ (h : History). slice_get (map spelling h) (p.number - 1)) on.1 ∙ kept_is last on.0 (p.number - 1) had.0 had.1 in
    let same : had.0 ≡ p.body = some_same had.0 p.body (sym mine ∙ is.is) in
    had.2.differ (sym had.2.kept_is ∙ ap (λ (l : List ℕ). slice_get l place) same ∙ had.2.got_is)

-- the first of packets of which all something holds
head_of : (P Q : Framed → Type 0) (packets : List Framed) → All P packets → BeginWith packets Q → (p : Framed) × P p × Q p
head_of P Q packets all begins = (begins.0, All-head P begins.0 begins.1 (subst (λ (ps : List Framed). All P ps) begins.2 all), begins.3)

told : (ended : Bool) (rest : List ℕ) (others : List Framed) (more : List ℕ) → All IsFramed others → rest ++ more ≡ stream others → first ended rest ≡ Bad → ended ≡ true
told true rest others more proper e is_bad = refl
told false rest others more proper e is_bad = absurd (never_bad others rest more proper e is_bad)

pub of_a_leader : FollowersOfALeader
of_a_leader leader history carried behind rest to_come outcomes can on proper run is =
    let bodies = bodies_of leader in
    let of : AreLeaders bodies (carried ++ behind) rest = of_leader bodies (carried ++ behind) rest to_come proper is in
    let mine : AreOf leader carried = (front_all IsFramed carried behind proper, front_all (IsPacketOf bodies) carried behind of.are) in
    let left : All (IsPacketOf bodies) behind = back_all (IsPacketOf bodies) carried behind of.are in
    let prefixes : (j : ℕ) → j ≤ length outcomes → GoesOnFrom (state_after history outcomes j) leader = stay_prefixes leader history carried outcomes can on mine run in
    let last : History = last_state history outcomes in
    let front : GoesOnFrom last leader = subst (λ (h : History). GoesOnFrom h leader) (state_after_all history outcomes) (prefixes (length outcomes) (omega arith)) in (
      prefixes,
      (λ place kept got begins.
          let one = head_of (IsPacketOf bodies) (DiffersAt last place kept got) behind left begins in
          no_conflict leader last place kept got one.0 front one.1 one.2),
      (λ begins.
          let one = head_of (IsPacketOf bodies) (CannotBeTaken last) behind left begins in
          let next = next_in leader last one.0 can front one.1 one.2.0 in
          one.2.1 (next.0, sym next.3, next.4)),
      (λ ended is_bad. told ended rest of.others of.more of.proper of.rest_is is_bad),
    )
