-- What is exported can be read, and leads a follower to its leader.
use Rattle.std.proofs.Common.{◌≡◌, ℕ, zero, suc, ◌+◌, ◌-◌, ◌<◌, ◌≤◌, ◌^◌, List, [], ◌∷◌, ◌++◌, length, take, drop, All, Some, inl, inr, refl, ap, sym, subst, ◌∙◌, arith, append_assoc, length-append}
use Rattle.std.specs.Prelude.{slice_get}
use Rattle.std.proofs.lemmas.Bool.{cases_lt}
use Rattle.std.proofs.lemmas.List.{append-nil, drop-map, length-map, length-take-le, take-append-drop}
use Rattle.std.proofs.lemmas.List.Elements.{All-nil, All-cons}
use Rattle.journal_entries.specs.Spelling.{spelling}
use Rattle.journal_entries.specs.declared.entry.Entry.{Entry}
use Rattle.journal_packets.specs.Packets.{Framed, IsFramed, most_body}
use Rattle.journal_packets.specs.Streams.{ExportsAreStreams, export, numbered}
use Rattle.model_archive.specs.Histories.{History, end_of}
use Rattle.model_archive.specs.Runs.{Outcome, IsRun}
use Rattle.model_archive.specs.Standing.{last_state}
use Rattle.model_archive.specs.Stands.{bodies_of}
use Rattle.model_archive.proofs.HistoryLemmas.{end_of-least}
use Rattle.model_follow.specs.Taking.{CanBeFollowed, EachMayBeTaken, MayBeTaken}
use Rattle.model_follow.specs.Following.{Follows, Note, Had, Took}
use Rattle.model_follow.specs.Laws.{ExportsCanBeRead, ExportsLeadToTheLeader, GoesOnFrom, SpellingsHaveRoom}
use Rattle.model_follow.proofs.LeaderLemmas.{followed_middle}

-- each entry has room, and there are as few as there are numbers
all_short : SpellingsHaveRoom → (before h : History) → EachMayBeTaken before h → All (λ (body : List ℕ). length body ≤ most_body) (bodies_of h)
all_short room before [] each = All-nil (λ (body : List ℕ). length body ≤ most_body)
all_short room before (e ∷ h) each =
    All-cons (λ (body : List ℕ). length body ≤ most_body) (spelling e) (bodies_of h) (room before e each.0.legal.ranges each.0.legal.allowed) (all_short room (before ++ e ∷ []) h each.1)

few_after : (before h : History) → EachMayBeTaken before h → end_of before ≤ 2 ^ 40 → end_of (before ++ h) ≤ 2 ^ 40
few_after before [] each few = let E : History → Type 0 = λ g. end_of g ≤ 2 ^ 40 in subst E (sym (append-nil before)) few
few_after before (e ∷ h) each few =
    let E : History → Type 0 = λ g. end_of g ≤ 2 ^ 40 in subst E (append_assoc before (e ∷ []) h) (few_after (before ++ e ∷ []) h each.1 each.0.fits)

pub few : (h : History) → CanBeFollowed h → length h < 2 ^ 40
few h can = omega (arith, end_of-least h, few_after [] h can (omega arith))

pub exports_read : SpellingsHaveRoom → ExportsAreStreams → ExportsCanBeRead
exports_read room streams h from can =
    streams from (bodies_of h) (omega (arith, few h can, length-map h spelling)) (all_short room [] h can)

-- ---- a follower is led to its leader

drop_numbered : (k n : ℕ) (bodies : List (List ℕ)) → drop k (numbered n bodies) ≡ numbered (n + k) (drop k bodies)
drop_numbered zero n bodies = ap (λ (m : ℕ). numbered m bodies) (omega arith)
drop_numbered (suc k) n [] = refl
drop_numbered (suc k) n (body ∷ bodies) = drop_numbered k (n + 1) bodies ∙ ap (λ (m : ℕ). numbered m (drop k bodies)) (omega arith)

-- an entry of the leader that lies inside a front of it is that front's
inside : (history more before rest : History) (e : Entry) → history ++ more ≡ before ++ e ∷ rest → length before < length history → slice_get (bodies_of history) (length before) ≡ Some (spelling e)
inside [] more before rest e same within = absurd (omega (arith, within))
inside (x ∷ history) more [] rest e same within = ap (λ (y : Entry). Some (spelling y)) (first_same x e (history ++ more) rest same)
  where
    first_same : (a b : Entry) (xs ys : History) → a ∷ xs ≡ b ∷ ys → a ≡ b
    first_same a b xs ys e = cc
inside (x ∷ history) more (y ∷ before) rest e same within = inside history more before rest e (rest_same x y (history ++ more) (before ++ e ∷ rest) same) (omega (arith, within))
  where
    rest_same : (a b : Entry) (xs ys : History) → a ∷ xs ≡ b ∷ ys → xs ≡ ys
    rest_same a b xs ys e = cc

-- two fronts of one length are one
same_front : (xs ys more rest : History) → xs ++ more ≡ ys ++ rest → length xs ≡ length ys → xs ≡ ys
same_front [] [] more rest same long = refl
same_front [] (y ∷ ys) more rest same long = absurd (omega (arith, long))
same_front (x ∷ xs) [] more rest same long = absurd (omega (arith, long))
same_front (x ∷ xs) (y ∷ ys) more rest same long =
    let head : x ≡ y = cc in
    let tail : xs ≡ ys = same_front xs ys more rest (tails x y (xs ++ more) (ys ++ rest) same) (omega (arith, long)) in
    cc
  where
    tails : (a b : Entry) (xs ys : History) → a ∷ xs ≡ b ∷ ys → xs ≡ ys
    tails a b xs ys e = cc

-- the leader's entries behind some, from a history that has those and maybe more of them
leads : (leader history before rest : History) (n : ℕ) → SpellingsHaveRoom → CanBeFollowed leader → GoesOnFrom history leader → leader ≡ before ++ rest → length before ≤ length history
    → n ≡ length before + 1
    → (outcomes : List (Outcome Note History)) × IsRun Follows history (numbered n (bodies_of rest)) outcomes × (last_state history outcomes ≡ leader)
leads leader history before [] n room can on split long is =
    let whole : leader ≡ before = split ∙ append-nil before in
    let same : history ≡ before = same_front history before on.0 [] (sym on.1 ∙ split)
    (omega (arith, long, ap (λ (h : History). length h) whole, ap (λ (h : History). length h) on.1, length-append history on.0)) in
    ([], tt, same ∙ sym whole)
leads leader history before (e ∷ rest) n room can on split long is = elim (cases_lt (length before) (length history)) [
  | inl within ↦
      had within
      (leads leader history (before ++ e ∷ []) rest (n + 1) room can on again (omega (arith, within, length-append before (e ∷ []))) (omega (arith, is, length-append before (e ∷ []))))
  | inr past ↦
      let level : length before ≡ length history = omega (arith, long, past) in
      took level
      (leads leader (history ++ e ∷ []) (before ++ e ∷ []) rest (n + 1) room can (next_on level) again
      (omega (arith, level, length-append before (e ∷ []), length-append history (e ∷ []))) (omega (arith, is, length-append before (e ∷ []))))
]
  where
    may : MayBeTaken before e
    may = followed_middle before e rest (subst CanBeFollowed split can)

    proper : IsFramed (record { number = n; body = spelling e })
    proper = record {
      counted = omega (arith, is);
      numbered = omega (arith, is, few leader can, ap (λ (h : History). length h) split, length-append before (e ∷ rest));
      short = room before e may.legal.ranges may.legal.allowed;
    }

    again : leader ≡ (before ++ e ∷ []) ++ rest
    again = split ∙ sym (append_assoc before (e ∷ []) rest)

    same : length before ≡ length history → before ≡ history
    same level = same_front before history (e ∷ rest) on.0 (sym split ∙ on.1) level

    next_on : length before ≡ length history → GoesOnFrom (history ++ e ∷ []) leader
    next_on level = (rest, again ∙ ap (λ (h : History). (h ++ e ∷ []) ++ rest) (same level))

    had : length before < length history
        → ((outcomes : List (Outcome Note History)) × IsRun Follows history (numbered (n + 1) (bodies_of rest)) outcomes × (last_state history outcomes ≡ leader))
        → (outcomes : List (Outcome Note History)) × IsRun Follows history (numbered n (bodies_of (e ∷ rest))) outcomes × (last_state history outcomes ≡ leader)
    had within (outcomes, run, last) =
        let place : n - 1 ≡ length before = omega (arith, is) in
        let here : slice_get (bodies_of history) (n - 1) ≡ Some (spelling e) =
        ap (λ k. slice_get (bodies_of history) k) place ∙ inside history on.0 before rest e (sym on.1 ∙ split) within in
        (record { reply = Had n; next = history } ∷ outcomes, ((refl, record { proper = proper; is = here }, refl), run), last)

    took : length before ≡ length history
        → ((outcomes : List (Outcome Note History)) × IsRun Follows (history ++ e ∷ []) (numbered (n + 1) (bodies_of rest)) outcomes × (last_state (history ++ e ∷ []) outcomes ≡ leader))
        → (outcomes : List (Outcome Note History)) × IsRun Follows history (numbered n (bodies_of (e ∷ rest))) outcomes × (last_state history outcomes ≡ leader)
    took level (outcomes, run, last) = (
      record { reply = Took n; next = history ++ e ∷ [] } ∷ outcomes,
      ((refl, omega (arith, is, level), (e, refl, subst (λ (h : History). MayBeTaken h e) (same level) may, refl)), run),
      last,
    )

pub exports_lead : SpellingsHaveRoom → ExportsLeadToTheLeader
exports_lead room leader history from can on some within =
    let k = from - 1 in
    let long : k ≤ length leader = omega (arith, within, ap (λ (h : History). length h) on.1, length-append history on.0) in
    let before = take k leader in
    let rest = drop k leader in
    let led = leads leader history before rest from room can on (sym (take-append-drop k leader)) (omega (arith, within, length-take-le k leader long)) (omega (arith, some, length-take-le k leader long)) in
    let same : export from (bodies_of leader) ≡ numbered from (bodies_of rest) =
    drop_numbered k 1 (bodies_of leader) ∙ ap (λ (m : ℕ). numbered m (drop k (bodies_of leader))) (omega (arith, some)) ∙ ap (λ (b : List (List ℕ)). numbered from b) (drop-map spelling k leader) in
    (led.0, subst (λ (ps : List Framed). IsRun Follows history ps led.0) (sym same) led.1, led.2)
