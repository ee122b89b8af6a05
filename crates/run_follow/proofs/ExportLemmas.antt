-- An export as it goes on, and at its end.
use Rattle.std.proofs.Common.{◌≡◌, ℕ, zero, suc, ◌+◌, ◌-◌, ◌≤◌, List, [], ◌∷◌, ◌++◌, length, take, drop, All, Some, Result, Err, IsOk, inl, inr, refl, ap, sym, subst, ◌∙◌, arith, append_assoc}
use Rattle.std.specs.Prelude.{slice_get}
use Rattle.std.specs.Result.{is_ok}
use Rattle.std.proofs.lemmas.Bool.{false≢true}
use Rattle.std.proofs.lemmas.List.{append-nil, append_cancel_left}
use Rattle.std.proofs.lemmas.List.Elements.{All-nil, All-cons, All-head, All-tail}
use Rattle.std.proofs.lemmas.Option.{slice_get_cases}
use Rattle.machine_model.specs.Areas.{Bytes}
use Rattle.machine_model.specs.Calls.{OnlyReads}
use Rattle.machine_model.specs.Pushes.{IsPrefix, OnlyShows}
use Rattle.machine_model.specs.States.{DiskState, SinkState}
use Rattle.journal_gates.specs.declared.head.Head.{Head}
use Rattle.journal_gates.specs.Records.{first_gate}
use Rattle.journal_gates.proofs.HeadLemmas.{length_heads}
use Rattle.journal_entries.specs.Spelling.{spelling}
use Rattle.journal_bodies.specs.Numbered.{AreIn, LiesAt, NumberedState}
use Rattle.journal_packets.specs.Packets.{most_body, packet_bytes}
use Rattle.journal_packets.specs.Streams.{export, stream}
use Rattle.plans_kinds.specs.Plans.{IsFitFor}
use Rattle.model_archive.specs.Histories.{History}
use Rattle.model_archive.specs.Legal.{EachMayCome}
use Rattle.model_archive.specs.Stands.{bodies_of}
use Rattle.model_follow.specs.Laws.{SpellingsHaveRoom}
use Rattle.run_follow.specs.Exporting.{Shows, ShowsPacket}
use Rattle.run_follow.proofs.BesideLemmas.{reads_show, shows_join}
use Rattle.run_follow.proofs.PacketLemmas.{export_all, export_front, export_more}

-- a packet has room for each entry of a history that loads
pub all_short : SpellingsHaveRoom → (before h : History) → EachMayCome IsFitFor before h → All (λ (body : List ℕ). length body ≤ most_body) (bodies_of h)
all_short room before [] each = All-nil (λ (body : List ℕ). length body ≤ most_body)
all_short room before (e ∷ h) each =
    All-cons (λ (body : List ℕ). length body ≤ most_body) (spelling e) (bodies_of h) (room before e each.0.ranges each.0.allowed) (all_short room (before ++ e ∷ []) h each.1)

-- a body of a number is one of these
pub short_at : (all : List (List ℕ)) (k : ℕ) (body : List ℕ) → All (λ (b : List ℕ). length b ≤ most_body) all → slice_get all k ≡ Some body → length body ≤ most_body
short_at [] k body short is = absurd cc
short_at (b ∷ all) zero body short is = let same : b ≡ body = cc in subst (λ (x : List ℕ). length x ≤ most_body) same (All-head (λ (x : List ℕ). length x ≤ most_body) b all short)
short_at (b ∷ all) (suc k) body short is = short_at all k body (All-tail (λ (x : List ℕ). length x ≤ most_body) b all short) is

-- there are as many heads as bodies
pub as_many : (journal : List ℕ) (all : List (List ℕ)) (n : NumberedState) → AreIn journal all n → length n.heads ≡ length all
as_many journal all n are = ap (λ (heads : List Head). length heads) are.heads_are ∙ length_heads first_gate all

pub body_of : (journal : List ℕ) (all : List (List ℕ)) (n : NumberedState) (number : ℕ) → AreIn journal all n → 1 ≤ number → number ≤ length n.heads → (body : List ℕ) × (slice_get all (number - 1) ≡ Some body)
body_of journal all n number are some within = elim (slice_get_cases all (number - 1)).1 [
  | inl found ↦ (found.0, found.2)
  | inr past ↦ absurd (omega (arith, some, within, as_many journal all n are, past.0))
]

-- what lies where a head says is the body of the number
pub lies_is : (journal : List ℕ) (all : List (List ℕ)) (number : ℕ) (head : Head) (body : List ℕ) → LiesAt journal all number head → body ≡ take head.bytes (drop head.body journal) → slice_get all (number - 1) ≡ Some body
lies_is journal all number head body lies same = lies ∙ ap Some (sym same)

-- the same bodies are in the same journal
pub are_still : (old new : Bytes) (all : List (List ℕ)) (n : NumberedState) → new ≡ old → AreIn old.journal all n → AreIn new.journal all n
are_still old new all n same are = subst (λ (b : Bytes). AreIn b.journal all n) (sym same) are

-- what failed isn't done
pub not_ok : {T E : Type 0} (r : Result T E) (y : E) → r ≡ Err y → IsOk r → ⊥
not_ok r y is ok = false≢true (sym (ap is_ok is) ∙ ok)

-- ---- a packet

-- nothing was shown of it, or some
pub packet_shown : (all : List (List ℕ)) (number : ℕ) (done : Type 0) (body : List ℕ) (output output_now : SinkState) (old mid new : DiskState) → slice_get all (number - 1) ≡ Some body
    → OnlyReads old mid → old.now.beside ≡ output.shown → OnlyShows mid new output.shown output_now.shown → IsPrefix output_now.shown (output.shown ++ packet_bytes number body)
    → (done → output_now.shown ≡ output.shown ++ packet_bytes number body) → ShowsPacket all number done output output_now old new
packet_shown all number done body output output_now old mid new is reads beside shows front whole = record {
  body = body;
  body_is = is;
  shown = shows.grows.0;
  shown_is = shows.grows.1;
  front = (
    front.0,
    append_cancel_left output.shown (packet_bytes number body) (shows.grows.0 ++ front.0)
        (front.1 ∙ ap (λ (l : List ℕ). l ++ front.0) shows.grows.1 ∙ append_assoc output.shown shows.grows.0 front.0),
  );
  whole = λ well. append_cancel_left output.shown shows.grows.0 (packet_bytes number body) (sym shows.grows.1 ∙ whole well);
  beside = shows_join old mid new output.shown output.shown output_now.shown (reads_show old mid output.shown reads beside) shows;
}

-- the same, where the sink was as it was, and the piece that was shown is the packet
pub packet_by : (all : List (List ℕ)) (number : ℕ) (done : Type 0) (body piece : List ℕ) (output between output_now : SinkState) (old mid new : DiskState) → slice_get all (number - 1) ≡ Some body
    → OnlyReads old mid → old.now.beside ≡ output.shown → between ≡ output → piece ≡ packet_bytes number body → OnlyShows mid new between.shown output_now.shown
    → IsPrefix output_now.shown (between.shown ++ piece) → (done → output_now.shown ≡ between.shown ++ piece) → ShowsPacket all number done output output_now old new
packet_by all number done body piece output between output_now old mid new is reads beside same spelled shows front whole =
    let Q : SinkState → List ℕ → Type 0 =
    λ s l. OnlyShows mid new s.shown output_now.shown × IsPrefix output_now.shown (s.shown ++ l) × (done → output_now.shown ≡ s.shown ++ l) in
    let one : Q output piece = subst (λ (s : SinkState). Q s piece) same (shows, front, whole) in
    let all_of : Q output (packet_bytes number body) = subst (λ (l : List ℕ). Q output l) spelled one in
    packet_shown all number done body output output_now old mid new is reads beside all_of.0 all_of.1 all_of.2

-- nothing was shown of it
pub packet_unshown : (all : List (List ℕ)) (number : ℕ) (done : Type 0) (body : List ℕ) (output output_now : SinkState) (old new : DiskState) → slice_get all (number - 1) ≡ Some body
    → OnlyReads old new → old.now.beside ≡ output.shown → output_now ≡ output → (done → ⊥) → ShowsPacket all number done output output_now old new
packet_unshown all number done body output output_now old new is reads beside same never = record {
  body = body;
  body_is = is;
  shown = [];
  shown_is = ap (λ (s : SinkState). s.shown) same ∙ sym (append-nil output.shown);
  front = (packet_bytes number body, refl);
  whole = λ well. absurd (never well);
  beside = subst (λ (s : SinkState). OnlyShows old new output.shown s.shown) (sym same) (reads_show old new output.shown reads beside);
}

-- ---- one after another

-- Those before a place were shown, from the one of this number on.
pub record Showing (all : List (List ℕ)) (from place : ℕ) (output output_now : SinkState) (old now : DiskState) : Type 0 where
  pub shown_is : output_now.shown ≡ output.shown ++ stream (take (place - (from - 1)) (export from all))
  pub beside : OnlyShows old now output.shown output_now.shown

pub showing_more : (all : List (List ℕ)) (from place : ℕ) (output mid output_now : SinkState) (old now next : DiskState) → from ≤ place + 1 → Showing all from place output mid old now
    → (done : Type 0) → done → ShowsPacket all (place + 1) done mid output_now now next → Showing all from (place + 1) output output_now old next
showing_more all from place output mid output_now old now next begun before done well one =
    let front = stream (take (place - (from - 1)) (export from all)) in
    let is : slice_get all place ≡ Some one.body = ap (slice_get all) (omega arith) ∙ one.body_is in
    record {
      shown_is = one.shown_is ∙ ap (λ (l : List ℕ). l ++ one.shown) before.shown_is ∙ append_assoc output.shown front one.shown
          ∙ ap (λ (l : List ℕ). output.shown ++ (front ++ l)) (one.whole well) ∙ ap (λ (l : List ℕ). output.shown ++ l) (sym (export_more from all place one.body begun is));
      beside = shows_join old now next output.shown mid.shown output_now.shown before.beside one.beside;
    }

-- it ends within a packet
pub shows_part : (all : List (List ℕ)) (from place : ℕ) (output mid output_now : SinkState) (old now next : DiskState) → from ≤ place + 1 → Showing all from place output mid old now
    → (done other : Type 0) → (done → ⊥) → ShowsPacket all (place + 1) other mid output_now now next → Shows all from done output output_now old next
shows_part all from place output mid output_now old now next begun before done other never one =
    let front = stream (take (place - (from - 1)) (export from all)) in
    let is : slice_get all place ≡ Some one.body = ap (slice_get all) (omega arith) ∙ one.body_is in
    record {
      shown = front ++ one.shown;
      shown_is = one.shown_is ∙ ap (λ (l : List ℕ). l ++ one.shown) before.shown_is ∙ append_assoc output.shown front one.shown;
      front = export_front from all place one.body one.shown begun is one.front;
      whole = λ well. absurd (never well);
      beside = shows_join old now next output.shown mid.shown output_now.shown before.beside one.beside;
    }

-- and behind the last one
pub shows_all : (all : List (List ℕ)) (from place : ℕ) (done : Type 0) (output output_now : SinkState) (old new : DiskState) → length all ≤ place → Showing all from place output output_now old new
    → Shows all from done output output_now old new
shows_all all from place done output output_now old new past before =
    let all_of = export_all from all place past in
    record {
      shown = stream (export from all);
      shown_is = before.shown_is ∙ ap (λ (ps : _). output.shown ++ stream ps) all_of;
      front = ([], sym (append-nil (stream (export from all))));
      whole = λ well. refl;
      beside = before.beside;
    }

-- reads in front show nothing
pub shows_behind : (all : List (List ℕ)) (from : ℕ) (done : Type 0) (output between output_now : SinkState) (old mid new : DiskState) → OnlyReads old mid → old.now.beside ≡ output.shown
    → between ≡ output → Shows all from done between output_now mid new → Shows all from done output output_now old new
shows_behind all from done output between output_now old mid new reads beside same shows =
    let s : Shows all from done output output_now mid new = subst (λ (t : SinkState). Shows all from done t output_now mid new) same shows in
    record {
      shown = s.shown;
      shown_is = s.shown_is;
      front = s.front;
      whole = s.whole;
      beside = shows_join old mid new output.shown output.shown output_now.shown (reads_show old mid output.shown reads beside) s.beside;
    }
