-- A run over packets: what was read so far, and how it ends.
use Rattle.std.proofs.Common.{◌≡◌, ℕ, suc, ◌+◌, List, [], ◌∷◌, ◌++◌, length, All, Option, Some, None, Result, Ok, Err, IfErr, MatchResult, inl, inr, refl, ap, sym, subst, ◌∙◌, arith, append_assoc}
use Rattle.std.proofs.lemmas.List.{append-nil, append_cancel_left, length-append}
use Rattle.std.proofs.lemmas.List.Elements.{All-append, All-cons, All-map, All-nil, All-weaker}
use Rattle.machine_model.specs.Pulls.{Pull}
use Rattle.machine_model.specs.Pushes.{IsPrefix, IsSameBeside, OnlyShows}
use Rattle.machine_model.specs.States.{DiskState, MachineState, SinkState, SourceState, moment}
use Rattle.machine_model.proofs.MomentLemmas.{allowed_left, joined}
use Rattle.journal_bodies.specs.Numbered.{NumberedState}
use Rattle.journal_packets.specs.Packets.{Framed, IsFramed, first, framed, packet_bytes}
use Rattle.journal_packets.specs.Reading.{Holds, IsAwaited, PacketsState, Says, Takes}
use Rattle.journal_packets.specs.Streams.{Reads, stream}
use Rattle.journal_packets.specs.declared.error.PacketError.{PacketError}
use Rattle.journal_packets.specs.declared.error.PacketError.TheVariants as errors
use Rattle.journal_packets.specs.declared.first.First.TheVariants.{Bad, End, More}
use Rattle.journal_packets.specs.declared.packet.Packet.{Packet}
use Rattle.model_archive.specs.Runs.{IsRun, Outcome, shown_by}
use Rattle.model_archive.specs.Standing.{Carried, last_state}
use Rattle.model_archive.proofs.RunLemmas.{carried_joins, last_state_joins, runs_join, shown_by_joins}
use Rattle.archive_hand.specs.Changing.{KeepsBy}
use Rattle.archive_hand.specs.States.{ArchiveState}
use Rattle.archive_hand.specs.Stored.{EachStandsBy, StandsBy, Store}
use Rattle.archive_hand.proofs.ByReadsLemmas.{stands_by}
use Rattle.model_follow.specs.Following.{Note, length_text, note_text}
use Rattle.run_taking.specs.Following.{ComesAfterLines, EndsAt, TellsAll}
use Rattle.run_taking.specs.Serving.{CarriesOut, Gives, HasGoneOver, IsCarriedOut, IsFollowing, IsShown, Pulling, Serves, Serving, StoreFollows, next_by, pulls_beside}
use Rattle.run_taking.specs.declared.ended.Ended.{Ended}
use Rattle.run_taking.specs.declared.ended.Ended.TheVariants as ends
use Rattle.run_taking.proofs.ShownLemmas.{following_beside}

-- ---- reading

stream_append : (these those : List Framed) → stream (these ++ those) ≡ stream these ++ stream those
stream_append [] those = refl
stream_append (p ∷ these) those = ap (λ (l : List ℕ). packet_bytes p.number p.body ++ l) (stream_append these those) ∙ sym (append_assoc (packet_bytes p.number p.body) (stream these) (stream those))

reads_held : (pulled more : List ℕ) (packets : List Framed) (old new : PacketsState) → Reads pulled packets old → Holds (old.bytes ++ more) old.passed new → Reads (pulled ++ more) packets new
reads_held pulled more packets old new reads holds = record {
  proper = reads.proper;
  split = ap (λ (l : List ℕ). l ++ more) reads.split ∙ append_assoc (stream packets) old.bytes more ∙ ap (λ (l : List ℕ). stream packets ++ l) (sym holds.bytes_are);
  before = holds.passed_is ∙ reads.before;
}

reads_packet : (pulled more : List ℕ) (packets : List Framed) (packet : Packet) (old new : PacketsState) → Reads pulled packets old → Takes (old.bytes ++ more) old.passed packet new → Reads (pulled ++ more) (packets ++ framed packet ∷ []) new
reads_packet pulled more packets packet old new reads takes =
    let bytes : List ℕ = packet_bytes packet.number packet.body.items in
    let joined : stream (packets ++ framed packet ∷ []) ≡ stream packets ++ bytes = stream_append packets (framed packet ∷ []) ∙ ap (λ (l : List ℕ). stream packets ++ l) (append-nil bytes) in
    record {
      proper = All-append IsFramed packets (framed packet ∷ []) reads.proper (All-cons IsFramed (framed packet) [] takes.proper (All-nil IsFramed));
      split = ap (λ (l : List ℕ). l ++ more) reads.split ∙ append_assoc (stream packets) old.bytes more ∙ ap (λ (l : List ℕ). stream packets ++ l) takes.split
          ∙ sym (append_assoc (stream packets) bytes new.bytes) ∙ ap (λ (l : List ℕ). l ++ new.bytes) (sym joined);
      before = omega (arith, takes.passed_is, reads.before, ap length joined, length-append (stream packets) bytes);
    }

-- what the reader said where it gave a packet
gave_packet : (held held_now : PacketsState) (packet : Packet) (before after : SourceState) → (g : Gives held held_now (Ok packet) before after) → Takes (held.bytes ++ g.more) held.passed packet held_now
gave_packet held held_now packet before after g = go g.answer g.next_is g.says
  where
    go : (a : Result (Option Packet) PacketError) → Ok packet ≡ next_by a → Says (held.bytes ++ g.more) held.passed a held_now → Takes (held.bytes ++ g.more) held.passed packet held_now
    go (Ok (Some other)) is says = let same : packet ≡ other = cc in subst (λ (p : Packet). Takes (held.bytes ++ g.more) held.passed p held_now) (sym same) says
    go (Ok None) is says = absurd cc
    go (Err error) is says = absurd cc

pub pulling_next : (began now after : SourceState) (held held_now : PacketsState) (packet : Packet) → (p : Pulling began now held) → Gives held held_now (Ok packet) now after → Pulling began after held_now
pulling_next began now after held held_now packet p g = record {
  pulled = p.pulled ++ g.more;
  pulled_are = p.pulled_are ∙ ap (λ (l : List ℕ). p.pulled ++ l) g.gave ∙ sym (append_assoc p.pulled g.more after.left);
  told = g.told p.told;
  packets = p.packets ++ framed packet ∷ [];
  reads = reads_packet p.pulled g.more p.packets packet held held_now p.reads (gave_packet held held_now packet now after g);
}

-- the place of the packet
pub packet_at : (began now after : SourceState) (held held_now : PacketsState) (packet : Packet) → (p : Pulling began now held) → Gives held held_now (Ok packet) now after → packet.at ≡ length (stream p.packets)
packet_at began now after held held_now packet p g = (gave_packet held held_now packet now after g).at_is ∙ p.reads.before

-- where there is no packet, the bytes are held
held_on : (held held_now : PacketsState) (end : Ended) (before after : SourceState) → (g : Gives held held_now (Err end) before after) → Holds (held.bytes ++ g.more) held.passed held_now
held_on held held_now end before after g = go g.answer g.next_is g.says
  where
    go : (a : Result (Option Packet) PacketError) → Err end ≡ next_by a → Says (held.bytes ++ g.more) held.passed a held_now → Holds (held.bytes ++ g.more) held.passed held_now
    go (Ok (Some other)) is says = absurd cc
    go (Ok None) is says = says.1
    go (Err (errors.Bad at)) is says = says.2
    go (Err errors.Budget) is says = says.2
    go (Err errors.Failed) is says = says.2
    go (Err errors.Memory) is says = says

pub pulling_held : (began now after : SourceState) (held held_now : PacketsState) (end : Ended) → (p : Pulling began now held) → Gives held held_now (Err end) now after → Pulling began after held_now
pulling_held began now after held held_now end p g = record {
  pulled = p.pulled ++ g.more;
  pulled_are = p.pulled_are ∙ ap (λ (l : List ℕ). p.pulled ++ l) g.gave ∙ sym (append_assoc p.pulled g.more after.left);
  told = g.told p.told;
  packets = p.packets;
  reads = reads_held p.pulled g.more p.packets held held_now p.reads (held_on held held_now end now after g);
}

-- ---- pulls

-- the run so far, with the source as it is now
abbrev pub with_source : MachineState → SourceState → MachineState
with_source m source = record { source = source; sink = m.sink; disk = m.disk }

lines_on : {S : Type 0} (input : SourceState) (output : SinkState) (packets more : List Framed) (outcomes further : List (Outcome Note S)) (pull : Pull) → ComesAfterLines input output packets outcomes pull → ComesAfterLines input output (packets ++ more) (outcomes ++ further) pull
lines_on input output packets more outcomes further pull was = record {
  pulled = was.pulled;
  pulled_are = was.pulled_are;
  before = was.before;
  to_come = was.to_come ++ more;
  packets_are = ap (λ (l : List Framed). l ++ more) was.packets_are ∙ append_assoc was.before was.to_come more;
  rest = was.rest;
  split = was.split;
  open_rest = was.open_rest;
  answered = was.answered;
  not_yet = was.not_yet ++ further;
  outcomes_are = ap (λ l. l ++ further) was.outcomes_are ∙ append_assoc was.answered was.not_yet further;
  each = was.each;
  shown = was.shown;
}

pub all_lines_on : {S : Type 0} (input : SourceState) (output : SinkState) (packets more : List Framed) (outcomes further : List (Outcome Note S)) (pulls : List Pull) → All (ComesAfterLines input output packets outcomes) pulls
    → All (ComesAfterLines input output (packets ++ more) (outcomes ++ further)) pulls
all_lines_on input output packets more outcomes further pulls all =
    All-weaker (ComesAfterLines input output packets outcomes) (ComesAfterLines input output (packets ++ more) (outcomes ++ further)) (λ pull was. lines_on input output packets more outcomes further pull was) pulls all

run_long : {S E R : Type 0} (step : S → E → R → S → Type 0) (state : S) (events : List E) (outcomes : List (Outcome R S)) → IsRun step state events outcomes → length outcomes ≡ length events
run_long step state [] [] run = refl
run_long step state (e ∷ events) (o ∷ outcomes) run = ap suc (run_long step o.next events outcomes run.1)
run_long step state [] (o ∷ outcomes) run = absurd run
run_long step state (e ∷ events) [] run = absurd run

-- a pull in which no packet waited comes after the lines
pull_after : (store : Store) (old now : MachineState) (archive : ArchiveState) (held : PacketsState) (numbered : NumberedState) (before : List Pull) → (serving : Serving store old now archive held numbered before) → (left : List ℕ)
    → IsAwaited held.bytes now.source.left left → ComesAfterLines old.source old.sink serving.pulling.packets serving.outcomes (record { left = left; shown = now.sink.shown })
pull_after store old now archive held numbered before serving left (more, is, waits) =
    let p = serving.pulling in
    record {
      pulled = p.pulled ++ more;
      pulled_are = p.pulled_are ∙ ap (λ (l : List ℕ). p.pulled ++ l) is ∙ sym (append_assoc p.pulled more left);
      before = p.packets;
      to_come = [];
      packets_are = sym (append-nil p.packets);
      rest = held.bytes ++ more;
      split = ap (λ (l : List ℕ). l ++ more) p.reads.split ∙ append_assoc (stream p.packets) held.bytes more;
      open_rest = waits;
      answered = serving.outcomes;
      not_yet = [];
      outcomes_are = sym (append-nil serving.outcomes);
      each = run_long StoreFollows store p.packets serving.outcomes serving.run;
      shown = serving.shown;
    }

pub all_pulls : (store : Store) (old now : MachineState) (archive : ArchiveState) (held : PacketsState) (numbered : NumberedState) (before : List Pull) (lefts : List (List ℕ)) → (serving : Serving store old now archive held numbered before)
    → All (IsAwaited held.bytes now.source.left) lefts → All (ComesAfterLines old.source old.sink serving.pulling.packets serving.outcomes) (before ++ pulls_beside now.sink.shown lefts)
all_pulls store old now archive held numbered before lefts serving awaited =
    let P : Pull → Type 0 = ComesAfterLines old.source old.sink serving.pulling.packets serving.outcomes in
    All-append P before (pulls_beside now.sink.shown lefts) serving.after_lines
    (All-map P (λ left. record { left = left; shown = now.sink.shown }) lefts
    (All-weaker (IsAwaited held.bytes now.source.left) (λ left. P (record { left = left; shown = now.sink.shown })) (λ left one. pull_after store old now archive held numbered before serving left one) lefts awaited))

-- ---- a packet was carried out

abbrev shown_next : (outcomes : List (Outcome Note Store)) (o : Outcome Note Store) → shown_by note_text (outcomes ++ o ∷ []) ≡ shown_by note_text outcomes ++ note_text o.reply
shown_next outcomes o = shown_by_joins note_text outcomes (o ∷ []) ∙ ap (λ (l : List ℕ). shown_by note_text outcomes ++ l) (append-nil (note_text o.reply))

pub serving_next : (store : Store) (old now : MachineState) (source : SourceState) (sink : SinkState) (disk : DiskState) (archive archive_now : ArchiveState) (held held_now : PacketsState) (numbered numbered_now : NumberedState) (before : List Pull) (lefts : List (List ℕ)) (packet : Packet)
    → (serving : Serving store old now archive held numbered before) → All (IsAwaited held.bytes now.source.left) lefts → Gives held held_now (Ok packet) now.source source
    → IsCarriedOut (last_state store serving.outcomes) packet.at (framed packet) (Ok tt) now.sink.shown sink.shown now.disk disk archive_now numbered_now
    → Serving store old (record { source = source; sink = sink; disk = disk }) archive_now held_now numbered_now (before ++ pulls_beside now.sink.shown lefts)
unfolding pulling_next
serving_next store old now source sink disk archive archive_now held held_now numbered numbered_now before lefts packet serving awaited gives carried =
    let (is, whole, following) = carried.came in
    let outcomes = serving.outcomes in
    let o = is.outcome in
    let earlier = shown_by note_text outcomes in
    record {
      pulling = pulling_next old.source now.source source held held_now packet serving.pulling gives;
      outcomes = outcomes ++ o ∷ [];
      run = runs_join StoreFollows store serving.pulling.packets (framed packet ∷ []) outcomes (o ∷ []) serving.run (is.step, tt);
      shown = is.shown_is ∙ ap (λ (l : List ℕ). l ++ is.shown) serving.shown ∙ append_assoc old.sink.shown earlier is.shown
          ∙ ap (λ (l : List ℕ). old.sink.shown ++ l) (ap (λ (l : List ℕ). earlier ++ l) whole ∙ sym (shown_next outcomes o));
      carried = carried_joins (o ∷ []) disk serving.carried (subst (λ (l : List ℕ). Carried note_text StandsBy (last_state store outcomes) (o ∷ []) l now.disk disk) serving.shown is.carried);
      following = subst (λ (s : Store). IsFollowing disk archive_now numbered_now s) (sym (last_state_joins store outcomes (o ∷ []))) following;
      after_lines = all_lines_on old.source old.sink serving.pulling.packets (framed packet ∷ []) outcomes (o ∷ []) (before ++ pulls_beside now.sink.shown lefts)
          (all_pulls store old now archive held numbered before lefts serving awaited);
    }

-- ---- the run has ended

-- there is no next packet: what is said of the place
ends_here : (held held_now : PacketsState) (end : Ended) (before after : SourceState) (count : ℕ) (passed : ℕ) (s : Store) → (g : Gives held held_now (Err end) before after) → passed ≡ held.passed → count ≡ held.passed + length (held.bytes ++ g.more)
    → (end ≡ ends.Done → ⊥) → EndsAt end s.history passed count held_now.ended [] held_now.bytes
ends_here held held_now end before after count passed s g at counted going = go g.answer g.next_is g.says
  where
    F : Holds (held.bytes ++ g.more) held.passed held_now → (f : _) → first held_now.ended (held.bytes ++ g.more) ≡ f → first held_now.ended held_now.bytes ≡ f
    F holds f is = subst (λ (l : List ℕ). first held_now.ended l ≡ f) (sym holds.bytes_are) is

    E : Ended → Type 0
    E e = EndsAt e s.history passed count held_now.ended [] held_now.bytes

    go : (a : Result (Option Packet) PacketError) → Err end ≡ next_by a → Says (held.bytes ++ g.more) held.passed a held_now → EndsAt end s.history passed count held_now.ended [] held_now.bytes
    go (Ok (Some packet)) is says = absurd cc
    go (Ok None) is says = absurd (going cc)
    go (Err (errors.Bad place)) is says = let same : end ≡ ends.Packet place = cc in subst E (sym same) (inl (says.1 ∙ sym at, refl, F says.2 Bad says.0))
    go (Err errors.Budget) is says = let same : end ≡ ends.Budget = cc in subst E (sym same) (refl, F says.2 More says.0, counted ∙ says.1)
    go (Err errors.Failed) is says = let same : end ≡ ends.Source = cc in subst E (sym same) (refl, F says.2 More says.0, omega (arith, counted, says.1))
    go (Err errors.Memory) is says = let same : end ≡ ends.Memory = cc in subst E (sym same) tt

-- at the end of the input
done_here : (held held_now : PacketsState) (end : Ended) (before after : SourceState) → Gives held held_now (Err end) before after → end ≡ ends.Done → first held_now.ended held_now.bytes ≡ End
done_here held held_now end before after g done = go g.answer g.next_is g.says
  where
    go : (a : Result (Option Packet) PacketError) → Err end ≡ next_by a → Says (held.bytes ++ g.more) held.passed a held_now → first held_now.ended held_now.bytes ≡ End
    go (Ok (Some packet)) is says = absurd cc
    go (Ok None) is says = subst (λ (l : List ℕ). first held_now.ended l ≡ End) (sym says.1.bytes_are) says.0
    go (Err (errors.Bad place)) is says = absurd cc
    go (Err errors.Budget) is says = absurd cc
    go (Err errors.Failed) is says = absurd cc
    go (Err errors.Memory) is says = absurd cc

-- a list of packets with none behind it
none_behind : (packets : List Framed) → All IsFramed packets → All IsFramed (packets ++ [])
none_behind packets all = subst (All IsFramed) (sym (append-nil packets)) all

pub ended_by : (store : Store) (old now : MachineState) (source : SourceState) (archive : ArchiveState) (held held_now : PacketsState) (numbered : NumberedState) (before : List Pull) (lefts : List (List ℕ)) (end : Ended)
    → (serving : Serving store old now archive held numbered before) → All (IsAwaited held.bytes now.source.left) lefts → Gives held held_now (Err end) now.source source
    → HasGoneOver store end old (with_source now source) archive held_now numbered (before ++ pulls_beside now.sink.shown lefts)
unfolding pulling_held
ended_by store old now source archive held held_now numbered before lefts end serving awaited gives =
    let pulls = before ++ pulls_beside now.sink.shown lefts in
    let p = pulling_held old.source now.source source held held_now end serving.pulling gives in
    let outcomes = serving.outcomes in
    let lines = all_pulls store old now archive held numbered before lefts serving awaited in
    let earlier = shown_by note_text outcomes in
    let count : length p.pulled ≡ held.passed + length (held.bytes ++ gives.more) =
    omega (arith, length-append serving.pulling.pulled gives.more, ap length serving.pulling.reads.split, length-append (stream serving.pulling.packets) held.bytes, serving.pulling.reads.before, length-append held.bytes gives.more) in
    record {
      closing = λ done. (
        record { pulling = p; outcomes = outcomes; run = serving.run; shown = serving.shown; carried = serving.carried; following = serving.following; after_lines = lines },
        done_here held held_now end now.source source gives done,
      );
      serves = λ going. record {
        ran = record {
          pulled = p.pulled;
          pulled_are = p.pulled_are;
          ended = held_now.ended;
          ended_is = p.told;
          carried = p.packets;
          behind = [];
          rest = held_now.bytes;
          proper = none_behind p.packets p.reads.proper;
          split = subst (λ (l : List Framed). p.pulled ≡ stream l ++ held_now.bytes) (sym (append-nil p.packets)) p.reads.split;
          outcomes = outcomes;
          run = serving.run;
          ends = ends_here held held_now end now.source source (length p.pulled) (length (stream p.packets)) (last_state store outcomes) gives (sym serving.pulling.reads.before) count going;
          shown = earlier;
          shown_is = serving.shown;
          front = inl ([], sym (append-nil earlier));
          whole = λ tells. ([], sym (append-nil earlier));
          done = λ done. absurd (going done);
          after_lines = lines;
        };
        mid = now.disk;
        carried = serving.carried;
        closing = inl refl;
        steady = λ tells. stands_by now.disk archive (last_state store outcomes) serving.following.in_step;
      };
    }

-- ---- a packet ended the run

-- each image that is allowed now stands for what was kept
keeps_now : (s : Store) (old new : DiskState) → KeepsBy s old new → EachStandsBy new s
keeps_now s old new keeps = λ image allowed. (keeps.images image new.now.beside (allowed_left new (moment old) image allowed)).0

-- nothing came of the packet
carried_none : (store : Store) (outcomes : List (Outcome Note Store)) (before : List ℕ) (old mid new : DiskState) → mid.now.beside ≡ before ++ shown_by note_text outcomes → Carried note_text StandsBy store outcomes before old mid → KeepsBy (last_state store outcomes) mid new
    → Carried note_text StandsBy store outcomes before old new
carried_none store outcomes before old mid new beside carried keeps =
    subst (λ (os : List (Outcome Note Store)). Carried note_text StandsBy store os before old new) (append-nil outcomes)
    (carried_joins [] new carried (record { goes_on = keeps.goes_on; images = λ image other left. let was = keeps.images image other left in ([], was.1 ∙ beside ∙ sym (append-nil (before ++ shown_by note_text outcomes)), (was.0, refl)) }))

-- a run that ended at a packet
pub stopped : (store : Store) (old now : MachineState) (source : SourceState) (sink : SinkState) (disk : DiskState) (archive archive_now : ArchiveState) (held held_now : PacketsState) (numbered numbered_now : NumberedState) (before : List Pull) (lefts : List (List ℕ)) (packet : Packet) (end : Ended)
    → (end ≡ ends.Done → ⊥) → now.disk.now.beside ≡ now.sink.shown → (serving : Serving store old now archive held numbered before) → All (IsAwaited held.bytes now.source.left) lefts → Gives held held_now (Ok packet) now.source source
    → IsCarriedOut (last_state store serving.outcomes) packet.at (framed packet) (Err end) now.sink.shown sink.shown now.disk disk archive_now numbered_now
    → Serves store end old (record { source = source; sink = sink; disk = disk }) (before ++ pulls_beside now.sink.shown lefts)
unfolding pulling_next
stopped store old now source sink disk archive archive_now held held_now numbered numbered_now before lefts packet end going beside serving awaited gives out = go end going out.came
  where
    outcomes : List (Outcome Note Store)
    outcomes = serving.outcomes

    s : Store
    s = last_state store outcomes

    packets : List Framed
    packets = serving.pulling.packets

    p : Pulling old.source source held_now
    p = pulling_next old.source now.source source held held_now packet serving.pulling gives

    pulls : List Pull
    pulls = before ++ pulls_beside now.sink.shown lefts

    earlier : List ℕ
    earlier = shown_by note_text outcomes

    lines : All (ComesAfterLines old.source old.sink packets outcomes) pulls
    lines = all_pulls store old now archive held numbered before lefts serving awaited

    new : MachineState
    new = record { source = source; sink = sink; disk = disk }

    place : packet.at ≡ length (stream packets)
    place = packet_at old.source now.source source held held_now packet serving.pulling gives

    -- nothing came of it
    undone : (e : Ended) → (e ≡ ends.Done → ⊥) → EndsAt e s.history (length (stream packets)) (length p.pulled) held_now.ended (framed packet ∷ []) held_now.bytes → KeepsBy s now.disk disk → sink.shown ≡ now.sink.shown → Serves store e old new pulls
    undone e going here keeps still = record {
      ran = record {
        pulled = p.pulled;
        pulled_are = p.pulled_are;
        ended = held_now.ended;
        ended_is = p.told;
        carried = packets;
        behind = framed packet ∷ [];
        rest = held_now.bytes;
        proper = p.reads.proper;
        split = p.reads.split;
        outcomes = outcomes;
        run = serving.run;
        ends = here;
        shown = earlier;
        shown_is = still ∙ serving.shown;
        front = inl ([], sym (append-nil earlier));
        whole = λ tells. ([], sym (append-nil earlier));
        done = λ done. absurd (going done);
        after_lines = lines;
      };
      mid = disk;
      closing = inl refl;
      carried = carried_none store outcomes old.sink.shown old.disk now.disk disk (beside ∙ serving.shown) serving.carried keeps;
      steady = λ tells. keeps_now s now.disk disk keeps;
    }

    -- it was carried out, but its line isn't shown whole
    part : (e : Ended) → (TellsAll e → ⊥) → (e ≡ ends.Done → ⊥) → EndsAt e (last_state store (outcomes ++ [])).history (length (stream packets)) (length p.pulled) held_now.ended [] held_now.bytes → IsShown s (framed packet) now.sink.shown sink.shown now.disk disk → Serves store e old new pulls
    part e quiet going here is =
        let o = is.outcome in
        let all = outcomes ++ o ∷ [] in
        let told = earlier ++ is.shown in
        record {
          ran = record {
            pulled = p.pulled;
            pulled_are = p.pulled_are;
            ended = held_now.ended;
            ended_is = p.told;
            carried = p.packets;
            behind = [];
            rest = held_now.bytes;
            proper = none_behind p.packets p.reads.proper;
            split = subst (λ (l : List Framed). p.pulled ≡ stream l ++ held_now.bytes) (sym (append-nil p.packets)) p.reads.split;
            outcomes = all;
            run = runs_join StoreFollows store packets (framed packet ∷ []) outcomes (o ∷ []) serving.run (is.step, tt);
            ends = any e quiet here all;
            shown = told;
            shown_is = is.shown_is ∙ ap (λ (l : List ℕ). l ++ is.shown) serving.shown ∙ append_assoc old.sink.shown earlier is.shown;
            front = inl (is.front.0, shown_next outcomes o ∙ ap (λ (l : List ℕ). earlier ++ l) is.front.1 ∙ sym (append_assoc earlier is.shown is.front.0));
            whole = λ tells. absurd (quiet tells);
            done = λ done. absurd (going done);
            after_lines = all_lines_on old.source old.sink packets (framed packet ∷ []) outcomes (o ∷ []) pulls lines;
          };
          mid = disk;
          closing = inl refl;
          carried = carried_joins (o ∷ []) disk serving.carried (subst (λ (l : List ℕ). Carried note_text StandsBy s (o ∷ []) l now.disk disk) serving.shown is.carried);
          steady = λ tells. absurd (quiet tells);
        }
      where
        any : (e : Ended) → (TellsAll e → ⊥) → EndsAt e (last_state store (outcomes ++ [])).history (length (stream packets)) (length p.pulled) held_now.ended [] held_now.bytes → (os : List (Outcome Note Store))
            → EndsAt e (last_state store os).history (length (stream p.packets)) (length p.pulled) held_now.ended [] held_now.bytes
        any ends.Disk quiet is os = tt
        any ends.Sink quiet is os = tt
        any ends.Memory quiet is os = tt
        any (ends.NotArchive at) quiet is os = is
        any other quiet is os = absurd (quiet tt)

    go : (e : Ended) → (e ≡ ends.Done → ⊥) → CarriesOut s packet.at (framed packet) (Err e) now.sink.shown sink.shown now.disk disk archive_now numbered_now → Serves store e old new pulls
    go ends.Sink going is = part ends.Sink (λ t. t) going tt is
    go ends.Disk going (inl (keeps, still)) = undone ends.Disk going tt keeps still
    go ends.Disk going (inr is) = part ends.Disk (λ t. t) going tt is
    go ends.Memory going ((keeps, still), is) = undone ends.Memory going tt keeps still
    go (ends.Gap have got) going ((keeps, still), is) = undone (ends.Gap have got) going (framed packet, [], refl, is) keeps still
    go (ends.Conflict number at kept got) going ((keeps, still), is) = undone (ends.Conflict number at kept got) going (framed packet, [], refl, is) keeps still
    go (ends.Packet at) going ((keeps, still), is) = undone (ends.Packet at) going (inr (framed packet, [], refl, (is.0 ∙ place, is.1))) keeps still
    go other going x = absurd x.1

-- a packet was carried out, or ended the run
pub went_on : (store : Store) (old now : MachineState) (source : SourceState) (sink : SinkState) (disk : DiskState) (archive archive_now : ArchiveState) (held held_now : PacketsState) (numbered numbered_now : NumberedState) (before : List Pull) (lefts : List (List ℕ)) (packet : Packet) (result : Result (Unit {0}) Ended)
    → IfErr result (λ end. end ≡ ends.Done → ⊥) → now.disk.now.beside ≡ now.sink.shown → (serving : Serving store old now archive held numbered before) → All (IsAwaited held.bytes now.source.left) lefts → Gives held held_now (Ok packet) now.source source
    → IsCarriedOut (last_state store serving.outcomes) packet.at (framed packet) result now.sink.shown sink.shown now.disk disk archive_now numbered_now
    → MatchResult result (λ _. Serving store old (record { source = source; sink = sink; disk = disk }) archive_now held_now numbered_now (before ++ pulls_beside now.sink.shown lefts))
    (λ end. HasGoneOver store end old (record { source = source; sink = sink; disk = disk }) archive_now held_now numbered_now (before ++ pulls_beside now.sink.shown lefts))
went_on store old now source sink disk archive archive_now held held_now numbered numbered_now before lefts packet (Ok done) going beside serving awaited gives out =
    serving_next store old now source sink disk archive archive_now held held_now numbered numbered_now before lefts packet serving awaited gives out
went_on store old now source sink disk archive archive_now held held_now numbered numbered_now before lefts packet (Err end) going beside serving awaited gives out = record {
  closing = λ done. absurd (going done);
  serves = λ other. stopped store old now source sink disk archive archive_now held held_now numbered numbered_now before lefts packet end going beside serving awaited gives out;
}

-- ---- the last line

abbrev pub IsLast : Ended → Type 0
IsLast ends.Done = Unit {0}
IsLast ends.Sink = Unit {0}
IsLast other = ⊥

pub closed : (store : Store) (end : Ended) (old now : MachineState) (source : SourceState) (sink : SinkState) (disk : DiskState) (archive : ArchiveState) (held : PacketsState) (numbered : NumberedState) (pulls : List Pull) (line : List ℕ) → IsLast end → (serving : Serving store old now archive held numbered pulls)
    → first held.ended held.bytes ≡ End → line ≡ length_text (length (last_state store serving.outcomes).history) → source ≡ now.source → OnlyShows now.disk disk now.sink.shown sink.shown → IsSameBeside now.disk disk → IsPrefix sink.shown (now.sink.shown ++ line)
    → (end ≡ ends.Done → sink.shown ≡ now.sink.shown ++ line) → Serves store end old (record { source = source; sink = sink; disk = disk }) pulls
closed store end old now source sink disk archive held numbered pulls line last serving at_end line_is still shows same front all =
    let p = serving.pulling in
    let outcomes = serving.outcomes in
    let earlier = shown_by note_text outcomes in
    let part = shows.grows.0 in
    let text = length_text (length (last_state store outcomes).history) in
    let rest : line ≡ part ++ front.0 = append_cancel_left now.sink.shown line (part ++ front.0) (front.1 ∙ ap (λ (l : List ℕ). l ++ front.0) shows.grows.1 ∙ append_assoc now.sink.shown part front.0) in
    record {
      ran = record {
        pulled = p.pulled;
        pulled_are = subst (λ (x : SourceState). old.source.left ≡ p.pulled ++ x.left) (sym still) p.pulled_are;
        ended = held.ended;
        ended_is = λ told. ap (λ (x : SourceState). x.left) still ∙ p.told told;
        carried = p.packets;
        behind = [];
        rest = held.bytes;
        proper = none_behind p.packets p.reads.proper;
        split = subst (λ (l : List Framed). p.pulled ≡ stream l ++ held.bytes) (sym (append-nil p.packets)) p.reads.split;
        outcomes = outcomes;
        run = serving.run;
        ends = at end last;
        shown = earlier ++ part;
        shown_is = shows.grows.1 ∙ ap (λ (l : List ℕ). l ++ part) serving.shown ∙ append_assoc old.sink.shown earlier part;
        front = inr (refl, at_end, (front.0, ap (λ (l : List ℕ). earlier ++ l) (sym line_is ∙ rest) ∙ sym (append_assoc earlier part front.0)));
        whole = λ tells. (part, refl);
        done = λ done. ap (λ (l : List ℕ). earlier ++ l) (append_cancel_left now.sink.shown part line (sym shows.grows.1 ∙ all done) ∙ line_is);
        after_lines = serving.after_lines;
      };
      mid = now.disk;
      carried = serving.carried;
      closing = inr (record {
        goes_on = shows.goes_on;
        images = λ image beside left.
            let is = shows.since image beside left in (
              is.1.0,
              is.1.1 ∙ ap (λ (l : List ℕ). l ++ is.1.0) serving.shown ∙ append_assoc old.sink.shown earlier is.1.0,
              stands_by now.disk archive (last_state store outcomes) serving.following.in_step image is.0,
            );
      });
      steady = λ tells. stands_by disk archive (last_state store outcomes) (following_beside now.disk disk archive numbered (last_state store outcomes) same serving.following).in_step;
    }
  where
    at : (e : Ended) → IsLast e → EndsAt e (last_state store serving.outcomes).history (length (stream serving.pulling.packets)) (length serving.pulling.pulled) held.ended [] held.bytes
    at ends.Done last = (refl, at_end)
    at ends.Sink last = tt
    at other last = absurd last
