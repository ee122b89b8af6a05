-- A line that is shown: pushes change no image, and each image left stands for what was before the packet or after it.
use Rattle.std.proofs.Common.{◌≡◌, ℕ, ◌++◌, List, [], Ok, Err, refl, inl, inr, ap, subst, sym, ◌∙◌, append_assoc}
use Rattle.std.proofs.lemmas.List.{append-nil, append_cancel_left}
use Rattle.machine_model.specs.Areas.{Bytes}
use Rattle.machine_model.specs.Images.{MayLeave}
use Rattle.machine_model.specs.Pushes.{IsPrefix, IsSameBeside, OnlyShows}
use Rattle.machine_model.specs.States.{DiskState}
use Rattle.journal_bodies.specs.Numbered.{AreIn, NumberedState}
use Rattle.journal_gates.specs.InStep.{IsInStep}
use Rattle.journal_packets.specs.Packets.{Framed}
use Rattle.model_archive.specs.Stands.{bodies_of}
use Rattle.model_archive.proofs.RunLemmas.{one_outcome}
use Rattle.archive_hand.specs.Changing.{LeadsBy}
use Rattle.archive_hand.specs.States.{ArchiveState, AreInStepBy}
use Rattle.archive_hand.specs.Stored.{StandsBy, Store}
use Rattle.archive_hand.proofs.ByReadsLemmas.{stands_by}
use Rattle.model_follow.specs.Following.{Note, note_text}
use Rattle.run_taking.specs.Serving.{CameOf, CarriesOut, ComesOfPacket, IsAnswered, IsCarriedOut, IsFollowing, IsShown, StoreFollows}
use Rattle.run_taking.specs.declared.ended.Ended.{Ended}
use Rattle.run_taking.specs.declared.ended.Ended.TheVariants as ends

same_images : (old new : DiskState) → IsSameBeside old new → (image : Bytes) → MayLeave new.now image → MayLeave old.now image
same_images old new same image allowed = λ area. rw (same.stable, same.pending) at (allowed area)

journal_beside : (old new : DiskState) (end : ℕ) (bodies : List (List ℕ)) → IsSameBeside old new → IsInStep old end bodies → IsInStep new end bodies
journal_beside old new end bodies same step = record {
  gate = step.gate;
  shut = step.shut;
  fit = step.fit;
  end_is = step.end_is;
  images = λ image allowed. step.images image (same_images old new same image allowed);
}

in_step_beside : (old new : DiskState) (archive : ArchiveState) (s : Store) → IsSameBeside old new → AreInStepBy old archive s → AreInStepBy new archive s
in_step_beside old new archive s same in_step =
    let was : AreInStepBy (record new { past = old.past; now = old.now }) archive s = subst (λ (d : DiskState). AreInStepBy d archive s) (sym same.same) in_step in
    record {
      stands = in_step.stands;
      asked_are = in_step.asked_are;
      journal = journal_beside old new archive.end (bodies_of s.history) same in_step.journal;
      pages_are = was.pages_are;
      kept_are = in_step.kept_are;
      read_is = was.read_is;
      job_is = in_step.job_is;
      live = in_step.live;
      same = λ image allowed. in_step.same image (same_images old new same image allowed);
      cached = was.cached;
    }

-- an archive follows on over pushes
pub following_beside : (old new : DiskState) (archive : ArchiveState) (numbered : NumberedState) (s : Store) → IsSameBeside old new → IsFollowing old archive numbered s → IsFollowing new archive numbered s
following_beside old new archive numbered s same following =
    let was : AreIn (record new { past = old.past; now = old.now }).holds.journal (bodies_of s.history) numbered =
    subst (λ (d : DiskState). AreIn d.holds.journal (bodies_of s.history) numbered) (sym same.same) following.bodies in
    record { in_step = in_step_beside old new archive s same following.in_step; idle = following.idle; bodies = was }

-- the run ended before the line
pub cut_short : (s : Store) (at : ℕ) (p : Framed) (end : Ended) (before : List ℕ) (old new : DiskState) (archive_now : ArchiveState) (numbered : NumberedState) (page : List ℕ) → ComesOfPacket end → IsAnswered s at p (Err end) old new archive_now numbered page
    → old.now.beside ≡ before → IsCarriedOut s at p (Err end) before before old new archive_now numbered
cut_short s at p end before old new archive_now numbered page comes answered beside = record { came = go end comes answered.came }
  where
    go : (e : Ended) → ComesOfPacket e → CameOf s at p (Err e) old new archive_now numbered page → CarriesOut s at p (Err e) before before old new archive_now numbered
    go ends.Disk comes (inl keeps) = inl (keeps, refl)
    go ends.Disk comes (inr (note, next, follows, leads)) = inr (record {
      outcome = record { reply = note; next = next };
      step = follows;
      carried = record {
        goes_on = leads.goes_on;
        images = λ image other left. let was = leads.images image other left in
            ([], was.1 ∙ beside ∙ sym (append-nil before), elim was.0 [ inl still ↦ inl (still, refl) | inr after ↦ inr (inl (after, (note_text note, refl))) ]);
      };
      shown = [];
      shown_is = sym (append-nil before);
      front = (note_text note, refl);
    })
    go ends.Memory comes (keeps, ends) = ((keeps, refl), ends)
    go (ends.Gap have got) comes (keeps, ends) = ((keeps, refl), ends)
    go (ends.Conflict number place kept got) comes (keeps, ends) = ((keeps, refl), ends)
    go (ends.Packet place) comes (keeps, ends) = ((keeps, refl), ends)
    go other comes came = absurd comes

-- the line was shown, or a front of it
abbrev shown_so : (s : Store) (p : Framed) (before after : List ℕ) (old mid new : DiskState) (archive_now : ArchiveState) (numbered : NumberedState) (note : Note) (next : Store) → StoreFollows s p note next → LeadsBy s next old mid → IsFollowing mid archive_now numbered next
    → old.now.beside ≡ before → OnlyShows mid new before after → IsPrefix after (before ++ note_text note) → IsShown s p before after old new
shown_so s p before after old mid new archive_now numbered note next follows leads following beside shows front = record {
  outcome = record { reply = note; next = next };
  step = follows;
  carried = one_outcome note_text StandsBy s (record { reply = note; next = next }) before after old mid new leads.goes_on
      (λ image other left. let was = leads.images image other left in (was.0, was.1 ∙ beside)) shows (stands_by mid archive_now next following.in_step) front;
  shown = shows.grows.0;
  shown_is = shows.grows.1;
  front = (front.0, append_cancel_left before (note_text note) (shows.grows.0 ++ front.0) (front.1 ∙ ap (λ (l : List ℕ). l ++ front.0) shows.grows.1 ∙ append_assoc before shows.grows.0 front.0));
}

pub shown_whole : (s : Store) (at : ℕ) (p : Framed) (before after : List ℕ) (old mid new : DiskState) (archive_now : ArchiveState) (numbered : NumberedState) (page : List ℕ) → IsAnswered s at p (Ok tt) old mid archive_now numbered page → old.now.beside ≡ before
    → OnlyShows mid new before after → IsSameBeside mid new → IsPrefix after (before ++ page) → after ≡ before ++ page → IsCarriedOut s at p (Ok tt) before after old new archive_now numbered
shown_whole s at p before after old mid new archive_now numbered page answered beside shows same front all =
    let (note, next, follows, leads, following, page_is) = answered.came in
    let is = shown_so s p before after old mid new archive_now numbered note next follows leads following beside shows (subst (λ (l : List ℕ). IsPrefix after (before ++ l)) page_is front) in
    record { came = (is, append_cancel_left before is.shown (note_text note) (sym is.shown_is ∙ all ∙ ap (λ (l : List ℕ). before ++ l) page_is), following_beside mid new archive_now numbered next same following) }

pub shown_part : (s : Store) (at : ℕ) (p : Framed) (before after : List ℕ) (old mid new : DiskState) (archive_now : ArchiveState) (numbered : NumberedState) (page : List ℕ) → IsAnswered s at p (Ok tt) old mid archive_now numbered page → old.now.beside ≡ before
    → OnlyShows mid new before after → IsPrefix after (before ++ page) → IsCarriedOut s at p (Err ends.Sink) before after old new archive_now numbered
shown_part s at p before after old mid new archive_now numbered page answered beside shows front =
    let (note, next, follows, leads, following, page_is) = answered.came in
    record { came = shown_so s p before after old mid new archive_now numbered note next follows leads following beside shows (subst (λ (l : List ℕ). IsPrefix after (before ++ l)) page_is front) }
