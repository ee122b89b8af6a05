-- The commands of a sample, one after another: one run of the abstract archive, which goes on where it was ended early.
use Rattle.std.proofs.Common.{◌≡◌, ◌⊎◌, ℕ, ◌≤◌, List, [], ◌∷◌, ◌++◌, length, map, All, Option, Some, None, Ok, Err, IsSome, refl, inl, inr, ap, subst, sym, ◌∙◌, arith, append_assoc, length-append}
use Rattle.std.proofs.lemmas.List.{append-nil, map-append}
use Rattle.std.proofs.lemmas.List.Elements.{All-head, All-tail}
use Rattle.machine_model.specs.Areas.{Bytes}
use Rattle.machine_model.specs.States.{DiskState}
use Rattle.machine_model.proofs.MomentLemmas.{joined, goes_on_joins, goes_on_same, left_now}
use Rattle.base_commands.specs.Documents.{HasDocument}
use Rattle.base_commands.specs.declared.command.Command.{Command}
use Rattle.base_commands.specs.declared.command.Command.TheVariants as plain
use Rattle.base_commands.specs.declared.command.Item.{Item}
use Rattle.base_commands.specs.declared.command.Item.TheVariants as items
use Rattle.base_sample.specs.Samples.{changes, plans, questions, sample_of}
use Rattle.model_archive.specs.declared.verdict.Verdict.{Verdict}
use Rattle.model_archive.specs.Legal.{IsFair, IsLoadable}
use Rattle.model_archive.specs.Steps.{Reply, Accepted, Refused, Found, Planned, Verified, Step}
use Rattle.model_archive.specs.Runs.{Outcome, IsRun, state_after}
use Rattle.model_archive.specs.Standing.{last_state}
use Rattle.model_archive.specs.Stands.{EachStands, StandsIn}
use Rattle.model_archive.specs.Worlds.{World}
use Rattle.model_archive.proofs.RunLemmas.{runs_join, last_state_joins, state_after_all, state_after_front}
use Rattle.model_archive.proofs.OutcomeLemmas.{run_on, step_loads}
use Rattle.archive_replies.specs.Tallies.{tally_of}
use Rattle.archive_replies.specs.declared.tally.Tally.{Tally}
use Rattle.archive_hand.specs.States.{ArchiveState, AreInStep}
use Rattle.archive_hand.proofs.StandingLemmas.{in_step_fair, in_step_stands}
use Rattle.run_sample.specs.declared.error.FillError.{FillError}
use Rattle.run_sample.specs.declared.error.FillError.TheVariants as errors
use Rattle.run_sample.specs.declared.note.Note.{Note}
use Rattle.run_sample.specs.declared.note.Note.TheVariants as notes
use Rattle.run_sample.specs.Filling.{EndsFilled, Fills, IsFilled, StandsAmong, replies_of}
use Rattle.run_sample.specs.Carrying.{CarriesOut, ComesToCheck, Counts, EndsIn, Goes, IsLast, IsTold, LeadsTo, verdict_of}

-- what holds of the last state holds of one of the run's
at_last : (P : World → Type 0) (w : World) (outcomes : List (Outcome Reply World)) → P (last_state w outcomes) → (j : ℕ) × (j ≤ length outcomes) × P (state_after w outcomes j)
at_last P w outcomes holds = (length outcomes, omega arith, subst P (sym (state_after_all w outcomes)) holds)

-- and what holds of one of the run's holds of one of a longer run's
still_among : (P : World → Type 0) (w : World) (outcomes further : List (Outcome Reply World)) → (j : ℕ) × (j ≤ length outcomes) × P (state_after w outcomes j)
    → (j : ℕ) × (j ≤ length (outcomes ++ further)) × P (state_after w (outcomes ++ further) j)
still_among P w outcomes further (j, within, holds) = (j, omega (arith, within, length-append outcomes further), subst P (sym (state_after_front w outcomes further j within)) holds)

-- where nothing was done, each image stands for the history
fills_nowhere : (w : World) (d : DiskState) → EachStands d w.history → Fills w [] d d
fills_nowhere w d each = record {
  goes_on = goes_on_same d;
  images = left_now d (λ image beside. StandsAmong w [] image × (beside ≡ d.now.beside)) (λ image allowed. ((0, omega arith, each image allowed), refl));
}

-- one outcome more
fills_next : (w : World) (outcomes : List (Outcome Reply World)) (outcome : Outcome Reply World) (old mid new : DiskState) → Fills w outcomes old mid → LeadsTo (last_state w outcomes).history outcome.next.history mid new
    → mid.now.beside ≡ old.now.beside → Fills w (outcomes ++ outcome ∷ []) old new
fills_next w outcomes outcome old mid new was leads beside = record {
  goes_on = goes_on_joins was.goes_on leads.goes_on;
  images = joined (λ image other. StandsAmong w (outcomes ++ outcome ∷ []) image × (other ≡ old.now.beside))
      was.goes_on (λ image other left. let is = was.images image other left in (still_among (λ s. StandsIn s image) w outcomes (outcome ∷ []) is.0, is.1))
      leads.goes_on (λ image other left. let is = leads.images image other left in (one image is.0, is.1 ∙ beside));
}
  where
    one : (image : Bytes) → StandsIn (last_state w outcomes) image ⊎ StandsIn outcome.next image → StandsAmong w (outcomes ++ outcome ∷ []) image
    one image (inl before) = still_among (λ s. StandsIn s image) w outcomes (outcome ∷ []) (at_last (λ s. StandsIn s image) w outcomes before)
    one image (inr after) = at_last (λ s. StandsIn s image) w (outcomes ++ outcome ∷ []) (let S : World → Type 0 = λ s. StandsIn s image in subst S (sym (last_state_joins w outcomes (outcome ∷ []))) after)

-- outcomes that were not carried out
fills_on : (w : World) (outcomes further : List (Outcome Reply World)) (old new : DiskState) → Fills w outcomes old new → Fills w (outcomes ++ further) old new
fills_on w outcomes further old new fills = record {
  goes_on = fills.goes_on;
  images = λ image beside left. let is = fills.images image beside left in (still_among (λ s. StandsIn s image) w outcomes further is.0, is.1);
}

-- commands that were carried out, and more
run_joins : (w : World) (commands done rest : List Command) (outcomes further : List (Outcome Reply World)) → commands ≡ done ++ rest → IsRun Step w (map items.Command done) outcomes
    → IsRun Step (last_state w outcomes) (map items.Command rest) further → IsRun Step w (map items.Command commands) (outcomes ++ further)
run_joins w commands done rest outcomes further are one two =
    let R : List Item → Type 0 = λ l. IsRun Step w l (outcomes ++ further) in
    subst R (sym (ap (map items.Command) are ∙ map-append items.Command done rest)) (runs_join Step w (map items.Command done) (map items.Command rest) outcomes further one two)

-- how it was ended stays so in a longer run
ends_on : (w : World) (outcomes further : List (Outcome Reply World)) (new : DiskState) (archive : ArchiveState) (error : FillError)
    → EndsFilled w outcomes new archive (Err error) → EndsFilled w (outcomes ++ further) new archive (Err error)
ends_on w outcomes further new archive errors.Failed ends = tt
ends_on w outcomes further new archive (errors.Damaged damage) ends = ends
ends_on w outcomes further new archive errors.Memory ends = still_among (λ s. EachStands new s.history) w outcomes further ends

-- A sample that was ended early: the abstract archive goes on over the commands that were not reached.
ended_early : (w : World) (commands done rest : List Command) (outcomes : List (Outcome Reply World)) (old new : DiskState) (archive : ArchiveState) (error : FillError)
    → commands ≡ done ++ rest → IsRun Step w (map items.Command done) outcomes → IsFair IsLoadable (last_state w outcomes) → All HasDocument (map items.Command rest)
    → Fills w outcomes old new → EndsFilled w outcomes new archive (Err error) → IsFilled w commands (Err error) old new archive
ended_early w commands done rest outcomes old new archive error are run loads range fills ends =
    let further = run_on (last_state w outcomes) (map items.Command rest) loads range in
    record {
      outcomes = outcomes ++ further.0;
      run = run_joins w commands done rest outcomes further.0 are run further.1;
      fills = fills_on w outcomes further.0 old new fills;
      ends = ends_on w outcomes further.0 new archive error ends;
    }

-- the replies with one more
replies_next : (outcomes : List (Outcome Reply World)) (outcome : Outcome Reply World) → replies_of (outcomes ++ outcome ∷ []) ≡ replies_of outcomes ++ outcome.reply ∷ []
replies_next outcomes outcome = map-append (λ (t : Outcome Reply World). t.reply) outcomes (outcome ∷ [])

-- of a reply that told a verdict
told_verdict : (reply : Reply) (verdict : Verdict) → IsTold reply (Ok (notes.Checked verdict)) → reply ≡ Verified verdict
told_verdict (Accepted count) verdict is = cc
told_verdict (Planned summary) verdict is = cc
told_verdict (Refused why) verdict is = cc
told_verdict (Found rows read) verdict is = cc
told_verdict (Verified other) verdict is = cc
told_verdict other verdict is = absurd is

last_next : (outcomes : List (Outcome Reply World)) (outcome : Outcome Reply World) (note : Note) → IsTold outcome.reply (Ok note) → IsLast (replies_of (outcomes ++ outcome ∷ [])) (verdict_of note)
last_next outcomes outcome notes.Accepted told = tt
last_next outcomes outcome notes.Refused told = tt
last_next outcomes outcome (notes.Found hits read) told = tt
last_next outcomes outcome (notes.Checked verdict) told =
    (replies_of outcomes, replies_next outcomes outcome ∙ ap (λ (r : Reply). replies_of outcomes ++ r ∷ []) (told_verdict outcome.reply verdict told))

-- commands that were carried out, as a list and the next one
done_next : (commands done rest further : List Command) (command : Command) → commands ≡ done ++ rest → rest ≡ command ∷ further → commands ≡ (done ++ command ∷ []) ++ further
done_next commands done rest further command are is = are ∙ ap (λ (l : List Command). done ++ l) is ∙ sym (append_assoc done (command ∷ []) further)

-- the run with the outcome of the next command
run_next : (w : World) (done : List Command) (command : Command) (outcomes : List (Outcome Reply World)) (outcome : Outcome Reply World) → IsRun Step w (map items.Command done) outcomes
    → Step (last_state w outcomes) (items.Command command) outcome.reply outcome.next → IsRun Step w (map items.Command (done ++ command ∷ [])) (outcomes ++ outcome ∷ [])
run_next w done command outcomes outcome run step = run_joins w (done ++ command ∷ []) done (command ∷ []) outcomes (outcome ∷ []) refl run (step, tt)

-- at the start
pub counts_first : (w : World) (commands : List Command) (d : DiskState) (archive : ArchiveState) (tally : Tally) → tally ≡ tally_of [] → AreInStep d archive w → Counts w commands commands tally None d d archive
counts_first w commands d archive tally is in_step = record {
  outcomes = [];
  goes = record { done = []; commands_are = refl; run = tt; fills = fills_nowhere w d (in_step_stands d archive w in_step); in_step = in_step };
  tally_is = is;
  last_is = tt;
}

-- the next command was carried out
pub goes_next : (w : World) (commands rest further : List Command) (command : Command) (note : Note) (outcomes : List (Outcome Reply World)) (old mid new : DiskState) (a b : ArchiveState)
    → Goes w commands rest outcomes old mid a → rest ≡ command ∷ further → (out : CarriesOut (last_state w outcomes) command (Ok note) mid new b)
    → mid.now.beside ≡ old.now.beside → Goes w commands further (outcomes ++ out.outcome ∷ []) old new b
goes_next w commands rest further command note outcomes old mid new a b goes is out beside = record {
  done = goes.done ++ command ∷ [];
  commands_are = done_next commands goes.done rest further command goes.commands_are is;
  run = run_next w goes.done command outcomes out.outcome goes.run out.step;
  fills = fills_next w outcomes out.outcome old mid new goes.fills out.leads beside;
  in_step = (let K : World → Type 0 = λ s. AreInStep new b s in subst K (sym (last_state_joins w outcomes (out.outcome ∷ []))) out.ends.1);
}

-- and counted
pub counts_next : (w : World) (commands rest further : List Command) (command : Command) (note : Note) (tally more : Tally) (last next : Option Verdict) (old mid new : DiskState) (a b : ArchiveState)
    → (counts : Counts w commands rest tally last old mid a) → rest ≡ command ∷ further → CarriesOut (last_state w counts.outcomes) command (Ok note) mid new b
    → mid.now.beside ≡ old.now.beside
    → ((replies : List Reply) (reply : Reply) → tally ≡ tally_of replies → IsTold reply (Ok note) → more ≡ tally_of (replies ++ reply ∷ []))
    → next ≡ verdict_of note → Counts w commands further more next old new b
counts_next w commands rest further command note tally more last next old mid new a b counts is out beside counted told =
    let outcomes = counts.outcomes in
    let L : Option Verdict → Type 0 = λ v. IsLast (replies_of (outcomes ++ out.outcome ∷ [])) v in
    record {
      outcomes = outcomes ++ out.outcome ∷ [];
      goes = goes_next w commands rest further command note outcomes old mid new a b counts.goes is out beside;
      tally_is = counted (replies_of outcomes) out.outcome.reply counts.tally_is out.ends.0 ∙ ap tally_of (sym (replies_next outcomes out.outcome));
      last_is = subst L (sym told) (last_next outcomes out.outcome note out.ends.0);
    }

-- the run ended for want of memory, between two commands
pub filled_between : (w : World) (commands rest : List Command) (outcomes : List (Outcome Reply World)) (old now : DiskState) (archive : ArchiveState) → Goes w commands rest outcomes old now archive
    → All HasDocument (map items.Command rest) → IsFilled w commands (Err errors.Memory) old now archive
filled_between w commands rest outcomes old now archive goes range =
    ended_early w commands goes.done rest outcomes old now archive errors.Memory goes.commands_are goes.run (in_step_fair now archive (last_state w outcomes) goes.in_step) range goes.fills
    (at_last (λ s. EachStands now s.history) w outcomes (in_step_stands now archive (last_state w outcomes) goes.in_step))

-- how a command ended that was not carried out, in the run with its outcome
ends_at : (w : World) (outcomes : List (Outcome Reply World)) (outcome : Outcome Reply World) (new : DiskState) (archive : ArchiveState) (error : FillError)
    → EndsIn (last_state w outcomes) outcome new archive (Err error) → EndsFilled w (outcomes ++ outcome ∷ []) new archive (Err error)
ends_at w outcomes outcome new archive errors.Failed ends = tt
ends_at w outcomes outcome new archive (errors.Damaged damage) ends = ends
ends_at w outcomes outcome new archive errors.Memory ends = still_among (λ s. EachStands new s.history) w outcomes (outcome ∷ []) (at_last (λ s. EachStands new s.history) w outcomes ends)

-- or at a command
pub filled_at : (w : World) (commands rest further : List Command) (command : Command) (error : FillError) (outcomes : List (Outcome Reply World)) (old mid new : DiskState) (a b : ArchiveState)
    → Goes w commands rest outcomes old mid a → rest ≡ command ∷ further → CarriesOut (last_state w outcomes) command (Err error) mid new b → mid.now.beside ≡ old.now.beside
    → All HasDocument (map items.Command rest) → IsFilled w commands (Err error) old new b
filled_at w commands rest further command error outcomes old mid new a b goes is out beside range =
    let D : List Command → Type 0 = λ l. All HasDocument (map items.Command l) in
    let here = subst D is range in
    let E : World → Type 0 = λ s. IsFair IsLoadable s in
    let loads : IsFair IsLoadable out.outcome.next = step_loads (last_state w outcomes) (items.Command command) out.outcome.reply out.outcome.next (in_step_fair mid a (last_state w outcomes) goes.in_step) (All-head HasDocument (items.Command command) (map items.Command further) here) out.step in
    ended_early w commands (goes.done ++ command ∷ []) further (outcomes ++ out.outcome ∷ []) old new b error (done_next commands goes.done rest further command goes.commands_are is)
    (run_next w goes.done command outcomes out.outcome goes.run out.step) (subst E (sym (last_state_joins w outcomes (out.outcome ∷ []))) loads)
    (All-tail HasDocument (items.Command command) (map items.Command further) here) (fills_next w outcomes out.outcome old mid new goes.fills out.leads beside)
    (ends_at w outcomes out.outcome new b error out.ends)

-- or all commands were carried out
pub filled_whole : (w : World) (commands rest : List Command) (tally : Tally) (last : Option Verdict) (verdict : Verdict) (old now : DiskState) (archive : ArchiveState)
    → Counts w commands rest tally last old now archive → rest ≡ [] → last ≡ Some verdict → IsFilled w commands (Ok (record { tally = tally; verdict = verdict })) old now archive
filled_whole w commands rest tally last verdict old now archive counts none some =
    let goes = counts.goes in
    let all : commands ≡ goes.done = goes.commands_are ∙ ap (λ (l : List Command). goes.done ++ l) none ∙ append-nil goes.done in
    let R : List Command → Type 0 = λ l. IsRun Step w (map items.Command l) counts.outcomes in
    let L : Option Verdict → Type 0 = λ v. IsLast (replies_of counts.outcomes) v in
    let is = subst L some counts.last_is in
    record {
      outcomes = counts.outcomes;
      run = subst R (sym all) goes.run;
      fills = goes.fills;
      ends = (record { tally_is = counts.tally_is; front = is.0; ends = is.1 }, goes.in_step);
    }

-- a sample ends with a check
pub sample_ends : (seed count : ℕ) → (front : List Command) × (sample_of seed count ≡ front ++ plain.Verify ∷ [])
unfolding sample_of
sample_ends seed count = (
  changes seed count ++ (plans ++ questions count),
  sym (append_assoc (changes seed count) (plans ++ questions count) (plain.Verify ∷ []) ∙ ap (λ (l : List Command). changes seed count ++ l) (append_assoc plans (questions count) (plain.Verify ∷ []))),
)

-- and still does, or did, behind each of its commands
pub comes_next : (rest further : List Command) (command : Command) (last next : Option Verdict) → ComesToCheck rest last → rest ≡ command ∷ further → (command ≡ plain.Verify → IsSome next) → ComesToCheck further next
comes_next rest further command last next (inl ([], e)) is checked = inr (cc, checked cc)
comes_next rest further command last next (inl (first ∷ front, e)) is checked = inl (front, cc)
comes_next rest further command last next (inr (none, some)) is checked = cc
