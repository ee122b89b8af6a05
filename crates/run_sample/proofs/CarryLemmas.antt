-- One command carried out: what its call did, and what is counted of it.
use Rattle.std.proofs.Common.{◌≡◌, length, Result, Ok, inl, inr, sym, subst}
use Rattle.machine_model.specs.States.{DiskState, moment}
use Rattle.machine_model.proofs.MomentLemmas.{allowed_left}
use Rattle.base_commands.specs.Documents.{HasDocument}
use Rattle.base_commands.specs.declared.command.Command.{Command}
use Rattle.base_commands.specs.declared.command.Item.TheVariants as items
use Rattle.model_archive.specs.Histories.{History}
use Rattle.model_archive.specs.Steps.{Reply, Accepted, Refused, Found, Planned, Verified}
use Rattle.model_archive.specs.Runs.{Outcome}
use Rattle.model_archive.specs.Stands.{EachStands}
use Rattle.model_archive.specs.Worlds.{World}
use Rattle.model_archive.proofs.OutcomeLemmas.{each_outcome}
use Rattle.archive_hand.specs.Changing.{KeepsBy, LeadsBy}
use Rattle.archive_hand.specs.States.{ArchiveState, AreInStep}
use Rattle.archive_hand.specs.Stored.{Store, world_by}
use Rattle.archive_hand.specs.Takes.{Ending, Replied, Starved, Faulted, Spoiled, TakesBy}
use Rattle.archive_hand.proofs.StandingLemmas.{IsStanding, in_step_by, in_step_standing, spoiled_never, stands_standing, step_standing}
use Rattle.run_sample.specs.declared.error.FillError.{FillError}
use Rattle.run_sample.specs.declared.note.Note.{Note}
use Rattle.run_sample.specs.declared.note.Note.TheVariants as notes
use Rattle.run_sample.specs.Carrying.{CarriesOut, EndsIn, IsTold, LeadsTo, Tells}

-- where a reply is counted there is a note
told_ok : (reply : Reply) (result : Result Note FillError) → IsTold reply result → (note : Note) × (result ≡ Ok note)
told_ok (Accepted count) result told = (notes.Accepted, told)
told_ok (Planned summary) result told = (notes.Accepted, told)
told_ok (Refused why) result told = (notes.Refused, told)
told_ok (Found rows read) result told = (notes.Found (length rows) read, told)
told_ok (Verified verdict) result told = (notes.Checked verdict, told)
told_ok other result told = absurd told

-- ---- what each image left stands for, where it stands for what is stored

leads_standing : (s next : Store) (old new : DiskState) → IsStanding s → IsStanding next → LeadsBy s next old new → LeadsTo s.history next.history old new
leads_standing s next old new standing then leads = record {
  goes_on = leads.goes_on;
  images = λ image beside left.
      let was = leads.images image beside left in (
        elim was.0 [
          | inl before ↦ inl (stands_standing s image standing before)
          | inr after ↦ inr (stands_standing next image then after)
        ],
        was.1,
      );
}

keeps_standing : (s : Store) (after : History) (old new : DiskState) → IsStanding s → KeepsBy s old new → LeadsTo s.history after old new
keeps_standing s after old new standing keeps = record {
  goes_on = keeps.goes_on;
  images = λ image beside left. let was = keeps.images image beside left in (inl (stands_standing s image standing was.0), was.1);
}

each_kept : (s : Store) (old new : DiskState) → IsStanding s → KeepsBy s old new → EachStands new s.history
each_kept s old new standing keeps = λ image allowed. stands_standing s image standing (keeps.images image new.now.beside (allowed_left new (moment old) image allowed)).0

-- ---- a command that a call took is carried out by what is told of the call's end

carried : (s : Store) (command : Command) (ending : Ending) (result : Result Note FillError) (old new : DiskState) (archive : ArchiveState) → IsStanding s → HasDocument (items.Command command)
    → TakesBy s (items.Command command) ending old new archive → Tells ending result → CarriesOut (world_by s) command result old new archive
carried s command (Replied reply) result old new archive standing range (next, comes, there) told =
    let is = told_ok reply result told in
    let went = step_standing s (items.Command command) reply next standing range comes.step in
    let outcome : Outcome Reply World = record { reply = reply; next = world_by next } in
    let E : Result Note FillError → Type 0 = λ r. EndsIn (world_by s) outcome new archive r in
    record { outcome = outcome; step = went.0; leads = leads_standing s next old new standing went.1 comes.leads; ends = subst E (sym is.1) (subst (IsTold reply) is.1 told, in_step_by new archive next there went.1) }
carried s command Starved result old new archive standing range keeps told =
    let (outcome, step) = each_outcome (world_by s) (items.Command command) standing.loadable in
    let E : Result Note FillError → Type 0 = λ r. EndsIn (world_by s) outcome new archive r in
    record { outcome = outcome; step = step; leads = keeps_standing s outcome.next.history old new standing keeps; ends = subst E (sym told) (each_kept s old new standing keeps) }
carried s command Faulted result old new archive standing range (inl keeps) told =
    let (outcome, step) = each_outcome (world_by s) (items.Command command) standing.loadable in
    let E : Result Note FillError → Type 0 = λ r. EndsIn (world_by s) outcome new archive r in
    record { outcome = outcome; step = step; leads = keeps_standing s outcome.next.history old new standing keeps; ends = subst E (sym told) tt }
carried s command Faulted result old new archive standing range (inr (reply, next, comes)) told =
    let went = step_standing s (items.Command command) reply next standing range comes.step in
    let outcome : Outcome Reply World = record { reply = reply; next = world_by next } in
    let E : Result Note FillError → Type 0 = λ r. EndsIn (world_by s) outcome new archive r in
    record { outcome = outcome; step = went.0; leads = leads_standing s next old new standing went.1 comes.leads; ends = subst E (sym told) tt }
carried s command (Spoiled damage) result old new archive standing range (keeps, spoils, pages) told = absurd (spoiled_never s (items.Command command) damage standing spoils)

pub carries_out : (w : World) (command : Command) (ending : Ending) (result : Result Note FillError) (old new : DiskState) (before after : ArchiveState) → (in_step : AreInStep old before w)
    → HasDocument (items.Command command) → TakesBy in_step.store (items.Command command) ending old new after → Tells ending result → CarriesOut w command result old new after
carries_out w command ending result old new before after in_step range takes told =
    subst (λ (x : World). CarriesOut x command result old new after) in_step.world_is (carried in_step.store command ending result old new after (in_step_standing old before w in_step) range takes told)
