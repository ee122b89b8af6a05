use Rattle.std.proofs.Common.{Option, Some, None, IsSome, Err, option_map, refl, ap, rules}
use Rattle.lists_index.specs.Loads.{loaded}
use Rattle.model_archive.specs.Histories.{changes}
use Rattle.archive_entries.proofs.ReplayLemmas.{met_more, met_refused, met_wordy, pushed_is}
use Rattle.archive_entries.proofs.replaying.add_change.Goals as goal

pub returns-in-Err-clause-bad : goal.returns-in-Err-clause-bad
returns-in-Err-clause-bad c = λ h entry met makes same at is. (
  search rules,
  met_refused h entry c.args.change c.in-Err.field-0 c.args.met.now.directory.changes (loaded c.args.met.now.loader) met makes (search rules),
)

pub returns-in-Err-Full-clause-bad : goal.returns-in-Err-Full-clause-bad
returns-in-Err-Full-clause-bad c = λ h entry met makes same at is. (
  search rules,
  met_wordy h entry c.args.change c.args.met.now.directory.changes (loaded c.args.met.now.loader) (option_map (λ t. t.now) c.args.text) met makes (search rules) same
      (some_text (λ t. t.now) c.args.text (c.in-Err-Full.ensures.some (ap Err c.in-Err-Full.field-0-is)))
      (c.in-Err-Full.ensures.full (ap Err c.in-Err-Full.field-0-is) (changes h) (record { doc = c.args.change.doc; at = c.args.change.at; held = option_map (λ t. t.now) c.args.text }) met.loads refl),
)
  where
    some_text : {A B : Type 0} (f : A → B) (o : Option A) → IsSome o → IsSome (option_map f o)
    some_text f None some = absurd cc
    some_text f (Some a) some = refl

pub returns-clause-more : goal.returns-clause-more
returns-clause-more c = λ h entry met makes same.
    met_more h entry c.args.change c.placed.result.held c.args.text_at c.args.met.now.directory.changes c.note.new.directory.changes (loaded c.args.met.now.loader) _ _
    met makes (search rules) c.placed.ensures.held
    (pushed_is c.args.met.now.directory.changes c.reserve.new.self.changes c.note.new.directory.changes c.args.change c.placed.result c.placed.ensures.doc c.placed.ensures.at c.reserve.ensures.same c.note.ensures.changes)
    same (c.in-Ok-add.ensures.fits (changes h) (record { doc = c.args.change.doc; at = c.args.change.at; held = option_map (λ t. t.now) c.args.text }) met.loads refl)
    (c.in-Ok-add.ensures.added (changes h) met.loads)

pub returns-clause-placed : goal.returns-clause-placed
returns-clause-placed c = (
  c.placed.result.held,
  c.placed.ensures.held,
  pushed_is c.args.met.now.directory.changes c.reserve.new.self.changes c.note.new.directory.changes c.args.change c.placed.result c.placed.ensures.doc c.placed.ensures.at c.reserve.ensures.same c.note.ensures.changes,
)
