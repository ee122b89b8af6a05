use Rattle.std.proofs.Common.{Err, None, refl, rules, ap, ◌∙◌}
use Rattle.lists_postings.specs.Lists.{rows_at}
use Rattle.pages_sublists.specs.declared.why.FetchError.{FetchError}
use Rattle.archive_questions.proofs.BestLemmas.{at-hand, hand-damaged}
use Rattle.archive_questions.proofs.ChosenLemmas.{handed}
use Rattle.archive_questions.proofs.holding.held_at_hand.Goals as goal

pub returns-in_err-part-clause-fetched : goal.returns-in_err-part-clause-fetched
returns-in_err-part-clause-fetched g c = record {
  held = search rules;
  bad = search rules;
  asked = search rules;
  damaged = λ tells h stands cached d is.
      hand-damaged h (g.D.Disk.disk c.args.disk.now).holds.pages c.args.t.seconds c.args.word.now d (λ plan live. c.requires.flat h stands plan live)
      (rw (c.moment.ensures.from, c.moment.ensures.to) at
      (c.in_err-part.ensures.damaged tells h stands cached d (ap (λ (e : FetchError). Err e) (handed c.from_residual.result c.in_err-part.field-0.0 d c.from_residual.ensures.1 is))));
}

pub returns-in-Ok-clause-fetched : goal.returns-in-Ok-clause-fetched
returns-in-Ok-clause-fetched g c = record {
  held = λ tells h stands cached holds.
      at-hand h (g.D.Disk.disk c.args.disk.now).holds.pages c.args.t.seconds c.args.word.now stands.loadable holds (record { blocks = None; flat = c.in-Ok.flat }) c.in_ok-part.part.list.items c.in_ok-part.part.read
      (rw (c.moment.ensures.from, c.moment.ensures.to) at (c.in_ok-part.ensures.chosen tells h stands cached)) (λ plan live. c.requires.flat h stands plan live) refl
      (c.in-Ok.ensures.rows ∙ ap (rows_at c.args.t.seconds) c.deref.ensures.value);
  bad = λ tells h stands cached block damage l bad. absurd bad;
  asked = λ tells h stands cached. rw (c.moment.ensures.from, c.moment.ensures.to) at (c.in_ok-part.ensures.asked tells h stands cached);
  damaged = λ tells h stands cached damage is. absurd cc;
}
