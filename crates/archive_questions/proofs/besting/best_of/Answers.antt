use Rattle.std.proofs.Common.{ℕ, ◌+◌, ◌≤◌, List, All, rules, refl, subst, sym, ◌∙◌}
use Rattle.pages_sublists.specs.declared.why.Damage.{Damage}
use Rattle.query_best.specs.Held.{IsBadOf}
use Rattle.model_archive.specs.Chosen.{pieces_for}
use Rattle.archive_hand.specs.Asking.{HasAsked}
use Rattle.archive_questions.specs.Bests.{AreHeld, IsDamagedAmong}
use Rattle.archive_questions.proofs.BestMadeLemmas.{best-made, weights-fit}
use Rattle.archive_questions.proofs.ChosenLemmas.{damage_of, handed}
use Rattle.archive_questions.proofs.besting.best_of.Goals as goal

pub best_rows-requires-clause-weights : goal.best_rows-requires-clause-weights
best_rows-requires-clause-weights g c =
    subst (All (λ w. (1 ≤ w) × (w ≤ 1000))) (sym (c.deref.ensures.value ∙ c.in_ok-weights.ensures)) (weights-fit c.args.query.now c.requires.weights)

pub returns-in_err-found-clause-found : goal.returns-in_err-found-clause-found
returns-in_err-found-clause-found g c = record {
  made = search rules;
  asked = search rules;
  damaged = λ tells h stands cached d is.
      let pages = (g.D.Disk.disk c.args.disk.now).holds.pages in
      let P : Damage → Type 0 = λ x. IsBadOf c.in_ok-held.held.words.items x in
      let bad = damage_of P c.in_err-found.field-0.0 d c.in_err-found.ensures.damaged (handed c.from_residual-in_err-found.result c.in_err-found.field-0.0 d c.from_residual-in_err-found.ensures.1 is) in
      subst (λ (ws : List (List ℕ)). IsDamagedAmong h pages c.args.at.seconds ws d) c.words.ensures.words (c.in_ok-held.ensures.fetched.bad tells h stands cached d bad);
}

pub returns-clause-found : goal.returns-clause-found
returns-clause-found g c =
    let pages = (g.D.Disk.disk c.args.disk.now).holds.pages in
    let held = c.in_ok-held.held in
    let found = c.in_ok-found.found in
    record {
      made = λ tells h stands cached holds any.
          best-made h c.args.at.seconds c.args.count.number c.args.query.now held.words.items held.read found.opened found.blocks found.rows.items
          (record { rows = c.in_ok-rows.rows; read = held.read; opened = found.opened; blocks = found.blocks }) stands.loadable c.args.at.before_now any
          (subst (λ (ws : List (List ℕ)). AreHeld h c.args.at.seconds ws held.words.items held.read) c.words.ensures.words (c.in_ok-held.ensures.fetched.held tells h stands cached holds))
          (λ sheets zip each. rw (c.deref.ensures.value, c.in_ok-weights.ensures, c.number.ensures.value) at (c.in_ok-found.ensures.found sheets zip each)) c.in_ok-found.ensures.blocks c.in_ok-rows.ensures refl refl refl;
      asked = λ tells h stands cached.
          subst (λ (ws : List (List ℕ)). HasAsked (pieces_for h pages c.args.at.seconds (c.args.at.seconds + 1) ws) c.args.archive.now.shelf.cache c.held_of_all.new.archive.shelf.cache (g.D.Disk.disk c.args.disk.now) (g.D.Disk.disk c.held_of_all.new.disk))
          c.words.ensures.words (c.in_ok-held.ensures.fetched.asked tells h stands cached);
      damaged = λ tells h stands cached damage is. absurd cc;
    }
