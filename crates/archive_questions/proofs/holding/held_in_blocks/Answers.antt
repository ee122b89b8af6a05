use Rattle.std.proofs.Common.{◌≡◌, ℕ, ◌+◌, List, get_or, rules, ap, subst, sym, ◌∙◌}
use Rattle.pages_sublists.specs.declared.why.Damage.{Damage}
use Rattle.model_archive.specs.declared.stored.StoredPlan.{StoredPlan}
use Rattle.model_archive.specs.Chosen.{IsTailFor}
use Rattle.model_archive.proofs.SheetLemmas.{live_in_turn}
use Rattle.archive_plans.specs.Shelves.{ShelfState}
use Rattle.archive_plans.specs.Framing.{IsUnframedAt}
use Rattle.archive_hand.proofs.CacheLemmas.{stands_but_cache}
use Rattle.archive_questions.specs.Bests.{AreBlocksAt}
use Rattle.archive_questions.proofs.BestLemmas.{bad-at, in-blocks, unframed-at}
use Rattle.archive_questions.proofs.CacheLemmas.{asked_by}
use Rattle.archive_questions.proofs.ChosenLemmas.{damage_of, handed, planned_is}
use Rattle.archive_questions.proofs.holding.held_in_blocks.Goals as goal

pub returns-in_err-stored-clause-fetched : goal.returns-in_err-stored-clause-fetched
returns-in_err-stored-clause-fetched g c = record {
  held = search rules;
  bad = search rules;
  asked = search rules;
  damaged = λ tells h stands cached d is.
      let pages = (g.D.Disk.disk c.args.disk.now).holds.pages in
      let s = c.index-plans-place.result in
      let same : s ≡ get_or c.args.archive.now.shelf.plans c.args.place s = c.index-plans-place.is ∙ ap (λ (ps : List StoredPlan). get_or ps c.args.place s) (c.plans.ensures ∙ ap (λ (x : ShelfState). x.plans) c.shelf.ensures.shelf) in
      let live = planned_is c.args.archive.now h c.args.word.now c.args.place s stands c.requires.planned same in
      let turn = live_in_turn h c.args.word.now s.plan stands.loadable live in
      let P : Damage → Type 0 = λ x. IsUnframedAt pages s.plan c.args.t.seconds x in
      let told = damage_of P c.in_err-stored.field-0.0 d (c.in_err-stored.ensures.damaged tells cached s same turn) (handed c.from_residual.result c.in_err-stored.field-0.0 d c.from_residual.ensures.1 is) in
      record { plan = s.plan; live = live; damaged = unframed-at pages s.plan c.args.t.seconds d (c.requires.blocks s same) told };
}

pub returns-in-Ok-clause-fetched : goal.returns-in-Ok-clause-fetched
returns-in-Ok-clause-fetched g c =
    let pages = (g.D.Disk.disk c.args.disk.now).holds.pages in
    let s = c.index-plans-place.result in
    let same : s ≡ get_or c.args.archive.now.shelf.plans c.args.place s = c.index-plans-place.is ∙ ap (λ (ps : List StoredPlan). get_or ps c.args.place s) (c.plans.ensures ∙ ap (λ (x : ShelfState). x.plans) c.shelf.ensures.shelf) in
    let horizon = ap (λ (x : StoredPlan). x.plan.horizon.seconds) (sym c.index-plans-place.is) in
    let (tail, is_tail, made, flat, sum) = c.in-Ok.ensures in
    record {
      held = λ tells h stands cached holds.
          let live = planned_is c.args.archive.now h c.args.word.now c.args.place s stands c.requires.planned same in
          let turn = live_in_turn h c.args.word.now s.plan stands.loadable live in
          in-blocks h pages c.args.t.seconds c.args.word.now s.plan stands.loadable holds live c.in_ok-stored.stored c.in-Ok.held.word tail c.in-Ok.held.read (c.requires.blocks s same)
          (c.in_ok-stored.ensures.framed tells cached s same turn)
          (subst (λ (n : ℕ). IsTailFor h c.args.word.now (c.args.t.seconds + 1) n tail) horizon (is_tail h (stands_but_cache c.args.archive.now c.frames_at.new.self h c.in_ok-stored.ensures.but_cache stands)))
          (subst (λ (n : ℕ). AreBlocksAt n c.in_ok-stored.stored c.in-Ok.held.word.blocks) horizon made) flat sum;
      bad = λ tells h stands cached block damage l bad.
          let live = planned_is c.args.archive.now h c.args.word.now c.args.place s stands c.requires.planned same in
          let turn = live_in_turn h c.args.word.now s.plan stands.loadable live in
          record {
            plan = s.plan;
            live = live;
            damaged = bad-at pages s.plan c.args.t.seconds c.in_ok-stored.stored c.in-Ok.held.word.blocks block damage (c.requires.blocks s same) (c.in_ok-stored.ensures.framed tells cached s same turn)
                (subst (λ (n : ℕ). AreBlocksAt n c.in_ok-stored.stored c.in-Ok.held.word.blocks) horizon made) l bad;
          };
      asked = λ tells h stands cached.
          let live = planned_is c.args.archive.now h c.args.word.now c.args.place s stands c.requires.planned same in
          let turn = live_in_turn h c.args.word.now s.plan stands.loadable live in
          asked_by c.args.word.now h pages _ c.args.t.seconds (c.args.t.seconds + 1) _ _ _ _ live (c.in_ok-stored.ensures.asked tells cached s same turn);
      damaged = λ tells h stands cached damage is. absurd cc;
    }
