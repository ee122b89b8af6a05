use Rattle.std.proofs.Common.{List, ap, sym, subst, refl, ◌∙◌, is_some}
use Rattle.lists_postings.specs.Events.{ChangesAt, inside}
use Rattle.lists_postings.specs.Kinds.{life_kind, is_alive}
use Rattle.lists_postings.specs.Laid.{AreLaid}
use Rattle.lists_postings.specs.declared.event.Event.{Event}
use Rattle.lists_postings.specs.declared.life.Life.{Life}
use Rattle.lists_postings.proofs.Laid.{laid-longest, says-any, in-is}
use Rattle.lists_versions.specs.Lives.{lived}
use Rattle.lists_versions.proofs.Changing.{given-events, alive-said}
use Rattle.lists_versions.proofs.directory.Directory.lives.Goals as goal

pub lives_by-requires : goal.lives_by-requires
lives_by-requires c = rw c.deref-2.ensures.value c.in_ok-events.ensures.sorted

pub returns : goal.returns
returns c =
    let f = lived c.args.self.now.changes in
    let from = c.args.span.from in
    let to = c.args.span.to in
    let lives : List Life = c.in_ok-lives.lives.items in
    let w : ChangesAt c.in_ok-events.events.items from to f =
    given-events c.args.self.now.changes c.changes.result.now c.deref.result.now from to c.in_ok-events.events.items c.changes.ensures.all (c.deref.ensures.value ∙ c.in_ok-docs.ensures) c.in_ok-events.ensures.events in
    let given : ChangesAt c.deref-2.result.now from to f = subst (λ (events : List Event). ChangesAt events from to f) (sym c.deref-2.ensures.value) w in
    let laid : AreLaid life_kind (inside f from to) lives = c.in_ok-lives.ensures f given (λ e k. refl) in
    record {
      lives = laid-longest life_kind f from to lives laid;
      times = λ doc t x y. alive-said c.args.self.now.changes doc t (is_alive lives doc.0 t)
          (sym (says-any life_kind doc.0 t lives) ∙ ap is_some (laid.same doc.0 t ∙ in-is life_kind f from to doc.0 t x y));
    }
