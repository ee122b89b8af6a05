use Rattle.std.proofs.Common.{List, None, if◌then◌else◌, ap, sym, subst, ◌∙◌, is_some}
use Rattle.lists_postings.specs.Events.{inside}
use Rattle.lists_postings.specs.Kinds.{life_kind, is_alive}
use Rattle.lists_postings.specs.Laid.{AreLaid}
use Rattle.lists_postings.specs.declared.event.Event.{Event}
use Rattle.lists_postings.specs.declared.life.Life.{Life}
use Rattle.lists_postings.proofs.Laid.{laid-longest, says-any, in-is}
use Rattle.lists_versions.specs.Lives.{lived, lived_of, AreEventsOf}
use Rattle.lists_versions.proofs.OfDocuments.{changes-of, given-said, is-given}
use Rattle.lists_versions.proofs.directory.Directory.lives_of.Goals as goal

pub lives_by-requires : goal.lives_by-requires
lives_by-requires c = rw c.deref.ensures.value c.in_ok-events.ensures.sorted

pub returns : goal.returns
returns c =
    let changes = c.args.self.now.changes in
    let docs = c.args.docs.now in
    let f = lived_of docs changes in
    let from = c.args.span.from in
    let to = c.args.span.to in
    let lives : List Life = c.in_ok-lives.lives.items in
    let events : List Event = c.deref.result.now in
    let w : AreEventsOf changes docs from to events = subst (λ (es : List Event). AreEventsOf changes docs from to es) (sym c.deref.ensures.value) c.in_ok-events.ensures.events in
    let laid : AreLaid life_kind (inside f from to) lives =
    c.in_ok-lives.ensures f (changes-of changes from to docs events w) (λ e k. ap (λ q. if q then lived changes e.doc.0 e.at.seconds else None) (is-given e.doc docs (w.inside e k).0)) in
    record {
      lives = laid-longest life_kind f from to lives laid;
      times = λ doc t x y. given-said changes from to docs doc t (is_alive lives doc.0 t)
          (sym (says-any life_kind doc.0 t lives) ∙ ap is_some (laid.same doc.0 t ∙ in-is life_kind f from to doc.0 t x y));
    }
