use Rattle.std.proofs.Common.{◌+◌, ◌∙◌, sym, ap, refl, subst, inl, inr, arith, take, Contains, None}
use Rattle.std.proofs.lemmas.List.Elements.{Contains-push, Contains-push_cases}
use Rattle.std.specs.Option.{option_copied}
use Rattle.lists_postings.specs.declared.event.Event.{Event}
use Rattle.lists_versions.proofs.Indexed.{known, known-within}
use Rattle.lists_versions.proofs.Noting.{is-of, all-upto, never}
use Rattle.lists_versions.proofs.directory.Directory.note_events.Goals as goal

pub note_changes-requires-clause-there : goal.note_changes-requires-clause-there
note_changes-requires-clause-there c = rw c.deref.ensures.value (known-within _ _ _ c.args.doc _ c.self.invariant (sym c.get.ensures.value ∙ ap option_copied c.in-Some.is))

pub note_changes-requires-clause-of : goal.note_changes-requires-clause-of
note_changes-requires-clause-of c = rw c.deref.ensures.value (is-of c.args.doc _ c.in-Some.life.now.place (known _ _ _ c.args.doc _ c.self.invariant (sym c.get.ensures.value ∙ ap option_copied c.in-Some.is)))

pub returns-in_default-clause-started : goal.returns-in_default-clause-started
returns-in_default-clause-started c =
    let event : Event = record { doc = c.args.doc; at = c.args.start } in
    (event, subst (λ l. Contains l event) (sym c.in_ok-push.ensures.items) (Contains-push c.args.events.now.items event), refl, c.requires)

pub returns-in_default-clause-changed : goal.returns-in_default-clause-changed
returns-in_default-clause-changed c = rw (← c.self.view_is) (λ d m e lo hi. absurd (never c.args.doc c.self.inside.log.items (known _ _ _ c.args.doc None c.self.invariant (sym c.get.ensures.value ∙ ap option_copied c.in_default.is)) d m e))

pub returns-clause-only : goal.returns-clause-only
returns-clause-only c = λ x m.
    let event : Event = record { doc = c.args.doc; at = c.args.start } in
    elim (c.in_ok-note_changes.ensures.only x m) [
      | inl k ↦ elim (Contains-push_cases c.args.events.now.items event x (subst (λ l. Contains l x) c.in_ok-push.ensures.items k)) [
        | inl q ↦ inl q
        | inr s ↦ inr (ap (λ (z : Event). z.doc) (sym s), omega (arith, ap (λ (z : Event). z.at.seconds) s, c.requires), omega (arith, ap (λ (z : Event). z.at.seconds) s, c.requires, c.args.span.ordered))
      ]
      | inr k ↦ inr k
    ]

pub returns-clause-started : goal.returns-clause-started
returns-clause-started c =
    let event : Event = record { doc = c.args.doc; at = c.args.start } in
    (event, c.in_ok-note_changes.ensures.kept event (subst (λ l. Contains l event) (sym c.in_ok-push.ensures.items) (Contains-push c.args.events.now.items event)), refl, c.requires)

pub returns-clause-changed : goal.returns-clause-changed
returns-clause-changed c =
    let place = c.in-Some.life.now.place in
    let found = known _ _ _ c.args.doc _ c.self.invariant (sym c.get.ensures.value ∙ ap option_copied c.in-Some.is) in
    rw (← c.self.view_is) (λ d m e lo hi.
    c.in_ok-note_changes.ensures.changed d (subst (λ xs. Contains (take (place + 1) xs) d) (sym c.deref.ensures.value) (all-upto c.args.doc c.self.inside.log.items place found d m e)) e lo hi)
