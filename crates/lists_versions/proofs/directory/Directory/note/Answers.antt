use Rattle.std.proofs.Common.{◌≡◌, ◌∙◌, ◌++◌, ◌∷◌, [], sym, arith, length, refl}
use Rattle.std.proofs.lemmas.List.Sorted.{IsNonDecreasingBy-push}
use Rattle.lists_versions.specs.Index.{IsLinked}
use Rattle.lists_versions.proofs.Indexed.{IsIndexed-entered, IsLinked-first, IsLinked-behind, known-within, known-alive, not_back, back}
use Rattle.lists_versions.proofs.directory.Directory.note.Goals as goal
use Rattle.lists_versions.proofs.directory.Directory.note.Goals.{in-Some, in-None}

pub behind-link-requires-clause-there : goal.behind-link-requires-clause-there
behind-link-requires-clause-there c =
    rw (c.deref.ensures.value, c.self.invariant.way.as_many) (known-within _ _ _ c.args.change.doc _ c.self.invariant (sym c.get.ensures.value ∙ sym c.copied-before.ensures ∙ c.in-Some.is))

pub behind-link-requires-clause-back : goal.behind-link-requires-clause-back
behind-link-requires-clause-back c = rw c.deref.ensures.value (back _ _ c.self.invariant.way)

pub invariant_of-self : goal.invariant_of-self
invariant_of-self c =
    let place : c.len-place.result ≡ length c.self.inside.log.items = omega arith in
    let at = sym c.get.ensures.value ∙ sym c.copied-before.ensures in
    let new : IsLinked (c.self.inside.log.items ++ c.args.change ∷ []) (length c.self.inside.log.items) c.args.change.doc c.match-before.link =
    elim c.match-before.branch [
      | in-Some w ↦ rw w.link-is (let k = w.behind-link.ensures in IsLinked-behind _ _ _ c.args.change w.behind-link.result w.in-Some.before c.self.invariant (at ∙ w.in-Some.is) k.before k.back k.moves (rw w.deref.ensures.value at k.jump))
      | in-None w ↦ rw w.link-is (IsLinked-first _ _ _ c.args.change w.first-link.result c.self.invariant (at ∙ w.in-None.is) (rw place at w.first-link.ensures))
    ] in
    let up = not_back c.self.inside.log.items c.args.change.at (rw (← c.self.view_is) at c.requires.in_order) in
    let lasts = c.behind-life.ensures.lasts c.self.inside.log.items (IsNonDecreasingBy-push (λ d. d.at.seconds) c.self.inside.log.items c.args.change c.self.invariant.way.ascending up) (known-alive _ _ _ c.args.change.doc _ c.self.invariant at) in
    let k = c.insert-entered.ensures in
    IsIndexed-entered c.self.inside.log.items _ c.self.inside.links.items _ c.self.inside.latest _ c.args.change c.match-before.link c.behind-life.result c.insert-entered.result c.self.invariant up new (c.behind-life.ensures.place ∙ place) lasts c.push_reserved.ensures.items c.push_reserved-2.ensures.items (rw c.unwrap.ensures refl) k.old k.updates k.entries
