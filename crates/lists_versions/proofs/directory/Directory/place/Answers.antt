use Rattle.std.proofs.Common.{◌∙◌, sym, ap}
use Rattle.std.specs.Option.{option_copied}
use Rattle.lists_versions.proofs.Indexed.{known, known-within}
use Rattle.lists_versions.proofs.Steps.{start}
use Rattle.lists_versions.proofs.directory.Directory.place.Goals as goal

pub held_from-requires-clause-there : goal.held_from-requires-clause-there
held_from-requires-clause-there c = rw c.deref.ensures.value (known-within _ _ _ c.args.doc _ c.self.invariant (sym c.get.ensures.value ∙ ap option_copied c.in-Some.is))

pub returns-in-Some : goal.returns-in-Some
returns-in-Some c =
    let found = known _ _ _ c.args.doc _ c.self.invariant (sym c.get.ensures.value ∙ ap option_copied c.in-Some.is) in
    rw (← c.self.view_is) ((rw c.deref.ensures.value at c.held_from.ensures) c.args.doc (start c.args.doc c.args.t.seconds _ c.in-Some.life.now.place found))
