use Rattle.std.proofs.Common.{◌≡◌, rules, filter, is_some}
use Rattle.std.specs.HashMap.{keys}
use Rattle.lists_versions.specs.Changes.{held_at, documents}
use Rattle.lists_versions.proofs.Ascending.{times-filter}
use Rattle.lists_versions.proofs.directory.Directory.unsorted.Goals as goal

pub returns : goal.returns
returns c = λ doc.
    let items : c.in_ok-docs.docs.items ≡ filter (λ d. is_some (held_at d c.args.t.seconds c.args.self.now.changes)) (keys c.self.inside.latest) = search rules in
    let inside = c.self.view_is in
    rw items (rw (← c.self.view_is) (times-filter (λ d. is_some (held_at d c.args.t.seconds c.self.inside.log.items)) (keys c.self.inside.latest) (documents c.self.inside.log.items) c.self.invariant.each_once doc))
