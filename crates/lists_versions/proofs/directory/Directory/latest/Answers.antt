use Rattle.std.proofs.Common.{◌∙◌, sym, ap, arith, Some, ◌<◌, vec_len}
use Rattle.std.proofs.lemmas.Option.{slice_get_read}
use Rattle.std.specs.Option.{option_copied}
use Rattle.lists_versions.proofs.Latest.{latest-some}
use Rattle.lists_versions.proofs.Indexed.{known, known-within}
use Rattle.lists_versions.proofs.directory.Directory.latest.Goals as goal

pub index-requires : goal.index-requires
index-requires c = omega (arith, known-within _ _ _ c.args.doc _ c.self.invariant (sym c.get.ensures.value ∙ ap option_copied c.in-Some.is))

pub returns-in-Some : goal.returns-in-Some
returns-in-Some c =
    let at = sym c.get.ensures.value ∙ ap option_copied c.in-Some.is in
    let within : c.in-Some.life.now.place < vec_len c.self.inside.log = omega (arith, known-within _ _ _ c.args.doc _ c.self.invariant at) in
    rw (← c.self.view_is) (sym (latest-some c.args.doc c.self.inside.log.items c.in-Some.life.now.place (known _ _ _ c.args.doc (Some c.in-Some.life.now) c.self.invariant at)
    ∙ slice_get_read c.self.inside.log.items (vec_len c.self.inside.log) c.in-Some.life.now.place c.index.result.now (omega arith) within c.index.ensures))
