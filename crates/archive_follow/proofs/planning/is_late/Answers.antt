use Rattle.std.proofs.Common.{◌≡◌, Some, None, sym, ap, ◌∙◌, arith}
use Rattle.std.proofs.lemmas.Bool.{lt-ltb, ltb-true}
use Rattle.lists_versions.specs.Changes.{last_time}
use Rattle.model_archive.specs.Planning.{last_second}
use Rattle.archive_follow.proofs.FoundLemmas.{last_is}
use Rattle.archive_follow.proofs.planning.is_late.Goals as goal

pub returns-in-Some : goal.returns-in-Some
returns-in-Some c = λ h stands.
    let is : c.in-Some.last.seconds ≡ last_second h = last_is c.args.archive.now h (Some c.in-Some.last) stands (sym c.in-Some.is ∙ c.last.ensures ∙ ap last_time c.directory.ensures.changes) in
    (λ yes. omega (arith, is, c.is_before.ensures.0 yes), λ after. c.is_before.ensures.1 (omega (arith, is, after)))

pub returns-in-None : goal.returns-in-None
returns-in-None c = λ h stands.
    let is : 0 ≡ last_second h = last_is c.args.archive.now h None stands (sym c.in-None.is ∙ c.last.ensures ∙ ap last_time c.directory.ensures.changes) in
    (λ yes. omega (arith, is, c.seconds.ensures.value, ltb-true 0 c.seconds.result yes), λ after. lt-ltb 0 c.seconds.result (omega (arith, is, c.seconds.ensures.value, after)))
