use Rattle.std.proofs.Common.{◌∙◌, ap}
use Rattle.std.proofs.lemmas.Option.{get_or_from_slice_get, slice_get-get_or}
use Rattle.lists_versions.proofs.Steps.{reached}
use Rattle.lists_versions.proofs.walk.held_from.Goals as goal

pub returns-in-Some : goal.returns-in-Some
returns-in-Some c = λ doc h.
    let place = c.in-Some.place in
    let until = c.in-Some.ensures.until in
    ap (λ d. d.held) (get_or_from_slice_get c.args.log.now place _ _ (slice_get-get_or c.args.log.now place c.index-log-place.result until.0))
    ∙ reached _ _ c.requires.linked doc c.args.t.seconds place c.index-log-place.result (c.in-Some.ensures.leads doc h) until.0 (until.1 c.index-log-place.result)
