use Rattle.model_follow.proofs.ExportLemmas.{exports_read}
use Rattle.model_follow.proofs.PlacedLemmas.{followed_legal}
use Rattle.model_follow.proofs.RoomLemmas.{has_room}
use Rattle.model_follow.proofs.StepLemmas.{followers, runs, samples, steps, stints}
use Rattle.model_follow.proofs.laws.what_runs_make_can_be_followed.Goals as goal

pub returns : goal.returns
returns c =
    let room = has_room c.plan_laws.ensures.len in
    record { room = room; legal = followed_legal; exports = exports_read room c.exports_are_streams.ensures; steps = steps; stints = stints; runs = runs; samples = samples; followers = followers }
