use Rattle.std.proofs.Common.{◌∙◌, ap}
use Rattle.std.specs.Prelude.{length, unwrap_or}
use Rattle.script_read.proofs.WordLemmas.{unwrap_position}
use Rattle.script_read.proofs.first.place_of_line_feed.Goals as goal

pub returns-clause-place : goal.returns-clause-place
returns-clause-place c =
    c.unwrap_or.ensures ∙ ap (λ o. unwrap_or o (length c.args.bytes.now)) c.find_line_feed.ensures ∙ unwrap_position _ c.args.bytes.now
