use Rattle.std.proofs.Common.{◌≡◌, take}
use Rattle.std.specs.List.{flat_map}
use Rattle.model_archive.specs.Replies.{row_text}
use Rattle.archive_replies.proofs.page.ReplyPage.found_best.Given as goal

abbrev pub invariant-loop-row : goal.invariant-loop-row
invariant-loop-row l = l.self.bytes ≡ flat_map row_text (take l.row-index l.rows)
