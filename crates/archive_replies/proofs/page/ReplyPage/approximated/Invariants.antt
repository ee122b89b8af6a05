use Rattle.std.proofs.Common.{◌≡◌, take}
use Rattle.std.specs.List.{flat_map}
use Rattle.model_archive.specs.Replies.{approx_text}
use Rattle.archive_replies.proofs.page.ReplyPage.approximated.Given as goal

abbrev pub invariant-loop-posting : goal.invariant-loop-posting
invariant-loop-posting l = l.self.bytes ≡ flat_map approx_text (take l.posting-index l.short)
