use Rattle.std.proofs.Common.{◌≡◌, take}
use Rattle.std.specs.List.{flat_map}
use Rattle.model_archive.specs.Replies.{share_text}
use Rattle.archive_replies.proofs.page.ReplyPage.shared.Given as goal

abbrev pub invariant-loop-share : goal.invariant-loop-share
invariant-loop-share l = l.self.bytes ≡ flat_map share_text (take l.share-index l.share-items)
