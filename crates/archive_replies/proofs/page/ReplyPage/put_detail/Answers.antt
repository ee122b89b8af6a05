use Rattle.std.proofs.Common.{◌∙◌, append_assoc}
use Rattle.std.specs.Prelude.{codes}
use Rattle.std.specs.Fmt.{decimal}
use Rattle.archive_replies.proofs.page.ReplyPage.put_detail.Goals as goal

pub returns-in-BatchTooLong-clause-bytes : goal.returns-in-BatchTooLong-clause-bytes
returns-in-BatchTooLong-clause-bytes c =
    rw c.in-BatchTooLong.is (c.put_named-in-BatchTooLong.ensures.bytes ∙ append_assoc c.args.self.now.bytes (codes "BatchTooLong ") (decimal c.in-BatchTooLong.limit))
