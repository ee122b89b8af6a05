use Rattle.std.proofs.Common.{◌≡◌, ◌++◌, take}
use Rattle.std.specs.List.{flat_map}
use Rattle.model_archive.specs.Replies.{node_text, segment_text}
use Rattle.archive_replies.proofs.page.ReplyPage.proposed.Given as goal

abbrev pub invariant-loop-segment : goal.invariant-loop-segment
invariant-loop-segment l = l.self.bytes ≡ flat_map segment_text (take l.segment-index l.segments)

abbrev pub invariant-loop-node : goal.invariant-loop-node
invariant-loop-node l = l.self.bytes ≡ flat_map segment_text l.segments ++ flat_map node_text (take l.node-index l.nodes)
