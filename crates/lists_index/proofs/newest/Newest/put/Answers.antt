use Rattle.std.proofs.Common.{refl}
use Rattle.lists_index.proofs.Keeping.{put_is}
use Rattle.lists_index.proofs.newest.Newest.put.Goals as goal

pub returns : goal.returns
returns c = record { put = put_is c.insert-put.result c.unwrap.result c.args.self.now.by_document c.insert-put.new.self c.args.doc c.args.weights (rw c.unwrap.ensures refl) c.insert-put.ensures.updates }
