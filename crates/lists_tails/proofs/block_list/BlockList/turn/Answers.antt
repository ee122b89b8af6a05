use Rattle.std.proofs.Common.{◌≡◌, ◌++◌, List, ap, subst}
use Rattle.base_types.specs.declared.posting.Posting.{Posting}
use Rattle.lists_tails.specs.Turns.{IsTurned}
use Rattle.lists_tails.specs.States.{TailState}
use Rattle.lists_tails.specs.Blocks.{joined}
use Rattle.lists_tails.proofs.block_list.BlockList.turn.Goals as goal

pub returns-then-old-new-clause-turned : goal.returns-then-old-new-clause-turned
returns-then-old-new-clause-turned c =
    let v : c.self.inside.first.items ++ joined c.self.inside.later.items ≡ c.args.self.now.list = ap {B = List Posting} (λ (h : TailState). h.list) c.self.view_is in
    subst (λ z. IsTurned c.args.doc.0 c.args.at.seconds c.args.old c.args.new z (c.turn_blocks.new.first.items ++ joined c.turn_blocks.new.later.items)) v c.turn_blocks.ensures.turned
