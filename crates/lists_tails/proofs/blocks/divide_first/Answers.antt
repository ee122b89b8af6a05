use Rattle.std.proofs.Common.{◌≡◌, ◌++◌, ◌∷◌, ap, sym, ◌∙◌, append_assoc}
use Rattle.std.proofs.lemmas.List.{take-append-drop}
use Rattle.lists_tails.specs.Blocks.{joined}
use Rattle.lists_tails.proofs.blocks.divide_first.Goals as goal

pub returns-clause-same : goal.returns-clause-same
returns-clause-same c =
    let e : c.put_block.new.later.items ≡ c.cut-block.result ∷ c.args.later.now.items = c.put_block.ensures.items in
    let f : c.cut-block.new.block.items ++ c.cut-block.result.items ≡ c.args.first.now.items = rw (c.cut-block.ensures.kept, c.cut-block.ensures.moved) (take-append-drop _ c.args.first.now.items) in
    ap (λ w. c.cut-block.new.block.items ++ joined w) e ∙ sym (append_assoc c.cut-block.new.block.items c.cut-block.result.items (joined c.args.later.now.items)) ∙ ap (λ w. w ++ joined c.args.later.now.items) f

pub returns-clause-added : goal.returns-clause-added
returns-clause-added c = record {
  one = c.cut-block.result;
  parts = c.put_block.ensures.items;
  one_roomy = record { filled = c.cut-block.ensures.filled; roomy = c.cut-block.ensures.roomy_too };
}
