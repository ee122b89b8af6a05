use Rattle.std.proofs.Common.{arith, rules, ◌≡◌, ◌<◌, ◌≤◌, length, vec_len, ap, ◌∙◌}
use Rattle.std.proofs.lemmas.List.{take-append-drop, get_or_read}
use Rattle.lists_tails.proofs.Blocked.{Block, insert-behind}
use Rattle.lists_tails.proofs.blocks.divide.Goals as goal

pub returns : goal.returns
returns c =
    let n : vec_len c.args.later.now ≡ length c.args.later.now.items = search rules in
    let l : c.args.place < length c.args.later.now.items = omega (arith, n, c.requires.inside) in
    let big : 512 ≤ c.len.result = search rules in
    record {
      divided = record {
        one = c.cut-block.new.block;
        two = c.cut-block.result;
        parts = c.put_block.ensures.items ∙ insert-behind c.args.later.now.items c.args.place c.cut-block.new.block c.cut-block.result l;
        same = λ d. rw (c.cut-block.ensures.kept, c.cut-block.ensures.moved) (take-append-drop _ c.index_mut.result.now.items) ∙ ap (λ (w : Block). w.items) (get_or_read c.args.later.now.items c.args.place c.index_mut.result.now l c.index_mut.ensures.value d);
        one_roomy = record { filled = omega (arith, c.cut-block.ensures.left, big, c.requires.few); roomy = c.cut-block.ensures.roomy };
        two_roomy = record { filled = c.cut-block.ensures.filled; roomy = c.cut-block.ensures.roomy_too };
      };
    }
