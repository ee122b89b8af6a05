use Rattle.std.proofs.Common.{◌≡◌, ◌-◌, ◌++◌, List, length, take, map, ap, sym, ◌∙◌, arith}
use Rattle.std.specs.Vec.{vec_len}
use Rattle.plans_share.specs.Asked.{asking, noted_all}
use Rattle.plans_share.specs.declared.asked.Asking.{Asking}
use Rattle.plans_share.proofs.Noting.{noted-front}
use Rattle.plans_share.proofs.asked.Asked.note_all.Goals as goal

pub returns-clause-noted : goal.returns-clause-noted
returns-clause-noted c =
    let pairs = c.self.inside.pairs.items in
    let all = map (asking c.args.at) c.args.words.now in
    let long : vec_len c.self.inside.pairs ≡ length pairs = omega arith in
    let cut : c.truncate.new.self.items ≡ take (1048576 - length pairs) all = c.truncate.ensures.items ∙ ap (λ (l : List Asking). take (1048576 - c.len.result) l) c.in_ok-fresh.ensures ∙ ap (λ n. take (1048576 - n) all) (c.len.ensures ∙ long) in
    c.in_ok-append.ensures.items ∙ ap (λ (l : List Asking). pairs ++ l) cut ∙ sym (noted-front pairs c.args.words.now c.args.at) ∙ ap (λ (l : List Asking). noted_all l c.args.words.now c.args.at) c.self.view_is
