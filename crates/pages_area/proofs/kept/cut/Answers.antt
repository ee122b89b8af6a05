use Rattle.std.proofs.Common.{◌≡◌, ◌-◌, ◌≤◌, length, take, ap, ◌∙◌, sym, arith}
use Rattle.std.proofs.lemmas.List.{take_all}
use Rattle.pages_area.proofs.kept.cut.Goals as goal

pub returns-then-len-gt-MOST_KEPT-clause-cut : goal.returns-then-len-gt-MOST_KEPT-clause-cut
returns-then-len-gt-MOST_KEPT-clause-cut c =
    let one_less : length c.args.kept.now.entries - 1 ≡ 1024 = omega arith in
    ap (λ d. d.entries) c.pop_lru.ensures.entries ∙ ap (λ n. take n c.args.kept.now.entries) one_less

pub returns-else-len-gt-MOST_KEPT-clause-cut : goal.returns-else-len-gt-MOST_KEPT-clause-cut
returns-else-len-gt-MOST_KEPT-clause-cut c =
    let few : length c.args.kept.now.entries ≤ 1024 = omega arith in
    sym (take_all 1024 c.args.kept.now.entries few)
