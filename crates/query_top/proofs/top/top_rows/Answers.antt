use Rattle.std.proofs.Common.{◌≡◌, ◌^◌, [], ℕ, List, length, arith, rules, ap, sym, subst, ◌∙◌}
use Rattle.query_top.specs.Sheets.{IsSheet}
use Rattle.query_top.specs.Firsts.{Each}
use Rattle.query_top.specs.Lanes.{weights_of, IsFit, Lie}
use Rattle.query_top.specs.Steps.{AreThrough}
use Rattle.query_top.specs.declared.lane.Lane.{Lane}
use Rattle.query_top.specs.declared.ranking.Row.{Row}
use Rattle.query_top.proofs.StepLemmas.{through-none, through-first, through-opens}
use Rattle.query_top.proofs.ZipLemmas.{zip-long}
use Rattle.query_top.proofs.top.top_rows.Given.{Over}
use Rattle.query_top.proofs.top.top_rows.Goals as goal

pub search-requires-clause-words : goal.search-requires-clause-words
search-requires-clause-words g c =
    let n = zip-long (λ s k. IsFit (length s.heads) k) (g.B.Blocks.sheets c.args.blocks.now) c.in_ok-lanes.lanes.items c.in_ok-lanes.ensures.fit in
    let v : length c.deref_mut.result.now ≡ length c.in_ok-lanes.lanes.items = ap (λ (ls : List Lane). length ls) c.deref_mut.ensures.value in
    let words = c.requires.words in
    let few = c.requires.few in
    omega (arith, n, v, words, few)

pub returns-in_err-search-clause-fault : goal.returns-in_err-search-clause-fault
returns-in_err-search-clause-fault g c = λ e is. c.in_err-search.ensures.fault e (search rules)

through : (g : Over) (c : goal.After-drop-lanes-2 g) → Each (IsSheet c.args.at.seconds) (g.B.Blocks.sheets c.args.blocks.now)
    → AreThrough c.args.at.seconds c.args.weights.now (g.B.Blocks.sheets c.args.blocks.now) c.args.count (2 ^ 32) c.search.new.lanes c.search.new.rows.items c.in_ok-search.ensures.through.0
through g c sheets =
    let lanes = c.deref_mut.ensures.value in
    let rows = c.new-rows.ensures.items in
    let w : weights_of c.deref_mut.result.now ≡ c.args.weights.now = ap weights_of lanes ∙ c.in_ok-lanes.ensures.weights in
    let none = through-none c.args.at.seconds (weights_of c.deref_mut.result.now) (g.B.Blocks.sheets c.args.blocks.now) c.args.count c.deref_mut.result.now
    (subst (λ (ls : List Lane). Each (λ k. k.opened ≡ 0) ls) (sym lanes) c.in_ok-lanes.ensures.opened) (subst (λ (ls : List Lane). Lie c.args.at.seconds 0 (g.B.Blocks.sheets c.args.blocks.now) ls) (sym lanes) (c.in_ok-lanes.ensures.lies c.args.at.seconds sheets)) in
    subst (λ (ws : List ℕ). AreThrough c.args.at.seconds ws (g.B.Blocks.sheets c.args.blocks.now) c.args.count (2 ^ 32) c.search.new.lanes c.search.new.rows.items c.in_ok-search.ensures.through.0) w
    (c.in_ok-search.ensures.through.2 sheets (subst (λ (rs : List Row). AreThrough c.args.at.seconds (weights_of c.deref_mut.result.now) (g.B.Blocks.sheets c.args.blocks.now) c.args.count 0 c.deref_mut.result.now rs []) (sym rows) none))

pub returns-clause-first : goal.returns-clause-first
returns-clause-first g c = λ sheets. through-first c.args.at.seconds c.args.weights.now (g.B.Blocks.sheets c.args.blocks.now) c.args.count c.search.new.lanes c.search.new.rows.items c.in_ok-search.ensures.through.0 (through g c sheets)

pub returns-clause-opened : goal.returns-clause-opened
returns-clause-opened g c = λ sheets. through-opens g.B.Blocks.opens c.args.at.seconds c.args.weights.now (g.B.Blocks.sheets c.args.blocks.now) c.args.count c.search.new.lanes c.search.new.rows.items c.in_ok-search.ensures.through.0 c.args.blocks.now c.search.new.blocks
    c.in_ok-search.ensures.through.1 (through g c sheets)

pub returns-clause-calls : goal.returns-clause-calls
returns-clause-calls g c = (c.in_ok-search.ensures.through.0, c.in_ok-search.ensures.through.1)
