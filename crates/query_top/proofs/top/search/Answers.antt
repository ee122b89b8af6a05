use Rattle.std.proofs.Common.{◌≡◌, ◌++◌, ◌^◌, ℕ, List, arith, rules, subst, ◌∙◌}
use Rattle.query_top.specs.Sheets.{Sheet, IsSheet}
use Rattle.query_top.specs.Firsts.{Each}
use Rattle.query_top.specs.Lanes.{weights_of, AreFit}
use Rattle.query_top.specs.Opening.{Opened}
use Rattle.query_top.specs.Steps.{AreThrough}
use Rattle.query_top.proofs.RunLemmas.{opens-join, fault-join}
use Rattle.query_top.proofs.top.search.Goals as goal

pub returns-in_err-d-clause-fault : goal.returns-in_err-d-clause-fault
returns-in_err-d-clause-fault g c = λ e is. fault-join g.B.Blocks.opens c.args.blocks.now c.loop-d.blocks c.step.new.blocks e c.loop-d.invariant.os c.loop-d.invariant.opens (search rules)

pub loop-d-preserved : goal.loop-d-preserved
loop-d-preserved g c =
    let i = c.loop-d.invariant in
    let s = c.in_ok-d.ensures in
    record {
      sheets = s.sheets ∙ i.sheets;
      few = s.few;
      fit = subst (λ (ss : List Sheet). AreFit ss c.step.new.lanes) i.sheets s.fit;
      weights = s.weights ∙ i.weights;
      near = s.far.1;
      os = i.os ++ s.through.0;
      opens = opens-join g.B.Blocks.opens c.args.blocks.now c.loop-d.blocks c.step.new.blocks i.os s.through.0 i.opens s.through.1;
      through = λ sheets t.
          let goes = subst (λ (ss : List Sheet). (os : List Opened) → Each (IsSheet c.args.at.seconds) ss → AreThrough c.args.at.seconds (weights_of c.loop-d.lanes) ss c.args.count c.loop-d.d c.loop-d.lanes c.loop-d.rows.items os
          → AreThrough c.args.at.seconds (weights_of c.loop-d.lanes) ss c.args.count c.in_ok-d.d c.step.new.lanes c.step.new.rows.items (os ++ s.through.0)) i.sheets s.through.2 in
          let same = subst (λ (ws : List ℕ). (os : List Opened) → Each (IsSheet c.args.at.seconds) (g.B.Blocks.sheets c.args.blocks.now) → AreThrough c.args.at.seconds ws (g.B.Blocks.sheets c.args.blocks.now) c.args.count c.loop-d.d c.loop-d.lanes c.loop-d.rows.items os
          → AreThrough c.args.at.seconds ws (g.B.Blocks.sheets c.args.blocks.now) c.args.count c.in_ok-d.d c.step.new.lanes c.step.new.rows.items (os ++ s.through.0)) i.weights goes in
          same i.os sheets (i.through sheets t);
    }

pub returns-clause-through : goal.returns-clause-through
returns-clause-through g c = (
  c.loop-d.invariant.os,
  c.loop-d.invariant.opens,
  λ sheets t.
      let near = c.loop-d.invariant.near in
      let far = c.loop-d-test.false in
      let e : c.loop-d.d ≡ 2 ^ 32 = omega (arith, near, far) in
      subst (λ d. AreThrough c.args.at.seconds (weights_of c.args.lanes.now) (g.B.Blocks.sheets c.args.blocks.now) c.args.count d c.loop-d.lanes c.loop-d.rows.items c.loop-d.invariant.os) e (c.loop-d.invariant.through sheets t),
)
