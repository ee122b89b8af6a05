use Rattle.std.proofs.Common.{◌≡◌, ◌<◌, ◌+◌, ◌*◌, ◌^◌, ℕ, [], ◌∷◌, length, get_or, arith, subst, ap, ◌∙◌}
use Rattle.query_top.specs.Lanes.{tally}
use Rattle.query_top.specs.declared.lane.Lane.{Lane}
use Rattle.query_top.proofs.LaneLemmas.{tally-other, add-done, tally-next, add-fits, add-more}
use Rattle.query_top.proofs.lane.Lane.add.Goals as goal

pub returns-then-from-end-clause-sums : goal.returns-then-from-end-clause-sums
returns-then-from-end-clause-sums c = λ asc k l room.
    let same : c.loop-self.self.hits.items ≡ c.args.self.now.hits.items = ap (λ (y : Lane). y.hits.items) c.loop-self.invariant.same in
    let far = c.if-from-end.true in
    let doc = c.from.ensures in
    let len = c.len.ensures in
    let test = c.loop-self-test.true in
    let long = c.loop-self.auto.sums in
    add-done c.args.at.seconds c.args.from k (length c.args.sums.now) c.loop-self.self.cursor c.args.self.now.weight _ _ c.args.self.now.hits.items c.index.result.now
    (c.loop-self.invariant.sums k (omega (arith, l, long)) room)
    (omega (arith, test, len, ap length same))
    (c.index.ensures ∙ ap (λ hits. get_or hits c.loop-self.self.cursor c.index.result.now) same)
    asc (omega (arith, far, doc)) l

pub loop-self-preserved : goal.loop-self-preserved
loop-self-preserved c =
    let same : c.loop-self.self.hits.items ≡ c.args.self.now.hits.items = ap (λ (y : Lane). y.hits.items) c.loop-self.invariant.same in
    let weight : c.loop-self.self.weight ≡ c.args.self.now.weight = ap (λ (y : Lane). y.weight) c.loop-self.invariant.same in
    let near = c.if-from-end.false in
    let doc = c.from.ensures in
    let len = c.len.ensures in
    let test = c.loop-self-test.true in
    let long = c.loop-self.auto.sums in
    let inside : c.loop-self.self.cursor < length c.args.self.now.hits.items = omega (arith, test, len, ap length same) in
    let is = c.index.ensures ∙ ap (λ hits. get_or hits c.loop-self.self.cursor c.index.result.now) same in
    let put = subst (λ w. (k : ℕ) → k < length c.loop-self.sums → get_or c.loop-self.sums k 0 + w * tally c.args.at.seconds (c.args.from + k) (c.index.result.now ∷ []) < 2 ^ 64 → get_or c.put.new.sums k 0 ≡ get_or c.loop-self.sums k 0 + w * tally c.args.at.seconds (c.args.from + k) (c.index.result.now ∷ [])) weight c.put.ensures in
    record {
      sums = λ k l room. let m : k < length c.loop-self.sums = omega arith in let now = c.loop-self.invariant.sums k m room in let nx = tally-next c.args.at.seconds (c.args.from + k) c.loop-self.self.cursor c.args.self.now.hits.items c.index.result.now inside is in add-more c.args.self.now.weight _ _ _ _ _ _ now nx (put k m (add-fits c.args.self.now.weight _ _ _ _ _ now room nx));
      left = λ x l. let n = tally-next c.args.at.seconds x c.loop-self.self.cursor c.args.self.now.hits.items c.index.result.now inside is in let o = tally-other c.args.at.seconds x c.index.result.now (λ e. omega arith) in let i = c.loop-self.invariant.left x (omega arith) in omega (arith, n, o, i);
      cursor = omega arith;
      same = ap (λ (y : Lane). record y { cursor = c.loop-self.self.cursor + 1 }) c.loop-self.invariant.same;
    }
