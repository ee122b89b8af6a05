use Rattle.std.proofs.Common.{◌<◌, ◌≤◌, ℕ, List, length, get_or, subst, rules}
use Rattle.pages_codec.specs.declared.head.BlockHead.{BlockHead}
use Rattle.query_top.specs.Sheets.{no_head}
use Rattle.query_top.specs.Lanes.{Keeps}
use Rattle.query_top.proofs.LaneLemmas.{stands-moved, passed-more, Reaches}
use Rattle.query_top.proofs.lane.Lane.move_to.Goals as goal

pub returns-clause-lies : goal.returns-clause-lies
returns-clause-lies c = λ at s is sheet lim lies.
    let within = subst (λ (h : List BlockHead). c.covering-cover.result ≤ length h) is c.covering-cover.ensures.within in
    let passed = subst (λ (h : List BlockHead). (i : ℕ) → c.args.self.now.cover ≤ i → i < c.covering-cover.result → (get_or h i no_head).last.0 < c.args.d) is c.covering-cover.ensures.passed in
    let reaches : Reaches s.heads c.args.d c.covering-cover.result c.begun_from-after.result.after c.begun_from-after.result.top c.start_of-start.result c.end_of-end.result =
    subst (λ (h : List BlockHead). Reaches h c.args.d c.covering-cover.result c.begun_from-after.result.after c.begun_from-after.result.top c.start_of-start.result c.end_of-end.result) is
    (record {
      within = c.covering-cover.ensures.within;
      reached = c.covering-cover.ensures.reached;
      behind = c.begun_from-after.ensures.behind;
      reaches = c.begun_from-after.ensures.within;
      begun = c.begun_from-after.ensures.begun;
      later = c.begun_from-after.ensures.later;
      high = c.begun_from-after.ensures.high;
      low = c.begun_from-after.ensures.low;
      start_some = c.start_of-start.ensures.some;
      start_ends = c.start_of-start.ensures.ends;
      end_some = c.end_of-end.ensures.some;
    }) in
    let k = lies.keeps in
    let keeps : Keeps at s c.args.d _ = record {
      passed = passed-more s.heads c.args.d c.args.self.now.cover c.covering-cover.result k.passed passed;
      covering = within;
      begun = k.begun;
      within = k.within;
      tells = k.tells;
      ascending = k.ascending;
      ahead = k.ahead;
      flat_from = k.flat_from;
      flat_top = k.flat_top;
      ends = k.ends;
    } in
    record {
      keeps = keeps;
      stands = λ _. stands-moved at s c.args.d _ c.begun_from-after.result.top c.end_of-end.result c.flat_at-flat_top.result.0 c.flat_at-flat_top.result.1 sheet keeps reaches c.flat_at-flat_top.ensures.most c.flat_at-flat_top.ensures.none (search rules) (search rules);
    }
