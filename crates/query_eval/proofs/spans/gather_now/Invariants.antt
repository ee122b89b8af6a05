use Rattle.std.proofs.Common.{◌≡◌, ◌++◌, ◌||◌, drop}
use Rattle.query_eval.specs.Facts.{hits_now, alive_now}
use Rattle.query_eval.proofs.spans.gather_now.Given as goal

abbrev pub invariant-loop-fact : goal.invariant-loop-fact
invariant-loop-fact l = record {
  alive : l.alive || alive_now l.t.seconds (drop l.fact-index l.group) ≡ alive_now l.t.seconds l.group;
  hits : l.hits.items ++ hits_now l.t.seconds (drop l.fact-index l.group) ≡ hits_now l.t.seconds l.group;
}
