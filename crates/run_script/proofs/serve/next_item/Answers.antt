use Rattle.std.proofs.Common.{◌≡◌, ℕ, List, Result, Ok, Err, sym, ap, ◌∙◌}
use Rattle.machine_model.specs.States.{SourceState}
use Rattle.base_commands.specs.declared.command.Item.{Item}
use Rattle.run_script.specs.Serving.{AreAwaited, Gives, Pulling, next_by, pulls_beside}
use Rattle.run_script.specs.declared.status.Status.{Status}
use Rattle.run_script.proofs.ServeLemmas.{pulls_in}
use Rattle.run_script.proofs.serve.next_item.Given.{Over}
use Rattle.run_script.proofs.serve.next_item.Goals.{After-next_item}
use Rattle.run_script.proofs.serve.next_item.Goals as goal

-- what the reader gave, for what its answer is to a run
given : (g : Over) (c : After-next_item g) (next : Result Item Status) → next ≡ next_by c.next_item.result → g.M.Source.source_tells → (began : SourceState) (p : Pulling began (g.M.Source.source c.args.machine.now) c.args.reader.now)
    → Gives c.args.reader.now c.next_item.new.self p.since next (g.M.Source.source c.args.machine.now) (g.M.Source.source c.next_item.new.source)
given g c next is tells began p =
    let says = c.next_item.ensures.says p.since p.reads.stands in
    record { answer = c.next_item.result; next_is = is; more = says.0; gave = says.1 tells; calm = says.2; says = says.3; told = c.next_item.ensures.end tells p.told }

-- the pulls that it made
asked : (g : Over) (c : After-next_item g) → g.M.Source.source_tells → (began : SourceState) (p : Pulling began (g.M.Source.source c.args.machine.now) c.args.reader.now)
    → (lefts : List (List ℕ)) × g.M.Machine.asked c.args.machine.now (pulls_beside (g.M.Sink.sink c.next_item.new.source).shown lefts) c.next_item.new.source × AreAwaited c.args.reader.now p.since (g.M.Source.source c.args.machine.now).left lefts
asked g c tells began p =
    let m = c.args.machine.now in
    let mid = c.next_item.new.source in
    let made = c.next_item.ensures.awaited p.since p.reads.stands in
    let pulls = pulls_in c.args.reader.now p.since (g.M.Source.source m).left (λ lefts. g.M.Source.pulled m lefts mid)
    (λ none. rw (c.next_item.ensures.calm p.since p.reads.stands none) (g.met.M.Source.laws.unpulled m)) (made.0, made.1, made.2 tells) in
    (pulls.0, rw (g.met.M.Machine.source_alone m mid c.next_item.ensures.only).0 (g.met.M.Machine.asked_laws.by m mid pulls.0 pulls.1), pulls.2)

pub returns-in-Err-clause-gives : goal.returns-in-Err-clause-gives
returns-in-Err-clause-gives g c = given g (goal.at.returns-in-Err-clause-gives g c).After-next_item _ (ap Err c.from.ensures ∙ ap next_by (sym c.in-Err.is))

pub returns-in_default-clause-gives : goal.returns-in_default-clause-gives
returns-in_default-clause-gives g c = given g (goal.at.returns-in_default-clause-gives g c).After-next_item _ (ap next_by (sym (c.in-Ok.is ∙ ap Ok c.in_default.is)))

pub returns-clause-gives : goal.returns-clause-gives
returns-clause-gives g c = given g (goal.at.returns-clause-gives g c).After-next_item _ (ap next_by (sym (c.in-Ok.is ∙ ap Ok c.in-Some.is)))

pub returns-in-Err-clause-asked : goal.returns-in-Err-clause-asked
returns-in-Err-clause-asked g c = asked g (goal.at.returns-in-Err-clause-asked g c).After-next_item

pub returns-in_default-clause-asked : goal.returns-in_default-clause-asked
returns-in_default-clause-asked g c = asked g (goal.at.returns-in_default-clause-asked g c).After-next_item

pub returns-clause-asked : goal.returns-clause-asked
returns-clause-asked g c = asked g (goal.at.returns-clause-asked g c).After-next_item
