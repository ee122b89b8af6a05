use Rattle.std.proofs.Common.{◌≡◌, ℕ, List, Result, Ok, Err, All, ap, sym, ◌∙◌}
use Rattle.journal_packets.specs.Reading.{IsAwaited}
use Rattle.journal_packets.specs.declared.packet.Packet.{Packet}
use Rattle.run_taking.specs.Serving.{Gives, next_by, pulls_beside}
use Rattle.run_taking.specs.declared.ended.Ended.{Ended}
use Rattle.run_taking.specs.declared.ended.Ended.TheVariants.{Done}
use Rattle.run_taking.proofs.reading.next_packet.Given.{Over}
use Rattle.run_taking.proofs.reading.next_packet.Goals.{After-next_packet}
use Rattle.run_taking.proofs.reading.next_packet.Goals as goal

-- what the reader gave, for what its answer is to a run
given : (g : Over) (c : After-next_packet g) (next : Result Packet Ended) → next ≡ next_by c.next_packet.result → g.M.Source.source_tells
    → Gives c.args.reader.now c.next_packet.new.self next (g.M.Source.source c.args.machine.now) (g.M.Source.source c.next_packet.new.source)
given g c next is tells =
    let says = c.next_packet.ensures.says in
    record { answer = c.next_packet.result; next_is = is; more = says.0; gave = says.1 tells; says = says.2; told = c.next_packet.ensures.end tells }

-- the pulls that it made
asked : (g : Over) (c : After-next_packet g)
    → (lefts : List (List ℕ)) × g.M.Machine.asked c.args.machine.now (pulls_beside (g.M.Sink.sink c.args.machine.now).shown lefts) c.next_packet.new.source
    × (g.M.Source.source_tells → All (IsAwaited c.args.reader.now.bytes (g.M.Source.source c.args.machine.now).left) lefts)
asked g c =
    let made = c.next_packet.ensures.awaited in
    (made.0, g.met.M.Machine.asked_laws.by c.args.machine.now c.next_packet.new.source made.0 made.1, made.2)

pub returns-in-Ok-Some-clause-gives : goal.returns-in-Ok-Some-clause-gives
returns-in-Ok-Some-clause-gives g c = given g (goal.at.returns-in-Ok-Some-clause-gives g c).After-next_packet (Ok c.in-Ok-Some.packet) (ap next_by (sym (c.in-Ok-Some.is ∙ ap Ok c.in-Ok-Some.field-0-is)))

pub returns-in-Ok-None-clause-gives : goal.returns-in-Ok-None-clause-gives
returns-in-Ok-None-clause-gives g c = given g (goal.at.returns-in-Ok-None-clause-gives g c).After-next_packet (Err Done) (ap next_by (sym (c.in-Ok-None.is ∙ ap Ok c.in-Ok-None.field-0-is)))

pub returns-in-Err-clause-gives : goal.returns-in-Err-clause-gives
returns-in-Err-clause-gives g c = given g (goal.at.returns-in-Err-clause-gives g c).After-next_packet _ (ap Err c.ended_by.ensures.value ∙ ap next_by (sym c.in-Err.is))

pub returns-in-Ok-Some-clause-asked : goal.returns-in-Ok-Some-clause-asked
returns-in-Ok-Some-clause-asked g c = asked g (goal.at.returns-in-Ok-Some-clause-asked g c).After-next_packet

pub returns-in-Ok-None-clause-asked : goal.returns-in-Ok-None-clause-asked
returns-in-Ok-None-clause-asked g c = asked g (goal.at.returns-in-Ok-None-clause-asked g c).After-next_packet

pub returns-in-Err-clause-asked : goal.returns-in-Err-clause-asked
returns-in-Err-clause-asked g c = asked g (goal.at.returns-in-Err-clause-asked g c).After-next_packet
