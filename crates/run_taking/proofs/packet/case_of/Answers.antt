use Rattle.std.proofs.Common.{◌∙◌}
use Rattle.journal_packets.specs.Packets.{framed}
use Rattle.run_taking.proofs.PacketLemmas.{as_many, new_case}
use Rattle.run_taking.proofs.packet.case_of.Goals as goal

pub returns-then-have-packet-clause-case : goal.returns-then-have-packet-clause-case
returns-then-have-packet-clause-case g c = λ disk_tells h are.
    (new_case h (framed c.args.packet.now) c.count-have.result c.sort_out.result (c.count-have.ensures ∙ as_many _ h _ are) c.sort_out.ensures, are)
