use Rattle.std.proofs.Common.{◌∙◌}
use Rattle.journal_packets.specs.Packets.{framed}
use Rattle.run_taking.proofs.PacketLemmas.{as_many, came_behind, conflict_by, gap_by, had_by, read_on, unread_by}
use Rattle.run_taking.proofs.packet.answer.Goals as goal

pub returns-in-Err-clause-came : goal.returns-in-Err-clause-came
returns-in-Err-clause-came g c = λ disk_tells s following.
    record { came = unread_by s c.args.packet.now.at (framed c.args.packet.now) c.in-Err.end (g.D.Disk.disk c.args.disk.now) (g.D.Disk.disk c.case_of.new.disk) c.args.archive.now c.args.bodies.now c.case_of.new.bodies c.args.page.now.bytes following c.case_of.ensures.same c.in-Err.ensures.ended }

pub returns-in-Had-clause-came : goal.returns-in-Had-clause-came
returns-in-Had-clause-came g c = λ disk_tells s following.
    let case = c.in-Ok.ensures.case disk_tells s.history following.bodies in
    record {
      came = had_by s c.args.packet.now.at (framed c.args.packet.now) (g.D.Disk.disk c.args.disk.now) (g.D.Disk.disk c.case_of.new.disk) c.args.archive.now c.args.bodies.now c.case_of.new.bodies c.numbered.new.self.bytes following c.case_of.ensures.same (c.case_of.ensures.unread disk_tells) case.1
          (rw c.in-Had.is at case.0) c.numbered.ensures;
    }

pub returns-in-Next-clause-came : goal.returns-in-Next-clause-came
returns-in-Next-clause-came g c = λ disk_tells s following.
    let case = c.in-Ok.ensures.case disk_tells s.history following.bodies in
    let old = g.D.Disk.disk c.args.disk.now in
    let mid = g.D.Disk.disk c.case_of.new.disk in
    let now = read_on s old mid c.args.archive.now c.args.bodies.now c.case_of.new.bodies following c.case_of.ensures.same (c.case_of.ensures.unread disk_tells) case.1 in
    record {
      came = came_behind s c.args.packet.now.at (framed c.args.packet.now) c.take_next.result old mid (g.D.Disk.disk c.take_next.new.disk) c.args.archive.now c.take_next.new.archive c.args.bodies.now c.take_next.new.bodies c.numbered-in-Next.new.self.bytes following c.case_of.ensures.same
          (rw (← c.numbered-in-Next.ensures) at (c.take_next.ensures.came disk_tells s now (rw c.in-Next.is at case.0)).came);
    }

pub returns-in-Gap-clause-came : goal.returns-in-Gap-clause-came
returns-in-Gap-clause-came g c = λ disk_tells s following.
    let case = c.in-Ok.ensures.case disk_tells s.history following.bodies in
    record {
      came = gap_by s c.args.packet.now.at (framed c.args.packet.now) c.count.result (g.D.Disk.disk c.args.disk.now) (g.D.Disk.disk c.case_of.new.disk) c.args.archive.now c.args.bodies.now c.case_of.new.bodies c.args.page.now.bytes following c.case_of.ensures.same (c.count.ensures ∙ as_many _ s.history _ case.1)
          (rw c.in-Gap.is at case.0);
    }

pub returns-in-Conflict-clause-came : goal.returns-in-Conflict-clause-came
returns-in-Conflict-clause-came g c = λ disk_tells s following.
    let case = c.in-Ok.ensures.case disk_tells s.history following.bodies in
    record {
      came = conflict_by s c.args.packet.now.at (framed c.args.packet.now) c.in-Conflict.place c.in-Conflict.kept c.in-Conflict.got (g.D.Disk.disk c.args.disk.now) (g.D.Disk.disk c.case_of.new.disk) c.args.archive.now c.args.bodies.now c.case_of.new.bodies c.args.page.now.bytes following c.case_of.ensures.same
          (rw c.in-Conflict.is at case.0);
    }
