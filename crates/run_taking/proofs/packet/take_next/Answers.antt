use Rattle.std.proofs.Common.{◌≡◌, ◌+◌, length, Err, inl, ap, sym, ◌∙◌}
use Rattle.journal_gates.specs.Records.{front}
use Rattle.journal_packets.specs.Packets.{framed}
use Rattle.model_archive.specs.Stands.{bodies_of}
use Rattle.archive_hand.proofs.ByReadsLemmas.{keeps_nowhere}
use Rattle.archive_follow.specs.declared.error.TakeEntryError.TheVariants.{Failed, NotNext}
use Rattle.model_follow.specs.Following.{Took, note_text}
use Rattle.run_taking.proofs.PacketLemmas.{is_idle, took_by, untaken_by}
use Rattle.run_taking.proofs.packet.take_next.Goals as goal

pub returns-then-is_err-clause-came : goal.returns-then-is_err-clause-came
returns-then-is_err-clause-came g c = λ disk_tells s following counted. record { came = (keeps_nowhere (g.D.Disk.disk c.args.disk.now) c.args.archive.now s following.in_step, tt) }

pub returns-in-Ok-clause-came : goal.returns-in-Ok-clause-came
returns-in-Ok-clause-came g c = λ disk_tells s following counted.
    let d = g.D.Disk.disk c.args.disk.now in
    let last = c.take_entry.new.disk in
    let room = c.make_room.ensures in
    let bytes = c.as_slice.ensures.value in
    let bodies = bodies_of s.history in
    let ends : c.make_room.new.self.window.end ≡ length (front bodies) + 1 = ap (λ w. w.end) room.window ∙ c.requires.ready.ends ∙ following.in_step.journal.end_is in
    record {
      came = took_by s c.args.packet.now.at (framed c.args.packet.now) c.in-Ok.field-0 d (g.D.Disk.disk last) c.args.archive.now c.take_entry.new.archive c.args.bodies.now c.add.new.self (g.met.D.Disk.holds_allowed last disk_tells) following counted
          (rw bytes at (c.in-Ok.ensures.takes s.history following.in_step.stands (is_idle d c.args.archive.now c.args.bodies.now s following)))
          (rw bytes at (c.in-Ok.ensures.by_reads disk_tells s following.in_step following.idle))
          (c.add.ensures.more bodies c.args.packet.now.body.items (ap length (sym bytes) ∙ c.as_slice.ensures.len ∙ sym c.len.ensures) (room.heads ∙ following.bodies.heads_are) ends) c.add.ensures.view;
    }

pub returns-in-Err-NotNext-clause-came : goal.returns-in-Err-NotNext-clause-came
returns-in-Err-NotNext-clause-came g c = λ disk_tells s following counted.
    let d = g.D.Disk.disk c.args.disk.now in
    let a = c.args.archive.now in
    record {
      came = untaken_by s c.args.packet.now.at (framed c.args.packet.now) NotNext c.in-Err-NotNext.field-0 _ d (g.D.Disk.disk c.take_entry.new.disk) a c.take_entry.new.archive c.args.bodies.now c.make_room.new.self (note_text (Took c.args.packet.now.number)) following counted
          c.in-Err-NotNext.field-0-is c.as_slice.ensures.value
          (c.in-Err-NotNext.ensures.takes s.history following.in_step.stands (is_idle d a c.args.bodies.now s following)) (c.in-Err-NotNext.ensures.by_reads disk_tells s following.in_step following.idle)
          (λ is. ap g.D.Disk.disk (c.in-Err-NotNext.ensures.after.same (inl (ap Err c.in-Err-NotNext.field-0-is))));
    }

pub returns-in-Err-Failed-clause-came : goal.returns-in-Err-Failed-clause-came
returns-in-Err-Failed-clause-came g c = λ disk_tells s following counted.
    let d = g.D.Disk.disk c.args.disk.now in
    let a = c.args.archive.now in
    record {
      came = untaken_by s c.args.packet.now.at (framed c.args.packet.now) Failed c.in-Err-Failed.field-0 _ d (g.D.Disk.disk c.take_entry.new.disk) a c.take_entry.new.archive c.args.bodies.now c.make_room.new.self (note_text (Took c.args.packet.now.number)) following counted
          c.in-Err-Failed.field-0-is c.as_slice.ensures.value
          (c.in-Err-Failed.ensures.takes s.history following.in_step.stands (is_idle d a c.args.bodies.now s following)) (c.in-Err-Failed.ensures.by_reads disk_tells s following.in_step following.idle)
          (λ is. cc);
    }
