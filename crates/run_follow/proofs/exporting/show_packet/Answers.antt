use Rattle.std.proofs.Common.{◌≤◌, ◌-◌, length, ◌∙◌, arith}
use Rattle.std.proofs.lemmas.Bool.{false≢true}
use Rattle.std.proofs.lemmas.Result.{err_from_is_err_and}
use Rattle.journal_packets.specs.Packets.{most_body}
use Rattle.run_follow.proofs.BesideLemmas.{same_holds}
use Rattle.run_follow.proofs.ExportLemmas.{are_still, body_of, lies_is, not_ok, packet_by, packet_unshown, short_at}
use Rattle.run_follow.proofs.exporting.show_packet.Goals as goal

pub returns-in_err-head-clause-shows : goal.returns-in_err-head-clause-shows
returns-in_err-head-clause-shows g c = λ sink_tells disk_tells all are short.
    let m = g.met.M.Machine in
    let old = c.args.machine.now in
    let mid = c.find.new.disk in
    let there = body_of (g.M.Disk.disk old).holds.journal all c.args.bodies.now c.args.number are c.requires.some c.requires.within in
    let p = err_from_is_err_and c.from_residual.result c.from_residual.ensures.1 in
    packet_unshown all c.args.number _ there.0 (g.M.Sink.sink old) (g.M.Sink.sink mid) (g.M.Disk.disk old) (g.M.Disk.disk mid) there.1 c.find.ensures.same (m.beside_shown old sink_tells disk_tells)
    (m.disk_alone old mid c.find.ensures.only).1 (not_ok c.from_residual.result p.0 p.1)

pub returns-then-body-gt-MOST_BODY_BYTES-clause-fair : goal.returns-then-body-gt-MOST_BODY_BYTES-clause-fair
returns-then-body-gt-MOST_BODY_BYTES-clause-fair g c = λ disk_tells all are short at is.
    let journal = (g.M.Disk.disk c.args.machine.now).holds.journal in
    let found = c.in_ok-head.ensures.body disk_tells all are in
    let long : length c.body-body.result.now ≤ most_body =
    short_at all (c.args.number - 1) c.body-body.result.now short
    (lies_is journal all c.args.number c.in_ok-head.head c.body-body.result.now found.0 (c.body-body.ensures.lies journal found.1.view)) in
    omega (arith, c.if-body-gt-MOST_BODY_BYTES.true, long)

pub returns-then-body-gt-MOST_BODY_BYTES-clause-shows : goal.returns-then-body-gt-MOST_BODY_BYTES-clause-shows
returns-then-body-gt-MOST_BODY_BYTES-clause-shows g c = λ sink_tells disk_tells all are short.
    let m = g.met.M.Machine in
    let old = c.args.machine.now in
    let mid = c.find.new.disk in
    let there = body_of (g.M.Disk.disk old).holds.journal all c.args.bodies.now c.args.number are c.requires.some c.requires.within in
    packet_unshown all c.args.number _ there.0 (g.M.Sink.sink old) (g.M.Sink.sink mid) (g.M.Disk.disk old) (g.M.Disk.disk mid) there.1 c.find.ensures.same (m.beside_shown old sink_tells disk_tells)
    (m.disk_alone old mid c.find.ensures.only).1 (λ well. false≢true well)

pub returns-in_err-bytes-clause-shows : goal.returns-in_err-bytes-clause-shows
returns-in_err-bytes-clause-shows g c = λ sink_tells disk_tells all are short.
    let m = g.met.M.Machine in
    let old = c.args.machine.now in
    let mid = c.find.new.disk in
    let there = body_of (g.M.Disk.disk old).holds.journal all c.args.bodies.now c.args.number are c.requires.some c.requires.within in
    let p = err_from_is_err_and c.from_residual-in_err-bytes.result c.from_residual-in_err-bytes.ensures.1 in
    packet_unshown all c.args.number _ there.0 (g.M.Sink.sink old) (g.M.Sink.sink mid) (g.M.Disk.disk old) (g.M.Disk.disk mid) there.1 c.find.ensures.same (m.beside_shown old sink_tells disk_tells)
    (m.disk_alone old mid c.find.ensures.only).1 (not_ok c.from_residual-in_err-bytes.result p.0 p.1)

pub returns-in-Ok-clause-are : goal.returns-in-Ok-clause-are
returns-in-Ok-clause-are g c = λ disk_tells all are.
    let d = g.M.Disk.disk in
    let old = c.args.machine.now in
    let mid = c.find.new.disk in
    let new = c.show.new.sink in
    are_still (d old).holds (d new).holds all c.find.new.self (same_holds (d old) (d mid) (d new) c.find.ensures.same (g.met.M.Machine.sink_alone mid new c.show.ensures.only).1) (c.in_ok-head.ensures.body disk_tells all are).1

pub returns-in-Ok-clause-shows : goal.returns-in-Ok-clause-shows
returns-in-Ok-clause-shows g c = λ sink_tells disk_tells all are short.
    let m = g.met.M.Machine in
    let old = c.args.machine.now in
    let mid = c.find.new.disk in
    let new = c.show.new.sink in
    let journal = (g.M.Disk.disk old).holds.journal in
    let found = c.in_ok-head.ensures.body disk_tells all are in
    packet_by all c.args.number _ c.body-body.result.now c.deref.result.now (g.M.Sink.sink old) (g.M.Sink.sink mid) (g.M.Sink.sink new) (g.M.Disk.disk old) (g.M.Disk.disk mid) (g.M.Disk.disk new)
    (lies_is journal all c.args.number c.in_ok-head.head c.body-body.result.now found.0 (c.body-body.ensures.lies journal found.1.view)) c.find.ensures.same (m.beside_shown old sink_tells disk_tells)
    (m.disk_alone old mid c.find.ensures.only).1 (c.deref.ensures.value ∙ c.in_ok-bytes.ensures) (m.shows mid new sink_tells disk_tells c.show.ensures.only) (c.show.ensures.front sink_tells)
    (λ well. c.in-Ok.ensures.whole sink_tells)

pub returns-clause-shows : goal.returns-clause-shows
returns-clause-shows g c = λ sink_tells disk_tells all are short.
    let m = g.met.M.Machine in
    let old = c.args.machine.now in
    let mid = c.find.new.disk in
    let new = c.show.new.sink in
    let journal = (g.M.Disk.disk old).holds.journal in
    let found = c.in_ok-head.ensures.body disk_tells all are in
    packet_by all c.args.number _ c.body-body.result.now c.deref.result.now (g.M.Sink.sink old) (g.M.Sink.sink mid) (g.M.Sink.sink new) (g.M.Disk.disk old) (g.M.Disk.disk mid) (g.M.Disk.disk new)
    (lies_is journal all c.args.number c.in_ok-head.head c.body-body.result.now found.0 (c.body-body.ensures.lies journal found.1.view)) c.find.ensures.same (m.beside_shown old sink_tells disk_tells)
    (m.disk_alone old mid c.find.ensures.only).1 (c.deref.ensures.value ∙ c.in_ok-bytes.ensures) (m.shows mid new sink_tells disk_tells c.show.ensures.only) (c.show.ensures.front sink_tells)
    (λ well. absurd (false≢true well))
