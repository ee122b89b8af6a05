use Rattle.std.proofs.Common.{true, ◌≡◌, length, ◌∙◌, arith, refl}
use Rattle.std.proofs.lemmas.Result.{err_from_is_err_and}
use Rattle.run_follow.proofs.ExportLemmas.{as_many, not_ok, showing_more, shows_all, shows_part}
use Rattle.run_follow.proofs.exporting.show_from.Goals as goal

pub returns-in_err-show_packet-clause-shows : goal.returns-in_err-show_packet-clause-shows
returns-in_err-show_packet-clause-shows g c = λ sink_tells disk_tells all are short.
    let inv = c.loop-place.invariant in
    let old = c.args.machine.now in
    let mid = c.loop-place.machine in
    let new = c.show_packet.new.machine in
    let p = err_from_is_err_and c.from_residual.result c.from_residual.ensures.1 in
    shows_part all c.args.from c.loop-place.place (g.M.Sink.sink old) (g.M.Sink.sink mid) (g.M.Sink.sink new) (g.M.Disk.disk old) (g.M.Disk.disk mid) (g.M.Disk.disk new) (omega (arith, c.loop-place.auto.place))
    (inv.showing sink_tells disk_tells all are short) _ _ (not_ok c.from_residual.result p.0 p.1) (c.show_packet.ensures.shows sink_tells disk_tells all (inv.are disk_tells all are) short)

pub loop-place-preserved : goal.loop-place-preserved
loop-place-preserved g c =
    let inv = c.loop-place.invariant in
    let one = c.in_ok-show_packet.ensures in
    let old = c.args.machine.now in
    let mid = c.loop-place.machine in
    let new = c.show_packet.new.machine in
    record {
      source = one.source ∙ inv.source;
      holds = one.holds ∙ inv.holds;
      later = omega (arith, inv.later, one.later);
      sink_later = omega (arith, inv.sink_later, one.sink_later);
      heads = one.heads ∙ inv.heads;
      reached = one.reaches;
      are = λ disk_tells all are. one.are disk_tells all (inv.are disk_tells all are);
      showing = λ sink_tells disk_tells all are short.
          showing_more all c.args.from c.loop-place.place (g.M.Sink.sink old) (g.M.Sink.sink mid) (g.M.Sink.sink new) (g.M.Disk.disk old) (g.M.Disk.disk mid) (g.M.Disk.disk new) (omega (arith, c.loop-place.auto.place))
          (inv.showing sink_tells disk_tells all are short) (true ≡ true) (refl {a = true}) (one.shows sink_tells disk_tells all (inv.are disk_tells all are) short);
    }

pub returns-clause-shows : goal.returns-clause-shows
returns-clause-shows g c = λ sink_tells disk_tells all are short.
    let inv = c.loop-place.invariant in
    let old = c.args.machine.now in
    let new = c.loop-place.machine in
    let many : length c.args.bodies.now.heads ≡ length all = as_many (g.M.Disk.disk old).holds.journal all c.args.bodies.now are in
    shows_all all c.args.from c.loop-place.place _ (g.M.Sink.sink old) (g.M.Sink.sink new) (g.M.Disk.disk old) (g.M.Disk.disk new) (omega (arith, many, c.count-place-end.ensures, c.loop-place-test.false))
    (inv.showing sink_tells disk_tells all are short)
