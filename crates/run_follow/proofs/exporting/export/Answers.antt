use Rattle.std.proofs.Common.{◌≡◌}
use Rattle.model_archive.specs.Stands.{bodies_of}
use Rattle.run_follow.proofs.BesideLemmas.{reads_hold}
use Rattle.run_follow.proofs.ExportLemmas.{all_short, are_still, shows_behind}
use Rattle.run_follow.proofs.exporting.export.Goals as goal

pub returns-clause-fair : goal.returns-clause-fair
returns-clause-fair g c = λ disk_tells h of at is.
    let d = g.M.Disk.disk in
    let old = c.args.machine.now in
    let mid = c.of.new.disk in
    let same : (d mid).holds ≡ (d old).holds = reads_hold (d old) (d mid) c.of.ensures.same in
    c.show_from.ensures.fair disk_tells (bodies_of h) (are_still (d old).holds (d mid).holds (bodies_of h) c.in_ok-bodies.bodies same (c.in_ok-bodies.ensures.found disk_tells (bodies_of h) of.spelled of.ends))
    (all_short c.what_runs_make_can_be_followed.ensures.room _ h of.loadable) at is

pub returns-clause-shows : goal.returns-clause-shows
returns-clause-shows g c = λ sink_tells disk_tells h of.
    let m = g.met.M.Machine in
    let d = g.M.Disk.disk in
    let old = c.args.machine.now in
    let mid = c.of.new.disk in
    let same : (d mid).holds ≡ (d old).holds = reads_hold (d old) (d mid) c.of.ensures.same in
    shows_behind (bodies_of h) c.args.from _ (g.M.Sink.sink old) (g.M.Sink.sink mid) (g.M.Sink.sink c.show_from.new.machine) (d old) (d mid) (d c.show_from.new.machine) c.of.ensures.same
    (m.beside_shown old sink_tells disk_tells) (m.disk_alone old mid c.of.ensures.only).1
    (c.show_from.ensures.shows sink_tells disk_tells (bodies_of h) (are_still (d old).holds (d mid).holds (bodies_of h) c.in_ok-bodies.bodies same (c.in_ok-bodies.ensures.found disk_tells (bodies_of h) of.spelled of.ends))
    (all_short c.what_runs_make_can_be_followed.ensures.room _ h of.loadable))
