use Rattle.std.proofs.Common.{◌∙◌, arith, refl}
use Rattle.machine_model.specs.declared.area.Area.TheVariants.{Journal}
use Rattle.journal_gates.specs.Header.{header}
use Rattle.journal_gates.proofs.PagesLemmas.{pages_written}
use Rattle.journal_gates.proofs.LoadLemmas.{begun, begun_in_step}
use Rattle.journal_gates.proofs.load.begin.Goals as goal

pub returns-in_err-write_through-clause-pages : goal.returns-in_err-write_through-clause-pages
returns-in_err-write_through-clause-pages g c = λ tells. pages_written (c.write_through.ensures.images tells)

pub returns-clause-pages : goal.returns-clause-pages
returns-clause-pages g c = λ tells. pages_written (c.write_through.ensures.images tells)

pub returns-in_err-write_through-clause-crash : goal.returns-in_err-write_through-clause-crash
returns-in_err-write_through-clause-crash g c = λ tells. begun _ _ (omega (arith, g.met.D.Disk.reach_holds c.args.disk.now Journal tells)) (c.requires.one tells) (c.write_through.ensures.images tells)

pub returns-clause-crash : goal.returns-clause-crash
returns-clause-crash g c = λ tells. begun _ _ (omega (arith, g.met.D.Disk.reach_holds c.args.disk.now Journal tells)) (c.requires.one tells) (c.write_through.ensures.images tells)

pub returns-clause-in_step : goal.returns-clause-in_step
unfolding header
returns-clause-in_step g c = λ tells. begun_in_step _ _ _ _ _ refl (c.in_ok-write_through.ensures.stays tells) (c.made_live.ensures.end ∙ c.at.ensures.end) c.new.ensures.items
