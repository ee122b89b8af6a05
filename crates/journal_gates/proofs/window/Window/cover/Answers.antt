use Rattle.std.proofs.Common.{arith}
use Rattle.machine_model.specs.declared.area.Area.TheVariants.{Journal}
use Rattle.journal_gates.proofs.window.Window.cover.Goals as goal

pub overflow_add-behind : goal.overflow_add-behind
overflow_add-behind g c = omega (arith, c.requires.inside, c.requires.reached, c.from.ensures, g.met.D.Disk.reach_limit c.args.disk.now Journal)
