use Rattle.std.proofs.Common.{refl, ap}
use Rattle.base_types.proofs.Equal.{same_fraction}
use Rattle.base_commands.specs.declared.command.Command.TheVariants.{Plan}
use Rattle.base_commands.specs.declared.command.Kind.TheVariants.{Guarantee}
use Rattle.base_sample.specs.Samples.{word}
use Rattle.base_sample.proofs.writing.plan.Goals as goal

pub returns : goal.returns
returns c = rw c.in_ok-word.ensures (ap (λ f. Plan (word c.args.number) Guarantee f) (same_fraction _ _ refl refl))
