-- Runs of items join.
use Rattle.std.specs.Prelude.{ℕ, Bool, List, ◌++◌, None}
use Rattle.std.proofs.Common.{ap, ◌∙◌}
use Rattle.base_commands.specs.declared.command.Item.{Item}
use Rattle.script_read.specs.Reading.{MayFollow}
use Rattle.script_read.proofs.Joins as parted
use Rattle.script_read.proofs.RunLemmas as run
use Rattle.script_items.specs.Groups.{Made, makes, with_items}
use Rattle.script_items.specs.Items.{Items}
use Rattle.script_items.proofs.GroupLemmas.{joined}

pub items-join : (e : Bool) (bytes mid rest : List ℕ) (xs ys : List Item) → Items e bytes xs mid → Items e mid ys rest → Items e bytes (xs ++ ys) rest
items-join e bytes mid rest xs ys a b = record {
  parts = a.parts ++ b.parts;
  in_turn = parted.items-join e bytes mid rest a.parts b.parts a.in_turn b.in_turn;
  are = joined None a.parts b.parts ∙ ap (λ (m : Made). with_items m.items (makes m.begun b.parts)) a.are ∙ ap (with_items xs) b.are;
}

-- the items of bytes stay so whatever may follow
pub stay : (e ended : Bool) (bytes x rest : List ℕ) (items : List Item) → MayFollow e ended x → Items e bytes items rest → Items ended (bytes ++ x) items (rest ++ x)
stay e ended bytes x rest items ok i = record { parts = i.parts; in_turn = run.stay e ended bytes x rest i.parts ok i.in_turn; are = i.are }
