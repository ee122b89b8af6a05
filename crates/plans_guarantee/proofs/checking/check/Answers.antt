use Rattle.std.proofs.Common.{subst, ◌↔◌, List, ℕ, IfOk}
use Rattle.std.specs.Prelude.{IsTrue}
use Rattle.std.proofs.lemmas.Result.{IfOk-weaker}
use Rattle.base_types.specs.declared.posting.Posting.{Posting}
use Rattle.plans_partitions.specs.Counts.{Tabulates}
use Rattle.plans_guarantee.specs.Certificates.{CertifiesCuts}
use Rattle.plans_guarantee.proofs.Proved.{least_cuts}
use Rattle.plans_guarantee.proofs.checking.check.Goals as goal

pub returns-clause-exact : goal.returns-clause-exact
returns-clause-exact c =
    subst (λ (l : List ℕ). IfOk c.numbers_certify.result (λ b. (list : List Posting) (horizon : ℕ) → Tabulates list horizon c.args.table.now → IsTrue b ↔ CertifiesCuts list c.args.factor c.args.table.now.boundaries l c.args.partition.now horizon)) c.pi.ensures c.numbers_certify.ensures

pub returns-clause-least : goal.returns-clause-least
returns-clause-least c =
    IfOk-weaker c.numbers_certify.result (λ b. (list : List Posting) (horizon : ℕ) → Tabulates list horizon c.args.table.now → IsTrue b ↔ CertifiesCuts list c.args.factor c.args.table.now.boundaries c.pi.result.now c.args.partition.now horizon) _
    (λ b h list horizon t e. least_cuts list c.args.factor c.args.table.now.boundaries c.pi.result.now c.args.partition.now horizon ((h list horizon t).0 e)) c.numbers_certify.ensures
