use Rattle.std.proofs.Common.{◌^◌, ℕ, List, sym, subst}
use Rattle.std.proofs.lemmas.Result.{IfOk-weaker}
use Rattle.base_types.specs.declared.posting.Posting.{Posting}
use Rattle.lists_postings.specs.Lists.{IsList}
use Rattle.lists_postings.specs.ListsOf.{IsListOf}
use Rattle.lists_versions.specs.declared.change.Change.{Change}
use Rattle.lists_index.specs.Words.{frequency_in}
use Rattle.lists_index.specs.Indexes.{state_of, Indexes}
use Rattle.archive_check.specs.Verdicts.{IsPlanned}
use Rattle.archive_check.proofs.verifying.list_of.Goals as goal

pub returns-clause-planned : goal.returns-clause-planned
returns-clause-planned c =
    let plan = c.args.plan.now in
    IfOk-weaker c.list_up_to.result (λ v. (f : ℕ → ℕ → ℕ) → IsListOf f 0 (2 ^ 40) c.deref.result.now → IsListOf f 0 plan.horizon.seconds v.items)
    (λ v. (texts : List (Change (List ℕ))) → Indexes (state_of c.args.index.now) texts → IsPlanned texts plan v.items)
    (λ v up texts indexes. up (frequency_in texts plan.word)
    (subst (λ (l : List Posting). IsListOf (frequency_in texts plan.word) 0 (2 ^ 40) l) (sym c.deref.ensures.value) (c.in_ok-whole.ensures.list texts indexes))) c.list_up_to.ensures.list

pub returns-clause-ordered : goal.returns-clause-ordered
returns-clause-ordered c =
    let plan = c.args.plan.now in
    let (texts, indexes) = c.requires.texts in
    IfOk-weaker c.list_up_to.result (λ v. (texts : List (Change (List ℕ))) → Indexes (state_of c.args.index.now) texts → IsPlanned texts plan v.items) (λ v. IsList v.items)
    (λ v planned. (planned texts indexes).ordered) (returns-clause-planned c)
