use Rattle.std.proofs.Common.{◌∙◌, ◌^◌, ◌↔◌, ℕ, List, IsTrue, subst, sym, arith, rules}
use Rattle.std.specs.Vec.{vec_len}
use Rattle.base_types.specs.declared.posting.Posting.{Posting}
use Rattle.base_types.specs.declared.time.Time.{Time}
use Rattle.lists_postings.specs.ListsOf.{IsListOf}
use Rattle.plans_kinds.specs.Plans.{IsFitFor}
use Rattle.model_archive.specs.Histories.{changes}
use Rattle.model_archive.specs.Answers.{frequency_at}
use Rattle.archive_entries.proofs.IndexLemmas.{word_list}
use Rattle.archive_entries.proofs.ListLemmas.{none_left}
use Rattle.archive_entries.proofs.SettleLemmas.{none_fit, some_fit}
use Rattle.archive_entries.proofs.replaying.fits.Goals as goal

pub returns-then-is_empty-clause-fits : goal.returns-then-is_empty-clause-fits
returns-then-is_empty-clause-fits c = λ h indexes.
    let word = c.args.stored.now.plan.word in
    let f = λ (d t : ℕ). frequency_at h word (record { 0 = d }) t in
    let here = subst (λ (l : List Posting). IsListOf f 0 (2 ^ 40) l) (sym c.deref.ensures.value) (word_list h word c.in_ok-whole.whole.items (c.in_ok-whole.ensures.list (changes h) indexes)) in (
      (λ holds. cc),
      (λ fit. absurd (none_fit h c.args.stored.now c.in_ok-list.list.items (c.in_ok-list.ensures.list f here) (omega (arith, none_left (vec_len c.in_ok-list.list) (sym c.is_empty.ensures ∙ c.if-is_empty.true))) fit)),
    )

pub returns-clause-fits : goal.returns-clause-fits
returns-clause-fits c = λ h indexes.
    let word = c.args.stored.now.plan.word in
    let f = λ (d t : ℕ). frequency_at h word (record { 0 = d }) t in
    let b = c.in_ok-fit.fit in
    let plan = c.args.stored.now.plan in
    let here = subst (λ (l : List Posting). IsListOf f 0 (2 ^ 40) l) (sym c.deref.ensures.value) (word_list h word c.in_ok-whole.whole.items (c.in_ok-whole.ensures.list (changes h) indexes)) in
    let T : List Posting → Type 0 = λ l. IsTrue b ↔ IsFitFor plan.kind l plan.fraction c.as_slice.result.now plan.horizon.seconds in
    let U : List Time → Type 0 = λ l. IsTrue b ↔ IsFitFor plan.kind c.in_ok-list.list.items plan.fraction l plan.horizon.seconds in
    some_fit h c.args.stored.now c.in_ok-list.list.items b (c.in_ok-list.ensures.list f here) (search rules) (subst U c.as_slice.ensures (subst T c.deref-3.ensures.value c.in_ok-fit.ensures))
