use Rattle.std.proofs.Common.{◌+◌, ◌∙◌, ◌++◌, ◌∷◌, [], List, length, take, Option, Err, ap, append-nil, sym, subst, refl, arith, rules}
use Rattle.std.proofs.lemmas.List.{drop_all, take_all}
use Rattle.std.specs.List.{flat_map}
use Rattle.lists_index.specs.Indexes.{IndexState, Indexes}
use Rattle.journal_entries.specs.declared.act.Act.{Act}
use Rattle.model_archive.specs.Histories.{History, changes, singles}
use Rattle.lists_versions.specs.Tests.{first_of}
use Rattle.base_commands.specs.declared.batch.BatchItem.{BatchItem}
use Rattle.journal_entries.specs.declared.entry.Entry.TheVariants.{Batch}
use Rattle.model_archive.specs.Steps.{Cause, act_of, for_all, full_journal, items_cause}
use Rattle.archive_entries.specs.Batches.{AreAllowed, AreGathered}
use Rattle.archive_entries.proofs.BatchingLemmas.{cause_of_items, acts_of_more, batch_prepared, body_fits, items_step, items_stop}
use Rattle.archive_entries.proofs.batching.prepare_batch.Goals as goal

pub loop-item-init : goal.loop-item-init
loop-item-init c = record {
  number = refl;
  same = refl;
  gathered = c.in_ok-batch.ensures.gathered c.args.directory.now.changes c.args.end;
  allowed = λ h of. (c.in_ok-batch.ensures.allowed h, ap (λ (g : History). items_cause g 1 c.args.items.now) (sym (append-nil h)));
}

pub returns-in-Err-Refused-clause-prepared : goal.returns-in-Err-Refused-clause-prepared
returns-in-Err-Refused-clause-prepared c = λ h placed indexed marked end.
    let items = c.args.items.now in
    let i = c.loop-item.item-index in
    let item = c.item-item.result in
    let so_far = c.loop-item.invariant in
    let was = so_far.allowed h (record { placed = placed; indexed = indexed; end_is = end }) in
    let now = subst (λ (x : IndexState). Indexes x (changes h)) (sym so_far.same) indexed in
    let refused = c.in-Err-Refused.ensures.refused c.in-Err-Refused.why (ap Err c.in-Err-Refused.field-0-is) h (length items) (flat_map act_of (take i items)) (record { placed = placed; indexed = now; end_is = end }) so_far.gathered was.0 in
    let stop = was.1 ∙ items_stop h items i item c.in-Err-Refused.why (search rules) (search rules) refused in
    cause_of_items h items (sym marked ∙ c.if-not-marked.false) c.requires.short (search rules) ∙ ap (λ (o : Option Cause). first_of (o ∷ for_all (full_journal h (Batch (flat_map act_of items))) ∷ [])) stop ∙ (let why = c.in-Err-Refused.why-is in let number = so_far.number in cc)

pub loop-item-preserved : goal.loop-item-preserved
loop-item-preserved c =
    let so_far = c.loop-item.invariant in
    let items = c.args.items.now in
    let i = c.loop-item.item-index in
    let item = c.item-item.result in
    let more = acts_of_more items i item (search rules) (search rules) in
    record {
      number = omega (arith, so_far.number);
      same = c.in-Ok.ensures.same ∙ so_far.same;
      gathered = subst (λ (b : List Act). AreGathered c.args.directory.now.changes c.args.end (length items) b c.add.new.self) (sym more) (c.in-Ok.ensures.gathered _ _ so_far.gathered);
      allowed = λ h of.
          let was = so_far.allowed h of in
          let next = c.in-Ok.ensures.allowed h _ _ (record { placed = of.placed; indexed = subst (λ (x : IndexState). Indexes x (changes h)) (sym so_far.same) of.indexed; end_is = of.end_is }) so_far.gathered was.0 in
          (subst (λ (b : List Act). AreAllowed h b c.add.new.self) (sym more) next.0, was.1 ∙ items_step h items i item (search rules) (search rules) next.1);
    }

pub returns-clause-fits : goal.returns-clause-fits
returns-clause-fits c =
    let items = c.args.items.now in
    body_fits items (length items) c.loop-item.batch.body.items c.requires.sized.1 c.requires.short (search rules)
    (subst (λ (l : List BatchItem). AreGathered c.args.directory.now.changes c.args.end (length items) (flat_map act_of l) c.loop-item.batch) (take_all c.loop-item.item-index items c.loop-item-test.false) c.loop-item.invariant.gathered).spelled

pub returns-clause-prepared : goal.returns-clause-prepared
returns-clause-prepared c = λ h placed indexed marked end.
    let items = c.args.items.now in
    let so_far = c.loop-item.invariant in
    let all = take_all c.loop-item.item-index items c.loop-item-test.false in
    let was = so_far.allowed h (record { placed = placed; indexed = indexed; end_is = end }) in
    batch_prepared h c.args.directory.now.changes c.args.end (length items) items c.loop-item.batch c.requires.sized.0 c.requires.sized.1 c.requires.short (sym marked ∙ c.if-not-marked.false) end refl (search rules)
    (subst (λ (l : List BatchItem). AreGathered c.args.directory.now.changes c.args.end (length items) (flat_map act_of l) c.loop-item.batch) all so_far.gathered)
    (subst (λ (l : List BatchItem). AreAllowed h (flat_map act_of l) c.loop-item.batch) all was.0)
    (was.1 ∙ ap (items_cause (h ++ singles (flat_map act_of (take c.loop-item.item-index items))) (c.loop-item.item-index + 1)) (drop_all c.loop-item.item-index items c.loop-item-test.false))
    (record { changes = c.in_ok-changes.changes; words = c.loop-item.batch.ready; body = c.loop-item.batch.body }) (c.in_ok-changes.ensures.items ∙ c.as_slice.ensures) refl refl
