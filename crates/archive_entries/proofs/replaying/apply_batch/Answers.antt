use Rattle.std.proofs.Common.{◌≡◌, ◌∙◌, ℕ, ◌+◌, Bool, true, List, map, take, drop, sum_by, arith, rules, ap, subst, None, ◌++◌}
use Rattle.std.proofs.lemmas.Bool.{le-ltb}
use Rattle.std.proofs.lemmas.List.{take_all}
use Rattle.lists_versions.specs.Changes.{mapped}
use Rattle.lists_index.specs.Loads.{loaded}
use Rattle.journal_entries.specs.Acts.{act_length}
use Rattle.journal_entries.specs.declared.act.Act.{Act}
use Rattle.journal_entries.specs.declared.entry.Entry.TheVariants.{Batch}
use Rattle.model_archive.specs.Histories.{entry_refusal, singles}
use Rattle.archive_entries.specs.Places.{pair_of, placed_acts}
use Rattle.archive_entries.specs.Replaying.{AreMet, IsReached}
use Rattle.archive_entries.proofs.ActLemmas.{acts_front, acts_met, acts_more, acts_placed, acts_split, batch_length}
use Rattle.archive_entries.proofs.ReplayLemmas.{acts_ahead, bad_act, batch_over, faulty, long_texts, reached_met, unmarked_batch}
use Rattle.archive_entries.proofs.replaying.apply_batch.Goals.{then-not-met-via-then-not-met, then-not-met-via-else-not-met+then-texts_bytes-gt-MOST_BATCH_BYTES}
use Rattle.archive_entries.proofs.replaying.apply_batch.Goals as goal

pub returns-then-not-met-clause-bad : goal.returns-then-not-met-clause-bad
returns-then-not-met-clause-bad c = λ h reached loads at is.
    faulty c.args.head.now.gate h (Batch c.args.acts.now) at c.requires.ranges
    (λ may. elim c.then-not-met.branch [
      | then-not-met-via-then-not-met w ↦ unmarked_batch h c.args.acts.now c.args.met.now.marked reached.marked_is w.if-not-met.true may
      | then-not-met-via-else-not-met+then-texts_bytes-gt-MOST_BATCH_BYTES w ↦ long_texts h c.args.acts.now (omega (arith, w.if-texts_bytes-gt-MOST_BATCH_BYTES.true, w.texts_bytes.ensures)) may
    ])
    (search rules)

pub apply_act-requires-clause-within : goal.apply_act-requires-clause-within
apply_act-requires-clause-within c =
    omega (arith, c.loop-act.invariant.at_is, acts_front c.loop-act.act-index c.args.acts.now, batch_length c.args.acts.now, c.requires.long, c.requires.within)

pub returns-in_err-apply_act-clause-bad : goal.returns-in_err-apply_act-clause-bad
returns-in_err-apply_act-clause-bad c = λ h reached loads at is.
    let batch = c.args.acts.now in
    let i = c.loop-act.act-index in
    let act = c.act-item.result in
    let R : List Act → Type 0 = λ acts. entry_refusal h (Batch acts) ≡ None in
    let was = c.loop-act.invariant.met h (reached_met c.args.head.now.gate h c.args.met.now.directory.changes c.args.met.now.plans.items (loaded c.args.met.now.loader) reached loads) in
    let bad = c.apply_act.ensures.bad (h ++ singles (take i batch)) was at (search rules) in
    faulty c.args.head.now.gate h (Batch batch) at c.requires.ranges (λ may. bad_act h (take i batch) act (drop (i + 1) batch) bad.1 (subst R (acts_split batch i act (search rules) (search rules)) may)) bad.0

pub returns-in_err-apply_act-clause-left : goal.returns-in_err-apply_act-clause-left
returns-in_err-apply_act-clause-left c = λ h reached loads at is.
    let was = c.loop-act.invariant.met h (reached_met c.args.head.now.gate h c.args.met.now.directory.changes c.args.met.now.plans.items (loaded c.args.met.now.loader) reached loads) in (
      c.apply_act.ensures.others.0 ∙ c.loop-act.invariant.plans,
      acts_ahead h (take c.loop-act.act-index c.args.acts.now) c.loop-act.met.directory.changes (loaded c.loop-act.met.loader) (loaded c.apply_act.new.met.loader) was (c.apply_act.ensures.kept at (search rules)),
    )

pub overflow_add-at-in-loop-act : goal.overflow_add-at-in-loop-act
overflow_add-at-in-loop-act c =
    let batch = c.args.acts.now in
    let i = c.loop-act.act-index in
    omega (arith, c.loop-act.invariant.at_is, c.spelled_bytes-at.ensures, acts_more batch i c.act-item.result (search rules) (search rules), acts_front (i + 1) batch, batch_length batch, c.requires.long, c.requires.within)

pub loop-act-preserved : goal.loop-act-preserved
loop-act-preserved c =
    let so_far = c.loop-act.invariant in
    let step = c.in_ok-apply_act.ensures in
    let batch = c.args.acts.now in
    let i = c.loop-act.act-index in
    let act = c.act-item.result in
    record {
      at_is = omega (arith, so_far.at_is, c.spelled_bytes-at.ensures, acts_more batch i act (search rules) (search rules));
      met = λ h was. acts_met h batch i act c.apply_act.new.met.directory.changes (loaded c.apply_act.new.met.loader) (search rules) (search rules) (step.more (h ++ singles (take i batch)) (so_far.met h was)).1;
      placed = acts_placed batch i act (c.args.head.now.body + 5) c.loop-act.at c.args.met.now.directory.changes c.loop-act.met.directory.changes c.apply_act.new.met.directory.changes (search rules) (search rules)
          so_far.at_is so_far.placed step.placed;
      plans = step.others.0 ∙ so_far.plans;
      marked = step.others.1 ∙ so_far.marked;
    }

pub returns-clause-more : goal.returns-clause-more
returns-clause-more c = λ h reached loads.
    let so_far = c.loop-act.invariant in
    let batch = c.args.acts.now in
    let now = c.args.met.now in
    let all = take_all c.loop-act.act-index batch c.loop-act-test.false in
    let marked : now.marked ≡ true = c.if-not-met.false in
    let R : Bool → Type 0 = λ m. IsReached c.args.head.now.gate h now.directory.changes now.plans.items m in
    let M : List Act → Type 0 = λ acts. AreMet (h ++ singles acts) c.loop-act.met.directory.changes (loaded c.loop-act.met.loader) in
    let start : c.args.head.now.body + 5 ≡ c.args.head.now.gate + 10 = omega arith in
    batch_over c.args.head.now.gate h batch now.directory.changes c.loop-act.met.directory.changes now.plans.items c.loop-act.met.plans.items (loaded c.loop-act.met.loader)
    (subst R marked reached) c.requires.ranges (le-ltb 16777216 (sum_by act_length batch) (omega (arith, c.if-texts_bytes-gt-MOST_BATCH_BYTES.false, c.texts_bytes.ensures)))
    (subst M all (so_far.met h (reached_met c.args.head.now.gate h now.directory.changes now.plans.items (loaded now.loader) reached loads)))
    (so_far.placed ∙ ap (λ (acts : List Act). map (mapped pair_of) now.directory.changes ++ placed_acts (c.args.head.now.body + 5) acts) all ∙ ap (λ (n : ℕ). map (mapped pair_of) now.directory.changes ++ placed_acts n batch) start)
    so_far.plans (so_far.marked ∙ marked)
