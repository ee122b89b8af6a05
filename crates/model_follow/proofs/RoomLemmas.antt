-- A packet has room for each legal entry.
use Rattle.std.proofs.Common.{◌≡◌, ℕ, ◌+◌, ◌*◌, ◌≤◌, Bool, true, false, nat_lt, List, [], ◌∷◌, length, sum_by, None, refl, arith, length-append}
use Rattle.std.proofs.lemmas.Bool.{ltb-false}
use Rattle.std.proofs.lemmas.List.Sums.{sum_by-cons}
use Rattle.base_commands.specs.declared.command.Kind.{Kind}
use Rattle.base_commands.specs.declared.command.Kind.TheVariants.{Guarantee, Uniform, Since}
use Rattle.journal_entries.specs.Acts.{act_bytes, act_length, acts_bytes, batch_spelling}
use Rattle.journal_entries.specs.PlanBytes.{kind_length, plan_length}
use Rattle.journal_entries.specs.PlanSpelling.{IsPlanEntry, plan_spelling}
use Rattle.journal_entries.specs.declared.act.Act.{Act}
use Rattle.journal_entries.specs.declared.act.Act.TheVariants as batched
use Rattle.journal_entries.specs.declared.entry.Entry.TheVariants.{Arrive, Delete, Planned, Format, Batch}
use Rattle.journal_entries.specs.declared.plan.PlanEntry.{PlanEntry}
use Rattle.lists_versions.specs.Tests.{when}
use Rattle.model_archive.specs.declared.refusal.Refusal.TheVariants.{BatchTooLong}
use Rattle.model_archive.specs.Histories.{acts_refusal, long_batch, most_batch, old_format}
use Rattle.model_archive.proofs.BatchLemmas.{none_found}
use Rattle.model_follow.specs.Laws.{SpellingsHaveRoom}

act_room : (act : Act) → length (act_bytes act) ≤ 17 + act_length act
act_room (batched.Arrive doc at text) = omega arith
act_room (batched.Delete doc at) = omega arith

acts_room : (batch : List Act) → length (acts_bytes batch) ≤ 17 * length batch + sum_by act_length batch
acts_room [] = omega arith
acts_room (act ∷ batch) = omega (arith, act_room act, acts_room batch, length-append (act_bytes act) (acts_bytes batch), sum_by-cons act_length act batch)

batch_room : (batch : List Act) → length (batch_spelling batch) ≤ 5 + 17 * length batch + sum_by act_length batch
unfolding batch_spelling
batch_room batch = omega (arith, acts_room batch)

not_long : (n : ℕ) → long_batch n ≡ None → n ≤ most_batch
not_long n none = go (nat_lt most_batch n) refl none
  where
    go : (b : Bool) → nat_lt most_batch n ≡ b → when b (BatchTooLong most_batch) ≡ None → n ≤ most_batch
    go true same none = absurd cc
    go false same none = ltb-false most_batch n same

kind_room : (kind : Kind) → kind_length kind ≤ 9
kind_room Guarantee = omega arith
kind_room Uniform = omega arith
kind_room (Since at) = omega arith

pub has_room : ((p : PlanEntry) → IsPlanEntry p → length (plan_spelling p) ≡ plan_length p) → SpellingsHaveRoom
has_room long before (Arrive doc at text) ranges allowed = let most = ranges.2 in omega (arith, most)
has_room long before (Delete doc at) ranges allowed = omega arith
has_room long before (Planned plan) ranges allowed = omega (arith, long plan ranges, kind_room plan.kind, ranges.well_cut.most, ranges.word.1)
has_room long before Format ranges allowed = omega arith
has_room long before (Batch batch) ranges allowed =
    let one = none_found (old_format before) (long_batch (sum_by act_length batch) ∷ acts_refusal before batch ∷ []) allowed in
    let two = none_found (long_batch (sum_by act_length batch)) (acts_refusal before batch ∷ []) one.1 in
    omega (arith, batch_room batch, ranges.sized.1, not_long (sum_by act_length batch) two.0)
