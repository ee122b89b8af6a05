use Rattle.std.proofs.Common.{inr, sym, subst, arith}
use Rattle.lists_index.specs.Indexes.{IndexState, Indexes}
use Rattle.model_archive.specs.Histories.{changes}
use Rattle.archive_entries.proofs.IndexLemmas.{word_list}
use Rattle.archive_questions.proofs.ChosenLemmas.{cut_tail}
use Rattle.archive_questions.proofs.choosing.tail_of.Goals as goal

pub returns-then-span-horizon : goal.returns-then-span-horizon
returns-then-span-horizon c = λ h stands. inr (c.if-span-horizon.true, c.new.ensures.items)

pub returns : goal.returns
returns c = λ h stands.
    let I : IndexState → Type 0 = λ i. Indexes i (changes h) in
    let (list, listed, rows, whole) = c.in_ok-part.ensures (changes h) (subst I (sym c.index.ensures) stands.index_is) in
    let later = c.from_on-later.ensures in
    cut_tail h c.args.word.now c.args.span.to c.args.horizon.seconds list c.in_ok-part.part.rows.items c.in_ok-tail.tail.items (omega (arith, c.if-span-horizon.false)) (word_list h c.args.word.now list listed)
    (rw (later.from, later.to) at rows) (rw (later.from, later.to, c.deref.ensures.value) at c.in_ok-tail.ensures.clip)
