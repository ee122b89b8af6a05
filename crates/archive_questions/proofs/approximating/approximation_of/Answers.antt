use Rattle.std.proofs.Common.{List, rules, sym, subst}
use Rattle.base_types.specs.declared.posting.Posting.{Posting}
use Rattle.lists_approx.specs.Approximations.{IsLongestFirst}
use Rattle.lists_index.specs.Indexes.{IndexState, Indexes}
use Rattle.model_archive.specs.Histories.{changes}
use Rattle.archive_entries.proofs.IndexLemmas.{word_list}
use Rattle.archive_questions.proofs.approximating.approximation_of.Goals as goal

pub returns : goal.returns
returns c = λ h stands.
    let word = c.args.word.now in
    let list = c.in_ok-whole.whole.items in
    let indexed = subst (λ (i : IndexState). Indexes i (changes h)) (sym c.index.ensures) stands.index_is in
    let whole = word_list h word list (c.in_ok-whole.ensures.list (changes h) indexed) in
    (list, whole, subst (λ (l : List Posting). IsLongestFirst c.args.tolerance l c.in_ok-short.short.items) c.deref.ensures.value c.in_ok-short.ensures, search rules)
