use Rattle.std.proofs.Common.{◌^◌, List, sym, subst}
use Rattle.base_types.specs.declared.posting.Posting.{Posting}
use Rattle.lists_postings.specs.ListsOf.{IsListOf}
use Rattle.lists_index.specs.Indexes.{IndexState, Indexes}
use Rattle.model_archive.specs.Histories.{changes}
use Rattle.model_archive.specs.Answers.{frequency_at}
use Rattle.archive_entries.proofs.IndexLemmas.{word_list}
use Rattle.archive_hand.proofs.archive.Archive.list_until.Goals as goal

pub returns-clause-list : goal.returns-clause-list
returns-clause-list c = λ h stands.
    let word = c.args.word.now in
    let indexed = subst (λ (i : IndexState). Indexes i (changes h)) (sym c.index.ensures) stands.index_is in
    let whole = word_list h word c.in_ok-whole.whole.items (c.in_ok-whole.ensures.list (changes h) indexed) in
    c.in_ok-list.ensures.list (λ d t. frequency_at h word (record { 0 = d }) t) (subst (λ (l : List Posting). IsListOf (λ d t. frequency_at h word (record { 0 = d }) t) 0 (2 ^ 40) l) (sym c.deref.ensures.value) whole)
