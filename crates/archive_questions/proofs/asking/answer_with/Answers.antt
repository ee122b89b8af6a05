use Rattle.std.proofs.Common.{◌≡◌, List, ℕ, All, true, is_some, sym, ap, subst, ◌∙◌, rules}
use Rattle.model_archive.specs.Plans.{is_another}
use Rattle.query_eval.proofs.FirstLemmas.{wanted-weaker}
use Rattle.archive_questions.proofs.AnswerLemmas.{by_alive, by_hits, by_unplanned}
use Rattle.lists_versions.specs.Changes.{alive, held_at}
use Rattle.archive_questions.proofs.asking.answer_with.Goals as goal

pub returns-then-matches_without_words-clause-rows : goal.returns-then-matches_without_words-clause-rows
returns-then-matches_without_words-clause-rows c = λ h stands given.
    wanted-weaker c.args.wanted _ (λ rows is. by_alive c.args.archive.now h c.args.at.seconds c.args.query.now _ c.deref.result.now rows stands
    (c.deref.ensures.value ∙ c.in_ok-alive.ensures ∙ ap (alive c.args.at.seconds) c.directory.ensures.changes) is) c.in_ok-answer.ensures.rows

pub returns-then-is_any_planned-clause-rows : goal.returns-then-is_any_planned-clause-rows
returns-then-is_any_planned-clause-rows c = λ h stands given.
    let t = c.args.at.seconds in
    wanted-weaker c.args.wanted _ (λ rows is. by_hits c.args.archive.now h t c.args.query.now c.args.parts.now rows stands (sym c.matches_without_words.ensures ∙ c.if-matches_without_words.false) is)
    (c.in_ok-answer-2.ensures.rows (λ doc. is_some (held_at doc t c.args.archive.now.changes)) (λ doc b says.
    let told : b ≡ is_some (held_at doc t c.directory-directory.result.now.changes) = search rules in
    told ∙ ap (λ changes. is_some (held_at doc t changes)) c.directory-directory.ensures.changes))

pub returns-clause-rows : goal.returns-clause-rows
returns-clause-rows c = λ h stands given.
    let W : List (List ℕ) → Type 0 = λ words. All (λ word. All (λ s. is_another word s ≡ true) c.args.archive.now.shelf.plans) words in
    wanted-weaker c.args.wanted _ (λ rows is. by_unplanned c.args.archive.now h c.args.at.seconds c.args.query.now c.args.parts.now rows stands
    (subst W c.words.ensures.words (c.is_any_planned.ensures c.if-is_any_planned.false)) given (sym c.matches_without_words.ensures ∙ c.if-matches_without_words.false) is) c.in_ok-answer-3.ensures.rows
