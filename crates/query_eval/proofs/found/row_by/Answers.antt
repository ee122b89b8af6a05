use Rattle.std.proofs.Common.{◌≡◌, [], sym, ◌∙◌, arith}
use Rattle.std.proofs.lemmas.Bool.{eqb-true}
use Rattle.std.proofs.lemmas.List.{nil_from_length}
use Rattle.query_lang.specs.Meaning.{words_of}
use Rattle.query_eval.proofs.FoundLemmas.{counts-are, row-some, row-none, bare-some, bare-none}
use Rattle.query_eval.proofs.found.row_by.Goals as goal

pub returns-then-matches_without_words : goal.returns-then-matches_without_words
returns-then-matches_without_words c = λ often h.
    let none : c.args.group.now ≡ [] = nil_from_length _ (eqb-true _ _ (sym c.is_empty.ensures ∙ c.if-is_empty.true)) in
    bare-some c.args.query.now often c.args.doc c.args.group.now none h (sym c.matches_without_words.ensures ∙ c.if-matches_without_words.true)

pub returns-then-is_empty : goal.returns-then-is_empty
returns-then-is_empty c = λ often h.
    let none : c.args.group.now ≡ [] = nil_from_length _ (eqb-true _ _ (sym c.is_empty.ensures ∙ c.if-is_empty.true)) in
    bare-none c.args.query.now often c.args.doc c.args.group.now none h (sym c.matches_without_words.ensures ∙ c.if-matches_without_words.false)

pub returns-then-branch : goal.returns-then-branch
returns-then-branch c = λ often h.
    let e = counts-are c.count_words.new.counts (words_of c.args.query.now) often c.args.group.now (omega (arith, c.requires)) (λ k l. c.count_words.ensures k (omega (arith, l, c.requires))) h in
    row-some c.args.query.now often c.args.doc c.score.result (sym (c.in_ok-matches.ensures often e) ∙ c.if-branch.true) (c.score.ensures often e)

pub returns : goal.returns
returns c = λ often h.
    let e = counts-are c.count_words.new.counts (words_of c.args.query.now) often c.args.group.now (omega (arith, c.requires)) (λ k l. c.count_words.ensures k (omega (arith, l, c.requires))) h in
    row-none c.args.query.now often c.args.doc (sym (c.in_ok-matches.ensures often e) ∙ c.if-branch.false)
