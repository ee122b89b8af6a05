use Rattle.std.proofs.Common.{IsUtf8, chars, not, arith, rules, tests, refl}
use Rattle.std.proofs.lemmas.List.Sorted.{answers_always}
use Rattle.std.proofs.lemmas.Str.{len_utf8_bounds}
use Rattle.text_words.specs.Terms.{is_term}
use Rattle.text_words.proofs.CutLemmas.{chars_inside, runs_whole, runs_split}
use Rattle.text_words.proofs.cuts.first_wide.Goals as goal

pub returns-in-Some-clause-runs : goal.returns-in-Some-clause-runs
returns-in-Some-clause-runs c =
    let (i, j, finds, front, back, l, _, rest) = c.in-Some.ensures.cases in
    let (inside, found) = finds (λ c. not (is_term c)) (answers_always _ _ _ (λ f a r g k. search (rules, tests))) in
    let (b, stop, at) = found in
    let u : IsUtf8 c.in-Some.parts.0.now = search rules in
    runs_split c.args.text.now _ _ i j b c.utf8.text u (omega (arith, l, rest)) inside stop at front back

pub returns-in-Some-clause-shorter : goal.returns-in-Some-clause-shorter
returns-in-Some-clause-shorter c = λ some.
    let (i, j, finds, front, back, l, _, rest) = c.in-Some.ensures.cases in
    let (inside, found) = finds (λ c. not (is_term c)) (answers_always _ _ _ (λ f a r g k. search (rules, tests))) in
    let (b, stop, at) = found in
    omega (arith, rest, at.ends, (len_utf8_bounds b).0)

pub returns-in-None-clause-runs : goal.returns-in-None-clause-runs
returns-in-None-clause-runs c =
    let none = c.in-None.ensures.cases (λ c. not (is_term c)) (answers_always _ _ _ (λ f a r g k. search (rules, tests))) in
    runs_whole (chars c.args.text.now) _ (chars_inside c.args.text.now c.utf8.text none) refl
