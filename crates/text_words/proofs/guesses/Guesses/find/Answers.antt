use Rattle.std.proofs.Common.{◌≡◌, ◌∙◌, ◌<◌, ◌≤◌, sym, ap, map, length, arith, rules, IsAscii}
use Rattle.std.specs.Char.{to_ascii_lowercase}
use Rattle.text_words.proofs.KeyLemmas.{term_of-lower}
use Rattle.text_words.proofs.WeightLemmas.{number_at}
use Rattle.text_words.proofs.guesses.Guesses.find.Goals as goal

pub returns-then-is_lower_case : goal.returns-then-is_lower_case
returns-then-is_lower_case c =
    let words = c.args.vocabulary.now.words in
    let word = c.word-word.result.now in
    let ascii : IsAscii c.args.run.now = search rules in
    let same : word ≡ map to_ascii_lowercase c.args.run.now =
    sym c.as_str.ensures.value ∙ sym c.as_bytes-2.ensures.value ∙ c.is_lower_case.ensures.0 c.if-is_lower_case.true ∙ ap (map to_ascii_lowercase) c.as_bytes-3.ensures.value in
    let some : 1 ≤ length word = omega (arith, c.as_str.ensures.not_empty, ap length c.as_str.ensures.value) in
    let short : length word ≤ 255 = omega (arith, c.as_str.ensures.short, ap length c.as_str.ensures.value) in
    let inside : c.in_ok-number.field-0.now < length words = omega (arith, c.if-len-number.false, c.len.ensures.count) in
    (word, term_of-lower c.args.run.now word ascii same some short, number_at words c.len.ensures.each_once _ word inside (sym c.word-word.ensures))
