use Rattle.std.proofs.Common.{◌≡◌, ◌≤◌, ◌+◌, ◌-◌, ◌++◌, ◌∷◌, ◌==◌, ℕ, suc, [], Some, ap, sym, ◌∙◌, arith, rules, length, length-append, vec_len}
use Rattle.script_read.specs.Words.{word, after_word}
use Rattle.script_read.specs.Values.{text, texts}
use Rattle.script_read.proofs.ShareLemmas.{joined_to, share-none, share-not, share-some, texts-more, texts-other, texts-over}
use Rattle.script_read.proofs.shares.share_words.Goals as goal

pub words-preserved : goal.words-preserved
words-preserved c =
    let words = c.words.words.items in
    let rest = c.words.rest.now in
    let new = c.push.new.self.items in
    let left : ℕ = 16 - length new in
    let len : vec_len c.words.words ≡ length words = search rules in
    let few : length words + 1 ≤ 16 = omega (arith, len, c.len.ensures, c.if-len-ge-MOST_SHARE_WORDS.false) in
    let more : new ≡ words ++ c.in-Some.word ∷ [] = c.in_ok-push-in-Some.ensures.items in
    let longer : length new ≡ length words + 1 = ap length more ∙ length-append words (c.in-Some.word ∷ []) in
    let one : 16 - length words ≡ suc left = omega (arith, longer, few) in
    let is : text (word rest) ≡ Some c.in-Some.word = ap text (sym c.next_word.ensures.word) ∙ sym c.in_ok-word.ensures ∙ c.in-Some.is in
    record {
      few = omega (arith, longer, few);
      short = omega (arith, c.next_word.ensures.shorter, c.words.invariant.short);
      so_far = ap (λ l. joined_to new (texts left l)) c.next_word.ensures.rest ∙ ap (λ ws. joined_to ws (texts left (after_word rest))) more ∙ sym (texts-more left words rest c.in-Some.word (sym c.words-test.ensures) is)
          ∙ ap (λ n. joined_to words (texts n rest)) (sym one) ∙ c.words.invariant.so_far;
    }

pub returns-then-len-ge-MOST_SHARE_WORDS : goal.returns-then-len-ge-MOST_SHARE_WORDS
returns-then-len-ge-MOST_SHARE_WORDS c =
    let words = c.words.words.items in
    let len : vec_len c.words.words ≡ length words = search rules in
    let none : 16 - length words ≡ 0 = omega (arith, len, c.len.ensures, c.if-len-ge-MOST_SHARE_WORDS.true) in
    share-not c.args.line.now _ c.words.invariant.so_far (ap (λ n. joined_to words (texts n c.words.rest.now)) none ∙ texts-over words c.words.rest.now (sym c.words-test.ensures))

pub returns-in-None : goal.returns-in-None
returns-in-None c =
    let words = c.words.words.items in
    let len : vec_len c.words.words ≡ length words = search rules in
    let some : 1 ≤ 16 - length words = omega (arith, len, c.len.ensures, c.if-len-ge-MOST_SHARE_WORDS.false) in
    share-not c.args.line.now _ c.words.invariant.so_far
    (texts-other (16 - length words) words c.words.rest.now some (sym c.words-test.ensures) (ap text (sym c.next_word.ensures.word) ∙ sym c.in_ok-word.ensures ∙ c.in-None.is))

pub returns-then-is_empty : goal.returns-then-is_empty
returns-then-is_empty c =
    let words = c.words.words.items in
    let len : length words ≡ vec_len c.words.words = search rules in
    share-none c.args.line.now words c.words.rest.now _ (sym c.words-test.ensures) c.words.invariant.so_far (ap (λ n. n == 0) len ∙ sym c.is_empty.ensures ∙ c.if-is_empty.true)

pub returns : goal.returns
returns c =
    let words = c.words.words.items in
    let len : length words ≡ vec_len c.words.words = search rules in
    ap Some c.new.ensures ∙ share-some c.args.line.now words c.words.rest.now _ (sym c.words-test.ensures) c.words.invariant.so_far (ap (λ n. n == 0) len ∙ sym c.is_empty.ensures ∙ c.if-is_empty.false)
