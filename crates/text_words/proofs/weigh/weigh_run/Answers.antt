use Rattle.std.proofs.Common.{◌∙◌, ℕ, List, nat_eq, sym, ap, subst, chars, arith}
use Rattle.std.proofs.lemmas.Result.{on_ok_weaker}
use Rattle.std.specs.Str.{bytes_eq}
use Rattle.text_words.specs.Terms.{keys_of}
use Rattle.text_words.specs.Words.{bump, counted, known_of, fresh_of}
use Rattle.text_words.specs.Weighing.{IsWordOf}
use Rattle.text_words.proofs.CountLemmas.{length-keys_of}
use Rattle.text_words.proofs.WordLemmas.{absent-none}
use Rattle.text_words.proofs.WeighLemmas.{known-skip, fresh-bump}
use Rattle.text_words.proofs.TallyLemmas.{after, room, fresh_small, known_after, fresh_after}
use Rattle.text_words.proofs.weigh.weigh_run.Goals as goal

pub count_known-requires-clause-few : goal.count_known-requires-clause-few
count_known-requires-clause-few c = let (done, h, short) = c.requires.some in (room c.args.vocabulary.now.words done c.args.tally.now.known.items h.known short).0

pub count_known-requires-clause-small : goal.count_known-requires-clause-small
count_known-requires-clause-small c = let (done, h, short) = c.requires.some in (room c.args.vocabulary.now.words done c.args.tally.now.known.items h.known short).1

pub count-requires : goal.count-requires
count-requires c = λ n e.
    let (done, h, short) = c.requires.some in
    omega (arith, short, fresh_small c.args.vocabulary.now.words (keys_of done) c.in-Fresh.key n (rw h.fresh at e), length-keys_of done)

pub returns-in_ok-count_known-in-Known : goal.returns-in_ok-count_known-in-Known
returns-in_ok-count_known-in-Known c = λ done h.
    let words = c.args.vocabulary.now.words in
    let (word, key, number) = subst (IsWordOf words (chars c.args.run.now)) c.in-Known.is c.in_ok-word.ensures in
    record {
      known = c.in_ok-count_known-in-Known.ensures.counted ∙ ap (λ (l : List (ℕ × ℕ)). bump nat_eq l c.in-Known.number) h.known ∙ known_after words done (chars c.args.run.now) word c.in-Known.number key number;
      fresh = h.fresh ∙ fresh_after words done (chars c.args.run.now) word c.in-Known.number key number;
      placed = c.in_ok-count_known-in-Known.ensures.placed;
    }

pub returns-in-Fresh : goal.returns-in-Fresh
returns-in-Fresh c =
    let words = c.args.vocabulary.now.words in
    let k = c.in-Fresh.key in
    let (key, number) = subst (IsWordOf words (chars c.args.run.now)) c.in-Fresh.is c.in_ok-word.ensures in
    on_ok_weaker c.count.result
    (λ e done h. let step = after done (chars c.args.run.now) k key in record {
      known = h.known ∙ sym (known-skip words (counted (keys_of done)) k number) ∙ ap (known_of words) step;
      fresh = e ∙ ap (λ (l : List (List ℕ × ℕ)). bump bytes_eq l k) h.fresh ∙ sym (fresh-bump words (counted (keys_of done)) k (absent-none k words number)) ∙ ap (fresh_of words) step;
      placed = h.placed;
    })
    c.count.ensures
