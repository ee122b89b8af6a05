-- What is found by blocks of what is held of a query's words is the history's, where the query asks for any of them.
use Rattle.std.proofs.Common.{◌≡◌, ℕ, ◌+◌, ◌<◌, ◌≤◌, ◌^◌, nat_lt, All, List, [], ◌∷◌, length, map, take, sum_by, Contains, Option, Some, None, IsSome, refl, ap, sym, subst, ◌∙◌, arith}
use Rattle.std.specs.List.{AllZip}
use Rattle.std.proofs.lemmas.List.{get_or-map, length-map}
use Rattle.std.proofs.lemmas.List.Sums.{sum_by-cons}
use Rattle.base_types.specs.declared.ids.DocId.{DocId}
use Rattle.lists_versions.specs.Changes as changed
use Rattle.lists_versions.proofs.Alive.{alive-has}
use Rattle.query_lang.specs.Grammar.{Query}
use Rattle.query_lang.specs.Meaning.{matches, score, weight, words_of}
use Rattle.query_eval.specs.declared.answer.Row.{Row}
use Rattle.query_eval.proofs.FoundLemmas.{each-answer}
use Rattle.query_eval.proofs.GivenLemmas.{same_alive}
use Rattle.query_top.specs.Firsts.{Each}
use Rattle.query_top.specs.Opening.{HasShown}
use Rattle.query_top.specs.Sheets.{IsSheet, Sheet}
use Rattle.query_top.specs.Sheets.{score as top_score}
use Rattle.query_top.specs.declared.ranking.Row.{Row as TopRow}
use Rattle.query_best.specs.Held.{AreBlocksOf, AreFound, IsHeldAs, heads_in}
use Rattle.query_best.specs.declared.held.HeldBlocks.{HeldBlocks}
use Rattle.query_best.specs.declared.held.HeldWord.{HeldWord}
use Rattle.model_archive.specs.Answers.{IsAnswerAt, frequency_at}
use Rattle.model_archive.specs.Bests.{top_row, weights_in}
use Rattle.model_archive.specs.Chosen.{IsReadFor}
use Rattle.model_archive.specs.Histories.{History, changes, text_at}
use Rattle.model_archive.specs.Legal.{IsLoadable}
use Rattle.model_archive.proofs.BestLemmas.{score_by_first, tops-back}
use Rattle.model_archive.proofs.SheetLemmas.{sheets_score, sheets_true}
use Rattle.archive_questions.specs.Bests.{AreHeld, IsBestOf, eval_row}
use Rattle.archive_questions.specs.declared.besting.BestAnswer.{BestAnswer}

-- each query has an answer
answer-at : (h : History) (t : ℕ) (query : Query) → (rows : List Row) × IsAnswerAt h t query rows
answer-at h t query =
    let often = λ (doc : DocId) (word : List ℕ). frequency_at h word doc t in
    let given = each-answer (changed.alive t (changes h)) often query in
    (given.0, same_alive (λ doc. IsSome (text_at h doc t)) (λ doc. Contains (changed.alive t (changes h)) doc) often query given.0 (λ doc. alive-has t (changes h) doc) given.1)

-- the blocks of what is held are those of the sheets
heads-held : (w : HeldWord) (s : Sheet) → IsHeldAs w s → length (heads_in w.blocks) ≡ length s.heads
heads-held w s is = go w.blocks is.blocks
  where
    go : (o : Option HeldBlocks) → AreBlocksOf o s → length (heads_in o) ≡ length s.heads
    go None are = sym (ap length are.0)
    go (Some held) are = ap length are.0

blocks-held : (words : List HeldWord) (ss : List Sheet) → AllZip IsHeldAs words ss → sum_by (λ (w : HeldWord). length (heads_in w.blocks)) words ≡ sum_by (λ (s : Sheet). length s.heads) ss
blocks-held [] [] z = refl
blocks-held [] (s ∷ ss) z = absurd z
blocks-held (w ∷ words) [] z = absurd z
blocks-held (w ∷ words) (s ∷ ss) z =
    omega (arith, sum_by-cons (λ (w : HeldWord). length (heads_in w.blocks)) w words, sum_by-cons (λ (s : Sheet). length s.heads) s ss, heads-held w s z.0, blocks-held words ss z.1)

pub best-made : (h : History) (t count : ℕ) (query : Query) (words : List HeldWord) (read opened blocks : ℕ) (tops : List TopRow) (best : BestAnswer) → IsLoadable h → t < 2 ^ 40
    → ((f : List ℕ → ℕ) → matches query f ≡ nat_lt 0 (score query f)) → AreHeld h t (words_of query) words read
    → ((sheets : List Sheet) → AllZip IsHeldAs words sheets → Each (IsSheet t) sheets → AreFound t (weights_in query) sheets count tops opened)
    → blocks ≡ sum_by (λ (w : HeldWord). length (heads_in w.blocks)) words → best.rows.items ≡ map eval_row tops → best.read ≡ read → best.opened ≡ opened → best.blocks ≡ blocks → IsBestOf h t count query best
best-made h t count query words read opened blocks tops best loads now any held found sum rows_are read_is opened_is blocks_is =
    let (whole, answer) = answer-at h t query in
    let ss = held.sheets in
    let of = top_score t (weights_in query) ss in
    let is = found ss held.held_as (sheets_true h t loads now (words_of query) ss held.sheets_are) in
    let first = score_by_first h t query whole of any (λ doc. sheets_score h t loads now query ss doc held.sheets_are) answer count tops is.first in
    let back : map top_row (take count whole) ≡ tops = ap (map top_row) (sym first) ∙ tops-back tops in
    record {
      rows = whole;
      answer = answer;
      read_is = subst (λ (n : ℕ). IsReadFor h t (t + 1) (words_of query) n) (sym read_is) held.read_is;
      found = record {
        sheets = ss;
        sheets_are = held.sheets_are;
        os = is.os;
        inside = is.inside;
        distinct = is.distinct;
        wanted = is.wanted;
        shown = λ o shown. is.shown o (subst (λ (rs : List TopRow). HasShown t ss rs o) back shown);
        opened_is = opened_is ∙ is.opened_is;
        blocks_are = blocks_is ∙ sum ∙ blocks-held words ss held.held_as;
      };
      first = rows_are ∙ first;
    }

-- the weights of words that weigh something
pub weights-fit : (query : Query) → All (λ w. (1 ≤ weight query w) × (weight query w ≤ 1000)) (words_of query) → All (λ w. (1 ≤ w) × (w ≤ 1000)) (weights_in query)
weights-fit query each = λ k d l.
    let inside : k < length (words_of query) = omega (arith, l, length-map (words_of query) (weight query)) in
    subst (λ x. (1 ≤ x) × (x ≤ 1000)) (sym (get_or-map (weight query) (words_of query) k [] d inside)) (each k [] inside)
