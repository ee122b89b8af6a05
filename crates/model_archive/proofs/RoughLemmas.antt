-- There is one rough answer, and it is near the exact one.
use Rattle.std.proofs.Common.{◌≡◌, ℕ, ◌^◌, List, length, get_or, Contains, Option, Some, None, IsSome, inl, inr, refl, ap, sym, subst, ◌∙◌, arith}
use Rattle.base_types.specs.declared.ids.DocId.{DocId}
use Rattle.base_types.specs.declared.posting.Posting.{Posting}
use Rattle.base_types.specs.declared.tolerance.Tolerance.{Tolerance}
use Rattle.text_words.specs.Terms.{one_term}
use Rattle.lists_postings.specs.Lists.{frequency}
use Rattle.lists_postings.proofs.Clipping.{one_list_of}
use Rattle.lists_approx.specs.Approximations.{IsNear, IsLongestFirst}
use Rattle.lists_approx.proofs.Existence.{each_has_a_longest_first}
use Rattle.lists_approx.proofs.One.{one_longest_first}
use Rattle.lists_versions.specs.Changes as changed
use Rattle.lists_versions.proofs.Alive.{alive-has}
use Rattle.query_lang.specs.Grammar.{Query}
use Rattle.query_lang.specs.Meaning.{matches, score, words_of}
use Rattle.query_eval.specs.Answers.{IsRow}
use Rattle.query_eval.specs.declared.answer.Row.{Row}
use Rattle.query_eval.proofs.FoundLemmas.{each-answer}
use Rattle.query_eval.proofs.GivenLemmas.{one_answer, only_words_matter, same_alive}
use Rattle.model_archive.specs.declared.refusal.Refusal.TheVariants as refusals
use Rattle.model_archive.specs.Histories.{History, changes, text_at, vocabulary}
use Rattle.model_archive.specs.Answers.{IsWordList, frequency_at}
use Rattle.model_archive.specs.Nearness.{RoughIsNear}
use Rattle.model_archive.specs.Planning.{OfTerm}
use Rattle.model_archive.specs.Rough.{IsRoughAnswer, IsShortOf}
use Rattle.model_archive.specs.Steps.{Reply, Refused, Approximated, Approximates}
use Rattle.model_archive.proofs.NearLemmas.{near_by_frequencies}
use Rattle.model_archive.proofs.PlanningLemmas.{known_or_not}

-- each word's list has an approximation, and one
short_for : (h : History) (tolerance : Tolerance) (word : List ℕ) → ((list : List Posting) × IsWordList h word list) → (short : List Posting) × IsShortOf h tolerance word short
short_for h tolerance word (whole, is) = let (short, first) = each_has_a_longest_first tolerance whole is.ordered in (short, (whole, is, first))

one_short : (h : History) (tolerance : Tolerance) (word : List ℕ) (one other : List Posting) → IsShortOf h tolerance word one → IsShortOf h tolerance word other → one ≡ other
one_short h tolerance word one other (whole, is, first) (list, are, second) =
    let same = one_list_of (λ d t. frequency_at h word (record { 0 = d }) t) 0 (2 ^ 40) whole list is are in
    one_longest_first tolerance list one other (subst (λ (l : List Posting). IsLongestFirst tolerance l one) same first) second

-- a phrase's word is told of approximately in one way
abbrev Tells : History → Tolerance → List ℕ → Reply → Type 0
Tells h tolerance word reply = (whole short : List Posting) × IsWordList h word whole × IsLongestFirst tolerance whole short × (reply ≡ Approximated short (length whole))

pub each_approximates : (h : History) (phrase : List ℕ) (tolerance : Tolerance) → ((word : List ℕ) → (list : List Posting) × IsWordList h word list) → (reply : Reply) × Approximates h phrase tolerance reply
each_approximates h phrase tolerance lists = go (one_term phrase)
  where
    go : (key : Option (List ℕ)) → (reply : Reply) × OfTerm h key (λ why. reply ≡ Refused why) (λ word. Tells h tolerance word reply)
    go None = (Refused refusals.NotOneTerm, refl)
    go (Some word) = elim (known_or_not (vocabulary h) word) [
      | inr unknown ↦ (Refused refusals.UnknownWord, inl (unknown, refl))
      | inl known ↦
          let (short, (whole, is, first)) = short_for h tolerance word (lists word) in
          (Approximated short (length whole), inr (known, (whole, short, is, first, refl)))
    ]

pub one_approximates : (h : History) (phrase : List ℕ) (tolerance : Tolerance) (reply other : Reply) → Approximates h phrase tolerance reply → Approximates h phrase tolerance other → reply ≡ other
one_approximates h phrase tolerance reply other = go (one_term phrase)
  where
    go : (key : Option (List ℕ)) → OfTerm h key (λ why. reply ≡ Refused why) (λ word. Tells h tolerance word reply)
        → OfTerm h key (λ why. other ≡ Refused why) (λ word. Tells h tolerance word other) → reply ≡ other
    go None a b = a ∙ sym b
    go (Some word) (inl x) (inl y) = x.1 ∙ sym y.1
    go (Some word) (inl x) (inr y) = absurd (x.0 y.0)
    go (Some word) (inr x) (inl y) = absurd (y.0 x.0)
    go (Some word) (inr (known, (whole, short, is, first, reply_is))) (inr (again, (list, rest, are, second, other_is))) =
        let same = one_list_of (λ d t. frequency_at h word (record { 0 = d }) t) 0 (2 ^ 40) whole list is are in
        let shorts = one_short h tolerance word short rest (whole, is, first) (list, are, second) in
        reply_is ∙ ap (λ (l : List Posting). Approximated l (length whole)) shorts ∙ ap (λ (l : List Posting). Approximated rest (length l)) same ∙ sym other_is

-- each query has a rough answer at each time, and one
pub each_rough : (h : History) (tolerance : Tolerance) (t : ℕ) (query : Query) → ((word : List ℕ) → (list : List Posting) × IsWordList h word list) → (rows : List Row) × IsRoughAnswer h tolerance t query rows
each_rough h tolerance t query lists =
    let short : List ℕ → List Posting = λ word. (short_for h tolerance word (lists word)).0 in
    let often = λ (doc : DocId) (word : List ℕ). frequency doc.0 t (short word) in
    let given = each-answer (changed.alive t (changes h)) often query in
    let answer = same_alive (λ doc. IsSome (text_at h doc t)) (λ doc. Contains (changed.alive t (changes h)) doc) often query given.0 (λ doc. alive-has t (changes h) doc) given.1 in
    (given.0, record { lists = short; each = λ k d l. (short_for h tolerance _ (lists _)).1; rows_are = answer })

pub one_rough : (h : History) (tolerance : Tolerance) (t : ℕ) (query : Query) (one other : List Row) → IsRoughAnswer h tolerance t query one → IsRoughAnswer h tolerance t query other → one ≡ other
one_rough h tolerance t query one other a b =
    let first = λ (doc : DocId) (word : List ℕ). frequency doc.0 t (a.lists word) in
    let second = λ (doc : DocId) (word : List ℕ). frequency doc.0 t (b.lists word) in
    let moved = only_words_matter (λ doc. IsSome (text_at h doc t)) first second query one
    (λ doc k d l. (let word = get_or (words_of query) k d in ap (frequency doc.0 t) (one_short h tolerance word (a.lists word) (b.lists word) (a.each k d l) (b.each k d l)))) a.rows_are in
    one_answer (λ doc. IsSome (text_at h doc t)) second query one other moved b.rows_are

-- ---- it is near

pub rough_is_near : RoughIsNear
rough_is_near h tolerance t query rows exact in_time rough answer = record { to = to; from = from }
  where
    often : DocId → List ℕ → ℕ
    often doc word = frequency doc.0 t (rough.lists word)

    truly : DocId → List ℕ → ℕ
    truly doc word = frequency_at h word doc t

    one-near : (doc : DocId) (word : List ℕ) → IsShortOf h tolerance word (rough.lists word) → IsNear tolerance (often doc word) (truly doc word)
    one-near doc word (whole, is, first) = subst (λ (n : ℕ). IsNear tolerance (often doc word) n) (is.same doc.0 t (omega arith) in_time) (first.near doc.0 t)

    near : (doc : DocId) → (matches query (often doc) ≡ matches query (truly doc)) × IsNear tolerance (score query (often doc)) (score query (truly doc))
    near doc = near_by_frequencies tolerance query (often doc) (truly doc) (λ k d l. one-near doc (get_or (words_of query) k d) (rough.each k d l))

    to : (row : Row) → Contains rows row → (other : Row) × Contains exact other × (other.doc ≡ row.doc) × IsNear tolerance row.score other.score
    to row c =
        let r : IsRow (λ doc. IsSome (text_at h doc t)) often query row = (rough.rows_are.each row).0 c in
        let n = near row.doc in (
          record { doc = row.doc; score = score query (truly row.doc) },
          (answer.each (record { doc = row.doc; score = score query (truly row.doc) })).1 (record { alive = r.alive; matching = sym n.0 ∙ r.matching; scored = refl }),
          refl,
          subst (λ (s : ℕ). IsNear tolerance s (score query (truly row.doc))) (sym r.scored) n.1,
        )

    from : (row : Row) → Contains exact row → (other : Row) × Contains rows other × (other.doc ≡ row.doc) × IsNear tolerance other.score row.score
    from row c =
        let r : IsRow (λ doc. IsSome (text_at h doc t)) truly query row = (answer.each row).0 c in
        let n = near row.doc in (
          record { doc = row.doc; score = score query (often row.doc) },
          (rough.rows_are.each (record { doc = row.doc; score = score query (often row.doc) })).1 (record { alive = r.alive; matching = n.0 ∙ r.matching; scored = refl }),
          refl,
          subst (λ (s : ℕ). IsNear tolerance (score query (often row.doc)) s) (sym r.scored) n.1,
        )
