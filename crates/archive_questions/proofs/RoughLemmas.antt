-- What is told approximately, and what is made of it.
use Rattle.std.proofs.Common.{◌≡◌, ℕ, zero, suc, ◌+◌, ◌<◌, ◌≤◌, ◌^◌, Bool, true, false, cond, bytes_eq, List, [], ◌∷◌, ◌++◌, length, get_or, All, Contains, Option, Some, None, inl, inr, sym, subst, ◌∙◌, arith}
use Rattle.std.specs.List.{AllZip}
use Rattle.std.specs.List.Sorted.{IsPermutation}
use Rattle.std.proofs.lemmas.Bool.{cases_lt}
use Rattle.std.proofs.lemmas.List.Elements.{AllZip-push}
use Rattle.std.proofs.lemmas.List.Sorted.{Contains-permutation, IsPermutation-sym}
use Rattle.std.proofs.lemmas.List.Sums.{sum_by-append}
use Rattle.base_types.specs.declared.posting.Posting.{Posting}
use Rattle.base_types.specs.declared.tolerance.Tolerance.{Tolerance}
use Rattle.text_words.specs.Terms.{one_term}
use Rattle.lists_postings.specs.Lists.{IsList, ComesBefore, SameRows, frequency}
use Rattle.lists_postings.proofs.Frequencies.{is_row, found, frequency-here, frequency-of}
use Rattle.lists_approx.specs.Approximations.{IsNear, IsLongestFirst}
use Rattle.lists_approx.proofs.Alike.{longest_first_alike}
use Rattle.lists_approx.proofs.Near.{near_none, near_self}
use Rattle.query_eval.specs.Found.{told, read_of}
use Rattle.query_eval.specs.declared.part.Part.{Part}
use Rattle.model_archive.specs.Answers.{IsWordList}
use Rattle.model_archive.specs.Chosen.{AreChosen}
use Rattle.model_archive.specs.Histories.{History}
use Rattle.model_archive.specs.Planning.{OfKnown, OfTerm}
use Rattle.model_archive.specs.Plans.{plan_of}
use Rattle.model_archive.specs.Rough.{IsShortPart}
use Rattle.model_archive.specs.Steps.{Reply, Refused, Approximated, Approximates}
use Rattle.model_archive.proofs.ChosenLemmas.{unplanned_alive}
use Rattle.archive_questions.specs.Answering.{HitsAreAlive}

-- ---- postings in another order

-- a posting that holds a time gives its document a frequency then, in whatever order postings stand
given : (d t : ℕ) (p : Posting) (list : List Posting) → Contains list p → p.doc.0 ≡ d → p.span.from ≤ t → t < p.span.to → 0 < frequency d t list
given d t p [] c doc from to = absurd (omega (arith, c.1))
given d t p (q ∷ list) (zero, m, e) doc from to =
    let here = frequency-here d t p list doc from to in
    subst (λ (w : Posting). 0 < frequency d t (w ∷ list)) (sym e) (omega (arith, here, p.counted))
given d t p (q ∷ list) (suc k, m, e) doc from to = go (is_row d t q) (given d t p list (k, omega (arith, m), e) doc from to)
  where
    go : (b : Bool) → 0 < frequency d t list → 0 < cond b q.tf (frequency d t list)
    go true rest = omega (arith, q.counted)
    go false rest = rest

-- where a list has postings in another order, they have the same rows
rows_permuted : (a b : List Posting) → IsPermutation a b → IsList b → SameRows b a
rows_permuted a b moved ordered d t = elim (cases_lt 0 (frequency d t a)) [
  | inl some ↦
      let (p, in_a, doc, from, to, is) = found d t a some in
      frequency-of d t p b ordered (Contains-permutation a b p moved in_a) doc from to ∙ sym is
  | inr none ↦ elim (cases_lt 0 (frequency d t b)) [
    | inr bare ↦ omega (arith, none, bare)
    | inl some ↦
        let (p, in_b, doc, from, to, is) = found d t b some in
        let there = given d t p a (Contains-permutation b a p (IsPermutation-sym a b moved) in_b) doc from to in
        absurd (omega (arith, there, none))
  ]
]

pub sorted_short : (tolerance : Tolerance) (postings list short : List Posting) → IsPermutation postings list → IsList list → IsLongestFirst tolerance list short → IsLongestFirst tolerance postings short
sorted_short tolerance postings list short moved ordered first = longest_first_alike tolerance list postings short (rows_permuted postings list moved ordered) first

-- ---- parts, one by one

pub short_more : (tolerance : Tolerance) (parts shorts : List Part) (part short : Part) → AllZip (IsShortPart tolerance) parts shorts → IsShortPart tolerance part short → AllZip (IsShortPart tolerance) (parts ++ part ∷ []) (shorts ++ short ∷ [])
short_more tolerance parts shorts part short are is = AllZip-push (IsShortPart tolerance) parts shorts part short are is

pub read_more : (parts : List Part) (part : Part) → read_of (parts ++ part ∷ []) ≡ read_of parts + part.read
read_more parts part = let s : read_of (parts ++ part ∷ []) ≡ read_of parts + (0 + part.read) = sum_by-append (λ (p : Part). p.read) parts (part ∷ []) in omega (arith, s)

-- how often a document has a word by the approximations is near what the parts tell
told_near : (tolerance : Tolerance) (words : List (List ℕ)) (parts shorts : List Part) (t d : ℕ) (word : List ℕ) → AllZip (IsShortPart tolerance) parts shorts → IsNear tolerance (told words shorts t d word) (told words parts t d word)
told_near tolerance [] parts shorts t d word are = near_self tolerance 0
told_near tolerance (w ∷ words) [] [] t d word are = near_self tolerance 0
told_near tolerance (w ∷ words) [] (short ∷ shorts) t d word are = absurd are
told_near tolerance (w ∷ words) (part ∷ parts) [] t d word are = absurd are
told_near tolerance (w ∷ words) (part ∷ parts) (short ∷ shorts) t d word are = go (bytes_eq w word) (told_near tolerance words parts shorts t d word are.1)
  where
    go : (b : Bool) → IsNear tolerance (told words shorts t d word) (told words parts t d word)
        → IsNear tolerance (cond b (frequency d t short.list.items) (told words shorts t d word)) (cond b (frequency d t part.list.items) (told words parts t d word))
    go true rest = are.0.near d t
    go false rest = rest

-- so where no word has a plan, the documents that have one by the approximations are alive
pub short_alive : (h : History) (pages : List ℕ) (tolerance : Tolerance) (t : ℕ) (words : List (List ℕ)) (parts shorts : List Part) → t < 2 ^ 40 → AreChosen h pages 0 (2 ^ 40) words parts → AllZip (IsShortPart tolerance) parts shorts
    → All (λ word. plan_of h word ≡ None) words → HitsAreAlive h words shorts t
short_alive h pages tolerance t words parts shorts now chosen are none doc hit =
    let word = get_or words hit.place [] in
    let near = told_near tolerance words parts shorts t doc.0 word are in
    unplanned_alive h pages 0 (2 ^ 40) t words parts doc (omega arith) none chosen (omega arith) now (record { place = hit.place; within = hit.within; some = some word near hit.some })
  where
    some : (word : List ℕ) → IsNear tolerance (told words shorts t doc.0 word) (told words parts t doc.0 word) → 0 < told words shorts t doc.0 word → 0 < told words parts t doc.0 word
    some word near there = elim (cases_lt 0 (told words parts t doc.0 word)) [
      | inl one ↦ one
      | inr bare ↦ (let none = near_none tolerance (told words shorts t doc.0 word) (told words parts t doc.0 word) near (omega (arith, bare)) in absurd (omega (arith, none, there)))
    ]

-- ---- what is told of a phrase

pub term_tells : (h : History) (phrase word : List ℕ) (tolerance : Tolerance) (reply : Reply) → one_term phrase ≡ Some word
    → OfKnown h word (λ why. reply ≡ Refused why) ((whole short : List Posting) × IsWordList h word whole × IsLongestFirst tolerance whole short × (reply ≡ Approximated short (length whole)))
    → Approximates h phrase tolerance reply
term_tells h phrase word tolerance reply term of =
    subst (λ (key : Option (List ℕ)). OfTerm h key (λ why. reply ≡ Refused why) (λ word. (whole short : List Posting) × IsWordList h word whole × IsLongestFirst tolerance whole short × (reply ≡ Approximated short (length whole)))) (sym term) of

-- ---- neighbours in a list

-- each posting may stand before the next one
pub neighbours : (list : List Posting) → ((k : ℕ) (d : Posting) → suc k < length list → ComesBefore (get_or list k d) (get_or list (suc k) d)) → IsList list
neighbours [] each = tt
neighbours (p ∷ []) each = tt
neighbours (p ∷ q ∷ list) each = (each 0 p (omega arith), neighbours (q ∷ list) (λ k d l. each (suc k) d (omega (arith, l))))
