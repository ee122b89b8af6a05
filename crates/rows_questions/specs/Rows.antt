-- Worked rows of what is asked, which hold by computation: what the definitions say of a small history.
use Rattle.std.specs.Prelude.{◌≡◌, ℕ, ◌<◌, ◌≤◌, ◌==◌, ◌&&◌, ◌^◌, nat_le, nat_lt, unwrap_or, option_map, Option, Result, Ok, Err, Bool, true, false, cond, List, [], ◌∷◌, ◌++◌, Some, None, IsSome, is_some, if◌then◌else◌, Contains, codes, refl}
use Rattle.std.specs.Str.{chars, is_utf8}
use Rattle.std.specs.Fmt.{digits}
use lib.Utf8.{encode}
use Rattle.std.proofs.Common.{arith, lit<, lit≤, ap, sym, subst, inl, inr, ◌∙◌}
use Rattle.std.proofs.lemmas.Bool.{eqb-true, le-leb, leb-true, lt-ltb}
use Rattle.std.proofs.lemmas.List.Elements.{All-nil, All-cons}
use Rattle.ucd_category.proofs.Computing.{ucd_category}
use Rattle.unicode_normalization.proofs.Computing.{unicode_normalization}
use Rattle.caseless.proofs.Computing.{caseless}
use Rattle.base_types.specs.declared.ids.DocId.{DocId}
use Rattle.base_types.specs.declared.time.Span.{Span}
use Rattle.base_types.specs.declared.time.Time.{Time}
use Rattle.journal_entries.specs.declared.entry.Entry.TheVariants as entries
use Rattle.query_lang.specs.Grammar.{Query, Has, Both, Lacks, IsRead}
use Rattle.query_lang.specs.Machine.{read}
use Rattle.query_lang.specs.Tokens.{term_of}
use Rattle.query_lang.proofs.ReadingLaws.{is_read}
use Rattle.model_archive.specs.declared.refusal.Refusal.TheVariants as refusals
use Rattle.base_types.specs.declared.posting.Posting.{Posting}
use Rattle.text_words.specs.Terms.{occurrences}
use Rattle.lists_versions.specs.Changes.{valid_at}
use Rattle.lists_postings.specs.Lists.{frequency}
use Rattle.query_eval.specs.Answers.{IsRow}
use Rattle.query_eval.specs.Spans.{row_kind, scored_at}
use Rattle.query_eval.specs.declared.answer.Row.{Row}
use Rattle.query_eval.specs.declared.spans.SpanRow.{SpanRow}
use Rattle.lists_postings.proofs.Elements.{here, here-or-later, none}
use Rattle.query_eval.proofs.Ranks.{same-row}
use Rattle.query_lang.specs.Meaning.{matches, score}
use Rattle.lists_postings.specs.Stretches.{IsLongest}
use Rattle.model_archive.specs.Histories.{History, text_at}
use Rattle.model_archive.specs.Answers.{frequency_at, IsAnswerAt, IsSpanAnswerAt, IsWordList}
use Rattle.base_commands.specs.declared.command.Command.TheVariants.{Arrive, Between, Find, Show}
use Rattle.base_commands.specs.declared.command.Item.TheVariants.{Command}
use Rattle.base_commands.specs.declared.text.Text.TheVariants.{Bytes}
use Rattle.model_archive.specs.Steps.{Accepted, Refused, Found, Spanned, Approximated, Neared, Version, Step}
use Rattle.model_archive.specs.Replies.{reply_text}
use Rattle.model_archive.specs.Worlds.{World, world_of}

abbrev doc : ℕ → DocId
doc n = record { 0 = n }

abbrev nine : Time
nine = record { seconds = 9; before_now = lit< tt }

abbrev ten : Time
ten = record { seconds = 10; before_now = lit< tt }

-- a word by itself
abbrev one : List ℕ → Query
one word = Has (record { key = word; weight = 1 })

abbrev one_arrival : History
one_arrival = entries.Arrive (doc 7) ten (codes "red a") ∷ []

abbrev arrived : World
arrived = world_of one_arrival

-- the first arrival is accepted
accepted : Step (world_of []) (Command (Arrive (doc 7) ten (Bytes (codes "red a")))) (Accepted 1) arrived
unfolding ucd_category caseless unicode_normalization chars encode is_utf8
accepted = ((refl, refl), refl, refl)

-- a word in any case, and one that is no operator
words : (read term_of (codes "RED") ≡ Ok (one (codes "red"))) × (read term_of (codes "And") ≡ Ok (one (codes "and")))
unfolding ucd_category caseless unicode_normalization chars encode is_utf8
words = (refl, refl)

no_words : (read term_of (codes "and") ≡ Err 0) × (read term_of (codes "not") ≡ Err 3) × (read term_of (codes "()") ≡ Err 1)
no_words = (refl, refl, refl)

-- one word, with a mark behind it; two words; and one that isn't one
marks : (read term_of (codes "red.") ≡ Ok (one (codes "red"))) × (read term_of (codes "red not blue") ≡ Ok (Both (one (codes "red")) (Lacks (one (codes "blue"))))) × (read term_of (codes "e-mail") ≡ Err 0)
unfolding ucd_category caseless unicode_normalization chars encode is_utf8
marks = (refl, refl, refl)

-- the word is there from the version's time on
frequencies : (frequency_at one_arrival (codes "red") (doc 7) 9 ≡ 0) × (frequency_at one_arrival (codes "red") (doc 7) 10 ≡ 1) × (frequency_at one_arrival (codes "moon") (doc 7) 10 ≡ 0)
unfolding ucd_category caseless unicode_normalization chars encode
frequencies = (refl, refl, refl)

-- what is no query is refused where that shows, and a text is shown while it is alive
red_or : read term_of (codes "red or") ≡ Err 6
unfolding ucd_category caseless unicode_normalization chars encode is_utf8
red_or = refl

refused : Step arrived (Command (Find ten (codes "red or"))) (Refused (refusals.BadQuery 6)) arrived
refused =
    let R : Result Query ℕ → Type 0 = λ r. IsRead term_of (codes "red or") r in
    let read = subst R red_or (is_read term_of (codes "red or")) in
    ((refl, (Err 6, read, refl)), (Err 6, read, refl), refl)

shown : Step arrived (Command (Show (doc 7) ten)) (Version (Some (codes "red a"))) arrived × Step arrived (Command (Show (doc 7) nine)) (Version None) arrived
shown = (((refl, refl), refl, refl), ((refl, refl), refl, refl))

-- the texts of the replies
texts : (reply_text (Found (record { doc = doc 7; score = 1 } ∷ []) 1) ≡ codes "hit 7 1" ++ 10 ∷ codes "end 1 read 1" ++ 10 ∷ [])
    × (reply_text (Version (Some (codes "red a"))) ≡ codes "text 5" ++ 10 ∷ codes "red a" ++ 10 ∷ []) × (reply_text (Version None) ≡ codes "none" ++ 10 ∷ [])
unfolding digits
texts = (refl, refl, refl)

-- a whole step: one document has the word once, in one posting
abbrev hit : Row
hit = record { doc = doc 7; score = 1 }

abbrev posting : Posting
posting = record { doc = doc 7; span = record { from = 10; to = 2 ^ 40; ordered = lit< tt; in_time = lit≤ tt }; tf = 1; numbered = lit< tt; counted = lit≤ tt; bounded = lit< tt }

abbrev red : List ℕ
red = codes "red"

-- who has the word is document 7
only_seven : (d t : ℕ) → IsSome (text_at one_arrival (doc d) t) → d ≡ 7
only_seven d t alive = go (7 == d) refl alive
  where
    go : (b : Bool) → 7 == d ≡ b → IsSome (valid_at t (cond b (record { doc = doc 7; at = ten; held = Some (codes "red a") } ∷ []) [])) → d ≡ 7
    go true e alive = sym (eqb-true 7 d e)
    go false e alive = absurd cc

-- the row stands for document 7 alone
one_row : IsAnswerAt one_arrival 10 (one red) (hit ∷ [])
unfolding ucd_category caseless unicode_normalization chars encode
one_row = record { ranked = tt; each = λ row. (has row, is row) }
  where
    has : (row : Row) → Contains (hit ∷ []) row → IsRow (λ d. IsSome (text_at one_arrival d 10)) (λ d word. frequency_at one_arrival word d 10) (one red) row
    has row there = elim (here-or-later hit row [] there) [
      | inl same ↦ (let P : Row → Type 0 = λ r. IsRow (λ d. IsSome (text_at one_arrival d 10)) (λ d word. frequency_at one_arrival word d 10) (one red) r in
          subst P same (record { alive = refl; matching = refl; scored = refl }))
      | inr later ↦ absurd (none row later)
    ]

    is : (row : Row) → IsRow (λ d. IsSome (text_at one_arrival d 10)) (λ d word. frequency_at one_arrival word d 10) (one red) row → Contains (hit ∷ []) row
    is row has =
        let seven : row.doc.0 ≡ 7 = only_seven row.doc.0 10 has.alive in
        let F : ℕ → Type 0 = λ d. row.score ≡ frequency_at one_arrival red (doc d) 10 in
        let scored : row.score ≡ frequency_at one_arrival red row.doc 10 = omega (arith, has.scored) in
        let score : row.score ≡ 1 = subst F seven scored in
        let C : Row → Type 0 = λ r. Contains (hit ∷ []) r in
        subst C (same-row hit row (sym seven) (sym score)) (here hit [])

-- and the word's list is one posting
frequency_is : (d t : ℕ) → t < 2 ^ 40 → frequency d t (posting ∷ []) ≡ frequency_at one_arrival red (doc d) t
unfolding ucd_category caseless unicode_normalization chars encode
frequency_is d t before = on_doc (7 == d)
  where
    on_time : (a e : Bool) → e ≡ true → cond (a && e) 1 0 ≡ unwrap_or (option_map (occurrences red) (cond a (Some (codes "red a")) None)) 0
    on_time true true is = refl
    on_time true false is = absurd cc
    on_time false e is = refl

    on_doc : (b : Bool) → cond (b && (nat_le 10 t && nat_lt t (2 ^ 40))) 1 0
        ≡ unwrap_or (option_map (occurrences red) (valid_at t (cond b (record { doc = doc 7; at = ten; held = Some (codes "red a") } ∷ []) []))) 0
    on_doc false = refl
    on_doc true = on_time (nat_le 10 t) (nat_lt t (2 ^ 40)) (lt-ltb t (2 ^ 40) before)

one_posting : IsWordList one_arrival red (posting ∷ [])
one_posting = record {
  ordered = tt;
  coalesced = tt;
  inside = All-cons (λ p. (0 ≤ p.span.from) × (p.span.to ≤ 2 ^ 40)) posting [] (omega arith, omega arith) (All-nil (λ p. (0 ≤ p.span.from) × (p.span.to ≤ 2 ^ 40)));
  same = λ d t some before. frequency_is d t before;
}

is_red : read term_of (codes "red") ≡ Ok (one red)
unfolding ucd_category caseless unicode_normalization chars encode is_utf8
is_red = refl

-- what the archive is then: the word and the time are noted
abbrev asked_for_red : World
asked_for_red = record { history = one_arrival; asked = (record { word = red; at = ten }) ∷ []; job = None }

found : Step arrived (Command (Find ten (codes "red"))) (Found (hit ∷ []) 1) asked_for_red
found =
    let R : Result Query ℕ → Type 0 = λ r. IsRead term_of (codes "red") r in
    let read = subst R is_red (is_read term_of (codes "red")) in
    ((refl, (Ok (one red), read, (hit ∷ [], 1, one_row, (1, 0, (posting ∷ [], one_posting, refl), refl, refl), refl))), (Ok (one red), read, refl), refl)

-- the same over a window that ends while the version is alive: it has the word from its time on
abbrev window : Span
window = record { from = 5; to = 20; ordered = lit< tt; in_time = lit≤ tt }

abbrev span_row : SpanRow
span_row = record { doc = doc 7; span = record { from = 10; to = 20; ordered = lit< tt; in_time = lit≤ tt }; score = 1 }

span_texts : reply_text (Spanned (span_row ∷ []) 1) ≡ codes "span 7 10 20 1" ++ 10 ∷ codes "end 1 read 1" ++ 10 ∷ []
unfolding digits
span_texts = refl

-- the same row by approximations, and the word's whole list within any tolerance
near_texts : reply_text (Neared (hit ∷ []) 1) ≡ codes "near 7 1" ++ 10 ∷ codes "end 1 read 1" ++ 10 ∷ []
unfolding digits
near_texts = refl

approx_texts : reply_text (Approximated (posting ∷ []) 1) ≡ codes "approx 7 10 1099511627776 1" ++ 10 ∷ codes "end 1 of 1" ++ 10 ∷ []
unfolding digits
approx_texts = refl

abbrev scored : ℕ → ℕ → Option ℕ
scored d t = scored_at (λ x s. is_some (text_at one_arrival x s)) (λ x s word. frequency_at one_arrival word x s) (one red) d t

-- the score of a text alive, or nothing
abbrev score_of : Option (List ℕ) → Option ℕ
score_of held =
    let often = λ (word : List ℕ). unwrap_or (option_map (occurrences word) held) 0 in
    if (is_some held && matches (one red) often) then Some (score (one red) often) else None

score_is : (d t : ℕ) → scored d t ≡ cond (7 == d && nat_le 10 t) (Some 1) None
unfolding ucd_category caseless unicode_normalization chars encode
score_is d t = on_doc (7 == d)
  where
    on_time : (b : Bool) → score_of (cond b (Some (codes "red a")) None) ≡ cond b (Some 1) None
    on_time true = refl
    on_time false = refl

    on_doc : (b : Bool) → score_of (valid_at t (cond b (record { doc = doc 7; at = ten; held = Some (codes "red a") } ∷ []) [])) ≡ cond (b && nat_le 10 t) (Some 1) None
    on_doc true = on_time (nat_le 10 t)
    on_doc false = refl

-- where there is a score it is document 7's, from 10 on
where_scored : (d t v : ℕ) → scored d t ≡ Some v → (d ≡ 7) × (10 ≤ t)
where_scored d t v is = go (7 == d) refl (nat_le 10 t) refl (sym (score_is d t) ∙ is)
  where
    go : (a : Bool) → 7 == d ≡ a → (b : Bool) → nat_le 10 t ≡ b → cond (a && b) (Some 1) None ≡ Some v → (d ≡ 7) × (10 ≤ t)
    go true e true f s = (sym (eqb-true 7 d e), leb-true 10 t f)
    go true e false f s = absurd cc
    go false e b f s = absurd cc

one_span : IsSpanAnswerAt one_arrival 5 20 (one red) (span_row ∷ [])
one_span = record { ordered = tt; longest = λ r there. longest r there; covered = λ d t v from to is. covered d t v to is }
  where
    L : SpanRow → Type 0
    L r = IsLongest row_kind scored 5 20 r

    row_longest : L span_row
    row_longest = record {
      begins = omega arith;
      ends = omega arith;
      same = λ t from to. score_is 7 t ∙ ap (λ b. cond b (Some 1) None) (le-leb 10 t from);
      new = inr (λ is. absurd (omega (arith, (where_scored 7 9 1 is).1)));
      over = inl refl;
    }

    longest : (r : SpanRow) → Contains (span_row ∷ []) r → L r
    longest r there = elim (here-or-later span_row r [] there) [ inl same ↦ subst L same row_longest | inr later ↦ absurd (none r later) ]

    covered : (d t v : ℕ) → t < 20 → scored d t ≡ Some v → (r : SpanRow) × Contains (span_row ∷ []) r × (r.doc.0 ≡ d) × (r.span.from ≤ t) × (t < r.span.to)
    covered d t v to is = let at = where_scored d t v is in (span_row, here span_row [], sym at.0, at.1, to)

spanned : Step arrived (Command (Between window (codes "red"))) (Spanned (span_row ∷ []) 1) arrived
spanned =
    let R : Result Query ℕ → Type 0 = λ r. IsRead term_of (codes "red") r in
    ((refl, (Ok (one red), subst R is_red (is_read term_of (codes "red")), (span_row ∷ [], 1, one_span, (1, 0, (posting ∷ [], one_posting, refl), refl, refl), refl))), refl, refl)
