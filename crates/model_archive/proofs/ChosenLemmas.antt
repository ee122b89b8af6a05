-- What is chosen from pages that hold the live plans tells what the history's texts do, and so the answer that is made from it is the history's.
use Rattle.std.proofs.Common.{◌≡◌, ℕ, zero, suc, ◌+◌, ◌^◌, ◌<◌, ◌≤◌, Bool, true, false, cond, ◌&&◌, if◌then◌else◌, bytes_eq, List, [], ◌∷◌, ◌++◌, length, get_or, All, Option, Some, None, Ok, Err, IsSome, is_some, inl, inr, refl, ap, sym, subst, ◌∙◌, arith}
use Rattle.std.specs.Cmp.Lexicographic.{bytes_decides}
use Rattle.std.proofs.lemmas.Bool.{cases_lt}
use Rattle.std.proofs.lemmas.List.Elements.{All-head, All-tail}
use Rattle.std.proofs.lemmas.List.Sums.{sum_by-cons}
use Rattle.base_types.specs.declared.ids.DocId.{DocId}
use Rattle.base_types.specs.declared.posting.Posting.{Posting}
use Rattle.text_words.proofs.CountLemmas.{itself}
use Rattle.lists_postings.specs.Lists.{frequency}
use Rattle.lists_postings.proofs.Clipping.{one_list_of, outside}
use Rattle.lists_postings.proofs.Merged.{append-none, append-some}
use Rattle.lists_postings.proofs.StretchWindows.{stretches-same}
use Rattle.query_lang.specs.Grammar.{Query}
use Rattle.query_lang.specs.Meaning.{matches, score, words_of}
use Rattle.query_lang.proofs.Deciding.{agreeing, matches-same, score-same}
use Rattle.query_eval.specs.Found.{told, read_of}
use Rattle.query_eval.specs.Spans.{row_kind, scored_at}
use Rattle.query_eval.specs.declared.part.Part.{Part}
use Rattle.query_eval.proofs.GivenLemmas.{only_words_matter}
use Rattle.journal_entries.specs.declared.plan.PlanEntry.{PlanEntry}
use Rattle.pages_sublists.specs.Segments.{seconds, EachSegment, HoldsSublist, AreCutsOf}
use Rattle.pages_sublists.specs.Gathering.{ListOrDamage, stored_size}
use Rattle.pages_sublists.specs.Laws.{IsGathered}
use Rattle.pages_sublists.proofs.HeldLemmas.{held_gathered}
use Rattle.model_archive.specs.Histories.{History, text_at}
use Rattle.model_archive.specs.Answers.{frequency_at}
use Rattle.model_archive.specs.Bounds.{MadeAtStands, MadeOverStands, HeldIsUndamaged, UnplannedHitsAreAlive}
use Rattle.model_archive.specs.Chosen.{IsTailFor, IsReadOf, IsReadFor, GathersOf, IsChosenOf, AreChosen}
use Rattle.model_archive.specs.Holding.{HoldsPlan, HoldsPlans}
use Rattle.model_archive.specs.Legal.{IsLoadable}
use Rattle.model_archive.specs.Planning.{IsListUpTo}
use Rattle.model_archive.specs.Plans.{plan_of}
use Rattle.model_archive.proofs.SheetLemmas.{part_tells}
use Rattle.model_archive.proofs.BoundLemmas.{of_word, word_has, word_planned, are_cuts}
use Rattle.model_archive.proofs.OutcomeLemmas.{has_word}

-- ---- a word's list

-- the list says of each time in [a, b) how often a document has the word
abbrev pub Tells : History → List ℕ → ℕ → ℕ → List Posting → Type 0
Tells h word a b list = (doc : DocId) (t : ℕ) → a ≤ t → t < b → frequency doc.0 t list ≡ frequency_at h word doc t

-- a live plan of a word whose places hold its sublists
pub record IsHeld (h : History) (pages : List ℕ) (word : List ℕ) (plan : PlanEntry) : Type 0 where
  pub list : List Posting
  pub list_is : IsListUpTo h word plan.horizon.seconds list
  pub cuts : AreCutsOf list (seconds plan.cuts) plan.horizon.seconds
  pub each : EachSegment (HoldsSublist plan.layout list pages) (seconds plan.cuts) plan.horizon.seconds plan.places

pub held_for : (h : History) (pages : List ℕ) (word : List ℕ) (plan : PlanEntry) → IsLoadable h → HoldsPlans h pages → plan_of h word ≡ Some plan → IsHeld h pages word plan
held_for h pages word plan loads held_all live =
    let horizon = plan.horizon.seconds in
    let f : ℕ → ℕ → ℕ = λ doc t. frequency_at h word (record { 0 = doc }) t in
    let held = word_has (λ p. HoldsPlan h pages p) h word plan held_all.each live in
    let L : List ℕ → Type 0 = λ w. IsListUpTo h w horizon held.list in
    let H : List Posting → Type 0 = λ l. EachSegment (HoldsSublist plan.layout l pages) (seconds plan.cuts) horizon plan.places in
    let planned = word_planned h word plan loads live in
    let same = one_list_of f 0 horizon held.list planned.list (subst L (of_word h word plan live) held.list_is) planned.list_is in
    record {
      list = planned.list;
      list_is = planned.list_is;
      cuts = are_cuts plan.kind planned.list plan.fraction plan.cuts plan.horizon planned.list_is.ordered planned.some planned.list_is.inside planned.fit;
      each = subst H same held.each;
    }

pub held_gives : (h : History) (pages : List ℕ) (word : List ℕ) (plan : PlanEntry) (a b : ℕ) (gathered : ListOrDamage) → (held : IsHeld h pages word plan) → GathersOf pages plan a b gathered
    → IsGathered held.list (seconds plan.cuts) a b plan.horizon.seconds gathered
held_gives h pages word plan a b gathered held gathers = held_gathered plan.layout held.list pages (seconds plan.cuts) plan.horizon.seconds plan.places a b gathered held.cuts held.each gathers

pub held_undamaged : HeldIsUndamaged
held_undamaged h pages word a b damage loads held_all damaged =
    let held = held_for h pages word damaged.plan loads held_all damaged.live in
    let gathered = held_gives h pages word damaged.plan a b (Err damage) held damaged.told in
    let is = gathered.is in
    cc

-- the tail says nothing of times before the horizon
tail_bare : (h : History) (word : List ℕ) (b horizon d t : ℕ) (tail : List Posting) → t < horizon → IsTailFor h word b horizon tail → frequency d t tail ≡ 0
tail_bare h word b horizon d t tail early (inl (past, list)) = outside horizon (2 ^ 40) tail list.inside d t (inl early)
tail_bare h word b horizon d t tail early (inr (within, none)) = ap (frequency d t) none

-- and tells the others of a window
tail_tells : (h : History) (word : List ℕ) (b horizon : ℕ) (doc : DocId) (t : ℕ) (tail : List Posting) → b ≤ 2 ^ 40 → horizon ≤ t → t < b → IsTailFor h word b horizon tail → frequency doc.0 t tail ≡ frequency_at h word doc t
tail_tells h word b horizon doc t tail now late to (inl (past, list)) = list.same doc.0 t late (omega (arith, to, now))
tail_tells h word b horizon doc t tail now late to (inr (within, none)) = absurd (omega (arith, late, to, within))

-- what is stored tells the times before the horizon, and the tail the others
joined_tell : (h : History) (word : List ℕ) (a b horizon : ℕ) (sealed stored tail : List Posting) → b ≤ 2 ^ 40 → IsListUpTo h word horizon sealed → IsTailFor h word b horizon tail
    → ((d t : ℕ) → a ≤ t → t < b → frequency d t stored ≡ frequency d t sealed) → Tells h word a b (stored ++ tail)
joined_tell h word a b horizon sealed stored tail now up_to is tells doc t from to = elim (cases_lt t horizon) [
  | inl early ↦
      let told = tells doc.0 t from to ∙ up_to.same doc.0 t (omega arith) early in elim (cases_lt 0 (frequency doc.0 t stored)) [
        | inl some ↦ append-some doc.0 t stored tail some ∙ told
        | inr none ↦ (let bare : frequency doc.0 t stored ≡ 0 = omega (arith, none) in append-none doc.0 t stored tail bare ∙ tail_bare h word b horizon doc.0 t tail early is ∙ sym bare ∙ told)
      ]
  | inr late ↦ append-none doc.0 t stored tail (tells doc.0 t from to ∙ outside 0 horizon sealed up_to.inside doc.0 t (inr late)) ∙ tail_tells h word b horizon doc t tail now late to is
]

-- the list that is chosen of a word tells it, and as much is read as should be
pub word_chosen : (h : History) (pages : List ℕ) (word : List ℕ) (a b : ℕ) (list : List Posting) (read : ℕ) → b ≤ 2 ^ 40 → IsLoadable h → HoldsPlans h pages
    → IsChosenOf h pages word (plan_of h word) a b list read → Tells h word a b list × IsReadOf h word (plan_of h word) a b read
word_chosen h pages word a b list read now loads held_all = go (plan_of h word) refl
  where
    go : (o : Option PlanEntry) → plan_of h word ≡ o → IsChosenOf h pages word o a b list read → Tells h word a b list × IsReadOf h word o a b read
    go None live (whole, all, is, size) = (
      λ doc t from to. ap (frequency doc.0 t) is ∙ part_tells a b doc.0 t whole from to ∙ all.same doc.0 t (omega arith) (omega (arith, to, now)),
      (whole, all, size),
    )
    go (Some plan) live (stored, tail, n, gathers, is_tail, is, size) =
        let held = held_for h pages word plan loads held_all live in
        let gathered = held_gives h pages word plan a b (Ok (stored, n)) held gathers in
        let outcome = gathered.is in
        let size_is : ℕ = stored_size a b plan.horizon.seconds held.list (seconds plan.cuts) in
        let one : List Posting × ℕ = (stored, n) in
        let other : List Posting × ℕ = (gathered.stored, size_is) in
        let both : one ≡ other = cc in
        let same : gathered.stored ≡ stored = sym (ap (λ (x : List Posting × ℕ). x.0) both) in
        let sizes : n ≡ size_is = ap (λ (x : List Posting × ℕ). x.1) both in
        let S : List Posting → Type 0 = λ l. (d t : ℕ) → a ≤ t → t < b → frequency d t l ≡ frequency d t held.list in (
          subst (Tells h word a b) (sym is) (joined_tell h word a b plan.horizon.seconds held.list stored tail now held.list_is is_tail (subst S same gathered.tells)),
          (held.list, tail, held.list_is, is_tail, omega (arith, size, sizes)),
        )

-- ---- the words of a query

module _ (h : History) (a b : ℕ) where
  -- each part tells its word
  abbrev AllTell : List (List ℕ) → List Part → Type 0
  AllTell [] [] = Unit {0}
  AllTell (word ∷ words) (part ∷ parts) = Tells h word a b part.list.items × AllTell words parts
  AllTell [] (part ∷ parts) = ⊥
  AllTell (word ∷ words) [] = ⊥

  -- so the parts tell how often a document has each of the words
  told_by : (words : List (List ℕ)) (parts : List Part) (doc : DocId) (t k : ℕ) (d : List ℕ) → a ≤ t → t < b → AllTell words parts → k < length words
      → told words parts t doc.0 (get_or words k d) ≡ frequency_at h (get_or words k d) doc t
  told_by [] parts doc t k d from to tell within = absurd (omega (arith, within))
  told_by (word ∷ words) [] doc t k d from to tell within = absurd tell
  told_by (word ∷ words) (part ∷ parts) doc t zero d from to tell within =
      ap (λ c. cond c (frequency doc.0 t part.list.items) (told words parts t doc.0 word)) (itself word) ∙ tell.0 doc t from to
  told_by (word ∷ words) (part ∷ parts) doc t (suc k) d from to tell within =
      go (bytes_eq word (get_or words k d)) refl (told_by words parts doc t k d from to tell.1 (omega (arith, within)))
    where
      go : (c : Bool) → bytes_eq word (get_or words k d) ≡ c → told words parts t doc.0 (get_or words k d) ≡ frequency_at h (get_or words k d) doc t
          → cond c (frequency doc.0 t part.list.items) (told words parts t doc.0 (get_or words k d)) ≡ frequency_at h (get_or words k d) doc t
      go true e rest = tell.0 doc t from to ∙ ap (λ (w : List ℕ). frequency_at h w doc t) ((bytes_decides word (get_or words k d)).0 e)
      go false e rest = rest

  -- the whole lists of words without plans do, whatever is in Pages
  unplanned_tell : (pages : List ℕ) (words : List (List ℕ)) (parts : List Part) → b ≤ 2 ^ 40 → All (λ word. plan_of h word ≡ None) words → AreChosen h pages a b words parts → AllTell words parts
  unplanned_tell pages [] [] now none are = tt
  unplanned_tell pages [] (part ∷ parts) now none are = absurd are
  unplanned_tell pages (word ∷ words) [] now none are = absurd are
  unplanned_tell pages (word ∷ words) (part ∷ parts) now none are =
      let N : List ℕ → Type 0 = λ w. plan_of h w ≡ None in
      let C : Option PlanEntry → Type 0 = λ o. IsChosenOf h pages word o a b part.list.items part.read in
      let (whole, all, is, size) = subst C (All-head N word words none) are.0 in (
        λ doc t from to. ap (frequency doc.0 t) is ∙ part_tells a b doc.0 t whole from to ∙ all.same doc.0 t (omega arith) (omega (arith, to, now)),
        unplanned_tell pages words parts now (All-tail N word words none) are.1,
      )

pub unplanned_alive : UnplannedHitsAreAlive
unplanned_alive h pages a b t words parts doc now none are from to hit =
    let word = get_or words hit.place [] in
    let tell = unplanned_tell h a b pages words parts now none are in
    has_word word (text_at h doc t) (omega (arith, hit.some, told_by h a b words parts doc t hit.place [] from to tell hit.within))

module _ (h : History) (pages : List ℕ) (a b : ℕ) (now : b ≤ 2 ^ 40) (loads : IsLoadable h) (held_all : HoldsPlans h pages) where
  -- what is chosen from pages that hold the live plans does
  held_tell : (words : List (List ℕ)) (parts : List Part) → AreChosen h pages a b words parts → AllTell h a b words parts
  held_tell [] [] are = tt
  held_tell [] (part ∷ parts) are = absurd are
  held_tell (word ∷ words) [] are = absurd are
  held_tell (word ∷ words) (part ∷ parts) are = ((word_chosen h pages word a b part.list.items part.read now loads held_all are.0).0, held_tell words parts are.1)

  chosen_told : (words : List (List ℕ)) (parts : List Part) (doc : DocId) (t k : ℕ) (d : List ℕ) → a ≤ t → t < b → AreChosen h pages a b words parts → k < length words
      → told words parts t doc.0 (get_or words k d) ≡ frequency_at h (get_or words k d) doc t
  chosen_told words parts doc t k d from to are within = told_by h a b words parts doc t k d from to (held_tell words parts are) within

  pub chosen_read : (words : List (List ℕ)) (parts : List Part) → AreChosen h pages a b words parts → IsReadFor h a b words (read_of parts)
  chosen_read [] [] are = refl
  chosen_read [] (part ∷ parts) are = absurd are
  chosen_read (word ∷ words) [] are = absurd are
  chosen_read (word ∷ words) (part ∷ parts) are = (
    part.read,
    read_of parts,
    (word_chosen h pages word a b part.list.items part.read now loads held_all are.0).1,
    chosen_read words parts are.1,
    sum_by-cons (λ (p : Part). p.read) part parts,
  )

  chosen_scored : (query : Query) (parts : List Part) → AreChosen h pages a b (words_of query) parts → (d t : ℕ) → a ≤ t → t < b
      → scored_at (λ doc t. is_some (text_at h doc t)) (λ doc t. told (words_of query) parts t doc.0) query d t
      ≡ scored_at (λ doc t. is_some (text_at h doc t)) (λ doc t word. frequency_at h word doc t) query d t
  chosen_scored query parts are d t from to =
      let doc : DocId = record { 0 = d } in
      let f = told (words_of query) parts t doc.0 in
      let g = λ (word : List ℕ). frequency_at h word doc t in
      let each = λ (k : ℕ) (w : List ℕ) (within : k < length (words_of query)). chosen_told (words_of query) parts doc t k w from to are within in
      ap (λ (b : Bool). if (is_some (text_at h doc t) && b) then Some (score query f) else None) (matches-same f g query (agreeing f g query each))
      ∙ ap (λ (n : ℕ). if (is_some (text_at h doc t) && matches query g) then Some n else None) (score-same f g query each)

-- ---- the answers

pub made_at : MadeAtStands
made_at h pages t query rows read loads held_all now made =
    let late : t + 1 ≤ 2 ^ 40 = omega (arith, now) in
    let R : ℕ → Type 0 = λ n. IsReadFor h t (t + 1) (words_of query) n in (
      only_words_matter (λ doc. IsSome (text_at h doc t)) (λ doc. told (words_of query) made.parts t doc.0) (λ doc word. frequency_at h word doc t) query rows
          (λ doc k d within. chosen_told h pages t (t + 1) late loads held_all (words_of query) made.parts doc t k d (omega arith) (omega arith) made.are_chosen within) made.rows_are,
      subst R (sym made.read_is) (chosen_read h pages t (t + 1) late loads held_all (words_of query) made.parts made.are_chosen),
    )

pub made_over : MadeOverStands
made_over h pages a b query rows read loads held_all now made =
    let R : ℕ → Type 0 = λ n. IsReadFor h a b (words_of query) n in (
      stretches-same row_kind
          (scored_at (λ doc t. is_some (text_at h doc t)) (λ doc t. told (words_of query) made.parts t doc.0) query)
          (scored_at (λ doc t. is_some (text_at h doc t)) (λ doc t word. frequency_at h word doc t) query)
          a b (chosen_scored h pages a b now loads held_all query made.parts made.are_chosen) rows made.rows_are,
      subst R (sym made.read_is) (chosen_read h pages a b now loads held_all (words_of query) made.parts made.are_chosen),
    )
