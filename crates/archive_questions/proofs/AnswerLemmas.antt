-- The answer at a time over the documents that the archive in hand has alive is one over those of the history.
use Rattle.std.proofs.Common.{◌≡◌, ◌↔◌, ℕ, Bool, true, false, List, All, Contains, Option, Some, None, IsSome, is_some, refl, ap, sym, subst, ◌∙◌}
use Rattle.std.proofs.lemmas.List.Elements.{All-weaker}
use Rattle.base_types.specs.declared.ids.DocId.{DocId}
use Rattle.base_types.specs.declared.text_place.TextPlace.{TextPlace}
use Rattle.lists_versions.specs.declared.change.Change.{Change}
use Rattle.lists_versions.specs.Changes.{alive, held_at}
use Rattle.lists_versions.proofs.Mapped.{alive-mapped, held_at-mapped, is_some-mapped}
use Rattle.lists_versions.proofs.Alive.{alive-has}
use Rattle.query_lang.specs.Grammar.{Query}
use Rattle.query_lang.specs.Meaning.{matches, words_of}
use Rattle.query_eval.specs.Answers.{IsAnswer}
use Rattle.query_eval.specs.Found.{told, HasHit}
use Rattle.query_eval.specs.declared.answer.Row.{Row}
use Rattle.query_eval.specs.declared.part.Part.{Part}
use Rattle.query_eval.proofs.GivenLemmas.{only_hits_matter, same_alive}
use Rattle.model_archive.specs.Histories.{History, changes, text_at}
use Rattle.model_archive.specs.Plans.{is_another, plan_of}
use Rattle.archive_hand.specs.States.{ArchiveState, StandsFor}
use Rattle.archive_questions.specs.Answering.{HitsAreAlive}
use Rattle.archive_questions.proofs.ChosenLemmas.{unplanned_is}
use Rattle.archive_entries.specs.Texts.{nothing}
use Rattle.archive_entries.proofs.PlaceLemmas.{bare_changes}

-- an archive has a document's version at a time exactly where its history has the text
pub alive_is : (a : ArchiveState) (h : History) (doc : DocId) (t : ℕ) → StandsFor a h → is_some (held_at doc t a.changes) ≡ is_some (text_at h doc t)
alive_is a h doc t stands =
    sym (ap is_some (held_at-mapped (nothing {A = TextPlace}) doc t a.changes) ∙ is_some-mapped (nothing {A = TextPlace}) (held_at doc t a.changes))
    ∙ ap (λ (cs : List (Change (Unit {0}))). is_some (held_at doc t cs)) (bare_changes 16 h a.changes stands.changes_are)
    ∙ ap is_some (held_at-mapped (nothing {A = List ℕ}) doc t (changes h)) ∙ is_some-mapped (nothing {A = List ℕ}) (text_at h doc t)

-- over all documents alive
pub by_alive : (a : ArchiveState) (h : History) (t : ℕ) (query : Query) (often : DocId → List ℕ → ℕ) (docs : List DocId) (rows : List Row) → StandsFor a h → docs ≡ alive t a.changes
    → IsAnswer (λ doc. Contains docs doc) often query rows → IsAnswer (λ doc. IsSome (text_at h doc t)) often query rows
by_alive a h t query often docs rows stands is answer =
    let same : docs ≡ alive t (changes h) =
    is ∙ sym (alive-mapped (nothing {A = TextPlace}) t a.changes) ∙ ap (alive t) (bare_changes 16 h a.changes stands.changes_are) ∙ alive-mapped (nothing {A = List ℕ}) t (changes h) in
    let each : (doc : DocId) → Contains docs doc ↔ IsSome (text_at h doc t) =
    λ doc. let has = alive-has t (changes h) doc in (λ c. has.0 (subst (λ l. Contains l doc) same c), λ s. subst (λ l. Contains l doc) (sym same) (has.1 s)) in
    same_alive (λ doc. IsSome (text_at h doc t)) (λ doc. Contains docs doc) often query rows each answer

-- ---- over those that have a word, where others don't match, and are alive

-- no word of which no plan is in hand has a live plan
pub none_planned : (a : ArchiveState) (h : History) (words : List (List ℕ)) → StandsFor a h → All (λ word. All (λ s. is_another word s ≡ true) a.shelf.plans) words → All (λ word. plan_of h word ≡ None) words
none_planned a h words stands others =
    All-weaker (λ word. All (λ s. is_another word s ≡ true) a.shelf.plans) (λ word. plan_of h word ≡ None) (λ word each. unplanned_is a h word stands each) words others

-- where no word has a plan, all that are told of are alive
pub by_unplanned : (a : ArchiveState) (h : History) (t : ℕ) (query : Query) (parts : List Part) (rows : List Row) → StandsFor a h
    → All (λ word. All (λ s. is_another word s ≡ true) a.shelf.plans) (words_of query) → (All (λ word. plan_of h word ≡ None) (words_of query) → HitsAreAlive h (words_of query) parts t)
    → matches query (λ _. 0) ≡ false
    → IsAnswer (HasHit (words_of query) parts t) (λ doc. told (words_of query) parts t doc.0) query rows
    → IsAnswer (λ doc. IsSome (text_at h doc t)) (λ doc. told (words_of query) parts t doc.0) query rows
by_unplanned a h t query parts rows stands others alive bare answer =
    only_hits_matter (λ doc. IsSome (text_at h doc t)) (HasHit (words_of query) parts t) (λ doc. told (words_of query) parts t doc.0) query rows bare
    (alive (none_planned a h (words_of query) stands others))
    (λ doc k is within some. record { place = k; within = within; some = some })
    answer

-- where one has, those with a word that are alive
pub by_hits : (a : ArchiveState) (h : History) (t : ℕ) (query : Query) (parts : List Part) (rows : List Row) → StandsFor a h → matches query (λ _. 0) ≡ false
    → IsAnswer (λ doc. HasHit (words_of query) parts t doc × (is_some (held_at doc t a.changes) ≡ true)) (λ doc. told (words_of query) parts t doc.0) query rows
    → IsAnswer (λ doc. IsSome (text_at h doc t)) (λ doc. told (words_of query) parts t doc.0) query rows
by_hits a h t query parts rows stands bare answer =
    let alive : DocId → Bool = λ doc. is_some (held_at doc t a.changes) in
    only_hits_matter (λ doc. IsSome (text_at h doc t)) (λ doc. HasHit (words_of query) parts t doc × (alive doc ≡ true)) (λ (doc : DocId). told (words_of query) parts t doc.0) query rows bare
    (λ doc given. some_is (text_at h doc t) (sym (alive_is a h doc t stands) ∙ given.1))
    (λ doc k some within has. (record { place = k; within = within; some = has }, alive_is a h doc t stands ∙ is_there (text_at h doc t) some))
    answer
  where
    some_is : (o : Option (List ℕ)) → is_some o ≡ true → IsSome o
    some_is None e = absurd cc
    some_is (Some text) e = refl

    is_there : (o : Option (List ℕ)) → IsSome o → is_some o ≡ true
    is_there None e = absurd cc
    is_there (Some text) e = refl
