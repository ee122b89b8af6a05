-- Acts that are gathered one after another, and a batch of them that may come next.
use Rattle.std.proofs.Common.{◌≡◌, ℕ, zero, suc, ◌+◌, ◌*◌, Bool, true, not, ◌<◌, ◌≤◌, ◌^◌, List, [], ◌∷◌, ◌++◌, length, map, take, drop, get_or, sum_by, Option, Some, None, option_map, Result, Ok, Err, MatchResult, OnOk, Bor, IsUtf8, ap, refl, subst, sym, ◌∙◌, arith, append_assoc, append-nil, length-append}
use Rattle.std.specs.List.{flat_map}
use Rattle.std.proofs.lemmas.List.{drop_more, length-map, map-append, take_all, take_more}
use Rattle.std.proofs.lemmas.List.Concat.{flat_map-append}
use Rattle.std.proofs.lemmas.List.Elements.{All-nil, All-push}
use Rattle.std.proofs.lemmas.List.Sums.{sum_by-cons}
use Rattle.std.proofs.lemmas.Bool.{le-ltb}
use Rattle.std.specs.Int.{w32, w64, to_be_bytes}
use Rattle.base_commands.specs.declared.batch.BatchItem.{BatchItem}
use Rattle.base_commands.specs.declared.batch.BatchItem.TheVariants as members
use Rattle.base_commands.specs.Batches.{texts_bytes}
use Rattle.base_commands.specs.declared.text.Text.{Text}
use Rattle.base_commands.specs.declared.text.Text.TheVariants as texts
use Rattle.base_types.specs.declared.ids.DocId.{DocId}
use Rattle.base_types.specs.declared.text_place.TextPlace.{TextPlace}
use Rattle.base_types.specs.declared.time.Time.{Time}
use Rattle.base_types.specs.declared.which.Which.TheVariants.{Words}
use Rattle.base_types.specs.Limits.{limit_of}
use Rattle.lists_versions.specs.declared.change.Change.{Change}
use Rattle.lists_versions.specs.declared.refusal.VersionRefusal.{VersionRefusal}
use Rattle.lists_versions.specs.Changes.{mapped}
use Rattle.lists_versions.specs.Coming.{AreCounted}
use Rattle.lists_versions.specs.Refusals.{arrive_refusal, change_refusal, delete_refusal, refusal_by}
use Rattle.lists_versions.specs.Tests.{first_of, when}
use Rattle.plans_kinds.specs.Plans.{IsFitFor}
use Rattle.lists_index.specs.Indexes.{IsPreparedBehind}
use Rattle.lists_index.specs.Indexing.{ComesLater}
use Rattle.lists_index.specs.NewWords.{Brings}
use Rattle.lists_index.specs.Words.{words_in}
use Rattle.journal_entries.specs.Acts.{act_bytes, act_length, act_spelling, acts_bytes, alone, batch_front, batch_spelling, most_text, IsAct}
use Rattle.journal_entries.specs.declared.act.Act.{Act}
use Rattle.journal_entries.specs.declared.act.Act.TheVariants as batched
use Rattle.journal_entries.specs.declared.entry.Entry.{Entry}
use Rattle.journal_entries.specs.declared.entry.Entry.TheVariants.{Arrive, Batch}
use Rattle.model_archive.specs.declared.refusal.Refusal.{Refusal}
use Rattle.model_archive.specs.declared.refusal.Refusal.TheVariants.{BatchLine, BatchTooLong, Full, OldFormat}
use Rattle.model_archive.specs.Refusals.{refusal_of}
use Rattle.model_archive.specs.Histories.{History, acts, act_refusal, change_by, changes, end_of, entry_refusal, is_marked, long_batch, most_batch, old_format, singles}
use Rattle.model_archive.specs.Legal.{EachAllowed, IsLoadable}
use Rattle.model_archive.specs.Steps.{Cause, act_of, bad_text, batch_cause, first_other, for_all, full_journal, item_refusal, items_cause, text_held, text_refusal, too_long}
use Rattle.model_archive.proofs.BatchLemmas.{acts_short, alone_refusal, batch_allowed, batch_changes, batch_may, first_step, singles_changes}
use Rattle.model_archive.proofs.LiveLemmas.{allowed_push, come_allowed}
use Rattle.model_archive.proofs.RefusalLemmas.{arrival-refused, arrival-words, bad_text-no, too_long-no}
use Rattle.archive_entries.specs.Batches.{AreAllowed, AreGathered, AreReady, EachMayFollow, IsNextBatch}
use Rattle.archive_entries.specs.Entries.{IsChange, IsHeld}
use Rattle.archive_entries.specs.Places.{ArePlaced, pair_of, placed_act, placed_acts}
use Rattle.archive_entries.specs.Texts.{bare}
use Rattle.archive_entries.specs.declared.batching.Gathered.{Gathered}
use Rattle.archive_entries.specs.declared.batching.NextWords.{NextWords}
use Rattle.archive_entries.specs.declared.batching.PreparedBatch.{PreparedBatch}
use Rattle.archive_entries.proofs.ActLemmas.{acts_pushed, acts_split, acts_taken}
use Rattle.archive_entries.proofs.IndexLemmas.{change_of, changes_more, comes_later, words_full, words_within}
use Rattle.archive_entries.proofs.PlaceLemmas.{acts_bare, acts_push, bare_arrive_refusal, bare_changes, bare_delete_refusal, pairs_bare}

-- ---- changes that may follow

-- one of them, behind those before it
pub may_at : (before cs : List (Change TextPlace)) (i : ℕ) (c : Change TextPlace) → i < length cs → c ≡ get_or cs i c → EachMayFollow before cs → change_refusal c (before ++ take i cs) ≡ None
may_at before [] i c within is may = absurd (omega (arith, within))
may_at before (x ∷ cs) zero c within is may =
    let P : Change TextPlace → Type 0 = λ y. change_refusal y (before ++ []) ≡ None in
    let Q : List (Change TextPlace) → Type 0 = λ l. change_refusal x l ≡ None in
    subst P (sym is) (subst Q (sym (append-nil before)) may.0)
may_at before (x ∷ cs) (suc i) c within is may =
    let Q : List (Change TextPlace) → Type 0 = λ l. change_refusal c l ≡ None in
    subst Q (append_assoc before (x ∷ []) (take i cs)) (may_at (before ++ x ∷ []) cs i c (omega (arith, within)) is may.1)

-- one more
may_push : (before cs : List (Change TextPlace)) (c : Change TextPlace) → EachMayFollow before cs → change_refusal c (before ++ cs) ≡ None → EachMayFollow before (cs ++ c ∷ [])
may_push before [] c may next = (let Q : List (Change TextPlace) → Type 0 = λ l. change_refusal c l ≡ None in subst Q (append-nil before) next, tt)
may_push before (x ∷ cs) c may next = (
  may.0,
  may_push (before ++ x ∷ []) cs c may.1 (let Q : List (Change TextPlace) → Type 0 = λ l. change_refusal c l ≡ None in subst Q (sym (append_assoc before (x ∷ []) cs)) next),
)

pub changes_taken : (cs : List (Change TextPlace)) (i : ℕ) (c : Change TextPlace) → i < length cs → c ≡ get_or cs i c → take (i + 1) cs ≡ take i cs ++ c ∷ []
changes_taken cs i c within is = take_more cs i c within ∙ ap (λ (x : Change TextPlace). take i cs ++ x ∷ []) (sym is)

-- ---- the refusals of an act behind a history and acts

-- the changes of a history and of acts behind it
changes_behind : (h : History) (batch : List Act) → changes (h ++ singles batch) ≡ changes h ++ map change_by batch
changes_behind h batch = flat_map-append acts h (singles batch) ∙ ap (λ (l : List (Change (List ℕ))). changes h ++ l) (singles_changes batch)

-- without what they hold they are those that have places
bare_behind : (h : History) (batch : List Act) (before coming : List (Change TextPlace)) (at : ℕ) → ArePlaced 16 h before → map (mapped pair_of) coming ≡ placed_acts at batch
    → map bare (before ++ coming) ≡ map bare (changes (h ++ singles batch))
bare_behind h batch before coming at placed is =
    map-append bare before coming
    ∙ (λ i. bare_changes 16 h before placed i ++ (sym (pairs_bare coming) ∙ ap (λ (l : List (Change (ℕ × ℕ))). map bare l) is ∙ acts_bare at batch) i)
    ∙ sym (map-append bare (changes h) (map change_by batch)) ∙ ap (λ (l : List (Change (List ℕ))). map bare l) (sym (changes_behind h batch))

pub arrival_behind : (h : History) (batch : List Act) (before coming : List (Change TextPlace)) (at : ℕ) (doc : DocId) (t : Time) → ArePlaced 16 h before → map (mapped pair_of) coming ≡ placed_acts at batch
    → arrive_refusal doc t (before ++ coming) ≡ arrive_refusal doc t (changes (h ++ singles batch))
arrival_behind h batch before coming at doc t placed is = bare_arrive_refusal doc t (h ++ singles batch) (before ++ coming) (bare_behind h batch before coming at placed is)

pub deletion_behind : (h : History) (batch : List Act) (before coming : List (Change TextPlace)) (at : ℕ) (doc : DocId) (t : Time) → ArePlaced 16 h before → map (mapped pair_of) coming ≡ placed_acts at batch
    → act_refusal (h ++ singles batch) (batched.Delete doc t) ≡ option_map refusal_of (delete_refusal doc t (before ++ coming))
deletion_behind h batch before coming at doc t placed is =
    ap (option_map refusal_of) (sym (bare_delete_refusal doc t (h ++ singles batch) (before ++ coming) (bare_behind h batch before coming at placed is)))

-- a deletion that the directory refuses
pub deletion_declined : (refusal : Option Refusal) (o : Option VersionRefusal) (v : VersionRefusal) (why : Refusal) → refusal ≡ option_map refusal_of o → o ≡ Some v → why ≡ refusal_of v → refusal ≡ Some why
deletion_declined refusal o v why behind refused is = behind ∙ ap (option_map refusal_of) refused ∙ ap (λ (w : Refusal). Some w) (sym is)

-- an arrival that the directory refuses
pub arrival_declined : (g : History) (doc : DocId) (t : Time) (text : List ℕ) (cs : List (Change TextPlace)) (v : VersionRefusal) (why : Refusal) → arrive_refusal doc t cs ≡ arrive_refusal doc t (changes g)
    → arrive_refusal doc t cs ≡ Some v → why ≡ refusal_of v → act_refusal g (batched.Arrive doc t text) ≡ Some why
arrival_declined g doc t text cs v why same refused is = arrival-refused g doc t text v (sym same ∙ refused) ∙ ap (λ (w : Refusal). Some w) (sym is)

-- the words of a history, acts behind it and one arrival more
words_behind : (h : History) (batch : List Act) (doc : DocId) (t : Time) (text : List ℕ)
    → words_in (changes h ++ (map change_by batch ++ record { doc = doc; at = t; held = Some text } ∷ [])) ≡ words_in (changes (h ++ singles batch) ++ record { doc = doc; at = t; held = Some text } ∷ [])
words_behind h batch doc t text =
    let c : Change (List ℕ) = record { doc = doc; at = t; held = Some text } in
    ap words_in (sym (append_assoc (changes h) (map change_by batch) (c ∷ [])) ∙ ap (λ (l : List (Change (List ℕ))). l ++ c ∷ []) (sym (changes_behind h batch)))

-- an arrival with which there would be too many words
pub arrival_wordy : (h : History) (batch : List Act) (doc : DocId) (t : Time) (text : List ℕ) (cs : List (Change TextPlace)) → arrive_refusal doc t cs ≡ arrive_refusal doc t (changes (h ++ singles batch))
    → arrive_refusal doc t cs ≡ None → 2 ^ 20 < length (words_in (changes h ++ (map change_by batch ++ record { doc = doc; at = t; held = Some text } ∷ [])))
    → act_refusal (h ++ singles batch) (batched.Arrive doc t text) ≡ Some (Full Words (limit_of Words))
arrival_wordy h batch doc t text cs same allowed over =
    let g = h ++ singles batch in
    arrival-words g doc t text (sym same ∙ allowed)
    ∙ ap (λ (o : Option Refusal). first_of (o ∷ [])) (words_full g (Arrive doc t text) tt (omega (arith, over, ap length (words_behind h batch doc t text))))

-- and one that is allowed
pub arrival_allowed : (h : History) (batch : List Act) (doc : DocId) (t : Time) (text : List ℕ) (cs : List (Change TextPlace)) → arrive_refusal doc t cs ≡ arrive_refusal doc t (changes (h ++ singles batch))
    → arrive_refusal doc t cs ≡ None → length (words_in (changes h ++ (map change_by batch ++ record { doc = doc; at = t; held = Some text } ∷ []))) ≤ 2 ^ 20
    → act_refusal (h ++ singles batch) (batched.Arrive doc t text) ≡ None
arrival_allowed h batch doc t text cs same allowed within =
    let g = h ++ singles batch in
    arrival-words g doc t text (sym same ∙ allowed)
    ∙ ap (λ (o : Option Refusal). first_of (o ∷ [])) (words_within g (Arrive doc t text) tt (omega (arith, within, ap length (words_behind h batch doc t text))))

-- ---- the text of an item

content_held : (bytes : List ℕ) (r : Result (Bor (List ℕ)) Refusal) → MatchResult r (λ text. (length bytes ≤ most_text) × IsUtf8 bytes × (text.now ≡ bytes)) (λ why. first_of (too_long bytes ∷ bad_text bytes ∷ []) ≡ Some why)
    → MatchResult r (λ t. (t.now ≡ bytes) × (length t.now ≤ most_text) × (text_refusal (texts.Bytes bytes) ≡ None)) (λ why. text_refusal (texts.Bytes bytes) ≡ Some why)
content_held bytes (Ok text) is =
    let one = too_long-no bytes is.0 in
    let two = bad_text-no bytes is.1 in
    (is.2, omega (arith, is.0, ap length is.2), rw (one, two) refl)
content_held bytes (Err why) is = is

pub content_is : (text : Text) (bytes : List ℕ) (r : Result (Bor (List ℕ)) Refusal) → text ≡ texts.Bytes bytes → MatchResult r (λ t. (length bytes ≤ most_text) × IsUtf8 bytes × (t.now ≡ bytes)) (λ why. first_of (too_long bytes ∷ bad_text bytes ∷ []) ≡ Some why)
    → MatchResult r (λ t. (t.now ≡ text_held text) × (length t.now ≤ most_text) × (text_refusal text ≡ None)) (λ why. text_refusal text ≡ Some why)
content_is text bytes r same is =
    let P : Text → Type 0 = λ x. MatchResult r (λ t. (t.now ≡ text_held x) × (length t.now ≤ most_text) × (text_refusal x ≡ None)) (λ why. text_refusal x ≡ Some why) in
    subst P (sym same) (content_held bytes r is)

-- the last test
last_test : {W : Type 0} (o : Option W) → first_of (o ∷ []) ≡ o
last_test None = refl
last_test (Some why) = refl

-- why an arrival among items is refused, whose text is one
pub arrival_refusal_is : (g : History) (doc : DocId) (t : Time) (text : Text) (bytes : List ℕ) (o : Option Refusal) → text_refusal text ≡ None → bytes ≡ text_held text → act_refusal g (batched.Arrive doc t bytes) ≡ o
    → item_refusal g (members.Arrive doc t text) ≡ o
arrival_refusal_is g doc t text bytes o good same is =
    first_step (text_refusal text) (act_refusal g (batched.Arrive doc t (text_held text)) ∷ []) good
    ∙ last_test (act_refusal g (batched.Arrive doc t (text_held text))) ∙ ap (λ (l : List ℕ). act_refusal g (batched.Arrive doc t l)) (sym same) ∙ is

-- ---- no act yet

pub none_gathered : (before : List (Change TextPlace)) (end count : ℕ) (new : Gathered) → AreCounted before new.coming → new.coming.changes.items ≡ [] → new.body.items ≡ batch_front count → AreGathered before end count [] new
none_gathered before end count new counted coming body = record {
  counted = counted;
  may = subst (EachMayFollow before) (sym coming) tt;
  placed = ap (λ (l : List (Change TextPlace)). map (mapped pair_of) l) coming;
  ranges = All-nil IsAct;
  spelled = body ∙ sym (append-nil (batch_front count));
}

-- ---- an act more

-- where the length of the next act lies, by the bytes so far
front_length : (count : ℕ) → length (batch_front count) ≡ 5
front_length count = omega arith

pub next_at : (end count : ℕ) (batch : List Act) (body : List ℕ) → body ≡ batch_front count ++ acts_bytes batch → end + 4 + length body ≡ end + 9 + length (acts_bytes batch)
next_at end count batch body spelled = omega (arith, ap length spelled, length-append (batch_front count) (acts_bytes batch), front_length count)

-- the place of an arrival's text
pub arrival_place : (end count : ℕ) (batch : List Act) (body : List ℕ) (doc : DocId) (t : Time) (text : List ℕ) (change : Change TextPlace) (at : ℕ) → body ≡ batch_front count ++ acts_bytes batch → at ≡ end + 4 + length body + 17
    → change.doc ≡ doc → change.at ≡ t → IsHeld at (Some (length text)) change.held → mapped pair_of change ≡ placed_act (end + 9 + length (acts_bytes batch)) (batched.Arrive doc t text)
arrival_place end count batch body doc t text change at spelled here one two held =
    let there : at ≡ end + 9 + length (acts_bytes batch) + 17 = omega (arith, here, next_at end count batch body spelled) in
    (λ i. record { doc = one i; at = two i; held = (held ∙ ap (λ (n : ℕ). Some (n, length text)) there) i })

-- its refusal, and its change with the text
pub arrival_by : (doc : DocId) (t : Time) (change : Change TextPlace) (at bytes : ℕ) (cs : List (Change TextPlace)) → change.doc ≡ doc → change.at ≡ t → IsHeld at (Some bytes) change.held → change_refusal change cs ≡ arrive_refusal doc t cs
arrival_by doc t change at bytes cs one two held = go change.held held ∙ (λ i. arrive_refusal (one i) (two i) cs)
  where
    go : (o : Option TextPlace) → IsHeld at (Some bytes) o → refusal_by o change.doc change.at cs ≡ arrive_refusal change.doc change.at cs
    go None is = absurd cc
    go (Some place) is = refl

pub gathered_more : (before : List (Change TextPlace)) (end count : ℕ) (batch : List Act) (old new : Gathered) (act : Act) (change : Change TextPlace) → AreGathered before end count batch old
    → change_refusal change (before ++ old.coming.changes.items) ≡ None → mapped pair_of change ≡ placed_act (end + 9 + length (acts_bytes batch)) act
    → IsAct act → AreCounted before new.coming → new.coming.changes.items ≡ old.coming.changes.items ++ change ∷ []
    → new.body.items ≡ old.body.items ++ act_bytes act → AreGathered before end count (batch ++ act ∷ []) new
gathered_more before end count batch old new act change was allowed place ranges counted coming body = record {
  counted = counted;
  may = subst (EachMayFollow before) (sym coming) (may_push before old.coming.changes.items change was.may allowed);
  placed = ap (λ (l : List (Change TextPlace)). map (mapped pair_of) l) coming ∙ map-append (mapped pair_of) old.coming.changes.items (change ∷ [])
      ∙ (λ i. was.placed i ++ place i ∷ []) ∙ sym (acts_push (end + 9) batch act);
  ranges = All-push IsAct batch act was.ranges ranges;
  spelled = body ∙ ap (λ (l : List ℕ). l ++ act_bytes act) was.spelled ∙ append_assoc (batch_front count) (acts_bytes batch) (act_bytes act) ∙ ap (λ (l : List ℕ). batch_front count ++ l) (sym (acts_pushed batch act));
}

-- what an index takes of one change more
ready_push : (before cs : List (Change (List ℕ))) (c : Change (List ℕ)) (ready : List NextWords) (next : NextWords) → AreReady before cs ready → next.at ≡ c.at → IsPreparedBehind (words_in (before ++ cs)) c.doc c.held next.words
    → AreReady before (cs ++ c ∷ []) (ready ++ next ∷ [])
ready_push before [] c [] next was at words =
    (at, (let Q : List (Change (List ℕ)) → Type 0 = λ l. IsPreparedBehind (words_in l) c.doc c.held next.words in subst Q (append-nil before) words), tt)
ready_push before [] c (y ∷ ready) next was at words = absurd was
ready_push before (x ∷ cs) c [] next was at words = absurd was
ready_push before (x ∷ cs) c (y ∷ ready) next was at words = (
  was.0,
  was.1,
  ready_push (before ++ x ∷ []) cs c ready next was.2 at
      (let Q : List (Change (List ℕ)) → Type 0 = λ l. IsPreparedBehind (words_in l) c.doc c.held next.words in subst Q (sym (append_assoc before (x ∷ []) cs)) words),
)

pub allowed_more : (h : History) (batch : List Act) (old new : Gathered) (act : Act) (next : NextWords) → AreAllowed h batch old → act_refusal (h ++ singles batch) act ≡ None → Brings new.words (changes h) (map change_by batch ++ change_by act ∷ [])
    → next.at ≡ (change_by act).at → IsPreparedBehind (words_in (changes h ++ map change_by batch)) (change_by act).doc (change_by act).held next.words → new.ready.items ≡ old.ready.items ++ next ∷ []
    → AreAllowed h (batch ++ act ∷ []) new
allowed_more h batch old new act next was none brings at words kept = record {
  allowed = subst (λ (g : History). EachAllowed h g) (sym (map-append alone batch (act ∷ []))) (allowed_push h (singles batch) (alone act) was.allowed (alone_refusal (h ++ singles batch) act ∙ none));
  brings = ap (λ (l : List (Change (List ℕ))). words_in (changes h ++ l)) (map-append change_by batch (act ∷ [])) ∙ brings;
  ready =
      let R : List (Change (List ℕ)) → List NextWords → Type 0 = AreReady (changes h) in
      subst (λ (l : List (Change (List ℕ))). R l new.ready.items) (sym (map-append change_by batch (act ∷ [])))
      (subst (R (map change_by batch ++ change_by act ∷ [])) (sym kept) (ready_push (changes h) (map change_by batch) (change_by act) old.ready.items next was.ready at words));
}

-- what is so where a call succeeds
pub ok_moved : {T E P Q : Type 0} (r : Result T E) → (P → Q) → OnOk r P → OnOk r Q
ok_moved (Ok value) f holds = f holds
ok_moved (Err error) f holds = holds

-- ---- items, one after another

-- the cause of an item's refusal
abbrev in_item : ℕ → Refusal → Cause
in_item index why = record { why = why; index = Some index }

-- the acts of items with an item more
pub acts_of_more : (items : List BatchItem) (i : ℕ) (item : BatchItem) → i < length items → item ≡ get_or items i item → flat_map act_of (take (i + 1) items) ≡ flat_map act_of (take i items) ++ act_of item
acts_of_more items i item within is =
    ap (flat_map act_of) (take_more items i item within ∙ ap (λ (x : BatchItem). take i items ++ x ∷ []) (sym is)) ∙ flat_map-append act_of (take i items) (item ∷ []) ∙ ap (λ (l : List Act). flat_map act_of (take i items) ++ l) (append-nil (act_of item))

behind_items : (h : History) (items : List BatchItem) (i : ℕ) (item : BatchItem) → i < length items → item ≡ get_or items i item
    → (h ++ singles (flat_map act_of (take i items))) ++ singles (act_of item) ≡ h ++ singles (flat_map act_of (take (i + 1) items))
behind_items h items i item within is =
    let front = flat_map act_of (take i items) in
    append_assoc h (singles front) (singles (act_of item)) ∙ ap (λ (g : History). h ++ g) (sym (map-append alone front (act_of item)) ∙ ap singles (sym (acts_of_more items i item within is)))

items_left : (items : List BatchItem) (i : ℕ) (item : BatchItem) → i < length items → item ≡ get_or items i item → drop i items ≡ item ∷ drop (i + 1) items
items_left items i item within is = drop_more items i item within ∙ ap (λ (x : BatchItem). x ∷ drop (i + 1) items) (sym is)

-- an item that isn't refused, and one that is
pub items_step : (h : History) (items : List BatchItem) (i : ℕ) (item : BatchItem) → i < length items → item ≡ get_or items i item → item_refusal (h ++ singles (flat_map act_of (take i items))) item ≡ None
    → items_cause (h ++ singles (flat_map act_of (take i items))) (i + 1) (drop i items) ≡ items_cause (h ++ singles (flat_map act_of (take (i + 1) items))) (i + 1 + 1) (drop (i + 1) items)
items_step h items i item within is none =
    let g = h ++ singles (flat_map act_of (take i items)) in
    let rest = items_cause (g ++ singles (act_of item)) (i + 1 + 1) (drop (i + 1) items) in
    ap (items_cause g (i + 1)) (items_left items i item within is)
    ∙ first_step (option_map (in_item (i + 1)) (item_refusal g item)) (rest ∷ []) (ap (option_map (in_item (i + 1))) none) ∙ last_test rest
    ∙ ap (λ (k : History). items_cause k (i + 1 + 1) (drop (i + 1) items)) (behind_items h items i item within is)

pub items_stop : (h : History) (items : List BatchItem) (i : ℕ) (item : BatchItem) (why : Refusal) → i < length items → item ≡ get_or items i item → item_refusal (h ++ singles (flat_map act_of (take i items))) item ≡ Some why
    → items_cause (h ++ singles (flat_map act_of (take i items))) (i + 1) (drop i items) ≡ Some (record { why = why; index = Some (i + 1) })
items_stop h items i item why within is refused =
    let g = h ++ singles (flat_map act_of (take i items)) in
    let rest = items_cause (g ++ singles (act_of item)) (i + 1 + 1) (drop (i + 1) items) in
    ap (items_cause g (i + 1)) (items_left items i item within is) ∙ ap (λ (o : Option Refusal). first_of (option_map (in_item (i + 1)) o ∷ rest ∷ [])) refused

-- where the mark is there, the texts are short and each item is an arrival or a deletion, the items tell
pub cause_of_items : (h : History) (items : List BatchItem) → is_marked h ≡ true → texts_bytes items ≤ most_batch → first_other 1 items ≡ None
    → batch_cause h items ≡ first_of (items_cause h 1 items ∷ for_all (full_journal h (Batch (flat_map act_of items))) ∷ [])
cause_of_items h items marked short none =
    let full = for_all (full_journal h (Batch (flat_map act_of items))) in
    let rest = items_cause h 1 items ∷ full ∷ [] in
    let other = for_all (option_map (λ index. BatchLine index) (first_other 1 items)) in
    let long = for_all (long_batch (texts_bytes items)) in
    first_step (for_all (old_format h)) (long ∷ other ∷ rest) (ap (λ (b : Bool). for_all (when (not b) OldFormat)) marked)
    ∙ first_step long (other ∷ rest) (ap (λ (b : Bool). for_all (when b (BatchTooLong most_batch))) (le-ltb most_batch (texts_bytes items) short))
    ∙ first_step other rest (ap (λ (o : Option ℕ). for_all (option_map (λ index. BatchLine index) o)) none)

-- each item is an act then
pub all_acts : (items : List BatchItem) (at : ℕ) → first_other at items ≡ None → length (flat_map act_of items) ≡ length items
all_acts [] at none = refl
all_acts (members.Arrive doc t text ∷ items) at none = omega (arith, all_acts items (at + 1) none)
all_acts (members.Delete doc t ∷ items) at none = omega (arith, all_acts items (at + 1) none)
all_acts (members.Other ∷ items) at none = absurd cc

-- ---- a batch that may come next

-- how many bytes it has
acts_total : (batch : List Act) → length (acts_bytes batch) ≡ 17 * length batch + sum_by act_length batch
acts_total [] = refl
acts_total (a ∷ batch) = omega (arith, acts_total batch, length-append (act_bytes a) (acts_bytes batch), one a, sum_by-cons act_length a batch)
  where
    one : (x : Act) → length (act_bytes x) ≡ 17 + act_length x
    one (batched.Arrive doc t text) = omega (
      arith,
      length-append (to_be_bytes w32 (length (act_spelling (batched.Arrive doc t text)))) (act_spelling (batched.Arrive doc t text)),
      length-append (to_be_bytes w32 doc.0) (to_be_bytes w64 t.seconds ++ text),
      length-append (to_be_bytes w64 t.seconds) text,
    )
    one (batched.Delete doc t) = omega (arith, length-append (to_be_bytes w32 (length (act_spelling (batched.Delete doc t)))) (act_spelling (batched.Delete doc t)), length-append (to_be_bytes w32 doc.0) (to_be_bytes w64 t.seconds))

pub body_fits : (items : List BatchItem) (count : ℕ) (body : List ℕ) → length items ≤ 1000 → texts_bytes items ≤ 16777216 → first_other 1 items ≡ None → body ≡ batch_front count ++ acts_bytes (flat_map act_of items) → length body < 2 ^ 32
body_fits items count body few short none spelled =
    let batch = flat_map act_of items in
    omega (arith, few, short, all_acts items 1 none, acts_short items, acts_total batch, ap length spelled, length-append (batch_front count) (acts_bytes batch), front_length count)

pub batch_prepared : (h : History) (before : List (Change TextPlace)) (end count : ℕ) (items : List BatchItem) (all : Gathered) → 1 ≤ length items → length items ≤ 1000 → texts_bytes items ≤ 16777216 → is_marked h ≡ true → end ≡ end_of h
    → count ≡ length items → first_other 1 items ≡ None → AreGathered before end count (flat_map act_of items) all → AreAllowed h (flat_map act_of items) all → items_cause h 1 items ≡ None
    → (p : PreparedBatch) → p.changes.items ≡ all.coming.changes.items → p.words.items ≡ all.ready.items → p.body.items ≡ all.body.items
    → IsNextBatch h (flat_map act_of items) p × (batch_cause h items ≡ first_of (for_all (full_journal h (Batch (flat_map act_of items))) ∷ []))
unfolding batch_spelling
batch_prepared h before end count items all some few short marked at counted none gathered allowed good p changes_are words_are body_is =
    let batch = flat_map act_of items in
    let fits : sum_by act_length batch ≤ most_batch = omega (arith, short, acts_short items) in
    let long = all_acts items 1 none in (
      record {
        legal = record {
          ranges = record { sized = (omega (arith, some, long), omega (arith, few, long)); each = gathered.ranges };
          allowed = batch_may h batch marked (le-ltb most_batch (sum_by act_length batch) fits) allowed.allowed;
          planned = tt;
        };
        ready = subst (AreReady (changes h) (map change_by batch)) (sym words_are) allowed.ready;
        placed = ap (λ (l : List (Change TextPlace)). map (mapped pair_of) l) changes_are ∙ gathered.placed ∙ ap (λ (n : ℕ). placed_acts (n + 9) batch) at;
        spelled = body_is ∙ gathered.spelled ∙ ap (λ (n : ℕ). batch_front n ++ acts_bytes batch) (counted ∙ sym long);
      },
      cause_of_items h items marked short none ∙ first_step (items_cause h 1 items) (for_all (full_journal h (Batch batch)) ∷ []) good,
    )

-- ---- what an index takes of it

-- an entry in the middle of entries that nothing refuses
allowed_at : (before front rest : History) (e : Entry) → EachAllowed before (front ++ e ∷ rest) → EachAllowed before front × (entry_refusal (before ++ front) e ≡ None)
allowed_at before [] rest e allowed = (tt, let P : History → Type 0 = λ g. entry_refusal g e ≡ None in subst P (sym (append-nil before)) allowed.0)
allowed_at before (x ∷ front) rest e allowed =
    let more = allowed_at (before ++ x ∷ []) front rest e allowed.1 in
    ((allowed.0, more.0), let P : History → Type 0 = λ g. entry_refusal g e ≡ None in subst P (append_assoc before (x ∷ []) front) more.1)

allowed_joined : (before h more : History) → EachAllowed before h → EachAllowed (before ++ h) more → EachAllowed before (h ++ more)
allowed_joined before [] more allowed next = let P : History → Type 0 = λ g. EachAllowed g more in subst P (append-nil before) next
allowed_joined before (x ∷ h) more allowed next =
    let P : History → Type 0 = λ g. EachAllowed g more in
    (allowed.0, allowed_joined (before ++ x ∷ []) h more allowed.1 (subst P (sym (append_assoc before (x ∷ []) h)) next))

-- the act of a batch of which an index takes this
record IsActAt (before : List (Change (List ℕ))) (batch : List Act) (i : ℕ) (a : NextWords) : Type 0 where
  act : Act
  within : i < length batch
  is : act ≡ get_or batch i act
  at : a.at ≡ (change_by act).at
  words : IsPreparedBehind (words_in (before ++ map change_by (take i batch))) (change_by act).doc (change_by act).held a.words

act_found : (before : List (Change (List ℕ))) (ready : List NextWords) (batch : List Act) (i : ℕ) (a : NextWords) → i < length ready → a ≡ get_or ready i a → AreReady before (map change_by batch) ready → IsActAt before batch i a
act_found before [] batch i a within is all = absurd (omega (arith, within))
act_found before (x ∷ ready) [] i a within is all = absurd all
act_found before (x ∷ ready) (y ∷ batch) zero a within is all =
    let c = change_by y in
    let N : NextWords → Type 0 = λ n. IsPreparedBehind (words_in (before ++ [])) c.doc c.held n.words in
    let Q : List (Change (List ℕ)) → Type 0 = λ l. IsPreparedBehind (words_in l) c.doc c.held x.words in
    record {
      act = y;
      within = omega arith;
      is = refl;
      at = ap (λ (n : NextWords). n.at) is ∙ all.0;
      words = subst N (sym is) (subst Q (sym (append-nil before)) all.1);
    }
act_found before (x ∷ ready) (y ∷ batch) (suc i) a within is all =
    let rest = act_found (before ++ change_by y ∷ []) ready batch i a (omega (arith, within)) is all.2 in
    let c = change_by rest.act in
    let Q : List (Change (List ℕ)) → Type 0 = λ l. IsPreparedBehind (words_in l) c.doc c.held a.words in
    record { act = rest.act; within = omega (arith, rest.within); is = rest.is; at = rest.at; words = subst Q (append_assoc before (change_by y ∷ []) (map change_by (take i batch))) rest.words }

ready_length : (before cs : List (Change (List ℕ))) (ready : List NextWords) → AreReady before cs ready → length ready ≡ length cs
ready_length before [] [] all = refl
ready_length before [] (x ∷ ready) all = absurd all
ready_length before (c ∷ cs) [] all = absurd all
ready_length before (c ∷ cs) (x ∷ ready) all = let rest = ready_length (before ++ c ∷ []) cs ready all.2 in omega (arith, rest)

alone_change : (act : Act) → IsChange (alone act) × (change_of (alone act) ≡ change_by act)
alone_change (batched.Arrive doc t text) = (tt, refl)
alone_change (batched.Delete doc t) = (tt, refl)

pub act_taken_in : (P : List (Change (List ℕ)) → Type 0) (h : History) (batch : List Act) (ready : List NextWords) (i : ℕ) (a : NextWords) → i < length ready → a ≡ get_or ready i a → IsLoadable h → entry_refusal h (Batch batch) ≡ None
    → AreReady (changes h) (map change_by batch) ready
    → ((doc : DocId) (held : Option (List ℕ)) → IsPreparedBehind (words_in (changes (h ++ singles (take i batch)))) doc held a.words → ComesLater (changes (h ++ singles (take i batch))) (record { doc = doc; at = a.at; held = held })
    → P (changes (h ++ singles (take i batch)) ++ record { doc = doc; at = a.at; held = held } ∷ []))
    → P (changes (h ++ singles (take (i + 1) batch)))
act_taken_in P h batch ready i a within is loads may all take_in =
    let found = act_found (changes h) ready batch i a within is all in
    let front = singles (take i batch) in
    let g = h ++ front in
    let e = alone found.act in
    let split : singles batch ≡ front ++ e ∷ singles (drop (i + 1) batch) = ap singles (acts_split batch i found.act found.within found.is) ∙ map-append alone (take i batch) (found.act ∷ drop (i + 1) batch) in
    let at = allowed_at h front (singles (drop (i + 1) batch)) e (subst (λ (k : History). EachAllowed h k) split (batch_allowed h batch may)) in
    let change = alone_change found.act in
    let c = change_by found.act in
    let same_change : record { doc = c.doc; at = a.at; held = c.held } ≡ change_of e = (λ j. record { doc = c.doc; at = found.at j; held = c.held }) ∙ sym change.1 in
    let later = comes_later g e change.0 (allowed_joined [] h front (come_allowed IsFitFor [] h loads) at.0) at.1 in
    let L : Change (List ℕ) → Type 0 = λ x. ComesLater (changes g) x in
    let Q : List (Change (List ℕ)) → Type 0 = λ l. IsPreparedBehind (words_in l) c.doc c.held a.words in
    let taken = take_in c.doc c.held (subst Q (sym (changes_behind h (take i batch))) found.words) (subst L (sym same_change) later) in
    let more : changes (h ++ singles (take (i + 1) batch)) ≡ changes g ++ record { doc = c.doc; at = a.at; held = c.held } ∷ [] =
    ap changes (ap (λ (k : History). h ++ k) (ap singles (acts_taken batch i found.act found.within found.is) ∙ map-append alone (take i batch) (found.act ∷ [])) ∙ sym (append_assoc h front (e ∷ [])))
    ∙ changes_more g e change.0 ∙ ap (λ (x : Change (List ℕ)). changes g ++ x ∷ []) (sym same_change) in
    subst P (sym more) taken

pub all_taken_in : (P : List (Change (List ℕ)) → Type 0) (h : History) (batch : List Act) (ready : List NextWords) (i : ℕ) → length ready ≤ i → AreReady (changes h) (map change_by batch) ready → P (changes (h ++ singles (take i batch))) → P (changes (h ++ Batch batch ∷ []))
all_taken_in P h batch ready i past all taken =
    let long : length batch ≤ i = omega (arith, past, ready_length (changes h) (map change_by batch) ready all, length-map batch change_by) in
    subst P (ap (λ (l : List Act). changes (h ++ singles l)) (take_all i batch long) ∙ sym (batch_changes h batch)) taken
