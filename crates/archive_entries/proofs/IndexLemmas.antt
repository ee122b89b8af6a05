-- The changes of a legal history: each change of a document comes later than the one before it; and the index of their texts.
use Rattle.std.proofs.Common.{◌≡◌, ℕ, ◌-◌, ◌<◌, ◌≤◌, ◌==◌, Bool, true, false, nat_lt, inl, inr, append_assoc, option_and_then, List, [], ◌∷◌, ◌++◌, length, map, All, Option, Some, None, refl, ap, subst, sym, ◌∙◌, arith, append-nil, ◌^◌}
use Rattle.std.proofs.lemmas.Bool.{ltb-false, eq-eqb, cases_lt}
use Rattle.std.proofs.lemmas.Option.{slice_get_within, get_or_from_slice_get}
use Rattle.std.proofs.lemmas.List.{append-nil}
use Rattle.std.proofs.lemmas.List.Concat.{flat_map-append}
use Rattle.std.proofs.lemmas.List.Elements.{All-nil, All-push, All-weaker, All-filter, All-cons, All-head}
use Rattle.base_types.specs.declared.ids.DocId.{DocId}
use Rattle.base_types.specs.declared.time.Time.{Time}
use Rattle.lists_postings.specs.Lists.{EachNext}
use Rattle.lists_versions.specs.declared.change.Change.{Change}
use Rattle.lists_versions.specs.declared.refusal.VersionRefusal.TheVariants.{TimeBack, SameTime}
use Rattle.lists_versions.specs.Changes.{changes_of, last_of, latest}
use Rattle.lists_versions.specs.Refusals.{time_back, same_time, no_document, full_documents, full_versions}
use Rattle.lists_versions.specs.Tests.{when}
use Rattle.lists_versions.proofs.Latest.{changes_of-same, changes_of-other, last_of-cons, last_time-push}
use Rattle.lists_versions.proofs.Indexed.{same-is}
use Rattle.journal_entries.specs.Acts.{alone}
use Rattle.journal_entries.specs.declared.act.Act.{Act}
use Rattle.journal_entries.specs.declared.act.Act.TheVariants as batched
use Rattle.journal_entries.specs.declared.entry.Entry.{Entry}
use Rattle.journal_entries.specs.declared.entry.Entry.TheVariants.{Arrive, Delete, Planned, Format, Batch}
use Rattle.plans_kinds.specs.Plans.{IsFitFor}
use Rattle.model_archive.specs.Histories.{History, changes, change_by, acts, act_keys, singles, entry_refusal, entry_keys, vocabulary, full_words}
use Rattle.model_archive.specs.Legal.{EachAllowed, IsLoadable}
use Rattle.model_archive.proofs.BatchLemmas.{none_found, batch_changes, batch_allowed}
use Rattle.model_archive.proofs.LiveLemmas.{come_allowed, allowed_push}
use Rattle.model_archive.proofs.HistoryLemmas.{changes-push}
use Rattle.model_archive.proofs.RefusalLemmas.{not_refused, arrival-allowed, too_many_words, words_fit}
use Rattle.std.specs.List.{flat_map}
use Rattle.base_types.specs.Limits.{limit_of}
use Rattle.base_types.specs.declared.which.Which.TheVariants.{Words}
use Rattle.base_types.specs.declared.posting.Posting.{Posting}
use Rattle.text_words.specs.Words.{distinct}
use Rattle.lists_index.specs.Words as index
use Rattle.lists_index.specs.Indexing.{ComesLater}
use Rattle.journal_entries.specs.declared.plan.PlanEntry.{PlanEntry}
use Rattle.model_archive.specs.declared.refusal.Refusal.TheVariants.{Full}
use Rattle.model_archive.specs.Plans.{IsNoPlan}
use Rattle.model_archive.specs.Answers.{IsWordList}
use Rattle.archive_entries.specs.Entries.{IsChange, Makes, document_of, time_of, text_of}

-- each next, with one element more
each_push : {X : Type 0} (R : X → X → Type 0) (xs : List X) (x : X) → EachNext R xs → ((l : X) → last_of xs ≡ Some l → R l x) → EachNext R (xs ++ x ∷ [])
each_push R [] x each next = tt
each_push R (y ∷ []) x each next = (next y refl, tt)
each_push R (y ∷ z ∷ ys) x each next = (each.0, each_push R (z ∷ ys) x each.1 (λ l e. next l (last_of-cons y z ys ∙ e)))

all_last : {X : Type 0} (P : X → Type 0) (xs : List X) (l : X) → All P xs → last_of xs ≡ Some l → P l
all_last P xs l all e = subst P (get_or_from_slice_get xs (length xs - 1) l l e) (all (length xs - 1) l (slice_get_within xs (length xs - 1) l e))

-- each change of a document comes later than the one before it
abbrev pub RiseByDocument : List (Change (List ℕ)) → Type 0
RiseByDocument cs = (doc : DocId) → EachNext (λ a b. a.at.seconds < b.at.seconds) (changes_of doc cs)

-- changes that rise, and the last time
record IsRising (cs : List (Change (List ℕ))) : Type 0 where
  last : ℕ
  all : All (λ c. c.at.seconds ≤ last) cs
  back : (at : Time) → time_back at cs ≡ None → last ≤ at.seconds
  rise : RiseByDocument cs

-- a document's latest change is not at the time
apart : (at : Time) (o : Option (Change (List ℕ))) → option_and_then (λ c. when (c.at.seconds == at.seconds) SameTime) o ≡ None
    → (l : Change (List ℕ)) → o ≡ Some l → l.at.seconds ≡ at.seconds → ⊥
apart at None none l is same = absurd cc
apart at (Some c) none l is same =
    let this : c ≡ l = cc in
    let there : c.at.seconds ≡ at.seconds = ap (λ (d : Change (List ℕ)). d.at.seconds) this ∙ same in
    go (c.at.seconds == at.seconds) (eq-eqb c.at.seconds at.seconds there) none
  where
    go : (b : Bool) → b ≡ true → when b SameTime ≡ None → ⊥
    go true e n = absurd cc
    go false e n = absurd cc

not_before : (at last : Time) → when (nat_lt at.seconds last.seconds) (TimeBack last) ≡ None → last.seconds ≤ at.seconds
not_before at last none = go (nat_lt at.seconds last.seconds) refl none
  where
    go : (b : Bool) → nat_lt at.seconds last.seconds ≡ b → when b (TimeBack last) ≡ None → last.seconds ≤ at.seconds
    go true e n = absurd cc
    go false e n = ltb-false at.seconds last.seconds e

rising_push : (cs : List (Change (List ℕ))) (c : Change (List ℕ)) → IsRising cs → time_back c.at cs ≡ None → same_time c.doc c.at cs ≡ None → IsRising (cs ++ c ∷ [])
rising_push cs c was back same = record {
  last = c.at.seconds;
  all = All-push (λ d. d.at.seconds ≤ c.at.seconds) cs c (All-weaker (λ d. d.at.seconds ≤ was.last) (λ d. d.at.seconds ≤ c.at.seconds) (λ d le. omega (arith, le, was.back c.at back)) cs was.all) (omega arith);
  back = λ at none. (let L : Option Time → Type 0 = λ o. option_and_then (λ last. when (nat_lt at.seconds last.seconds) (TimeBack last)) o ≡ None in
      not_before at c.at (subst L (last_time-push cs c) none));
  rise = λ doc. go doc (c.doc.0 == doc.0) refl;
}
  where
    here : EachNext (λ a b. a.at.seconds < b.at.seconds) (changes_of c.doc (cs ++ c ∷ []))
    here =
        let E : List (Change (List ℕ)) → Type 0 = λ l. EachNext (λ a b. a.at.seconds < b.at.seconds) l in
        subst E (sym (changes_of-same c.doc cs c (eq-eqb c.doc.0 c.doc.0 refl))) (each_push (λ a b. a.at.seconds < b.at.seconds) (changes_of c.doc cs) c (was.rise c.doc)
        (λ l found.
        let early : l.at.seconds ≤ was.last = all_last (λ d. d.at.seconds ≤ was.last) (changes_of c.doc cs) l (All-filter (λ d. d.doc.0 == c.doc.0) (λ d. d.at.seconds ≤ was.last) cs was.all) found in
        let late = was.back c.at back in
        elim (cases_lt l.at.seconds c.at.seconds) [
          | inl lt ↦ lt
          | inr ge ↦ absurd (apart c.at (latest c.doc cs) same l found (omega (arith, early, late, ge)))
        ]))

    go : (doc : DocId) (b : Bool) → c.doc.0 == doc.0 ≡ b → EachNext (λ a b. a.at.seconds < b.at.seconds) (changes_of doc (cs ++ c ∷ []))
    go doc true e =
        let D : DocId → Type 0 = λ d. EachNext (λ a b. a.at.seconds < b.at.seconds) (changes_of d (cs ++ c ∷ [])) in
        subst D (same-is c.doc doc e) here
    go doc false e =
        let E : List (Change (List ℕ)) → Type 0 = λ l. EachNext (λ a b. a.at.seconds < b.at.seconds) l in
        subst E (sym (changes_of-other doc cs c e)) (was.rise doc)

rising_act : (before : History) (act : Act) → entry_refusal before (alone act) ≡ None → IsRising (changes before) → IsRising (changes (before ++ alone act ∷ []))
rising_act before (batched.Arrive doc at text) next was =
    let C : List (Change (List ℕ)) → Type 0 = λ cs. IsRising cs in
    let cs = changes before in
    let one = none_found (time_back at cs) (same_time doc at cs ∷ full_documents doc cs ∷ full_versions cs ∷ []) (arrival-allowed before doc at text next) in
    let two = none_found (same_time doc at cs) (full_documents doc cs ∷ full_versions cs ∷ []) one.1 in
    subst C (sym (changes-push before (Arrive doc at text))) (rising_push cs (record { doc = doc; at = at; held = Some text }) was one.0 two.0)
rising_act before (batched.Delete doc at) next was =
    let C : List (Change (List ℕ)) → Type 0 = λ cs. IsRising cs in
    let cs = changes before in
    let one = none_found (time_back at cs) (no_document doc cs ∷ same_time doc at cs ∷ full_versions cs ∷ []) (not_refused _ next) in
    let two = none_found (no_document doc cs) (same_time doc at cs ∷ full_versions cs ∷ []) one.1 in
    let three = none_found (same_time doc at cs) (full_versions cs ∷ []) two.1 in
    subst C (sym (changes-push before (Delete doc at))) (rising_push cs (record { doc = doc; at = at; held = None }) was one.0 three.0)

rising_acts : (before : History) (batch : List Act) → EachAllowed before (singles batch) → IsRising (changes before) → IsRising (changes (before ++ singles batch))
rising_acts before [] allowed was = let P : History → Type 0 = λ g. IsRising (changes g) in subst P (sym (append-nil before)) was
rising_acts before (act ∷ batch) allowed was =
    let P : History → Type 0 = λ g. IsRising (changes g) in
    subst P (append_assoc before (alone act ∷ []) (singles batch)) (rising_acts (before ++ alone act ∷ []) batch allowed.1 (rising_act before act allowed.0 was))

-- so do those of any history with the same changes
rising_by : (h other : History) → changes other ≡ changes h → IsRising (changes h) → IsRising (changes other)
rising_by h other same was = let C : List (Change (List ℕ)) → Type 0 = λ cs. IsRising cs in subst C (sym same) was

rising_entry : (before : History) (e : Entry) → entry_refusal before e ≡ None → IsRising (changes before) → IsRising (changes (before ++ e ∷ []))
rising_entry before (Arrive doc at text) next was = rising_act before (batched.Arrive doc at text) next was
rising_entry before (Delete doc at) next was = rising_act before (batched.Delete doc at) next was
rising_entry before (Planned plan) next was = rising_by before (before ++ Planned plan ∷ []) (changes-push before (Planned plan) ∙ append-nil (changes before)) was
rising_entry before Format next was = rising_by before (before ++ Format ∷ []) (changes-push before Format ∙ append-nil (changes before)) was
rising_entry before (Batch batch) next was =
    rising_by (before ++ singles batch) (before ++ Batch batch ∷ []) (batch_changes before batch) (rising_acts before batch (batch_allowed before batch next) was)

rising_more : (before h : History) → EachAllowed before h → IsRising (changes before) → IsRising (changes (before ++ h))
rising_more before [] allowed was = let P : History → Type 0 = λ g. IsRising (changes g) in subst P (sym (append-nil before)) was
rising_more before (e ∷ h) allowed was =
    let P : History → Type 0 = λ g. IsRising (changes g) in
    subst P (append_assoc before (e ∷ []) h) (rising_more (before ++ e ∷ []) h allowed.1 (rising_entry before e allowed.0 was))

pub allowed_rises : (h : History) → EachAllowed [] h → RiseByDocument (changes h)
allowed_rises h allowed = (rising_more [] h allowed (record { last = 0; all = All-nil (λ c. c.at.seconds ≤ 0); back = λ at none. omega arith; rise = λ doc. tt })).rise

pub loadable_rises : (h : History) → IsLoadable h → RiseByDocument (changes h)
loadable_rises h loads = allowed_rises h (come_allowed IsFitFor [] h loads)

-- ---- the index of a history's texts

-- the change of an entry, with its text
abbrev pub change_of : Entry → Change (List ℕ)
change_of e = record { doc = document_of e; at = time_of e; held = text_of e }

acts_are : (e : Entry) → IsChange e → acts e ≡ change_of e ∷ []
acts_are (Arrive doc at text) change = refl
acts_are (Delete doc at) change = refl
acts_are (Planned plan) change = absurd change
acts_are Format change = absurd change
acts_are (Batch batch) change = absurd change

pub changes_more : (h : History) (e : Entry) → IsChange e → changes (h ++ e ∷ []) ≡ changes h ++ change_of e ∷ []
changes_more h e change = changes-push h e ∙ ap (λ (l : List (Change (List ℕ))). changes h ++ l) (acts_are e change)

-- a plan changes no document, and neither does the mark
pub changes_still : (h : History) (plan : PlanEntry) → changes (h ++ Planned plan ∷ []) ≡ changes h
changes_still h plan = changes-push h (Planned plan) ∙ append-nil (changes h)

pub changes_marked : (h : History) → changes (h ++ Format ∷ []) ≡ changes h
changes_marked h = changes-push h Format ∙ append-nil (changes h)

-- the words of a history are those of its changes
batch_keys : (batch : List Act) → flat_map act_keys batch ≡ flat_map index.keys_in (map change_by batch)
batch_keys [] = refl
batch_keys (batched.Arrive doc at text ∷ batch) = ap (λ (l : List (List ℕ)). act_keys (batched.Arrive doc at text) ++ l) (batch_keys batch)
batch_keys (batched.Delete doc at ∷ batch) = batch_keys batch

keys_are : (h : History) → flat_map entry_keys h ≡ flat_map index.keys_in (changes h)
keys_are [] = refl
keys_are (Arrive doc at text ∷ h) = ap (λ (l : List (List ℕ)). entry_keys (Arrive doc at text) ++ l) (keys_are h)
keys_are (Delete doc at ∷ h) = keys_are h
keys_are (Planned plan ∷ h) = keys_are h
keys_are (Format ∷ h) = keys_are h
keys_are (Batch batch ∷ h) = (λ i. batch_keys batch i ++ keys_are h i) ∙ sym (flat_map-append index.keys_in (map change_by batch) (changes h))

pub words_are : (h : History) → vocabulary h ≡ index.words_in (changes h)
words_are h = ap distinct (keys_are h)

words_more : (h : History) (e : Entry) → IsChange e → vocabulary (h ++ e ∷ []) ≡ index.words_in (changes h ++ change_of e ∷ [])
words_more h e change = words_are (h ++ e ∷ []) ∙ ap index.words_in (changes_more h e change)

pub words_full : (h : History) (e : Entry) → IsChange e → 2 ^ 20 < length (index.words_in (changes h ++ change_of e ∷ [])) → full_words h e ≡ Some (Full Words (limit_of Words))
words_full h e change over = too_many_words h e (omega (arith, over, ap length (words_more h e change)))

pub words_within : (h : History) (e : Entry) → IsChange e → length (index.words_in (changes h ++ change_of e ∷ [])) ≤ 2 ^ 20 → full_words h e ≡ None
words_within h e change within = words_fit h e (omega (arith, within, ap length (words_more h e change)))

-- an entry that is legal comes later than its document's earlier changes
before_last : (c : Change (List ℕ)) (cs : List (Change (List ℕ))) → EachNext (λ a b. a.at.seconds < b.at.seconds) (cs ++ c ∷ []) → All (λ d. d.at.seconds < c.at.seconds) cs
before_last c [] each = All-nil (λ d. d.at.seconds < c.at.seconds)
before_last c (d ∷ []) each = All-cons (λ x. x.at.seconds < c.at.seconds) d [] each.0 (All-nil (λ x. x.at.seconds < c.at.seconds))
before_last c (d ∷ e ∷ cs) each =
    let rest = before_last c (e ∷ cs) each.1 in
    All-cons (λ x. x.at.seconds < c.at.seconds) d (e ∷ cs) (omega (arith, each.0, All-head (λ (x : Change (List ℕ)). x.at.seconds < c.at.seconds) e cs rest)) rest

pub comes_later : (h : History) (e : Entry) → IsChange e → EachAllowed [] h → entry_refusal h e ≡ None → ComesLater (changes h) (change_of e)
comes_later h e change allowed next =
    let C : List (Change (List ℕ)) → Type 0 = λ l. EachNext (λ a b. a.at.seconds < b.at.seconds) l in
    let rises = allowed_rises (h ++ e ∷ []) (allowed_push [] h e allowed next) (document_of e) in
    before_last (change_of e) (changes_of (document_of e) (changes h))
    (subst C (ap (changes_of (document_of e)) (changes_more h e change) ∙ changes_of-same (document_of e) (changes h) (change_of e) (eq-eqb (document_of e).0 (document_of e).0 refl)) rises)

pub makes_is_change : (e : Entry) (x : Change ℕ) → Makes e x → IsChange e
makes_is_change (Arrive doc at text) x makes = tt
makes_is_change (Delete doc at) x makes = tt
makes_is_change (Planned plan) x makes = absurd makes
makes_is_change Format x makes = absurd makes
makes_is_change (Batch batch) x makes = absurd makes

-- a change that an entry makes, with the entry's text
pub makes_change : (e : Entry) (x : Change ℕ) (text : Option (List ℕ)) → Makes e x → text ≡ text_of e → change_of e ≡ record { doc = x.doc; at = x.at; held = text }
makes_change (Arrive doc at text) x held makes same = let one = makes.0 in let two = makes.1 in cc
makes_change (Delete doc at) x held makes same = let one = makes.0 in let two = makes.1 in cc
makes_change (Planned plan) x held makes same = absurd makes
makes_change Format x held makes same = absurd makes
makes_change (Batch batch) x held makes same = absurd makes

-- so whatever takes such a change takes the entry's
pub takes_change : (P : List (Change (List ℕ)) → Type 0) (h : History) (e : Entry) (x : Change ℕ) (text : Option (List ℕ)) → Makes e x → text ≡ text_of e → EachAllowed [] h → entry_refusal h e ≡ None
    → (ComesLater (changes h) (record { doc = x.doc; at = x.at; held = text }) → P (changes h ++ record { doc = x.doc; at = x.at; held = text } ∷ [])) → P (changes (h ++ e ∷ []))
takes_change P h e x text makes same allowed next take =
    let is = makes_change e x text makes same in
    let change = makes_is_change e x makes in
    let L : Change (List ℕ) → Type 0 = λ c. ComesLater (changes h) c in
    let C : Change (List ℕ) → Type 0 = λ c. P (changes h ++ c ∷ []) in
    subst P (sym (changes_more h e change)) (subst C (sym is) (take (subst L is (comes_later h e change allowed next))))

no_plan : (e : Entry) → IsChange e → IsNoPlan e
no_plan (Arrive doc at text) change = tt
no_plan (Delete doc at) change = tt
no_plan (Planned plan) change = absurd change
no_plan Format change = absurd change
no_plan (Batch batch) change = absurd change

-- the change of an entry that may come behind a history that loads
pub change_comes : (h : History) (e : Entry) (x : Change ℕ) → IsLoadable h → entry_refusal h e ≡ None → Makes e x
    → IsNoPlan e × (changes (h ++ e ∷ []) ≡ changes h ++ record { doc = x.doc; at = x.at; held = text_of e } ∷ []) × ComesLater (changes h) (record { doc = x.doc; at = x.at; held = text_of e })
change_comes h e x loads next makes =
    let change = makes_is_change e x makes in
    let is = makes_change e x (text_of e) makes refl in
    let L : Change (List ℕ) → Type 0 = λ c. ComesLater (changes h) c in (
      no_plan e change,
      changes_more h e change ∙ ap (λ (c : Change (List ℕ)). changes h ++ c ∷ []) is,
      subst L is (comes_later h e change (come_allowed IsFitFor [] h loads) next),
    )

-- a word's list
pub word_list : (h : History) (word : List ℕ) (list : List Posting) → index.IsWordList (changes h) word list → IsWordList h word list
word_list h word list is = record { ordered = is.ordered; coalesced = is.coalesced; inside = is.inside; same = is.same }
