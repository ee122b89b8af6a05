-- Each item has one outcome: from a legal history to a legal one.
use Rattle.std.proofs.Common.{subst, sym, ◌≡◌, ℕ, ◌+◌, ◌<◌, ◌≤◌, ◌^◌, not, nat_lt, List, [], ◌∷◌, ◌++◌, length, map, take, All, Contains, Option, Some, None, IsSome, is_some, Result, Ok, Err, refl, ap, ap₂, sum_by, Bool, true, false, arith, unwrap_or, ◌∙◌, inl, inr}
use Rattle.std.specs.Str.{is_utf8}
use Rattle.std.specs.Option.{option_map}
use Rattle.std.proofs.lemmas.Bool.{cases_lt, ltb-false, ltb-true}
use Rattle.std.proofs.lemmas.Str.{IsUtf8-from_is_utf8}
use Rattle.std.proofs.lemmas.List.Elements.{All-nil, All-cons, All-head, All-tail, All-append, All-weaker}
use Rattle.base_types.specs.declared.fraction.Fraction.{Fraction}
use Rattle.base_types.specs.declared.ids.DocId.{DocId}
use Rattle.base_types.specs.declared.time.Span.{Span}
use Rattle.base_types.specs.declared.time.Time.{Time}
use Rattle.base_types.specs.declared.posting.Posting.{Posting}
use Rattle.base_types.specs.declared.tolerance.Tolerance.{Tolerance}
use Rattle.lists_postings.proofs.Existence.{each_has_a_list}
use Rattle.lists_postings.proofs.Clipping.{one_list_of}
use Rattle.plans_kinds.specs.declared.proposal.Node.{Node}
use Rattle.plans_kinds.proofs.Pieces.{each_has_a_proposal, differ_in_segments}
use Rattle.text_words.specs.Terms.{occurrences, one_term}
use Rattle.text_words.proofs.FrequencyLemmas.{occurrences-le}
use Rattle.lists_versions.specs.declared.change.Change.{Change}
use Rattle.lists_versions.specs.Changes.{valid_at}
use Rattle.lists_versions.specs.Changes as changed
use Rattle.lists_versions.proofs.Alive.{alive-has}
use Rattle.lists_versions.proofs.Holding.{held_has}
use Rattle.lists_versions.proofs.Latest.{changes_of-none}
use Rattle.journal_entries.specs.Acts.{IsAct, most_text}
use Rattle.journal_entries.specs.declared.act.Act.{Act}
use Rattle.journal_entries.specs.declared.act.Act.TheVariants as batched
use Rattle.journal_entries.specs.declared.entry.Entry.{Entry}
use Rattle.journal_entries.specs.declared.entry.Entry.TheVariants as entries
use Rattle.query_lang.specs.Chains.{asks_for_any}
use Rattle.query_lang.specs.Grammar.{Query, IsRead}
use Rattle.query_lang.specs.Machine.{read}
use Rattle.query_lang.specs.Meaning.{words_of}
use Rattle.query_lang.specs.Tokens.{term_of}
use Rattle.query_lang.proofs.ChainLaws.{any_scores}
use Rattle.query_lang.proofs.ReadingLaws.{is_read, one_reading}
use Rattle.query_eval.specs.Spans.{row_kind, scored_at}
use Rattle.query_eval.specs.declared.answer.Row.{Row}
use Rattle.query_eval.specs.declared.spans.SpanRow.{SpanRow}
use Rattle.query_eval.proofs.FoundLemmas.{each-answer}
use Rattle.query_eval.proofs.GivenLemmas.{same_alive, one_answer}
use Rattle.query_eval.proofs.SpanRows.{each-window, plain-rows}
use Rattle.lists_postings.proofs.Longest as longest
use Rattle.model_archive.specs.declared.refusal.Refusal.{Refusal}
use Rattle.model_archive.specs.declared.refusal.Refusal.TheVariants as refusals
use Rattle.plans_kinds.specs.Plans.{IsFitFor}
use Rattle.model_archive.specs.Histories.{History, change_by, changes, text_at, entry_refusal}
use Rattle.model_archive.specs.Legal.{EachMayCome, IsLegal, IsLegalEntry, IsLoadable, IsFair, MayBeStored}
use Rattle.journal_entries.specs.declared.place.Layout.TheVariants.{Flat}
use Rattle.journal_entries.specs.declared.plan.PlanEntry.{PlanEntry}
use Rattle.pages_sublists.specs.Segments.{seconds}
use Rattle.pages_sublists.specs.Gathering.{stored_size}
use Rattle.model_archive.specs.Answers.{frequency_at, IsWordList}
use Rattle.query_top.specs.Sheets.{Sheet}
use Rattle.model_archive.specs.Bests.{IsSheetOf, sheet_laid, sublist_at}
use Rattle.model_archive.specs.Chosen.{IsReadFor, IsReadOf, IsTailFor}
use Rattle.model_archive.specs.Plans.{plan_of}
use Rattle.base_commands.specs.Documents.{HasDocument}
use Rattle.base_commands.specs.declared.command.Command.{Command}
use Rattle.base_commands.specs.declared.command.Command.TheVariants as commands
use Rattle.base_commands.specs.declared.command.Item.{Item}
use Rattle.base_commands.specs.declared.command.Item.TheVariants as items
use Rattle.base_commands.specs.declared.command.Kind.{Kind}
use Rattle.base_commands.specs.declared.command.Kind.TheVariants.{Guarantee}
use Rattle.base_commands.specs.declared.count.BestCount.{BestCount}
use Rattle.base_commands.specs.declared.count.TopCount.{TopCount}
use Rattle.base_commands.specs.declared.text.Text.TheVariants as texts
use Rattle.model_archive.specs.declared.summary.Summary.{Summary}
use Rattle.model_archive.specs.Steps.{Reply, Accepted, Refused, Found, FoundBest, Spanned, Version, Proposed, Planned, Verified, Adds, Declines, IsRepliedBy, IsReplied, Finds, FindsBy, Tops, TopsBy, Bests, BestsBy, IsNoDisjunction, Neared, NearsBy, Spans, SpansBy, Proposes, ProposesPlan, Plans, StoresPlan, spelled_key, CarriesOut, Step, too_long, bad_text, full_journal, arrival_refusal, deletion_refusal, mark_refusal, Silent, Idles, ChoosesPlan, TakesOn, OfStill, OfIdle, Begins, Works, WorksOn, WorksAt, Finishes, left_of, stint_pages}
use Rattle.model_archive.specs.Runs.{Outcome, IsRun}
use Rattle.model_archive.specs.Sharing.{Notes}
use Rattle.model_archive.specs.Worlds.{World, Job, at_work}
use Rattle.model_archive.proofs.HistoryLemmas.{legal-push, loadable-push, entry_loads}
use Rattle.model_archive.proofs.BestLemmas.{each_sheets, found_by_blocks, one_zip}
use Rattle.model_archive.proofs.BatchLemmas.{none_found}
use Rattle.model_archive.proofs.BatchOutcomes.{no_cause, is_true, each_batch, batches_keep, one_batch}
use Rattle.model_archive.proofs.RoughLemmas.{each_approximates, one_approximates, each_rough, one_rough}
use Rattle.model_archive.proofs.StoringLemmas.{plan_outcome, plans_keep, begin_outcome, begins_keep, job_later}
use Rattle.model_archive.proofs.ToldLemmas.{plans_alike, none_begun}
use Rattle.model_archive.proofs.CertifyingLemmas.{each_certifies, one_certifies}
use Rattle.model_archive.proofs.VerifyLemmas.{each_verdict, one_verdict}
use Rattle.plans_share.specs.declared.asked.Asking.{Asking}
use Rattle.model_archive.proofs.SharingLemmas.{each_noted, each_shares, one_noted, one_world, shares_nothing}
use Rattle.model_archive.proofs.PlanningLemmas.{each_phrase, one_phrase, last_in_time}
use Rattle.model_archive.specs.Choices.{IsChoice, IsSharing, IsStoring, SameButChosen, SameButOpened, SamePlanned}
use Rattle.model_archive.specs.Planning.{last_second, IsListUpTo}

-- an entry that isn't refused is legal
pub arrival_legal : (h : History) (doc : DocId) (at : Time) (text : List ℕ) → doc.0 < 2 ^ 32 → arrival_refusal h doc at text ≡ None → IsLegalEntry h (entries.Arrive doc at text)
arrival_legal h doc at text fits none =
    let one = none_found (too_long text) (bad_text text ∷ entry_refusal h (entries.Arrive doc at text) ∷ full_journal h (entries.Arrive doc at text) ∷ []) none in
    let two = none_found (bad_text text) (entry_refusal h (entries.Arrive doc at text) ∷ full_journal h (entries.Arrive doc at text) ∷ []) one.1 in
    let three = none_found (entry_refusal h (entries.Arrive doc at text)) (full_journal h (entries.Arrive doc at text) ∷ []) two.1 in
    record {
      ranges = (
        fits,
        at.before_now,
        ltb-false most_text (length text) (no_cause (nat_lt most_text (length text)) (refusals.TooLong most_text) one.0),
        IsUtf8-from_is_utf8 text (is_true (is_utf8 text) (no_cause (not (is_utf8 text)) _ two.0)),
      );
      allowed = three.0;
      planned = tt;
    }

pub deletion_legal : (h : History) (doc : DocId) (at : Time) → doc.0 < 2 ^ 32 → deletion_refusal h doc at ≡ None → IsLegalEntry h (entries.Delete doc at)
deletion_legal h doc at fits none =
    let one = none_found (entry_refusal h (entries.Delete doc at)) (full_journal h (entries.Delete doc at) ∷ []) none in
    record { ranges = (fits, at.before_now); allowed = one.0; planned = tt }

pub mark_legal : (h : History) → mark_refusal h ≡ None → IsLegalEntry h entries.Format
mark_legal h none = let one = none_found (entry_refusal h entries.Format) (full_journal h entries.Format ∷ []) none in record { ranges = tt; allowed = one.0; planned = tt }

-- whether an entry is refused or not, there is an outcome
pub adds_outcome : (h : History) (e : Entry) (refusal : Option Refusal) → (outcome : Outcome Reply History) × Adds h e refusal outcome.reply outcome.next
adds_outcome h e None = (record { reply = Accepted (length (h ++ e ∷ [])); next = h ++ e ∷ [] }, (refl, refl))
adds_outcome h e (Some why) = (record { reply = Refused why; next = h }, (refl, refl))

-- a change of a legal history
record IsModest (word : List ℕ) (c : Change (List ℕ)) : Type 0 where
  numbered : c.doc.0 < 2 ^ 32
  few : unwrap_or (option_map (occurrences word) c.held) 0 < 2 ^ 32

act_modest : (word : List ℕ) (act : Act) → IsAct act → IsModest word (change_by act)
act_modest word (batched.Arrive doc at text) ranges = record { numbered = ranges.0; few = omega (arith, occurrences-le word text, ranges.2) }
act_modest word (batched.Delete doc at) ranges = record { numbered = ranges.0; few = omega arith }

acts_modest : (word : List ℕ) (batch : List Act) → All IsAct batch → All (IsModest word) (map change_by batch)
acts_modest word [] each = All-nil (IsModest word)
acts_modest word (act ∷ batch) each = All-cons (IsModest word) (change_by act) (map change_by batch) (act_modest word act (All-head IsAct act batch each)) (acts_modest word batch (All-tail IsAct act batch each))

modest : (word : List ℕ) (before h : History) → EachMayCome IsFitFor before h → All (IsModest word) (changes h)
modest word before [] legal = All-nil (IsModest word)
modest word before (entries.Arrive doc at text ∷ h) legal =
    let ranges = legal.0.ranges in
    All-cons (IsModest word) _ (changes h) (record { numbered = ranges.0; few = omega (arith, occurrences-le word text, ranges.2) }) (modest word (before ++ entries.Arrive doc at text ∷ []) h legal.1)
modest word before (entries.Delete doc at ∷ h) legal =
    All-cons (IsModest word) _ (changes h) (record { numbered = legal.0.ranges.0; few = omega arith }) (modest word (before ++ entries.Delete doc at ∷ []) h legal.1)
modest word before (entries.Planned plan ∷ h) legal = modest word (before ++ entries.Planned plan ∷ []) h legal.1
modest word before (entries.Format ∷ h) legal = modest word (before ++ entries.Format ∷ []) h legal.1
modest word before (entries.Batch batch ∷ h) legal =
    All-append (IsModest word) (map change_by batch) (changes h) (acts_modest word batch legal.0.ranges.each) (modest word (before ++ entries.Batch batch ∷ []) h legal.1)

frequency_few : (h : History) (word : List ℕ) (doc : DocId) (t : ℕ) → IsLoadable h → frequency_at h word doc t < 2 ^ 32
frequency_few h word doc t legal =
    let P : Option (List ℕ) → Type 0 = λ held. unwrap_or (option_map (occurrences word) held) 0 < 2 ^ 32 in
    held_has P doc t (changes h) (omega arith) (All-weaker (IsModest word) (λ c. P c.held) (λ c is. is.few) (changes h) (modest word [] h legal))

-- no document beyond the numbers is ever alive
text_none : (h : History) (doc : DocId) (t : ℕ) → IsLoadable h → 2 ^ 32 ≤ doc.0 → text_at h doc t ≡ None
text_none h doc t legal far =
    let none = changes_of-none doc (changes h) (All-weaker (IsModest []) (λ c. c.doc.0 ≡ doc.0 → ⊥) (λ c is e. omega (arith, is.numbered, far, e)) (changes h) (modest [] [] h legal)) in
    ap (λ (cs : List (Change (List ℕ))). valid_at t cs) none

frequency_none : (h : History) (word : List ℕ) (d t : ℕ) → IsLoadable h → 2 ^ 32 ≤ d → frequency_at h word (record { 0 = d }) t ≡ 0
frequency_none h word d t legal far = ap (λ (held : Option (List ℕ)). unwrap_or (option_map (occurrences word) held) 0) (text_none h (record { 0 = d }) t legal far)

-- each word has a list
pub each_word_list : (h : History) (word : List ℕ) → IsLoadable h → (list : List Posting) × IsWordList h word list
each_word_list h word legal =
    each_has_a_list (λ d t. frequency_at h word (record { 0 = d }) t) 0 (2 ^ 40) (omega arith) (λ d t. frequency_few h word (record { 0 = d }) t legal) (λ d t far. frequency_none h word d t legal far)

-- whatever has a word is alive
pub has_word : (word : List ℕ) (held : Option (List ℕ)) → 0 < unwrap_or (option_map (occurrences word) held) 0 → IsSome held
has_word word None some = absurd (omega (arith, some))
has_word word (Some text) some = refl

-- each word has a list up to each time
each_list_up_to : (h : History) (word : List ℕ) (last : ℕ) → last ≤ 2 ^ 40 → IsLoadable h → (list : List Posting) × IsListUpTo h word last list
each_list_up_to h word last in_time legal =
    each_has_a_list (λ d t. frequency_at h word (record { 0 = d }) t) 0 last in_time (λ d t. frequency_few h word (record { 0 = d }) t legal) (λ d t far. frequency_none h word d t legal far)

-- and one from each time on
each_tail : (h : History) (word : List ℕ) (b horizon : ℕ) → IsLoadable h → (tail : List Posting) × IsTailFor h word b horizon tail
each_tail h word b horizon legal = elim (cases_lt horizon b) [
  | inl past ↦
      let tail = each_has_a_list (λ d t. frequency_at h word (record { 0 = d }) t) horizon (2 ^ 40) (omega arith) (λ d t. frequency_few h word (record { 0 = d }) t legal) (λ d t far. frequency_none h word d t legal far) in
      (tail.0, inl (past, tail.1))
  | inr within ↦ ([], inr (within, refl))
]

-- each query is answered at each time
each_read_of : (h : History) (word : List ℕ) (a b : ℕ) (plan : Option PlanEntry) → IsLoadable h → (n : ℕ) × IsReadOf h word plan a b n
each_read_of h word a b None legal = let list = each_word_list h word legal in (length list.0, (list.0, list.1, refl))
each_read_of h word a b (Some plan) legal =
    let sealed = each_list_up_to h word plan.horizon.seconds (omega (arith, plan.horizon.before_now)) legal in
    let tail = each_tail h word b plan.horizon.seconds legal in
    (stored_size a b plan.horizon.seconds sealed.0 (seconds plan.cuts) + length tail.0, (sealed.0, tail.0, sealed.1, tail.1, refl))

each_read : (h : History) (a b : ℕ) (words : List (List ℕ)) → IsLoadable h → (n : ℕ) × IsReadFor h a b words n
each_read h a b [] legal = (0, refl)
each_read h a b (word ∷ words) legal =
    let one = each_read_of h word a b (plan_of h word) legal in
    let more = each_read h a b words legal in
    (one.0 + more.0, (one.0, more.0, one.1, more.1, refl))

-- whatever each query is answered, each text is
each_replied : (Finds : Query → Reply → Type 0) → ((query : Query) → (reply : Reply) × Finds query reply) → (query : Result Query ℕ) → (reply : Reply) × IsRepliedBy Finds query reply
each_replied Finds each (Err place) = (Refused (refusals.BadQuery place), refl)
each_replied Finds each (Ok query) = each query

each_text : (Finds : Query → Reply → Type 0) → ((query : Query) → (reply : Reply) × Finds query reply) → (text : List ℕ) → (reply : Reply) × IsReplied Finds text reply
each_text Finds each text =
    let found = each_replied Finds each (read term_of text) in
    (found.0, (read term_of text, is_read term_of text, found.1))

each_found : (h : History) (at : Time) → IsLoadable h → (query : Query) → (reply : Reply) × FindsBy h at query reply
each_found h at loads query =
    let often = λ (doc : DocId) (word : List ℕ). frequency_at h word doc at.seconds in
    let given = each-answer (changed.alive at.seconds (changes h)) often query in
    let read = each_read h at.seconds (at.seconds + 1) (words_of query) loads in
    let answer = same_alive (λ doc. IsSome (text_at h doc at.seconds)) (λ doc. Contains (changed.alive at.seconds (changes h)) doc) often query given.0 (λ doc. alive-has at.seconds (changes h) doc) given.1 in
    (Found given.0 read.0, (given.0, read.0, answer, read.1, refl))

pub each_finds : (h : History) (at : Time) (text : List ℕ) → IsLoadable h → (reply : Reply) × Finds h at text reply
each_finds h at text loads = each_text (FindsBy h at) (each_found h at loads) text

-- the first rows come of all
each_topped : (h : History) (count : TopCount) (at : Time) → IsLoadable h → (query : Query) → (reply : Reply) × TopsBy h count at query reply
each_topped h count at loads query =
    let (reply, (rows, read, answer, is_read, is)) = each_found h at loads query in
    (Found (take count.number rows) read, (rows, read, answer, is_read, refl))

each_tops : (h : History) (count : TopCount) (at : Time) (text : List ℕ) → IsLoadable h → (reply : Reply) × Tops h count at text reply
each_tops h count at text loads = each_text (TopsBy h count at) (each_topped h count at loads) text

-- each query has a rough answer
each_neared : (h : History) (tolerance : Tolerance) (at : Time) → IsLoadable h → (query : Query) → (reply : Reply) × NearsBy h tolerance at query reply
each_neared h tolerance at loads query =
    let (rows, rough) = each_rough h tolerance at.seconds query (λ word. each_word_list h word loads) in
    let read = each_read h 0 (2 ^ 40) (words_of query) loads in
    (Neared rows read.0, (rows, read.0, rough, read.1, refl))

-- each word has a sheet
each_sheet_of : (h : History) (word : List ℕ) (plan : Option PlanEntry) (t : ℕ) → IsLoadable h → (s : Sheet) × IsSheetOf h word plan t s
each_sheet_of h word None t legal = let list = each_word_list h word legal in (sheet_laid Flat t [] list.0, (list.0, list.1, refl))
each_sheet_of h word (Some plan) t legal =
    let sealed = each_list_up_to h word plan.horizon.seconds (omega (arith, plan.horizon.before_now)) legal in
    let tail = each_tail h word (t + 1) plan.horizon.seconds legal in
    (sheet_laid plan.layout t (sublist_at t plan.horizon.seconds sealed.0 (seconds plan.cuts)) tail.0, (sealed.0, tail.0, sealed.1, tail.1, refl))

-- the first rows are found by blocks
each_best : (h : History) (count : BestCount) (at : Time) (text : List ℕ) → IsLoadable h → asks_for_any text ≡ true → (query : Query) → IsRead term_of text (Ok query) → (reply : Reply) × BestsBy h count at query reply
each_best h count at text loads any query is =
    let (reply, (rows, read, answer, is_read, found)) = each_found h at loads query in
    let sheets = each_sheets h at.seconds (λ word. each_sheet_of h word (plan_of h word) at.seconds loads) (words_of query) in
    let (opened, blocks, by) = found_by_blocks h at.seconds count.number query rows sheets.0 loads at.before_now (any_scores text query any is) answer sheets.1 in
    (FoundBest (take count.number rows) read opened blocks, (rows, read, opened, blocks, answer, is_read, by, refl))

each_bests : (h : History) (count : BestCount) (at : Time) (text : List ℕ) → IsLoadable h → (reply : Reply) × Bests (asks_for_any text) h count at text reply
each_bests h count at text loads = go (asks_for_any text) refl (read term_of text) (is_read term_of text)
  where
    go : (b : Bool) → asks_for_any text ≡ b → (r : Result Query ℕ) → IsRead term_of text r → (reply : Reply) × Bests b h count at text reply
    go true any (Ok query) is = let best = each_best h count at text loads any query is in (best.0, (Ok query, is, best.1))
    go true any (Err place) is = (Refused (refusals.BadQuery place), (Err place, is, refl))
    go false any (Ok query) is = (Refused refusals.NotDisjunction, (Ok query, is, refl))
    go false any (Err place) is = (Refused (refusals.BadQuery place), (Err place, is, refl))

each_spanned : (h : History) (span : Span) → IsLoadable h → (query : Query) → (reply : Reply) × SpansBy h span query reply
each_spanned h span loads query =
    let given = each-window (λ doc t. is_some (text_at h doc t)) (λ doc t word. frequency_at h word doc t) query (2 ^ 32) span.from span.to span.in_time
    (λ doc t far. ap is_some (text_none h doc t loads far)) in
    let read = each_read h span.from span.to (words_of query) loads in
    (Spanned given.0 read.0, (given.0, read.0, given.1, read.1, refl))

pub each_spans : (h : History) (span : Span) (text : List ℕ) → IsLoadable h → (reply : Reply) × Spans h span text reply
each_spans h span text loads = each_text (SpansBy h span) (each_spanned h span loads) text

-- each proposal is answered
pub each_proposes : (h : History) (phrase : List ℕ) (factor : Fraction) → IsLoadable h → (reply : Reply) × Proposes h phrase factor reply
each_proposes h phrase factor loads =
    each_phrase Guarantee h (λ (r : Reply) why. r ≡ Refused why) (λ (r : Reply) word list. ProposesPlan factor (last_second h) list r) (λ why. (Refused why, refl))
    (λ word. each_list_up_to h word (last_second h) (last_in_time h) loads)
    (λ word list is some narrow.
    let early = All-weaker (λ (p : Posting). (0 ≤ p.span.from) × (p.span.to ≤ last_second h)) (λ (p : Posting). p.span.to ≤ last_second h) (λ p in_it. in_it.1) list is.inside in
    let (segments, (nodes, (total, proposal))) = each_has_a_proposal list factor (last_second h) (last_in_time h) early in
    (Proposed segments nodes total, (segments, nodes, total, proposal, refl)))
    (one_term phrase)

pub each_plans : (job : Option Job) (h : History) (phrase : List ℕ) (kind : Kind) (factor : Fraction) → IsLoadable h → (outcome : Outcome Reply History) × Plans job h phrase kind factor outcome.reply outcome.next
each_plans job h phrase kind factor loads =
    each_phrase kind h (λ (r : Outcome Reply History) why. Declines h why r.reply r.next)
    (λ (r : Outcome Reply History) word list. OfStill job word (λ why. Declines h why r.reply r.next) (StoresPlan job h kind factor word list r.reply r.next))
    (λ why. (record { reply = Refused why; next = h }, (refl, refl)))
    (λ word. each_list_up_to h word (last_second h) (last_in_time h) loads)
    (λ word list is some narrow. plan_outcome job h kind factor word list is some narrow)
    (spelled_key (one_term phrase))

pub each_begins : (w : World) (phrase : List ℕ) (factor : Fraction) → IsLoadable w.history → (outcome : Outcome Reply World) × Begins w phrase factor outcome.reply outcome.next
each_begins w phrase factor loads =
    each_phrase Guarantee w.history (λ (r : Outcome Reply World) why. Idles w why r.reply r.next)
    (λ (r : Outcome Reply World) word list. OfIdle w.job word (λ why. Idles w why r.reply r.next)
    (ChoosesPlan w.job w.history Guarantee factor word list (λ why. Idles w why r.reply r.next) (λ plan. TakesOn w plan (full_journal w.history (entries.Planned plan)) list r.reply r.next)))
    (λ why. (record { reply = Refused why; next = w }, (refl, refl)))
    (λ word. each_list_up_to w.history word (last_second w.history) (last_in_time w.history) loads)
    (λ word list is some narrow. begin_outcome w factor word list is some (narrow refl))
    (spelled_key (one_term phrase))

declines_outcome : (h : History) (why : Refusal) → (outcome : Outcome Reply History) × Declines h why outcome.reply outcome.next
declines_outcome h why = (record { reply = Refused why; next = h }, (refl, refl))

each_command : (asked : List Asking) (job : Option Job) (h : History) (c : Command) → IsLoadable h → (outcome : Outcome Reply History) × CarriesOut asked job h c outcome.reply outcome.next
each_command asked job h (commands.Arrive doc at (texts.Bytes text)) loads = adds_outcome h (entries.Arrive doc at text) (arrival_refusal h doc at text)
each_command asked job h (commands.Arrive doc at (texts.TooLong bytes)) loads = declines_outcome h (refusals.TooLong most_text)
each_command asked job h (commands.Delete doc at) loads = adds_outcome h (entries.Delete doc at) (deletion_refusal h doc at)
each_command asked job h commands.Format loads = adds_outcome h entries.Format (mark_refusal h)
each_command asked job h (commands.Batch batch) loads = each_batch h batch
each_command asked job h (commands.Find at expr) loads =
    let found = each_finds h at expr loads in
    (record { reply = found.0; next = h }, (refl, found.1))
each_command asked job h (commands.Top count at expr) loads =
    let tops = each_tops h count at expr loads in (record { reply = tops.0; next = h }, (refl, tops.1))
each_command asked job h (commands.Approx word tolerance) loads =
    let told = each_approximates h word tolerance (λ w. each_word_list h w loads) in (record { reply = told.0; next = h }, (refl, told.1))
each_command asked job h (commands.Rough tolerance at expr) loads =
    let near = each_text (NearsBy h tolerance at) (each_neared h tolerance at loads) expr in (record { reply = near.0; next = h }, (refl, near.1))
each_command asked job h (commands.Best count at expr) loads =
    let bests = each_bests h count at expr loads in (record { reply = bests.0; next = h }, (refl, bests.1))
each_command asked job h (commands.Show doc at) loads = (record { reply = Version (text_at h doc at.seconds); next = h }, (refl, refl))
each_command asked job h (commands.Plan word kind fraction) loads = each_plans job h word kind fraction loads
each_command asked job h (commands.Propose word fraction) loads =
    let proposed = each_proposes h word fraction loads in
    (record { reply = proposed.0; next = h }, (refl, proposed.1))
each_command asked job h (commands.Between span expr) loads =
    let found = each_spans h span expr loads in
    (record { reply = found.0; next = h }, (refl, found.1))
each_command asked job h (commands.Certificate word) loads =
    let certified = each_certifies h word loads in
    (record { reply = certified.0; next = h }, (refl, certified.1))
each_command asked job h commands.Verify loads =
    let (verdict, verifies) = each_verdict h loads in
    (record { reply = Verified verdict; next = h }, (refl, (verdict, verifies, refl)))
each_command asked job h (commands.Share factor words) loads =
    let told = each_shares asked h words factor.fraction (λ word. each_list_up_to h word (last_second h) (last_in_time h) loads) in (record { reply = told.0; next = h }, (refl, told.1))
each_command asked job h other loads = declines_outcome h refusals.Line

-- what came of a history, in the state that has it
in_world : (w : World) (c : Command) → (outcome : Outcome Reply History) × CarriesOut w.asked w.job w.history c outcome.reply outcome.next
    → (outcome : Outcome Reply World) × (CarriesOut w.asked w.job w.history c outcome.reply outcome.next.history × Notes w.asked c outcome.next.asked × (outcome.next.job ≡ w.job))
in_world w c came =
    let noted = each_noted w.asked c in
    (record { reply = came.0.reply; next = record { history = came.0.next; asked = noted.0; job = w.job } }, (came.1, noted.1, refl))

pub each_outcome : (w : World) (item : Item) → IsLoadable w.history → (outcome : Outcome Reply World) × Step w item outcome.reply outcome.next
each_outcome w (items.Command (commands.Begin word fraction)) loads = each_begins w word fraction loads
each_outcome w (items.Command c) loads = in_world w c (each_command w.asked w.job w.history c loads)
each_outcome w items.Line loads = (record { reply = Refused refusals.Line; next = w }, (refl, refl))

-- and what is so of a history, and stays so with a legal entry more, is so of what a command leads to
adds_keep : (P : History → Type 0) → ((h : History) (e : Entry) → P h → IsLegalEntry h e → P (h ++ e ∷ []))
    → (h : History) (e : Entry) (refusal : Option Refusal) (reply : Reply) (next : History) → P h → (refusal ≡ None → IsLegalEntry h e) → Adds h e refusal reply next → P next
adds_keep P push h e None reply next is entry adds = subst P (sym adds.0) (push h e is (entry refl))
adds_keep P push h e (Some why) reply next is entry adds = subst P (sym adds.0) is

stays : (P : History → Type 0) (h next : History) → P h → next ≡ h → P next
stays P h next is same = subst P (sym same) is

pub command_keeps : (P : History → Type 0) → ((h : History) (e : Entry) → P h → IsLegalEntry h e → P (h ++ e ∷ []))
    → (asked : List Asking) (job : Option Job) (h : History) (c : Command) (reply : Reply) (next : History) → P h → HasDocument (items.Command c) → CarriesOut asked job h c reply next → P next
command_keeps P push asked job h (commands.Arrive doc at (texts.Bytes text)) reply next is range step = adds_keep P push h (entries.Arrive doc at text) (arrival_refusal h doc at text) reply next is (arrival_legal h doc at text range) step
command_keeps P push asked job h (commands.Arrive doc at (texts.TooLong bytes)) reply next is range step = stays P h next is step.0
command_keeps P push asked job h (commands.Delete doc at) reply next is range step = adds_keep P push h (entries.Delete doc at) (deletion_refusal h doc at) reply next is (deletion_legal h doc at range) step
command_keeps P push asked job h commands.Format reply next is range step = adds_keep P push h entries.Format (mark_refusal h) reply next is (mark_legal h) step
command_keeps P push asked job h (commands.Batch batch) reply next is range step = batches_keep P push h batch reply next is range step
command_keeps P push asked job h (commands.Find at expr) reply next is range step = stays P h next is step.0
command_keeps P push asked job h (commands.Top count at expr) reply next is range step = stays P h next is step.0
command_keeps P push asked job h (commands.Approx word tolerance) reply next is range step = stays P h next is step.0
command_keeps P push asked job h (commands.Rough tolerance at expr) reply next is range step = stays P h next is step.0
command_keeps P push asked job h (commands.Best count at expr) reply next is range step = stays P h next is step.0
command_keeps P push asked job h (commands.Show doc at) reply next is range step = stays P h next is step.0
command_keeps P push asked job h (commands.Plan word kind fraction) reply next is range step = plans_keep P push job h word kind fraction reply next is step
command_keeps P push asked job h (commands.Propose word fraction) reply next is range step = stays P h next is step.0
command_keeps P push asked job h (commands.Between span expr) reply next is range step = stays P h next is step.0
command_keeps P push asked job h (commands.Certificate word) reply next is range step = stays P h next is step.0
command_keeps P push asked job h commands.Verify reply next is range step = stays P h next is step.0
command_keeps P push asked job h (commands.Share factor words) reply next is range step = stays P h next is step.0
command_keeps P push asked job h other reply next is range step = stays P h next is step.0

-- what a command leads to is a longer history by a legal entry, or the same: so a plan that is being written could be stored behind it
pub command_later : (asked : List Asking) (job : Option Job) (h : History) (c : Command) (reply : Reply) (next : History) (goal : Option Job) → HasDocument (items.Command c) → CarriesOut asked job h c reply next → MayBeStored h goal → MayBeStored next goal
command_later asked job h c reply next goal range step may = command_keeps (λ g. MayBeStored g goal) (λ g e is legal. job_later g e goal legal.allowed is) asked job h c reply next may range step

-- so every outcome leads from a fair state to a fair one
step_keeps : (P : History → Type 0) → ((h : History) (e : Entry) → P h → IsLegalEntry h e → P (h ++ e ∷ []))
    → (w : World) (item : Item) (reply : Reply) (next : World) → IsFair P w → HasDocument item → Step w item reply next → IsFair P next
step_keeps P push w (items.Command (commands.Begin word fraction)) reply next fair range step = begins_keep P w word fraction reply next fair step
step_keeps P push w (items.Command c) reply next fair range step = record {
  history = command_keeps P push w.asked w.job w.history c reply next.history fair.history range step.0;
  job = (let M : Option Job → Type 0 = λ o. MayBeStored next.history o in subst M (sym step.2) (command_later w.asked w.job w.history c reply next.history w.job range step.0 fair.job));
}
step_keeps P push w items.Line reply next fair range step = subst (IsFair P) (sym step.0) fair

pub step_legal : (w : World) (item : Item) (reply : Reply) (next : World) → IsFair IsLegal w → HasDocument item → Step w item reply next → IsFair IsLegal next
step_legal = step_keeps IsLegal legal-push

pub loads_more : (h : History) (e : Entry) → IsLoadable h → IsLegalEntry h e → IsLoadable (h ++ e ∷ [])
loads_more h e is legal = loadable-push h e is (entry_loads h e legal)

pub step_loads : (w : World) (item : Item) (reply : Reply) (next : World) → IsFair IsLoadable w → HasDocument item → Step w item reply next → IsFair IsLoadable next
step_loads = step_keeps IsLoadable loads_more

-- a run goes on over any items whose documents are in range
pub run_on : (w : World) (events : List Item) → IsFair IsLoadable w → All HasDocument events → (outcomes : List (Outcome Reply World)) × IsRun Step w events outcomes
run_on w [] fair range = ([], tt)
run_on w (item ∷ events) fair range =
    let outcome = each_outcome w item fair.history in
    let next = step_loads w item outcome.0.reply outcome.0.next fair (All-head HasDocument item events range) outcome.1 in
    let further = run_on outcome.0.next events next (All-tail HasDocument item events range) in
    (outcome.0 ∷ further.0, (outcome.1, further.1))

-- an outcome is the only one
abbrev IsOne : Reply → Reply → History → History → Type 0
IsOne reply other next then = (reply ≡ other) × (next ≡ then)

one_adds : (h : History) (e : Entry) (refusal : Option Refusal) (reply other : Reply) (next then : History) → Adds h e refusal reply next → Adds h e refusal other then → IsOne reply other next then
one_adds h e None reply other next then a b = let same : next ≡ then = a.0 ∙ sym b.0 in (a.1 ∙ ap (λ (g : History). Accepted (length g)) same ∙ sym b.1, same)
one_adds h e (Some why) reply other next then a b = (a.1 ∙ sym b.1, a.0 ∙ sym b.0)

one_tail : (h : History) (word : List ℕ) (b horizon : ℕ) (one other : List Posting) → IsTailFor h word b horizon one → IsTailFor h word b horizon other → one ≡ other
one_tail h word b horizon one other (inl (past, x)) (inl (again, y)) = one_list_of (λ d t. frequency_at h word (record { 0 = d }) t) horizon (2 ^ 40) one other x y
one_tail h word b horizon one other (inl (past, x)) (inr (within, y)) = absurd (omega (arith, past, within))
one_tail h word b horizon one other (inr (within, x)) (inl (past, y)) = absurd (omega (arith, past, within))
one_tail h word b horizon one other (inr (within, x)) (inr (again, y)) = x ∙ sym y

one_read_of : (h : History) (word : List ℕ) (a b : ℕ) (plan : Option PlanEntry) (one other : ℕ) → IsReadOf h word plan a b one → IsReadOf h word plan a b other → one ≡ other
one_read_of h word a b None one other x y =
    let list = one_list_of (λ d t. frequency_at h word (record { 0 = d }) t) 0 (2 ^ 40) x.0 y.0 x.1 y.1 in
    x.2 ∙ ap length list ∙ sym y.2
one_read_of h word a b (Some plan) one other x y =
    let f = λ (d t : ℕ). frequency_at h word (record { 0 = d }) t in
    let sealed = one_list_of f 0 plan.horizon.seconds x.0 y.0 x.2 y.2 in
    omega (
      arith,
      x.4,
      y.4,
      ap (λ (l : List Posting). stored_size a b plan.horizon.seconds l (seconds plan.cuts)) sealed,
      ap length (one_tail h word b plan.horizon.seconds x.1 y.1 x.3 y.3),
    )

one_read : (h : History) (a b : ℕ) (words : List (List ℕ)) (one other : ℕ) → IsReadFor h a b words one → IsReadFor h a b words other → one ≡ other
one_read h a b [] one other x y = x ∙ sym y
one_read h a b (word ∷ words) one other x y =
    omega (arith, x.4, y.4, one_read_of h word a b (plan_of h word) x.0 y.0 x.2 y.2, one_read h a b words x.1 y.1 x.3 y.3)

-- where a query is answered one way, so is a text
abbrev IsOnly : (Query → Reply → Type 0) → Type 0
IsOnly Finds = (query : Query) (reply other : Reply) → Finds query reply → Finds query other → reply ≡ other

one_replied : (Finds : Query → Reply → Type 0) → IsOnly Finds → (query : Result Query ℕ) (reply other : Reply) → IsRepliedBy Finds query reply → IsRepliedBy Finds query other → reply ≡ other
one_replied Finds one (Err place) reply other a b = a ∙ sym b
one_replied Finds one (Ok query) reply other a b = one query reply other a b

one_text : (Finds : Query → Reply → Type 0) → IsOnly Finds → (text : List ℕ) (reply other : Reply) → IsReplied Finds text reply → IsReplied Finds text other → reply ≡ other
one_text Finds one text reply other a b =
    let F : Result Query ℕ → Type 0 = λ q. IsRepliedBy Finds q reply in
    one_replied Finds one b.0 reply other (subst F (one_reading term_of text a.0 b.0 a.1 b.1) a.2) b.2

one_found : (h : History) (at : Time) → IsOnly (FindsBy h at)
one_found h at query reply other a b =
    let rows = one_answer (λ doc. IsSome (text_at h doc at.seconds)) (λ doc word. frequency_at h word doc at.seconds) query a.0 b.0 a.2 b.2 in
    let read = one_read h at.seconds (at.seconds + 1) (words_of query) a.1 b.1 a.3 b.3 in
    a.4 ∙ ap (λ (r : List Row). Found r a.1) rows ∙ ap (λ (n : ℕ). Found b.0 n) read ∙ sym b.4

one_finds : (h : History) (at : Time) (text : List ℕ) (reply other : Reply) → Finds h at text reply → Finds h at text other → reply ≡ other
one_finds h at text = one_text (FindsBy h at) (one_found h at) text

one_topped : (h : History) (count : TopCount) (at : Time) → IsOnly (TopsBy h count at)
one_topped h count at query reply other a b =
    let rows = one_answer (λ doc. IsSome (text_at h doc at.seconds)) (λ doc word. frequency_at h word doc at.seconds) query a.0 b.0 a.2 b.2 in
    let read = one_read h at.seconds (at.seconds + 1) (words_of query) a.1 b.1 a.3 b.3 in
    a.4 ∙ ap (λ (r : List Row). Found (take count.number r) a.1) rows ∙ ap (λ (n : ℕ). Found (take count.number b.0) n) read ∙ sym b.4

one_tops : (h : History) (count : TopCount) (at : Time) (text : List ℕ) (reply other : Reply) → Tops h count at text reply → Tops h count at text other → reply ≡ other
one_tops h count at text = one_text (TopsBy h count at) (one_topped h count at) text

one_neared : (h : History) (tolerance : Tolerance) (at : Time) → IsOnly (NearsBy h tolerance at)
one_neared h tolerance at query reply other a b =
    let rows = one_rough h tolerance at.seconds query a.0 b.0 a.2 b.2 in
    let read = one_read h 0 (2 ^ 40) (words_of query) a.1 b.1 a.3 b.3 in
    a.4 ∙ ap (λ (r : List Row). Neared r a.1) rows ∙ ap (λ (n : ℕ). Neared b.0 n) read ∙ sym b.4

one_sheet_of : (h : History) (word : List ℕ) (plan : Option PlanEntry) (t : ℕ) (one other : Sheet) → IsSheetOf h word plan t one → IsSheetOf h word plan t other → one ≡ other
one_sheet_of h word None t one other x y =
    x.2 ∙ ap (sheet_laid Flat t []) (one_list_of (λ d t. frequency_at h word (record { 0 = d }) t) 0 (2 ^ 40) x.0 y.0 x.1 y.1) ∙ sym y.2
one_sheet_of h word (Some plan) t one other x y =
    let horizon = plan.horizon.seconds in
    let sealed = one_list_of (λ d t. frequency_at h word (record { 0 = d }) t) 0 horizon x.0 y.0 x.2 y.2 in
    x.4 ∙ ap₂ (λ (l k : List Posting). sheet_laid plan.layout t (sublist_at t horizon l (seconds plan.cuts)) k) sealed (one_tail h word (t + 1) horizon x.1 y.1 x.3 y.3) ∙ sym y.4

-- first rows differ in how many blocks were opened alone
one_best : (h : History) (count : BestCount) (at : Time) (query : Query) (reply other : Reply) → BestsBy h count at query reply → BestsBy h count at query other → SameButOpened reply other
one_best h count at query reply other (rows, read, opened, blocks, answer, is_read, by, is) (rows2, read2, opened2, blocks2, answer2, is_read2, by2, is2) =
    let same = one_answer (λ doc. IsSome (text_at h doc at.seconds)) (λ doc word. frequency_at h word doc at.seconds) query rows rows2 answer answer2 in
    let reads = one_read h at.seconds (at.seconds + 1) (words_of query) read read2 is_read is_read2 in
    let sheets = one_zip (λ word sheet. IsSheetOf h word (plan_of h word) at.seconds sheet) (λ w s r. one_sheet_of h w (plan_of h w) at.seconds s r) (words_of query) by.sheets by2.sheets by.sheets_are by2.sheets_are in
    let all : blocks ≡ blocks2 = by.blocks_are ∙ ap (λ (ss : List Sheet). sum_by (λ (s : Sheet). length s.heads) ss) sheets ∙ sym by2.blocks_are in (
      take count.number rows,
      read,
      opened,
      opened2,
      blocks,
      is,
      is2 ∙ sym (ap (λ (r : List Row). FoundBest (take count.number r) read2 opened2 blocks2) same) ∙ sym (ap₂ (λ (n m : ℕ). FoundBest (take count.number rows) n opened2 m) reads all),
    )

one_bests : (h : History) (count : BestCount) (at : Time) (text : List ℕ) (b : Bool) (reply other : Reply) → Bests b h count at text reply → Bests b h count at text other → SameButChosen reply other
one_bests h count at text true reply other x y =
    let F : Result Query ℕ → Type 0 = λ q. IsRepliedBy (BestsBy h count at) q reply in
    go y.0 (subst F (one_reading term_of text x.0 y.0 x.1 y.1) x.2) y.2
  where
    go : (q : Result Query ℕ) → IsRepliedBy (BestsBy h count at) q reply → IsRepliedBy (BestsBy h count at) q other → SameButChosen reply other
    go (Ok query) a b = inr (inr (one_best h count at query reply other a b))
    go (Err place) a b = inl (a ∙ sym b)
one_bests h count at text false reply other x y = inl (one_text IsNoDisjunction (λ query r s a b. a ∙ sym b) text reply other x y)

one_spanned : (h : History) (span : Span) → IsOnly (SpansBy h span)
one_spanned h span query reply other a b =
    let rows = longest.one row_kind plain-rows (scored_at (λ doc t. is_some (text_at h doc t)) (λ doc t word. frequency_at h word doc t) query) span.from span.to a.0 b.0 a.2 b.2 in
    let read = one_read h span.from span.to (words_of query) a.1 b.1 a.3 b.3 in
    a.4 ∙ ap (λ (r : List SpanRow). Spanned r a.1) rows ∙ ap (λ (n : ℕ). Spanned b.0 n) read ∙ sym b.4

one_spans : (h : History) (span : Span) (text : List ℕ) (reply other : Reply) → Spans h span text reply → Spans h span text other → reply ≡ other
one_spans h span text = one_text (SpansBy h span) (one_spanned h span) text

one_proposes : (h : History) (phrase : List ℕ) (factor : Fraction) (reply other : Reply) → Proposes h phrase factor reply → Proposes h phrase factor other → SameButChosen reply other
one_proposes h phrase factor reply other =
    one_phrase Guarantee h (SameButChosen reply other) (λ why. reply ≡ Refused why) (λ why. other ≡ Refused why) (λ word list. ProposesPlan factor (last_second h) list reply) (λ word list. ProposesPlan factor (last_second h) list other)
    (λ why a b. inl (a ∙ sym b))
    (λ word list a b.
    let same = differ_in_segments list factor (last_second h) a.0 b.0 a.1 b.1 a.2 b.2 a.3 b.3 in
    inr (inl (a.0, b.0, a.1, a.2, a.4, b.4 ∙ ap (λ (ns : List Node). Proposed b.0 ns b.2) (sym same.0) ∙ ap (λ (n : ℕ). Proposed b.0 a.1 n) (sym same.1))))
    (one_term phrase)

one_stays : (h : History) (reply other : Reply) (next then : History) → next ≡ h → then ≡ h → reply ≡ other → IsOne reply other next then
one_stays h reply other next then a b same = (same, a ∙ sym b)

one_declines : (h : History) (why : Refusal) (reply other : Reply) (next then : History) → Declines h why reply next → Declines h why other then → IsOne reply other next then
one_declines h why reply other next then a b = one_stays h reply other next then a.0 b.0 (a.1 ∙ sym b.1)

same_outcome : {reply other : Reply} {next then : World} → (reply ≡ other) × (next ≡ then) → SameButChosen reply other × (next ≡ then)
same_outcome one = (inl one.0, one.1)

one_command : (asked : List Asking) (job : Option Job) (h : History) (c : Command) (reply other : Reply) (next then : History) → (IsChoice (items.Command c) → ⊥) → CarriesOut asked job h c reply next → CarriesOut asked job h c other then → IsOne reply other next then
one_command asked job h (commands.Arrive doc at (texts.Bytes text)) reply other next then free a b = one_adds h (entries.Arrive doc at text) (arrival_refusal h doc at text) reply other next then a b
one_command asked job h (commands.Arrive doc at (texts.TooLong bytes)) reply other next then free a b = one_declines h (refusals.TooLong most_text) reply other next then a b
one_command asked job h (commands.Delete doc at) reply other next then free a b = one_adds h (entries.Delete doc at) (deletion_refusal h doc at) reply other next then a b
one_command asked job h commands.Format reply other next then free a b = one_adds h entries.Format (mark_refusal h) reply other next then a b
one_command asked job h (commands.Batch batch) reply other next then free a b = one_batch h batch reply other next then a b
one_command asked job h (commands.Find at expr) reply other next then free a b = one_stays h reply other next then a.0 b.0 (one_finds h at expr reply other a.1 b.1)
one_command asked job h (commands.Top count at expr) reply other next then free a b = one_stays h reply other next then a.0 b.0 (one_tops h count at expr reply other a.1 b.1)
one_command asked job h (commands.Approx word tolerance) reply other next then free a b = one_stays h reply other next then a.0 b.0 (one_approximates h word tolerance reply other a.1 b.1)
one_command asked job h (commands.Rough tolerance at expr) reply other next then free a b = one_stays h reply other next then a.0 b.0 (one_text (NearsBy h tolerance at) (one_neared h tolerance at) expr reply other a.1 b.1)
one_command asked job h (commands.Best count at expr) reply other next then free a b = absurd (free tt)
one_command asked job h (commands.Show doc at) reply other next then free a b = one_stays h reply other next then a.0 b.0 (a.1 ∙ sym b.1)
one_command asked job h (commands.Plan word kind fraction) reply other next then free a b = absurd (free tt)
one_command asked job h (commands.Propose word fraction) reply other next then free a b = absurd (free tt)
one_command asked job h (commands.Between span expr) reply other next then free a b = one_stays h reply other next then a.0 b.0 (one_spans h span expr reply other a.1 b.1)
one_command asked job h (commands.Certificate word) reply other next then free a b = one_stays h reply other next then a.0 b.0 (one_certifies h word reply other a.1 b.1)
one_command asked job h commands.Verify reply other next then free a b =
    one_stays h reply other next then a.0 b.0 (a.1.2 ∙ ap Verified (one_verdict h a.1.0 b.1.0 a.1.1 b.1.1) ∙ sym b.1.2)
one_command asked job h (commands.Share factor words) reply other next then free a b = absurd (free tt)
one_command asked job h (commands.Begin word factor) reply other next then free a b = one_declines h refusals.Line reply other next then a b

pub one_outcome_only : (w : World) (item : Item) (reply other : Reply) (next then : World) → (IsChoice item → ⊥) → Step w item reply next → Step w item other then → (reply ≡ other) × (next ≡ then)
one_outcome_only w (items.Command (commands.Begin word fraction)) reply other next then free a b = absurd (free tt)
one_outcome_only w (items.Command c) reply other next then free a b =
    let one = one_command w.asked w.job w.history c reply other next.history then.history free a.0 b.0 in
    (one.0, one_world one.1 (one_noted w.asked c next.asked then.asked a.1 b.1) (a.2 ∙ sym b.2))
one_outcome_only w items.Line reply other next then free a b = (a.1 ∙ sym b.1, a.0 ∙ sym b.0)

-- also where it may choose what is proposed, but for the segments, and which blocks are opened, but for their number
pub one_but_chosen : (w : World) (item : Item) (reply other : Reply) (next then : World) → (IsStoring item → ⊥) → (IsSharing item → ⊥) → Step w item reply next → Step w item other then → SameButChosen reply other × (next ≡ then)
one_but_chosen w (items.Command (commands.Propose word fraction)) reply other next then free unshared a b =
    (one_proposes w.history word fraction reply other a.0.1 b.0.1, one_world (a.0.0 ∙ sym b.0.0) (a.1 ∙ sym b.1) (a.2 ∙ sym b.2))
one_but_chosen w (items.Command (commands.Best count at expr)) reply other next then free unshared a b =
    (one_bests w.history count at expr (asks_for_any expr) reply other a.0.1 b.0.1, one_world (a.0.0 ∙ sym b.0.0) (a.1 ∙ sym b.1) (a.2 ∙ sym b.2))
one_but_chosen w (items.Command (commands.Plan word kind fraction)) reply other next then free unshared a b = absurd (free tt)
one_but_chosen w (items.Command (commands.Begin word fraction)) reply other next then free unshared a b = absurd (free tt)
one_but_chosen w (items.Command (commands.Share factor words)) reply other next then free unshared a b = absurd (unshared tt)
one_but_chosen w item reply other next then free unshared a b = same_outcome (one_outcome_only w item reply other next then (λ x. x) a b)

-- what is told of two plans that an item may store
told_same : {one other : Summary} {next then : World} → SameButChosen (Planned one) (Planned other) × (next ≡ then) → SamePlanned one other
told_same {one = one} {other = other} (inl same, on) =
    let here : one ≡ other = cc in
    record {
      length = ap (λ (s : Summary). s.length) here;
      full = ap (λ (s : Summary). s.full) here;
      horizon = ap (λ (s : Summary). s.horizon) here;
      cost = ap (λ (s : Summary). s.cost) here;
      space = λ none. ap (λ (s : Summary). s.space) here;
    }
told_same {one = one} (inr (inl (segments, others, nodes, total, is, are)), on) = absurd cc
told_same {one = one} (inr (inr (rows, read, opened, others, blocks, is, are)), on) = absurd cc

pub planned_alike : (w : World) (item : Item) (one other : Summary) (next then : World) → Step w item (Planned one) next → Step w item (Planned other) then → SamePlanned one other
planned_alike w (items.Command (commands.Plan word kind fraction)) one other next then a b = plans_alike w.job w.history word kind fraction one other next.history then.history a.0 b.0
planned_alike w (items.Command (commands.Begin word fraction)) one other next then a b = absurd (none_begun w word fraction one next a)
planned_alike w (items.Command (commands.Share factor words)) one other next then a b = absurd (shares_nothing w.asked w.history words factor.fraction one a.0.1)
planned_alike w item one other next then a b = told_same (one_but_chosen w item (Planned one) (Planned other) next then (λ x. x) (λ x. x) a b)

-- ---- stints of the abstract machine

-- one that says nothing changes no history, so what an image stands for
works_on_silent : (b : Bool) (w : World) (job : Job) (new : World) → WorksOn b w job Silent new → new.history ≡ w.history
works_on_silent true w job new is = ap (λ (w : World). w.history) is.0
works_on_silent false w job new is = go (full_journal w.history (entries.Planned job.plan)) is
  where
    go : (o : Option Refusal) → Finishes w job o Silent new → new.history ≡ w.history
    go None f = absurd cc
    go (Some why) f = ap (λ (w : World). w.history) f.0

pub silent_keeps : (old new : World) → Works old Silent new → new.history ≡ old.history
silent_keeps old new works = go old.job works
  where
    go : (o : Option Job) → WorksAt old o Silent new → new.history ≡ old.history
    go None is = absurd is
    go (Some job) is = works_on_silent (nat_lt stint_pages job.left) old job new is

-- each has an outcome, which leads to a fair state and leaves less to do
module _ (P : History → Type 0) (push : (h : History) (e : Entry) → P h → IsLegalEntry h e → P (h ++ e ∷ [])) where
  finishes_somehow : (w : World) (job : Job) (o : Option Refusal) → P w.history → IsLegalEntry w.history (entries.Planned job.plan) → (reply : Reply) × ((new : World) × Finishes w job o reply new × IsFair P new × (left_of new.job ≡ 0))
  finishes_somehow w job None is entry = (_, (_, (refl, refl), record { history = push w.history (entries.Planned job.plan) is entry; job = tt }, refl))
  finishes_somehow w job (Some why) is entry = (_, (_, (refl, refl), record { history = is; job = tt }, refl))

  works_on : (b : Bool) (w : World) (job : Job) → nat_lt stint_pages job.left ≡ b → P w.history → IsLegalEntry w.history (entries.Planned job.plan)
      → (reply : Reply) × ((new : World) × WorksOn b w job reply new × IsFair P new × (left_of new.job < job.left + 1))
  works_on true w job more is entry = (Silent, (_, (refl, refl), record { history = is; job = entry }, omega (arith, ltb-true stint_pages job.left more)))
  works_on false w job more is entry =
      let last = finishes_somehow w job (full_journal w.history (entries.Planned job.plan)) is entry in
      (last.0, (last.1.0, last.1.1, last.1.2, omega (arith, last.1.3)))

  each_works : (w : World) → IsFair P w → at_work w ≡ true → (reply : Reply) × ((new : World) × Works w reply new × IsFair P new × (left_of new.job < left_of w.job))
  each_works w fair working = go w.job fair.job working
    where
      go : (o : Option Job) → MayBeStored w.history o → is_some o ≡ true → (reply : Reply) × ((new : World) × WorksAt w o reply new × IsFair P new × (left_of new.job < left_of o))
      go None may working = absurd cc
      go (Some job) may working = works_on (nat_lt stint_pages job.left) w job refl fair.history may

  -- and every outcome does
  finishes_keep : (w : World) (job : Job) (o : Option Refusal) (reply : Reply) (new : World) → P w.history → IsLegalEntry w.history (entries.Planned job.plan) → Finishes w job o reply new → IsFair P new
  finishes_keep w job None reply new is entry f = subst (IsFair P) (sym f.0) (record { history = push w.history (entries.Planned job.plan) is entry; job = tt })
  finishes_keep w job (Some why) reply new is entry f = subst (IsFair P) (sym f.0) (record { history = is; job = tt })

  works_keep : (w new : World) (reply : Reply) → IsFair P w → Works w reply new → IsFair P new
  works_keep w new reply fair works = go w.job fair.job works
    where
      by : (b : Bool) (job : Job) → IsLegalEntry w.history (entries.Planned job.plan) → WorksOn b w job reply new → IsFair P new
      by true job entry is = subst (IsFair P) (sym is.0) (record { history = fair.history; job = entry })
      by false job entry is = finishes_keep w job (full_journal w.history (entries.Planned job.plan)) reply new fair.history entry is

      go : (o : Option Job) → MayBeStored w.history o → WorksAt w o reply new → IsFair P new
      go None may works = absurd works
      go (Some job) may works = by (nat_lt stint_pages job.left) job may works

pub each_stint : (w : World) → IsFair IsLoadable w → at_work w ≡ true → (reply : Reply) × ((new : World) × Works w reply new × IsFair IsLoadable new × (left_of new.job < left_of w.job))
each_stint = each_works IsLoadable loads_more

pub stint_loads : (w new : World) (reply : Reply) → IsFair IsLoadable w → Works w reply new → IsFair IsLoadable new
stint_loads = works_keep IsLoadable loads_more

pub stint_legal : (w new : World) (reply : Reply) → IsFair IsLegal w → Works w reply new → IsFair IsLegal new
stint_legal = works_keep IsLegal legal-push
