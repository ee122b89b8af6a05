-- The machine that an archive is: what an item of the input does to its state, what a stint of work does, and what is replied.
use Rattle.std.specs.Prelude.{◌≡◌, ◌⊎◌, ℕ, ◌+◌, ◌-◌, ◌^◌, Bool, true, false, nat_lt, bytes_eq, sum_by, not, if◌then◌else◌, List, [], ◌∷◌, ◌++◌, length, take, Option, Some, None, unwrap_or, Result, Ok, Err}
use Rattle.std.specs.List.{AllZip, flat_map}
use Rattle.std.specs.Option.{option_map}
use Rattle.std.specs.Str.{is_utf8}
use Rattle.std.specs.Str.Lossy.{utf8_valid_len}
use Rattle.base_types.specs.Limits.{limit_of}
use Rattle.base_types.specs.declared.extent.Extent.{Extent}
use Rattle.base_types.specs.declared.fraction.Fraction.{Fraction}
use Rattle.base_types.specs.declared.ids.DocId.{DocId}
use Rattle.base_types.specs.declared.posting.Posting.{Posting}
use Rattle.base_types.specs.declared.time.Span.{Span}
use Rattle.base_types.specs.declared.time.Time.{Time}
use Rattle.base_types.specs.declared.tolerance.Tolerance.{Tolerance}
use Rattle.base_types.specs.declared.which.Which.TheVariants.{Journal, Pages}
use Rattle.base_commands.specs.Batches.{texts_bytes}
use Rattle.base_commands.specs.declared.batch.BatchItem.{BatchItem}
use Rattle.base_commands.specs.declared.batch.BatchItem.TheVariants as members
use Rattle.base_commands.specs.declared.batch.BatchItems.{BatchItems}
use Rattle.base_commands.specs.declared.batch.BatchItems.TheVariants.{Items, TooLong}
use Rattle.base_commands.specs.declared.command.Command.{Command}
use Rattle.base_commands.specs.declared.command.Command.TheVariants as commands
use Rattle.base_commands.specs.declared.command.Item.{Item}
use Rattle.base_commands.specs.declared.command.Item.TheVariants as items
use Rattle.base_commands.specs.declared.command.Kind.{Kind}
use Rattle.base_commands.specs.declared.command.Kind.TheVariants.{Guarantee}
use Rattle.base_commands.specs.declared.count.BestCount.{BestCount}
use Rattle.base_commands.specs.declared.count.TopCount.{TopCount}
use Rattle.base_commands.specs.declared.text.Text.{Text}
use Rattle.base_commands.specs.declared.text.Text.TheVariants as texts
use Rattle.lists_approx.specs.Approximations.{IsLongestFirst}
use Rattle.lists_versions.specs.Tests.{first_of, when}
use Rattle.journal_entries.specs.Acts.{most_text}
use Rattle.journal_entries.specs.declared.act.Act.{Act}
use Rattle.journal_entries.specs.declared.act.Act.TheVariants as batched
use Rattle.journal_entries.specs.declared.entry.Entry.{Entry}
use Rattle.journal_entries.specs.declared.entry.Entry.TheVariants as entries
use Rattle.journal_entries.specs.declared.place.Layout.TheVariants.{Blocks}
use Rattle.journal_entries.specs.declared.place.Place.{Place}
use Rattle.journal_entries.specs.declared.plan.PlanEntry.{PlanEntry}
use Rattle.pages_area.specs.Placing.{ArePlaced, HaveNoRoom}
use Rattle.pages_area.specs.Runs.{pages_for}
use Rattle.pages_sublists.specs.Preparing.{IsFor, extents, sizes, spellings}
use Rattle.pages_sublists.specs.Segments.{seconds}
use Rattle.plans_share.specs.declared.asked.Asking.{Asking}
use Rattle.plans_kinds.specs.Plans.{IsGoodPlan, IsCostOf, later, plan_space}
use Rattle.text_words.specs.Terms.{one_term}
use Rattle.plans_kinds.specs.Proposals.{IsProposal, IsShown}
use Rattle.plans_kinds.specs.declared.proposal.Node.{Node}
use Rattle.plans_kinds.specs.declared.proposal.Segment.{Segment}
use Rattle.query_lang.specs.Chains.{asks_for_any}
use Rattle.query_lang.specs.Grammar.{Query, IsRead}
use Rattle.query_lang.specs.Meaning.{words_of}
use Rattle.query_lang.specs.Tokens.{term_of}
use Rattle.query_eval.specs.declared.answer.Row.{Row}
use Rattle.query_eval.specs.declared.spans.SpanRow.{SpanRow}
use Rattle.model_archive.specs.declared.refusal.Refusal.{Refusal}
use Rattle.model_archive.specs.declared.refusal.Refusal.TheVariants as refusals
use Rattle.model_archive.specs.declared.sharing.Share.{Share}
use Rattle.model_archive.specs.declared.summary.Summary.{Summary}
use Rattle.model_archive.specs.declared.verdict.Verdict.{Verdict}
use Rattle.model_archive.specs.Histories.{History, act_refusal, entry_refusal, old_format, long_batch, most_batch, singles, end_of, text_at}
use Rattle.model_archive.specs.Answers.{IsAnswerAt, IsSpanAnswerAt, IsWordList}
use Rattle.model_archive.specs.Bests.{AreFoundByBlocks}
use Rattle.model_archive.specs.Chosen.{IsReadFor}
use Rattle.model_archive.specs.Planning.{OfPhrase, OfTerm, IsListUpTo, last_second}
use Rattle.model_archive.specs.Plans.{plan_of}
use Rattle.model_archive.specs.Rough.{IsRoughAnswer}
use Rattle.model_archive.specs.Sharing.{IsShared, Notes, OfPhrases}
use Rattle.model_archive.specs.Verifying.{Verifies}
use Rattle.model_archive.specs.Worlds.{Job, World, taken_in}

-- what an item is answered, or what is said of work that no item asked for
pub data Reply : Type 0 where
  -- it is carried out, and the history has so many entries now
  Accepted : ℕ → Reply
  -- it is refused, and nothing changes
  Refused : Refusal → Reply
  -- the same for an item of a batch, or for a word that was to share, by its number, from 1
  RefusedIn : Refusal → ℕ → Reply
  -- the rows that match, and how many postings were read for them
  Found : List Row → ℕ → Reply
  -- the same, and how many blocks were opened for them, of how many
  FoundBest : List Row → ℕ → ℕ → ℕ → Reply
  -- the same of a window of time
  Spanned : List SpanRow → ℕ → Reply
  -- the postings of an approximation, and how many the whole list has
  Approximated : List Posting → ℕ → Reply
  -- the rows that match by approximations, and how many postings were read for them
  Neared : List Row → ℕ → Reply
  -- the text, if the document is alive then
  Version : Option (List ℕ) → Reply
  -- the segments of a plan with their sizes, the boundaries with the least space up to each, and the plan's space
  Proposed : List Segment → List Node → ℕ → Reply
  -- a plan is stored
  Planned : Summary → Reply
  -- the archive was checked by its texts
  Verified : Verdict → Reply
  -- words' shares of a budget, how many postings its unit is, how many units it has, and what reads of all these words are expected to cost
  Shared : List Share → ℕ → ℕ → ℕ → Reply
  -- a plan is begun, with so many segments and pages
  Begun : ℕ → ℕ → Reply
  -- a plan that was begun is stored
  Finished : Summary → Reply
  -- there is nothing to say
  Silent : Reply

-- the text has more bytes than a text may have
abbrev pub too_long : List ℕ → Option Refusal
too_long text = when (nat_lt most_text (length text)) (refusals.TooLong most_text)

-- the text isn't UTF-8
abbrev pub bad_text : List ℕ → Option Refusal
bad_text text = when (not (is_utf8 text)) (refusals.BadText (utf8_valid_len text))

-- the journal would pass its limit
abbrev pub full_journal : History → Entry → Option Refusal
full_journal history entry = when (nat_lt (limit_of Journal) (end_of (history ++ entry ∷ []))) (refusals.Full Journal (limit_of Journal))

-- why an arrival is refused: the first cause in order
abbrev pub arrival_refusal : History → DocId → Time → List ℕ → Option Refusal
arrival_refusal history doc at text = let entry = entries.Arrive doc at text in
    first_of (too_long text ∷ bad_text text ∷ entry_refusal history entry ∷ full_journal history entry ∷ [])

-- why a deletion is refused: the first cause in order
abbrev pub deletion_refusal : History → DocId → Time → Option Refusal
deletion_refusal history doc at = let entry = entries.Delete doc at in
    first_of (entry_refusal history entry ∷ full_journal history entry ∷ [])

-- why the mark is refused: the first cause in order
abbrev pub mark_refusal : History → Option Refusal
mark_refusal history = first_of (entry_refusal history entries.Format ∷ full_journal history entries.Format ∷ [])

-- an entry that is accepted comes behind the history; one that is refused changes nothing
abbrev pub Adds : History → Entry → Option Refusal → Reply → History → Type 0
Adds old entry None reply new = (new ≡ old ++ entry ∷ []) × (reply ≡ Accepted (length new))
Adds old entry (Some why) reply new = (new ≡ old) × (reply ≡ Refused why)

-- what a query is answered; or the place at which a text is told to be none
abbrev pub IsRepliedBy : (Query → Reply → Type 0) → Result Query ℕ → Reply → Type 0
IsRepliedBy Finds (Ok query) reply = Finds query reply
IsRepliedBy Finds (Err place) reply = reply ≡ Refused (refusals.BadQuery place)

-- what a text is answered, as it is read
abbrev pub IsReplied : (Query → Reply → Type 0) → List ℕ → Reply → Type 0
IsReplied Finds text reply = (query : Result Query ℕ) × IsRead term_of text query × IsRepliedBy Finds query reply

-- what is found at a time by a query, in rows and postings read
abbrev pub FindsBy : History → Time → Query → Reply → Type 0
FindsBy history at query reply =
    (rows : List Row) × (read : ℕ) × IsAnswerAt history at.seconds query rows
    × IsReadFor history at.seconds (at.seconds + 1) (words_of query) read × (reply ≡ Found rows read)

-- the same by a text
abbrev pub Finds : History → Time → List ℕ → Reply → Type 0
Finds history at text reply = IsReplied (FindsBy history at) text reply

-- the first rows of what is found at a time by a query, and the postings read, which are those for all of them
abbrev pub TopsBy : History → TopCount → Time → Query → Reply → Type 0
TopsBy history count at query reply =
    (rows : List Row) × (read : ℕ) × IsAnswerAt history at.seconds query rows
    × IsReadFor history at.seconds (at.seconds + 1) (words_of query) read
    × (reply ≡ Found (take count.number rows) read)

-- the same by a text
abbrev pub Tops : History → TopCount → Time → List ℕ → Reply → Type 0
Tops history count at text reply = IsReplied (TopsBy history count at) text reply

-- what is told of a phrase's word approximately: it is refused, or the longest-first approximation of its whole list is told
abbrev pub Approximates : History → List ℕ → Tolerance → Reply → Type 0
Approximates history phrase tolerance reply = OfTerm history (one_term phrase) (λ why. reply ≡ Refused why)
    (λ word. (whole short : List Posting) × IsWordList history word whole × IsLongestFirst tolerance whole short
    × (reply ≡ Approximated short (length whole)))

-- what is found approximately at a time by a query, and the postings read, which are those of the words' whole lists over all times
abbrev pub NearsBy : History → Tolerance → Time → Query → Reply → Type 0
NearsBy history tolerance at query reply =
    (rows : List Row) × (read : ℕ) × IsRoughAnswer history tolerance at.seconds query rows
    × IsReadFor history 0 (2 ^ 40) (words_of query) read × (reply ≡ Neared rows read)

-- the same by a text
abbrev pub Nears : History → Tolerance → Time → List ℕ → Reply → Type 0
Nears history tolerance at text reply = IsReplied (NearsBy history tolerance at) text reply

-- the first rows of what is found at a time by a query, as they are found by blocks
abbrev pub BestsBy : History → BestCount → Time → Query → Reply → Type 0
BestsBy history count at query reply =
    (rows : List Row) × (read opened blocks : ℕ) × IsAnswerAt history at.seconds query rows
    × IsReadFor history at.seconds (at.seconds + 1) (words_of query) read
    × AreFoundByBlocks history at.seconds count.number query (take count.number rows) opened blocks
    × (reply ≡ FoundBest (take count.number rows) read opened blocks)

-- what a text that is a query is answered, where it doesn't ask for any of some words and for nothing else
abbrev pub IsNoDisjunction : Query → Reply → Type 0
IsNoDisjunction query reply = reply ≡ Refused refusals.NotDisjunction

-- the same as the first rows, by a text; the first argument says that it asks for any of some words
abbrev pub Bests : Bool → History → BestCount → Time → List ℕ → Reply → Type 0
Bests true history count at text reply = IsReplied (BestsBy history count at) text reply
Bests false history count at text reply = IsReplied IsNoDisjunction text reply

-- what is found over a window of time by a query, in rows and postings read
abbrev pub SpansBy : History → Span → Query → Reply → Type 0
SpansBy history span query reply =
    (rows : List SpanRow) × (read : ℕ) × IsSpanAnswerAt history span.from span.to query rows
    × IsReadFor history span.from span.to (words_of query) read × (reply ≡ Spanned rows read)

-- the same by a text
abbrev pub Spans : History → Span → List ℕ → Reply → Type 0
Spans history span text reply = IsReplied (SpansBy history span) text reply

-- any least plan of a list is proposed
abbrev pub ProposesPlan : Fraction → ℕ → List Posting → Reply → Type 0
ProposesPlan factor horizon list reply =
    (segments : List Segment) × (nodes : List Node) × (total : ℕ) × IsProposal list factor horizon segments nodes total
    × (reply ≡ Proposed segments nodes total)

-- what is proposed for a phrase: it is refused, or a least plan of its word's list up to the last time is told
abbrev pub Proposes : History → List ℕ → Fraction → Reply → Type 0
Proposes history phrase factor reply =
    OfPhrase Guarantee history (one_term phrase) (λ why. reply ≡ Refused why)
    (λ word list. ProposesPlan factor (last_second history) list reply)

-- the stored plan of a list, as it is certified: the partition by its cuts is shown, with the least space up to each boundary
abbrev pub IsCertificate : List Posting → Fraction → List Time → ℕ → List Segment → List Node → ℕ → Type 0
IsCertificate list factor [] h segments nodes total = ⊥
IsCertificate list factor (f ∷ cuts) h segments nodes total = IsShown list factor h f.seconds (later cuts h) segments nodes total

-- what is certified of a live plan, by its kind: only one that keeps to a guarantee has a certificate
abbrev pub CertifiesPlan : History → PlanEntry → Kind → Reply → Type 0
CertifiesPlan history plan Guarantee reply = (list : List Posting) × IsListUpTo history plan.word plan.horizon.seconds list
    × ((segments : List Segment) × (nodes : List Node) × (total : ℕ)
    × IsCertificate list plan.fraction plan.cuts plan.horizon.seconds segments nodes total × (reply ≡ Proposed segments nodes total))
CertifiesPlan history plan other reply = reply ≡ Refused refusals.NoPlan

-- what is certified of a word's live plan, if it has one
abbrev pub CertifiesLive : History → Option PlanEntry → Reply → Type 0
CertifiesLive history None reply = reply ≡ Refused refusals.NoPlan
CertifiesLive history (Some plan) reply = CertifiesPlan history plan plan.kind reply

-- what is certified for a phrase: it is refused, or its word's live plan is certified
abbrev pub Certifies : History → List ℕ → Reply → Type 0
Certifies history phrase reply = OfTerm history (one_term phrase) (λ why. reply ≡ Refused why)
    (λ word. CertifiesLive history (plan_of history word) reply)

-- what is told of phrases that share a budget, by what was asked: one is refused, or a best choice for their words is told
abbrev pub Shares : List Asking → History → List (List ℕ) → Fraction → Reply → Type 0
Shares asked history phrases factor reply = OfPhrases history 1 phrases (λ number why. reply ≡ RefusedIn why number)
    (λ words. (shares : List Share) × (unit budget cost : ℕ) × IsShared asked (last_second history) factor words shares unit budget cost
    × (reply ≡ Shared shares unit budget cost))

-- a command that is refused changes nothing
abbrev pub Declines : History → Refusal → Reply → History → Type 0
Declines old why reply new = (new ≡ old) × (reply ≡ Refused why)

-- the entry of a plan that is stored: its sublists are in blocks
abbrev pub in_blocks : List ℕ → Kind → Fraction → Time → List Time → List Place → PlanEntry
in_blocks word kind factor horizon cuts places =
    record { word = word; layout = Blocks; kind = kind; fraction = factor; horizon = horizon; cuts = cuts; places = places }

-- a plan's entry comes behind the history; or it is refused, as with it the journal would pass its limit
abbrev pub AddsPlan : History → PlanEntry → Option Refusal → List Posting → Reply → History → Type 0
AddsPlan old plan None list reply new =
    (new ≡ old ++ entries.Planned plan ∷ [])
    × ((cost : Option ℕ) × IsCostOf plan.kind list plan.cuts plan.horizon.seconds cost × (reply ≡ Planned (record {
      length = length new;
      segments = length plan.cuts;
      space = plan_space list plan.cuts plan.horizon.seconds;
      full = length list;
      horizon = plan.horizon;
      cost = cost;
    })))
AddsPlan old plan (Some why) list reply new = Declines old why reply new

-- The places of a plan with these cuts: each segment's sublist takes the lowest run of pages that no live place, none of a plan that is being
-- written, and no earlier segment has. Where there is no such run, it is refused.
abbrev pub TakesPlaces : Option Job → History → List ℕ → Kind → Fraction → Time → List Time → List Posting → (Refusal → Type 0)
    → (PlanEntry → Type 0) → Type 0
TakesPlaces job old word kind factor horizon cuts list Refuses GoesOn = let bytes = spellings Blocks list (seconds cuts) horizon.seconds in
    (HaveNoRoom (taken_in job old) (sizes bytes) × Refuses (refusals.Full Pages (limit_of Pages)))
    ⊎ ((places : List Place) × ArePlaced (taken_in job old) (sizes bytes) (extents places) × AllZip IsFor places bytes
    × GoesOn (in_blocks word kind factor horizon cuts places))

-- any plan of a word's list up to the last time that is what its kind promises, if there is room for its sublists
pub record ChoosesPlan (job : Option Job) (old : History) (kind : Kind) (factor : Fraction) (word : List ℕ) (list : List Posting)
    (Refuses : Refusal → Type 0) (GoesOn : PlanEntry → Type 0) : Type 0 where
  pub horizon : Time
  pub horizon_is : horizon.seconds ≡ last_second old
  pub cuts : List Time
  pub good : IsGoodPlan kind list factor cuts horizon.seconds
  pub stores : TakesPlaces job old word kind factor horizon cuts list Refuses GoesOn

-- it is stored, if the journal has room for its entry
abbrev pub StoresPlan : Option Job → History → Kind → Fraction → List ℕ → List Posting → Reply → History → Type 0
StoresPlan job old kind factor word list reply new = ChoosesPlan job old kind factor word list (λ why. Declines old why reply new)
    (λ plan. AddsPlan old plan (full_journal old (entries.Planned plan)) list reply new)

-- A term's key, if it is UTF-8, as an entry's word has to be. (A key encodes what Unicode's tables give, so each should be. That isn't proved of
-- the tables, so it is asked here; a phrase whose key weren't UTF-8 would be refused as NotOneTerm.)
abbrev pub spelled_key : Option (List ℕ) → Option (List ℕ)
spelled_key None = None
spelled_key (Some key) = if is_utf8 key then Some key else None

-- the first where the word is that of the plan, the second where it is another
abbrev pub ByWord : Bool → Type 0 → Type 0 → Type 0
ByWord true Same Other = Same
ByWord false Same Other = Other

-- a plan of a word can't be stored while one of it is being written
abbrev pub OfStill : Option Job → List ℕ → (Refusal → Type 0) → Type 0 → Type 0
OfStill None word Refuses GoesOn = GoesOn
OfStill (Some job) word Refuses GoesOn = ByWord (bytes_eq job.plan.word word) (Refuses refusals.Busy) GoesOn

-- none can be begun while one is being written, of this word or of another
abbrev pub OfIdle : Option Job → List ℕ → (Refusal → Type 0) → Type 0 → Type 0
OfIdle None word Refuses GoesOn = GoesOn
OfIdle (Some job) word Refuses GoesOn = ByWord (bytes_eq job.plan.word word) (Refuses refusals.Busy) (Refuses refusals.OneJob)

-- what becomes of a phrase that is to be planned: it is refused, or a plan of its word's list is stored that is what its kind promises
abbrev pub Plans : Option Job → History → List ℕ → Kind → Fraction → Reply → History → Type 0
Plans job old phrase kind factor reply new =
    OfPhrase kind old (spelled_key (one_term phrase)) (λ why. Declines old why reply new)
    (λ word list. OfStill job word (λ why. Declines old why reply new) (StoresPlan job old kind factor word list reply new))

-- a plan is begun, or this is why not, and nothing changes
abbrev pub Idles : World → Refusal → Reply → World → Type 0
Idles old why reply new = (new ≡ old) × (reply ≡ Refused why)

-- how many pages these extents take
abbrev pub pages_in : List Extent → ℕ
pages_in all = sum_by (λ (e : Extent). pages_for e.bytes) all

-- A plan is taken on, if the journal would have room for its entry: nothing is written yet.
abbrev pub TakesOn : World → PlanEntry → Option Refusal → List Posting → Reply → World → Type 0
TakesOn old plan None list reply new =
    (new ≡ record old {
      job = Some (record {
        plan = plan;
        space = plan_space list plan.cuts plan.horizon.seconds;
        full = length list;
        left = pages_in (extents plan.places);
      });
    })
    × (reply ≡ Begun (length plan.cuts) (pages_in (extents plan.places)))
TakesOn old plan (Some why) list reply new = Idles old why reply new

-- what becomes of a phrase of which a plan is to be begun: it is refused, or a least plan is chosen and placed as one that is stored
abbrev pub Begins : World → List ℕ → Fraction → Reply → World → Type 0
Begins old phrase factor reply new =
    OfPhrase Guarantee old.history (spelled_key (one_term phrase)) (λ why. Idles old why reply new)
    (λ word list. OfIdle old.job word (λ why. Idles old why reply new)
    (ChoosesPlan old.job old.history Guarantee factor word list (λ why. Idles old why reply new)
    (λ plan. TakesOn old plan (full_journal old.history (entries.Planned plan)) list reply new)))

-- a version arrives, with a text that was held, or with one that is too long to be
abbrev pub Arrives : History → DocId → Time → Text → Reply → History → Type 0
Arrives old doc at (texts.Bytes text) reply new = Adds old (entries.Arrive doc at text) (arrival_refusal old doc at text) reply new
Arrives old doc at (texts.TooLong bytes) reply new = Declines old (refusals.TooLong most_text) reply new

-- why a batch is refused, and the number of the item for which it is, where it is for one
pub record Cause : Type 0 where
  pub why : Refusal
  pub index : Option ℕ

-- the number of the first item that is neither an arrival nor a deletion, where the first of these has this number
abbrev pub first_other : ℕ → List BatchItem → Option ℕ
first_other index [] = None
first_other index (members.Other ∷ items) = Some index
first_other index (item ∷ items) = first_other (index + 1) items

-- the text of an item as it would be in an act (where it was too long to be held, the batch is refused)
abbrev pub text_held : Text → List ℕ
text_held (texts.Bytes text) = text
text_held (texts.TooLong bytes) = []

-- the act that an item is, if it is one
abbrev pub act_of : BatchItem → List Act
act_of (members.Arrive doc at text) = batched.Arrive doc at (text_held text) ∷ []
act_of (members.Delete doc at) = batched.Delete doc at ∷ []
act_of members.Other = []

-- why a text is no version's
abbrev pub text_refusal : Text → Option Refusal
text_refusal (texts.Bytes text) = first_of (too_long text ∷ bad_text text ∷ [])
text_refusal (texts.TooLong bytes) = Some (refusals.TooLong most_text)

-- why an item may not come after a history: its text is none, or the act may not come
abbrev pub item_refusal : History → BatchItem → Option Refusal
item_refusal before (members.Arrive doc at text) = first_of (text_refusal text ∷ act_refusal before (batched.Arrive doc at (text_held text))
    ∷ [])
item_refusal before (members.Delete doc at) = act_refusal before (batched.Delete doc at)
item_refusal before members.Other = None

-- a cause for the whole batch
abbrev pub for_all : Option Refusal → Option Cause
for_all refusal = option_map (λ why. record { why = why; index = None }) refusal

-- the first item that is refused behind those before it, where the first of these has this number
abbrev pub items_cause : History → ℕ → List BatchItem → Option Cause
items_cause before index [] = None
items_cause before index (item ∷ items) = first_of (
    option_map (λ why. record { why = why; index = Some index }) (item_refusal before item)
    ∷ items_cause (before ++ singles (act_of item)) (index + 1) items
    ∷ [])

-- why a batch is refused: the first cause in order
abbrev pub batch_cause : History → List BatchItem → Option Cause
batch_cause old items = first_of (
    for_all (old_format old)
    ∷ for_all (long_batch (texts_bytes items))
    ∷ for_all (option_map (λ index. refusals.BatchLine index) (first_other 1 items))
    ∷ items_cause old 1 items
    ∷ for_all (full_journal old (entries.Batch (flat_map act_of items)))
    ∷ [])

-- how a batch is refused: for an item, or whole
abbrev pub refused_for : Refusal → Option ℕ → Reply
refused_for why None = Refused why
refused_for why (Some index) = RefusedIn why index

-- a batch that is accepted comes behind the history as one entry; one that is refused changes nothing
abbrev pub AddsBatch : History → Entry → Option Cause → Reply → History → Type 0
AddsBatch old entry None reply new = (new ≡ old ++ entry ∷ []) × (reply ≡ Accepted (length new))
AddsBatch old entry (Some cause) reply new = (new ≡ old) × (reply ≡ refused_for cause.why cause.index)

-- a batch comes, with items that were held, or with some whose texts are together too long to be
abbrev pub Batches : History → BatchItems → Reply → History → Type 0
Batches old (Items items) reply new = AddsBatch old (entries.Batch (flat_map act_of items)) (batch_cause old items) reply new
Batches old (TooLong bytes) reply new = Declines old (unwrap_or (old_format old) (refusals.BatchTooLong most_batch)) reply new

-- From the old history, the archive may give this reply to the command and go on to the new one, by what was asked before and the plan that is being
-- written, if one is. (`begin` is a step of its own.)
abbrev pub CarriesOut : List Asking → Option Job → History → Command → Reply → History → Type 0
CarriesOut asked job old (commands.Arrive doc at text) reply new = Arrives old doc at text reply new
CarriesOut asked job old (commands.Delete doc at) reply new = Adds old (entries.Delete doc at) (deletion_refusal old doc at) reply new
CarriesOut asked job old commands.Format reply new = Adds old entries.Format (mark_refusal old) reply new
CarriesOut asked job old (commands.Batch batch) reply new = Batches old batch reply new
CarriesOut asked job old (commands.Find at expr) reply new = (new ≡ old) × Finds old at expr reply
CarriesOut asked job old (commands.Top count at expr) reply new = (new ≡ old) × Tops old count at expr reply
CarriesOut asked job old (commands.Approx word tolerance) reply new = (new ≡ old) × Approximates old word tolerance reply
CarriesOut asked job old (commands.Rough tolerance at expr) reply new = (new ≡ old) × Nears old tolerance at expr reply
CarriesOut asked job old (commands.Best count at expr) reply new = (new ≡ old) × Bests (asks_for_any expr) old count at expr reply
CarriesOut asked job old (commands.Show doc at) reply new = (new ≡ old) × (reply ≡ Version (text_at old doc at.seconds))
CarriesOut asked job old (commands.Plan word kind fraction) reply new = Plans job old word kind fraction reply new
CarriesOut asked job old (commands.Propose word fraction) reply new = (new ≡ old) × Proposes old word fraction reply
CarriesOut asked job old (commands.Between span expr) reply new = (new ≡ old) × Spans old span expr reply
CarriesOut asked job old (commands.Certificate word) reply new = (new ≡ old) × Certifies old word reply
CarriesOut asked job old commands.Verify reply new = (new ≡ old) × ((verdict : Verdict) × Verifies old verdict × (reply ≡ Verified verdict))
CarriesOut asked job old (commands.Share factor words) reply new = (new ≡ old) × Shares asked old words factor.fraction reply
CarriesOut asked job old other reply new = Declines old refusals.Line reply new

-- The step of the machine, over an item of the input: a command is carried out and noted, and a line that is none is refused. No item ends the work on a
-- plan.
abbrev pub Step : World → Item → Reply → World → Type 0
Step old (items.Command (commands.Begin word fraction)) reply new = Begins old word fraction reply new
Step old (items.Command command) reply new = CarriesOut old.asked old.job old.history command reply new.history
    × Notes old.asked command new.asked × (new.job ≡ old.job)
Step old items.Line reply new = Idles old refusals.Line reply new

-- so many pages are written in one stint
abbrev pub stint_pages : ℕ
stint_pages = 8

-- The entry comes behind the history, or there is no room for it; and no plan is under way any more.
abbrev pub Finishes : World → Job → Option Refusal → Reply → World → Type 0
Finishes old job None reply new = let next = old.history ++ entries.Planned job.plan ∷ [] in
    (new ≡ record { history = next; asked = old.asked; job = None }) × (reply ≡ Finished (record {
      length = length next;
      segments = length job.plan.cuts;
      space = job.space;
      full = job.full;
      horizon = job.plan.horizon;
      cost = None;
    }))
Finishes old job (Some why) reply new = (new ≡ record old { job = None }) × (reply ≡ Refused why)

-- a stint that leaves pages says nothing; the one that leaves none is the last
abbrev pub WorksOn : Bool → World → Job → Reply → World → Type 0
WorksOn true old job reply new = (new ≡ record old { job = Some (record job { left = job.left - stint_pages }) }) × (reply ≡ Silent)
WorksOn false old job reply new = Finishes old job (full_journal old.history (entries.Planned job.plan)) reply new

-- a stint of a plan that is being written, if one is
abbrev pub WorksAt : World → Option Job → Reply → World → Type 0
WorksAt old None reply new = ⊥
WorksAt old (Some job) reply new = WorksOn (nat_lt stint_pages job.left) old job reply new

-- What the machine does of its own: a stint of the work on the plan that is being written.
abbrev pub Works : World → Reply → World → Type 0
Works old reply new = WorksAt old old.job reply new

-- how much is left to do
abbrev pub left_of : Option Job → ℕ
left_of None = 0
left_of (Some job) = job.left + 1
