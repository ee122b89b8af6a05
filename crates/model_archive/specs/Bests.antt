-- The first rows of an answer as they are found by the tops of blocks: what there is of each word at a time, which blocks may have been opened for the
-- rows, and what may be damaged of it.
use Rattle.std.specs.Prelude.{◌≡◌, ◌⊎◌, ℕ, ◌+◌, ◌<◌, nat_lt, ◌&&◌, true, if◌then◌else◌, List, [], ◌∷◌, ◌++◌, length, map, sum_by, Contains, Option, Some, None, Ok, Err}
use Rattle.std.specs.List.{AllZip}
use Rattle.base_types.specs.declared.posting.Posting.{Posting}
use Rattle.lists_postings.specs.Lists.{rows_at, sublist}
use Rattle.journal_entries.specs.declared.place.Layout.{Layout}
use Rattle.journal_entries.specs.declared.place.Layout.TheVariants.{Flat, Blocks}
use Rattle.journal_entries.specs.declared.plan.PlanEntry.{PlanEntry}
use Rattle.pages_codec.specs.Blocks.{head_for, pieces}
use Rattle.pages_codec.specs.Fields.{fields}
use Rattle.pages_codec.specs.Frames.{FramesState}
use Rattle.pages_codec.specs.declared.head.BlockHead.{BlockHead}
use Rattle.pages_sublists.specs.Framing.{IsFramed, IsUnframed, IsUnopened}
use Rattle.pages_sublists.specs.Gathering.{Chosen, bytes_of, chosen}
use Rattle.pages_sublists.specs.Segments.{next_cut, seconds}
use Rattle.pages_sublists.specs.declared.why.Damage.{Damage}
use Rattle.query_lang.specs.Chains.{asks_for_any}
use Rattle.query_lang.specs.Grammar.{Query, IsRead}
use Rattle.query_lang.specs.Meaning.{weight, words_of}
use Rattle.query_lang.specs.Tokens.{term_of}
use Rattle.query_eval.specs.declared.answer.Row.{Row}
use Rattle.query_top.specs.Firsts.{Each, AreEnough}
use Rattle.query_top.specs.Opening.{Opened, AreDistinct, HasShown}
use Rattle.query_top.specs.Sheets.{Sheet, bound, head_at, score, sheet_at}
use Rattle.query_top.specs.declared.ranking.Row.{Row as TopRow}
use Rattle.model_archive.specs.Histories.{History}
use Rattle.model_archive.specs.Answers.{IsWordList}
use Rattle.model_archive.specs.Chosen.{GathersOf, IsTailFor}
use Rattle.model_archive.specs.Planning.{IsListUpTo}
use Rattle.model_archive.specs.Plans.{plan_of}

-- ---- what there is of a word

-- the sublist of the segment that has the time t, by the left ends of the segments and the horizon; nothing where none has it
abbrev pub sublist_at : ℕ → ℕ → List Posting → List ℕ → List Posting
sublist_at t h list [] = []
sublist_at t h list (f ∷ cuts) =
    if nat_lt f (t + 1) && nat_lt t (next_cut cuts h) then sublist f (next_cut cuts h) list else sublist_at t h list cuts

-- a list in blocks of 128 postings, the last of what is left
abbrev pub in_pieces : List Posting → List (List Posting)
in_pieces list = pieces (length list) list

-- the header of a block of these postings
abbrev pub header : List Posting → BlockHead
header block = let h = head_for (map fields block) in
    record { count = h.count; size = h.size; top = h.top; first = record { 0 = h.first }; last = record { 0 = h.last } }

-- Of a stored sublist and the list behind the horizon, by the sublist's layout: its blocks, where it has some; and the postings at the time outside of
-- blocks, which are at hand.
abbrev pub sheet_laid : Layout → ℕ → List Posting → List Posting → Sheet
sheet_laid Flat t stored tail = record { heads = []; blocks = []; flat = rows_at t (stored ++ tail) }
sheet_laid Blocks t stored tail = record { heads = map header (in_pieces stored); blocks = in_pieces stored; flat = rows_at t tail }

-- what there is of a word at a time, by its live plan if it has one
abbrev pub IsSheetOf : History → List ℕ → Option PlanEntry → ℕ → Sheet → Type 0
IsSheetOf history word None t sheet = (whole : List Posting) × IsWordList history word whole × (sheet ≡ sheet_laid Flat t [] whole)
IsSheetOf history word (Some plan) t sheet = let h = plan.horizon.seconds in
    (sealed tail : List Posting) × IsListUpTo history word h sealed × IsTailFor history word (t + 1) h tail
    × (sheet ≡ sheet_laid plan.layout t (sublist_at t h sealed (seconds plan.cuts)) tail)

-- what there is of some words, one by one
abbrev pub AreSheets : History → ℕ → List (List ℕ) → List Sheet → Type 0
AreSheets history t words sheets = AllZip (λ word sheet. IsSheetOf history word (plan_of history word) t sheet) words sheets

-- ---- which blocks are opened

-- the weights of a query's words
abbrev pub weights_in : Query → List ℕ
weights_in query = map (weight query) (words_of query)

-- a row, as rows are where blocks are gone through
abbrev pub top_row : Row → TopRow
top_row row = record { doc = row.doc; score = row.score }

-- the block is needless for so many rows: as many documents in front of its first one have a score of at least the block's bound
abbrev pub IsNeedless : ℕ → List ℕ → List Sheet → ℕ → Opened → Type 0
IsNeedless t weights sheets count o = let head = head_at sheets o.word o.block in
    AreEnough (score t weights sheets) count head.first.0 (bound weights sheets head)

-- The rows were found by blocks, of which so many were opened, of so many. Which ones is free, but for this: each is there, none stands twice, none is
-- needless, and each that has a posting at the time of a document that is shown is among them.
pub record AreFoundByBlocks (history : History) (t count : ℕ) (query : Query) (rows : List Row) (opened blocks : ℕ) : Type 0 where
  pub sheets : List Sheet
  pub sheets_are : AreSheets history t (words_of query) sheets
  pub os : List Opened
  pub inside : Each (λ o. o.block < length (sheet_at sheets o.word).heads) os
  pub distinct : AreDistinct os
  pub wanted : Each (λ o. IsNeedless t (weights_in query) sheets count o → ⊥) os
  pub shown : (o : Opened) → HasShown t sheets (map top_row rows) o → Contains os o
  pub opened_is : opened ≡ length os
  pub blocks_are : blocks ≡ sum_by (λ s. length s.heads) sheets

-- ---- what is damaged

-- this is damaged of a segment's place in blocks: its digest or its headers, or a block that spells no list of the segment
abbrev pub IsDamagedIn : List ℕ → ℕ → Chosen → Damage → Type 0
IsDamagedIn pages h c damage = (damage.page ≡ c.place.extent.first)
    × (IsUnframed c.place.digest (bytes_of c pages) damage.why
    ⊎ ((f : FramesState) × (block : ℕ) × IsFramed c.place.digest (bytes_of c pages) f × (block < length f.heads)
    × IsUnopened f block c.from c.to h damage.why))

-- this is damaged of what is read of a plan's places at a time, by their layout
abbrev pub IsDamagedAt : List ℕ → PlanEntry → Layout → ℕ → Damage → Type 0
IsDamagedAt pages plan Flat t damage = GathersOf pages plan t (t + 1) (Err damage)
IsDamagedAt pages plan Blocks t damage = let h = plan.horizon.seconds in
    (c : Chosen) × Contains (chosen t (t + 1) h true (seconds plan.cuts) plan.places) c × IsDamagedIn pages h c damage

-- the phrase asks for any of some words, and this is damaged of what is read for one of them
pub record SpoilsBest (history : History) (pages : List ℕ) (t : ℕ) (phrase : List ℕ) (damage : Damage) : Type 0 where
  pub query : Query
  pub is_read : IsRead term_of phrase (Ok query)
  pub any : asks_for_any phrase ≡ true
  pub word : List ℕ
  pub among : Contains (words_of query) word
  pub plan : PlanEntry
  pub live : plan_of history word ≡ Some plan
  pub damaged : IsDamagedAt pages plan plan.layout t damage
