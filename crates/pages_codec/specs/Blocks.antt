-- The layout in blocks: how a list is spelled, and what bytes spell.
use Rattle.std.specs.Prelude.{ℕ, zero, suc, ◌+◌, ◌-◌, ◌^◌, max, Bool, List, [], ◌∷◌, ◌++◌, length, map, take, drop, Option, Some, None, Result, Ok, Err, nat_lt, nat_le, ◌==◌, ◌&&◌, ◌||◌, if◌then◌else◌}
use Rattle.std.specs.Int.{w8, w16, w32, to_be_bytes}
use Rattle.std.specs.List.{flat_map}
use Rattle.base_types.specs.declared.posting.Posting.{Posting}
use Rattle.pages_codec.specs.Fields.{Fields, fields}
use Rattle.base_types.specs.Reading.{◌>>=◌, value_or}
use Rattle.pages_codec.specs.Steps.{all_at}
use Rattle.pages_codec.specs.Flat.{number_front}
use Rattle.pages_codec.specs.Numbers.{number_bytes, number_at}

-- the greatest of a number and these frequencies
abbrev pub top_of : ℕ → List Fields → ℕ
top_of top [] = top
top_of top (p ∷ ps) = top_of (max top p.tf) ps

-- the document of the last posting, or this one
abbrev pub last_doc : ℕ → List Fields → ℕ
last_doc doc [] = doc
last_doc doc (p ∷ ps) = last_doc p.doc ps

-- ---- spelling

-- the numbers of a posting whose start counts from this time: frequency, start, and length
abbrev pub span_numbers : ℕ → Fields → List ℕ
span_numbers base p = p.tf ∷ (p.from - base) ∷ (p.to - p.from) ∷ []

-- what the start of a posting counts from: the end of the one before, where that is of the same document
abbrev pub base_behind : Fields → ℕ → ℕ
base_behind q step = if step == 0 then q.to else 0

-- the numbers of the postings behind this one: each has first what its document is above the one before
abbrev pub other_numbers : Fields → List Fields → List ℕ
other_numbers q [] = []
other_numbers q (p ∷ ps) = ((p.doc - q.doc) ∷ span_numbers (base_behind q (p.doc - q.doc)) p) ++ other_numbers p ps

-- the numbers of a block
abbrev pub numbers : List Fields → List ℕ
numbers [] = []
numbers (p ∷ ps) = span_numbers 0 p ++ other_numbers p ps

-- the postings of a block
abbrev pub inside : List Fields → List ℕ
inside ps = flat_map (number_bytes 6) (numbers ps)

-- the document of the first posting
abbrev pub first_doc : List Fields → ℕ
first_doc [] = 0
first_doc (p ∷ ps) = p.doc

-- a block's header: how many postings it has, how many bytes they take, their greatest frequency,
-- and the first and the last document
pub record Head : Type 0 where
  pub count : ℕ
  pub size : ℕ
  pub top : ℕ
  pub first : ℕ
  pub last : ℕ

-- the 15 bytes of a header
abbrev pub head_bytes : Head → List ℕ
head_bytes h = h.count ∷ (to_be_bytes w16 h.size ++ (to_be_bytes w32 h.top ++ (to_be_bytes w32 h.first ++ to_be_bytes w32 h.last)))

-- the header of a block of these postings
abbrev pub head_for : List Fields → Head
head_for ps = record { count = length ps; size = length (inside ps); top = top_of 0 ps; first = first_doc ps; last = last_doc 0 ps }

-- the bytes of a block: its header, and its postings
abbrev pub block : List Fields → List ℕ
block ps = head_bytes (head_for ps) ++ inside ps

-- a list in pieces of 128, the last of what is left
abbrev pub pieces : {A : Type 0} → ℕ → List A → List (List A)
pieces most [] = []
pieces zero (p ∷ ps) = []
pieces (suc most) (p ∷ ps) = take 128 (p ∷ ps) ∷ pieces most (drop 128 (p ∷ ps))

-- the bytes of a list: those of its blocks
unfoldable pub block_spelling : List Posting → List ℕ
block_spelling list = flat_map block (pieces (length list) (map fields list))

-- ---- reading

-- a number that was read, if it is from least on and below the limit
abbrev pub if_within : ℕ → ℕ → Option (ℕ × List ℕ) → Option (ℕ × List ℕ)
if_within least limit None = None
if_within least limit (Some read) = if nat_le least read.0 && nat_lt read.0 limit then Some read else None

-- a number from least on and below the limit, and the bytes after it; its first byte is the fault where it is none
unfoldable pub number_in : ℕ → ℕ → List ℕ → Result (ℕ × List ℕ) ℕ
number_in least limit bytes = value_or (length bytes) (if_within least limit (number_at 6 bytes))

-- a posting of this document whose start counts from base, with at least this number
unfoldable pub span_at : ℕ → ℕ → ℕ → List ℕ → Result (Fields × List ℕ) ℕ
span_at doc base least bytes = do
  tf ← number_in 1 (2 ^ 32) bytes
  start ← number_in least (2 ^ 40 - base) tf.1
  len ← number_in 1 (2 ^ 40 - (base + start.0) + 1) start.1
  Ok (record { doc = doc; tf = tf.0; from = base + start.0; to = base + start.0 + len.0 }, len.1)

-- a posting that may stand behind this one
unfoldable pub next_at : Fields → List ℕ → Result (Fields × List ℕ) ℕ
next_at q bytes = do
  step ← number_in 0 (2 ^ 32 - q.doc) bytes
  span_at (q.doc + step.0) (base_behind q step.0) 0 step.1

-- so many postings behind this one
unfoldable pub others_at : ℕ → Fields → List ℕ → Result (List Fields × List ℕ) ℕ
others_at zero q bytes = Ok ([], bytes)
others_at (suc count) q bytes = do
  p ← next_at q bytes
  ps ← others_at count p.0 p.1
  Ok (p.0 ∷ ps.0, ps.1)

-- the least start of a posting of this document behind the one before
abbrev pub least_start : Option Fields → ℕ → ℕ
least_start None doc = 0
least_start (Some q) doc = if q.doc == doc then q.to else 0

-- the postings of a block, the first of this document
unfoldable pub postings_at : Option Fields → ℕ → ℕ → List ℕ → Result (List Fields × List ℕ) ℕ
postings_at before doc count bytes = do
  p ← span_at doc 0 (least_start before doc) bytes
  ps ← others_at (count - 1) p.0 p.1
  Ok (p.0 ∷ ps.0, ps.1)

-- the header in front, and the bytes after it
abbrev pub head_front : List ℕ → Head × List ℕ
head_front bytes =
    let count = number_front w8 bytes in
    let size = number_front w16 count.1 in
    let top = number_front w32 size.1 in
    let first = number_front w32 top.1 in
    let last = number_front w32 first.1 in
    (record { count = count.0; size = size.0; top = top.0; first = first.0; last = last.0 }, last.1)

-- the document before, or 0
abbrev pub doc_before : Option Fields → ℕ
doc_before None = 0
doc_before (Some q) = q.doc

-- the header may stand behind the posting before, with so many bytes after it
abbrev pub may_lead : Option Fields → Head → ℕ → Bool
may_lead before head behind =
    nat_le 1 head.count && nat_le head.count 128 && nat_le head.size behind
    && (head.count == 128 || head.size == behind) && nat_le (doc_before before) head.first

-- what the postings of a block give is what its header says
abbrev pub is_true : Head → List Fields × List ℕ → Bool
is_true head read = length read.1 == 0 && head.top == top_of 0 read.0 && head.last == last_doc 0 read.0

-- a reading of a part, with so many bytes behind it
abbrev pub before_more : {A : Type 0} → ℕ → Result A ℕ → Result A ℕ
before_more behind (Ok x) = Ok x
before_more behind (Err left) = Err (left + behind)

-- a block whose header was read, by the bytes of its postings and those behind them
unfoldable pub body_at : Option Fields → List ℕ → Head → List ℕ → Result (List Fields × List ℕ) ℕ
body_at before bytes head rest = do
  read ← before_more (length (drop head.size rest)) (postings_at before head.first head.count (take head.size rest))
  if is_true head read then Ok (read.0, drop head.size rest) else Err (length bytes)

-- a block that may stand behind the posting before, and the bytes after it
unfoldable pub block_at : Option Fields → List ℕ → Result (List Fields × List ℕ) ℕ
block_at before bytes =
    if nat_lt (length bytes) 15 then Err (length bytes) else
    if may_lead before (head_front bytes).0 (length (head_front bytes).1) then body_at before bytes (head_front bytes).0
    (head_front bytes).1
    else Err (length bytes)

-- the list that all the bytes spell
unfoldable pub blocks_at : List ℕ → Result (List Fields) ℕ
blocks_at bytes = all_at block_at (length bytes) None bytes
