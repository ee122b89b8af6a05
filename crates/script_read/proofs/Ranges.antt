-- What lines name is in range.
use Prim.Native.String.{String}
use Rattle.std.specs.Prelude.{◌≡◌, ℕ, ◌+◌, ◌<◌, ◌^◌, Bool, true, false, nat_lt, ◌&&◌, ◌==◌, if◌then◌else◌, List, [], ◌∷◌, ◌++◌, length, take, drop, filter_map, Option, Some, None, IfSome, option_map, option_and_then, unwrap_or, bytes_eq, codes, All, refl}
use Rattle.std.specs.Bool.{then_some}
use Rattle.std.specs.Option.{option_or}
use Rattle.std.specs.List.{position_or_len}
use Rattle.std.proofs.Common.{◌≤◌, ◌-◌, arith, length-take, ltb-true, subst, sym}
use Rattle.std.proofs.lemmas.List.Elements.{All-nil, All-cons}
use Rattle.base_types.specs.declared.ids.DocId.{DocId}
use Rattle.base_types.specs.declared.time.Time.{Time}
use Rattle.base_types.specs.declared.time.Span.{Span}
use Rattle.base_commands.specs.declared.command.Command.{Command}
use Rattle.base_commands.specs.declared.command.Command.TheVariants.{Arrive, Delete, Between, Show}
use Rattle.base_commands.specs.declared.text.Text.TheVariants.{Bytes, TooLong}
use Rattle.base_commands.specs.Batches.{text_bytes}
use Rattle.script_read.specs.declared.part.Part.{Part}
use Rattle.script_read.specs.declared.part.Part.TheVariants.{Batch}
use Rattle.script_read.specs.declared.passing.Over.{Over}
use Rattle.script_read.specs.Parts.{told, no_command, IsPartInRange}
use Rattle.script_read.specs.declared.line.Meaning.{Meaning}
use Rattle.script_read.specs.declared.line.Meaning.TheVariants.{Skipped, Alone, Arrival, Faulty}
use Rattle.script_read.specs.declared.first.First.{First}
use Rattle.script_read.specs.declared.first.First.TheVariants.{Whole, Broken, More, End}
use Rattle.script_read.specs.Words.{word, after_word, is_blank}
use Rattle.script_read.specs.Numbers.{value_of, are_digits, number}
use Rattle.script_read.specs.Forms.{◌▸◌, end, rest, named}
use Rattle.script_read.specs.Values.{document, time, expr, batch_count, span_of}
use Rattle.script_read.specs.Items.{text_at, without_cr, short, text_end, piece_of, last_piece, open_line, closed_line, first, Pieces, Items}
use Rattle.script_read.specs.Reading.{ReaderState, IsSmall, passed_item, long_piece, found_by, found}
use Rattle.script_read.specs.Lines.{changes, questions, reports, alone, arrival, is_skipped, meaning}

number-below : (limit : ℕ) (word : List ℕ) → IfSome (number limit word) (λ n. n < limit)
number-below limit word = go (are_digits word) (nat_lt (value_of word) limit) refl
  where
    go : (a b : Bool) → nat_lt (value_of word) limit ≡ b → IfSome (if a && b then Some (value_of word) else None) (λ n. n < limit)
    go true true h = ltb-true _ _ h
    go true false h = tt
    go false b h = tt

abbrev IsInRange : DocId → Type 0
IsInRange doc = doc.0 < 2 ^ 32

document-below : (word : List ℕ) → IfSome (document word) IsInRange
document-below word = go (number (2 ^ 32) word) (number-below (2 ^ 32) word)
  where
    go : (o : Option ℕ) → IfSome o (λ n. n < 2 ^ 32) → IfSome (option_map (λ n. let doc : DocId = record { 0 = n } in doc) o) IsInRange
    go (Some n) h = h
    go None h = tt

-- what a line says names a document below 2^32 and a text of fewer than 2^40 bytes
abbrev pub IsFit : Meaning → Type 0
IsFit Skipped = Unit {0}
IsFit (Alone item) = IsPartInRange item
IsFit (Arrival doc at n) = (doc.0 < 2 ^ 32) × (n < 2 ^ 40)
IsFit Faulty = Unit {0}

-- what a form gives fits, where all that it makes does
module _ {B : Type 0} (Q : B → Type 0) where
  each : {A : Type 0} (o : Option A) (k : A → Option B) → ((a : A) → IfSome (k a) Q) → IfSome (option_and_then k o) Q
  each (Some a) k h = h a
  each None k h = tt

  within : {A : Type 0} (P : A → Type 0) (o : Option A) (k : A → Option B) → IfSome o P → ((a : A) → P a → IfSome (k a) Q) → IfSome (option_and_then k o) Q
  within P (Some a) k p h = h a p
  within P None k p h = tt

  ends : (b : Bool) (made : B) → Q made → IfSome (then_some b made) Q
  ends true made h = h
  ends false made h = tt

  rests : {A : Type 0} (make : A → B) (o : Option A) → ((a : A) → Q (make a)) → IfSome (option_map make o) Q
  rests make (Some a) h = h a
  rests make None h = tt

  said : (b : Bool) (o : Option B) → IfSome o Q → IfSome (if b then o else None) Q
  said true o h = h
  said false o h = tt

  either : (a b : Option B) → IfSome a Q → IfSome b Q → IfSome (option_or a b) Q
  either (Some a) b h k = h
  either None b h k = k

abbrev Fits : Command → Type 0
Fits c = IsPartInRange (told c)

-- a document and a time
version : (make : DocId → Time → Command) → ((doc : DocId) (at : Time) → IsInRange doc → Fits (make doc at)) → (words : List ℕ) → IfSome ((document ▸ time ▸ end) make words) Fits
version make h words = within Fits IsInRange (document (word words)) _ (document-below (word words)) λ d in_range. each Fits (time (word (after_word words))) _ λ t. ends Fits (is_blank (after_word (after_word words))) (make d t) (h d t in_range)

between : (o : Option Span) (e : Option (List ℕ)) → IfSome (option_and_then (λ (make : List ℕ → Command). option_map make e) (option_map (λ span expr. Between span expr) o)) Fits
between (Some s) (Some e) = (tt, tt)
between (Some s) None = tt
between None e = tt

-- each row of a table
abbrev AllFit : List (String × (List ℕ → Option Command)) → Type 0
AllFit [] = Unit {0}
AllFit ((n, form) ∷ table) = ((words : List ℕ) → IfSome (form words) Fits) × AllFit table

named-fits : (table : List (String × (List ℕ → Option Command))) → AllFit table → (name words : List ℕ) → IfSome (named table name words) Fits
named-fits [] all name words = tt
named-fits ((n, form) ∷ table) all name words = go (bytes_eq name (codes n)) (named-fits table all.1 name words)
  where
    go : (b : Bool) → IfSome (named table name words) Fits → IfSome (if b then form words else named table name words) Fits
    go true others = all.0 words
    go false others = others

changes-fit : AllFit changes
changes-fit = (
  version Delete (λ d t h. (h, tt)),
  (
    λ words. search (either Fits, each Fits, said Fits, ends Fits) depth 16,
    (
      λ words. search (each Fits, said Fits, ends Fits) depth 8,
      (λ words. search (said Fits, ends Fits), tt),
    ),
  ),
)

questions-fit : AllFit questions
questions-fit = (
  λ words. search (each Fits, rests Fits),
  (
    λ words. each Fits (time (word words)) _ λ s. each Fits (time (word (after_word words))) _ λ t. between (span_of s t) (expr (after_word (after_word words))),
    (
      version Show (λ d t h. (h, tt)),
      (
        λ words. search (each Fits, said Fits, ends Fits) depth 8,
        (
          λ words. search (each Fits, ends Fits),
          (λ words. search (ends Fits), tt),
        ),
      ),
    ),
  ),
)

reports-fit : AllFit reports
reports-fit = (
  λ words. search (each Fits, rests Fits),
  (
    λ words. search (each Fits, rests Fits),
    (
      λ words. search (each Fits, ends Fits),
      (
        λ words. search (each Fits, rests Fits),
        (λ words. search (each Fits, rests Fits), tt),
      ),
    ),
  ),
)

joined-fit : (table others : List (String × (List ℕ → Option Command))) → AllFit table → AllFit others → AllFit (table ++ others)
joined-fit [] others h k = k
joined-fit (row ∷ table) others h k = (h.0, joined-fit table others h.1 k)

batch_count-within : (word : List ℕ) → IfSome (batch_count word) (λ n. (1 ≤ n) × (n ≤ 1000))
batch_count-within word = go (number 1001 word) (number-below 1001 word)
  where
    some : (n : ℕ) (b : Bool) → nat_lt 0 n ≡ b → n < 1001 → IfSome (then_some b n) (λ n. (1 ≤ n) × (n ≤ 1000))
    some n true e few = (ltb-true 0 n e, omega (arith, few))
    some n false e few = tt

    go : (o : Option ℕ) → IfSome o (λ n. n < 1001) → IfSome (option_and_then (λ n. then_some (nat_lt 0 n) n) o) (λ n. (1 ≤ n) × (n ≤ 1000))
    go (Some n) few = some n (nat_lt 0 n) refl few
    go None few = tt

alone-fits : (name words : List ℕ) → IsFit (Alone (unwrap_or (alone name words) no_command))
alone-fits name words = go (bytes_eq name (codes "batch"))
  where
    command : Option Command
    command = named (changes ++ questions ++ reports) name words

    batch : Option Part
    batch = (batch_count ▸ end) Batch words

    batch-fits : IfSome batch IsPartInRange
    batch-fits = within IsPartInRange (λ n. (1 ≤ n) × (n ≤ 1000)) (batch_count (word words)) _ (batch_count-within (word words)) λ n h. ends IsPartInRange (is_blank (after_word words)) (Batch n) h

    answered : (o : Option Part) → IfSome o IsPartInRange → IsPartInRange (unwrap_or o no_command)
    answered (Some part) h = h
    answered None h = (tt, tt)

    told-fits : (o : Option Command) → IfSome o Fits → IfSome (option_map told o) IsPartInRange
    told-fits (Some c) h = h
    told-fits None h = tt

    all : IfSome command Fits
    all = named-fits (changes ++ questions ++ reports) (joined-fit changes (questions ++ reports) changes-fit (joined-fit questions reports questions-fit reports-fit)) name words

    go : (b : Bool) → IsPartInRange (unwrap_or (if b then batch else option_map told command) no_command)
    go true = answered batch batch-fits
    go false = answered (option_map told command) (told-fits command all)

arrival-fits : (words : List ℕ) → IsFit (unwrap_or (arrival words) Faulty)
arrival-fits words =
    unwrapped (arrival words)
    (within IsFit IsInRange (document (word words)) _ (document-below (word words)) λ d h. each IsFit (time (word (after_word words))) _ λ t.
    within IsFit (λ n. n < 2 ^ 40) (number (2 ^ 40) (word last)) _ (number-below (2 ^ 40) (word last)) λ n k. let fits : IsFit (Arrival d t n) = (h, k) in ends IsFit (is_blank (after_word last)) (Arrival d t n) fits)
  where
    last : List ℕ
    last = after_word (after_word words)

    unwrapped : (o : Option Meaning) → IfSome o IsFit → IsFit (unwrap_or o Faulty)
    unwrapped (Some m) h = h
    unwrapped None h = tt

pub meaning-fits : (line : List ℕ) → IsFit (meaning line)
unfolding meaning
meaning-fits line = go (is_skipped line) (bytes_eq (word line) (codes "arrive"))
  where
    go : (s a : Bool) → IsFit (if s then Skipped else (if a then unwrap_or (arrival (after_word line)) Faulty else Alone (unwrap_or (alone (word line) (after_word line)) no_command)))
    go true a = tt
    go false true = arrival-fits (after_word line)
    go false false = alone-fits (word line) (after_word line)

-- the part that bytes begin with is in range
abbrev IsFitting : First → Type 0
IsFitting (Whole (Some part) n) = IsPartInRange part
IsFitting (Whole None n) = Unit {0}
IsFitting (Broken n) = Unit {0}
IsFitting More = Unit {0}
IsFitting End = Unit {0}

short-fits : (e : Bool) (len : ℕ) → IsFitting (short e len)
short-fits true len = tt
short-fits false len = tt

text_end-fits : (e : Bool) (len used : ℕ) (item : Part) (bs : List ℕ) → IsPartInRange item → IsFitting (text_end e len used item bs)
text_end-fits e len used item [] h = short-fits e len
text_end-fits e len used item (b ∷ []) h = go (b == 10) (b == 13)
  where
    go : (p q : Bool) → IsFitting (if p then Whole (Some item) (used + 1) else (if q then short e len else Broken used))
    go true q = h
    go false true = short-fits e len
    go false false = tt
text_end-fits e len used item (b ∷ c ∷ bs) h = go (b == 10) ((b == 13) && (c == 10))
  where
    go : (p q : Bool) → IsFitting (if p then Whole (Some item) (used + 1) else (if q then Whole (Some item) (used + 2) else Broken used))
    go true q = h
    go false true = h
    go false false = tt

text_at-bytes : (n : ℕ) (bs : List ℕ) → n < 2 ^ 40 → text_bytes (text_at n bs) < 2 ^ 40
text_at-bytes n bs few = go (nat_lt 4194304 n)
  where
    go : (b : Bool) → text_bytes (if b then TooLong n else Bytes (take n bs)) < 2 ^ 40
    go true = few
    go false = omega (arith, few, length-take n bs)

piece_of-fits : (e : Bool) (m : Meaning) (used : ℕ) (bs : List ℕ) → IsFit m → IsFitting (piece_of e m used bs)
piece_of-fits e Skipped used bs h = tt
piece_of-fits e (Alone item) used bs h = h
piece_of-fits e Faulty used bs h = tt
piece_of-fits e (Arrival doc at n) used bs h = go (nat_lt (length bs) (used + n))
  where
    part : Part
    part = told (Arrive doc at (text_at n (drop used bs)))

    go : (b : Bool) → IsFitting (if b then short e (length bs) else text_end e (length bs) (used + n) part (drop (used + n) bs))
    go true = short-fits e (length bs)
    go false = text_end-fits e (length bs) (used + n) part (drop (used + n) bs) (h.0, text_at-bytes n (drop used bs) h.1)

last_piece-fits : (m : Meaning) (n : ℕ) → IsFit m → IsFitting (last_piece m n)
last_piece-fits Skipped n h = tt
last_piece-fits (Alone item) n h = h
last_piece-fits (Arrival doc at size) n h = tt
last_piece-fits Faulty n h = tt

first-fits : (e : Bool) (bs : List ℕ) → IsFitting (first e bs)
first-fits e bs = go (nat_lt n (length bs))
  where
    n : ℕ
    n = position_or_len (λ b. b == 10) bs

    line : List ℕ
    line = without_cr (take n bs)

    closed : (b : Bool) → IsFitting (if b then Broken 0 else piece_of e (meaning line) (n + 1) bs)
    closed true = tt
    closed false = piece_of-fits e (meaning line) (n + 1) bs (meaning-fits line)

    unended : (e : Bool) (bs : List ℕ) → IsFitting (open_line meaning e bs)
    unended false bs = two (nat_lt 4096 (length (without_cr bs)))
      where
        two : (b : Bool) → IsFitting (if b then Broken 0 else More)
        two true = tt
        two false = tt
    unended true [] = tt
    unended true (c ∷ bs) = two (nat_lt 4096 (length (c ∷ bs)))
      where
        two : (b : Bool) → IsFitting (if b then Broken 0 else last_piece (meaning (c ∷ bs)) (length (c ∷ bs)))
        two true = tt
        two false = last_piece-fits (meaning (c ∷ bs)) (length (c ∷ bs)) (meaning-fits (c ∷ bs))

    go : (b : Bool) → IsFitting (if b then closed_line meaning e n line bs else open_line meaning e bs)
    go true = closed (nat_lt 4096 (length line))
    go false = unended e bs

pieces-documents : (e : Bool) (bs rest : List ℕ) (pieces : List (Option Part)) → Pieces e bs pieces rest → All IsPartInRange (filter_map (λ p. p) pieces)
pieces-documents e bs rest [] p = All-nil IsPartInRange
pieces-documents e bs rest (None ∷ pieces) (n, whole, p) = pieces-documents e (drop n bs) rest pieces p
pieces-documents e bs rest (Some i ∷ pieces) (n, whole, p) =
    All-cons IsPartInRange i (filter_map (λ p. p) pieces) (subst IsFitting whole (first-fits e bs)) (pieces-documents e (drop n bs) rest pieces p)

-- What the parts of any bytes name is in range.
pub Items-documents : (e : Bool) (bs : List ℕ) (items : List Part) (rest : List ℕ) → Items e bs items rest → All IsPartInRange items
Items-documents e bs items rest i = subst (All IsPartInRange) i.items_are (pieces-documents e bs rest i.pieces i.in_turn)

-- and so is what is found in what a reader holds
long-fits : (e : Bool) (over : Over) (bs : List ℕ) → IsSmall (Some over) → IsFitting (long_piece e over bs)
long-fits e over bs small = go (nat_lt (over.gone + length bs) over.size)
  where
    len : ℕ
    len = over.line + over.gone + length bs

    behind : List ℕ
    behind = drop (over.size - over.gone) bs

    go : (b : Bool) → IsFitting (if b then short e len else text_end e len (over.line + over.size) (passed_item over) behind)
    go true = short-fits e len
    go false = text_end-fits e len (over.line + over.size) (passed_item over) behind (small.3, small.1)

found-fits : (e : Bool) (over : Option Over) (bs : List ℕ) → IsSmall over → IsFitting (found_by e over bs)
found-fits e None bs small = first-fits e bs
found-fits e (Some over) bs small = long-fits e over bs small

-- so a part is that is taken
pub taken-fits : (h : ReaderState) (p : Option Part) (n : ℕ) → IsSmall h.over → Whole p n ≡ found h → IfSome p IsPartInRange
taken-fits h p n small value = go p (subst IsFitting (sym value) (found-fits h.ended h.over h.bytes small))
  where
    go : (p : Option Part) → IsFitting (Whole p n) → IfSome p IsPartInRange
    go (Some part) fits = fits
    go None fits = tt
