-- The values that words name: documents, times, factors, tolerances, counts and spans.
use Rattle.std.specs.Prelude.{ℕ, zero, suc, ◌+◌, ◌*◌, ◌^◌, ◌&&◌, ◌==◌, nat_lt, if◌then◌else◌, List, [], ◌∷◌, length, take, drop, position, Option, Some}
use Rattle.std.specs.Bool.{then_some}
use Rattle.std.specs.Option.{option_or}
use Rattle.std.specs.Str.{is_utf8}
use Rattle.base_types.specs.declared.ids.DocId.{DocId}
use Rattle.base_types.specs.declared.time.Time.{Time}
use Rattle.base_types.specs.declared.time.Span.{Span}
use Rattle.base_types.specs.declared.fraction.Fraction.{Fraction}
use Rattle.base_types.specs.declared.tolerance.Tolerance.{Tolerance}
use Rattle.base_types.specs.Times.{time_of}
use Rattle.script_read.specs.Making.{◌>>=◌, ◌≤?◌, ◌<?◌, fraction_of}
use Rattle.base_commands.specs.declared.count.TopCount.{TopCount}
use Rattle.base_commands.specs.declared.count.BestCount.{BestCount}
use Rattle.base_commands.specs.declared.share.ShareFraction.{ShareFraction}
use Rattle.script_read.specs.Words.{word, after_word, is_blank, phrase}
use Rattle.script_read.specs.Numbers.{number}
use Rattle.script_read.specs.Dates.{date}

-- The document that a word names: a number below 2^32.
abbrev pub document : List ℕ → Option DocId
document word = do n ← number (2 ^ 32) word; Some (record { 0 = n })

-- The time that a word names: a number of seconds below 2^40, or a day.
abbrev pub time : List ℕ → Option Time
time word = option_or (number (2 ^ 40) word) (date word) >>= time_of

-- A part of a line that has a byte and is UTF-8.
abbrev pub text : List ℕ → Option (List ℕ)
text bytes = then_some (nat_lt 0 (length bytes) && is_utf8 bytes) bytes

-- The words of a line as one text.
abbrev pub expr : List ℕ → Option (List ℕ)
expr words = text (phrase words)

-- The two numbers of a word, on both sides of its first /.
abbrev pub parts : List ℕ → Option (ℕ × ℕ)
parts word = do
  slash ← position (λ b. b == 47) word
  a ← number (2 ^ 32) (take slash word)
  b ← number (2 ^ 32) (drop (slash + 1) word)
  Some (a, b)

-- The factor that a word names.
abbrev pub fraction : List ℕ → Option Fraction
fraction word = do p ← parts word; fraction_of p.0 p.1

-- The tolerance a / b that a word names, where a < b < 2^32.
abbrev pub tolerance : List ℕ → Option Tolerance
tolerance word = do p ← parts word; h ← p.0 <? p.1; k ← p.1 <? 2 ^ 32; Some (record { part = p.0; whole = p.1; below = h; in_range = k })

-- How many rows a word asks for: from 1 to 1,000,000 of all, and from 1 to 1,000 by the blocks of lists.
abbrev pub top_count : List ℕ → Option TopCount
top_count word = do n ← number (2 ^ 32) word; h ← 1 ≤? n; k ← n ≤? 1000000; Some (record { number = n; some = h; few = k })

abbrev pub best_count : List ℕ → Option BestCount
best_count word = do n ← number (2 ^ 32) word; h ← 1 ≤? n; k ← n ≤? 1000; Some (record { number = n; some = h; few = k })

-- How many items a batch has: from 1 to 1,000.
abbrev pub batch_count : List ℕ → Option ℕ
batch_count word = do n ← number 1001 word; then_some (nat_lt 0 n) n

-- A factor that is at most 16, as words may share a budget by it.
abbrev pub share_fraction : List ℕ → Option ShareFraction
share_fraction word = do f ← fraction word; h ← f.over ≤? 16 * f.under; Some (record { fraction = f; bounded = h })

-- The words of a line, where each is text and they are at most n.
unfoldable pub texts : ℕ → List ℕ → Option (List (List ℕ))
texts zero line = then_some (is_blank line) []
texts (suc n) line = if is_blank line then Some [] else (do w ← text (word line); ws ← texts n (after_word line); Some (w ∷ ws))

-- The words of a line, where each is text and they are 1 to 16.
abbrev pub share_words : List ℕ → Option (List (List ℕ))
share_words line = do ws ← texts 16 line; then_some (nat_lt 0 (length ws)) ws

-- The span from a time to a later one.
abbrev pub span_of : Time → Time → Option Span
span_of s t = do
  h ← s.seconds <? t.seconds
  k ← t.seconds ≤? 2 ^ 40
  Some (record { from = s.seconds; to = t.seconds; ordered = h; in_time = k })
