-- A text that is passed over goes on, and begins.
use Rattle.std.specs.Prelude.{◌≡◌, ℕ, Bool, ◌+◌, ◌≤◌, List, ◌++◌, length, take, drop}
use Rattle.std.proofs.Common.{arith, ap, sym, ◌∙◌, length-append, length-take, take-append-drop, append_assoc}
use Rattle.script_read.specs.Lines.{meaning}
use Rattle.script_read.specs.Items.{first}
use Rattle.script_read.specs.Reading.{StandsForLong, long_piece}
use Rattle.script_read.specs.declared.passing.Over.{Over}
use Rattle.script_read.proofs.PassedOver.{AsksForLong, passed_over}

-- k more bytes of the text are let go
pub goes_on : (over : Over) (bytes since : List ℕ) (k : ℕ) → k ≤ length bytes → over.gone + k ≤ over.size → StandsForLong over bytes since
    → StandsForLong (record { doc = over.doc; at = over.at; size = over.size; line = over.line; gone = over.gone + k }) (drop k bytes) since
goes_on over bytes since k h fits s = record {
  line = s.line;
  text = s.text ++ take k bytes;
  asks = record { place = s.asks.place; one_line = s.asks.one_line; takes = s.asks.takes; length_is = s.asks.length_is; short_line = s.asks.short_line; says = s.asks.says; long = s.asks.long; partly = fits };
  are_gone = omega (arith, s.are_gone, length-append s.text (take k bytes), length-take k bytes, h);
  joined = s.joined ∙ ap (λ b. s.line ++ (s.text ++ b)) (sym (take-append-drop k bytes)) ∙ ap (λ b. s.line ++ b) (sym (append_assoc s.text (take k bytes) (drop k bytes)));
}

-- what the bytes since the last item begin with is found from what is at hand
pub found-long : (over : Over) (ended : Bool) (bytes since : List ℕ) → StandsForLong over bytes since
    → first ended since ≡ long_piece ended over bytes
found-long over ended bytes since s =
    ap (first ended) s.joined
    ∙ passed_over meaning ended over.doc over.at over.size s.line s.text bytes asks (omega (arith, s.are_gone, s.asks.partly))
    ∙ ap (λ u. long_piece ended (record { doc = over.doc; at = over.at; size = over.size; line = u; gone = length s.text }) bytes) (sym s.asks.length_is)
    ∙ ap (λ g. long_piece ended (record { doc = over.doc; at = over.at; size = over.size; line = over.line; gone = g }) bytes) s.are_gone
  where
    asks : AsksForLong meaning over.doc over.at over.size s.line
    asks = record { place = s.asks.place; one_line = s.asks.one_line; takes = s.asks.takes; short_line = s.asks.short_line; says = s.asks.says; long = s.asks.long }
