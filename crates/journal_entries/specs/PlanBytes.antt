-- A plan's bytes put together from those of its parts, as the code writes them, and how many there are.
use Rattle.std.specs.Prelude.{ℕ, ◌+◌, ◌*◌, List, [], ◌∷◌, ◌++◌, length}
use Rattle.std.specs.Int.{w32, w64, to_be_bytes}
use Rattle.base_commands.specs.declared.command.Kind.{Kind}
use Rattle.base_commands.specs.declared.command.Kind.TheVariants.{Guarantee, Uniform, Since}
use Rattle.base_types.specs.declared.time.Time.{Time}
use Rattle.journal_entries.specs.declared.place.Place.{Place}
use Rattle.journal_entries.specs.declared.plan.PlanEntry.{PlanEntry}
use Rattle.journal_entries.specs.PlanSpelling.{layout_byte}

-- the kind, and the time since which it asks
abbrev pub kind_bytes : Kind → List ℕ
kind_bytes Guarantee = 1 ∷ []
kind_bytes Uniform = 2 ∷ []
kind_bytes (Since at) = 3 ∷ to_be_bytes w64 at.seconds

-- the 52 bytes of a segment: its left cut, and the place of its sublist
abbrev pub segment_bytes : Time → Place → List ℕ
segment_bytes cut place = to_be_bytes w64 cut.seconds
    ++ (to_be_bytes w32 place.extent.first ++ (to_be_bytes w64 place.extent.bytes ++ place.digest))

-- the bytes of segments, one after another
abbrev pub segments_bytes : List Time → List Place → List ℕ
segments_bytes [] places = []
segments_bytes (cut ∷ cuts) [] = []
segments_bytes (cut ∷ cuts) (place ∷ places) = segment_bytes cut place ++ segments_bytes cuts places

-- the bytes of a plan: the tag, the fields, and the segments
unfoldable pub plan_bytes : PlanEntry → List ℕ
plan_bytes p =
    3 ∷ layout_byte p.layout
    ∷ (kind_bytes p.kind ++ (to_be_bytes w32 p.fraction.over ++ (to_be_bytes w32 p.fraction.under ++ (to_be_bytes w64 p.horizon.seconds
    ++ (length p.word ∷ (p.word ++ (to_be_bytes w32 (length p.cuts) ++ segments_bytes p.cuts p.places)))))))

-- how many bytes a kind takes
abbrev pub kind_length : Kind → ℕ
kind_length Guarantee = 1
kind_length Uniform = 1
kind_length (Since at) = 9

-- how many bytes a plan takes
abbrev pub plan_length : PlanEntry → ℕ
plan_length p = 23 + kind_length p.kind + length p.word + 52 * length p.cuts
