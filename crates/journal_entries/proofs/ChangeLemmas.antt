-- The document and the time of a change are read as they are spelled.
use Rattle.std.specs.Prelude.{◌≡◌, ℕ, ◌^◌, ◌<◌, List, ◌++◌, length, Ok, refl}
use Rattle.std.proofs.Common.{subst}
use Rattle.std.specs.Int.{w32, w64, to_be_bytes}
use Rattle.base_types.specs.declared.ids.DocId.{DocId}
use Rattle.base_types.specs.declared.time.Time.{Time}
use Rattle.journal_entries.specs.FieldReading.{number_at, doc_at, time_at}
use Rattle.journal_entries.specs.Reading.{change_at}
use Rattle.base_types.proofs.Bytes.{IsBytes, wide32}
use Rattle.base_types.proofs.Readings.{bind_ok, ok_is, Within-then}
use Rattle.journal_entries.proofs.FieldLemmas.{Takes, number_takes, number_again, number_within}
use Rattle.journal_entries.proofs.FieldCodec.{IsField, both}
use Rattle.journal_entries.proofs.PlanFieldLemmas.{time_field}

abbrev pub IsDoc : DocId → Type 0
IsDoc d = d.0 < 2 ^ 32

doc_takes : (bytes : List ℕ) (x : DocId × List ℕ) → IsBytes bytes → doc_at bytes ≡ Ok x → Takes bytes (to_be_bytes w32 x.0.0) x.1 × IsDoc x.0
doc_takes bytes x fits e =
    let n = bind_ok (number_at w32 bytes) _ x e in
    subst (λ (y : DocId × List ℕ). Takes bytes (to_be_bytes w32 y.0.0) y.1 × IsDoc y.0) (ok_is (record { 0 = n.0.0 }, n.0.1) x n.2) (number_takes w32 (2 ^ 32) wide32 bytes n.0.0 n.0.1 fits n.1)

pub doc_field : IsField DocId doc_at (λ d. to_be_bytes w32 d.0) IsDoc
doc_field = record {
  takes = doc_takes;
  again = λ d rest fits. rw (number_again w32 (2 ^ 32) wide32 d.0 rest fits) refl;
  within = λ bytes. Within-then (λ x. length x.1) (λ x. length x.1) (length bytes) (number_at w32 bytes) _ (number_within w32 bytes) (λ n le. le);
}

pub change_field : IsField (DocId × Time) change_at (λ c. to_be_bytes w32 c.0.0 ++ to_be_bytes w64 c.1.seconds) (λ c. IsDoc c.0)
unfolding change_at
change_field = both DocId Time (DocId × Time) (λ d t. (d, t)) doc_at (λ d. to_be_bytes w32 d.0) IsDoc
    (λ _. time_at) (λ t. to_be_bytes w64 t.seconds) (λ _ _. Unit {0})
    (λ c. to_be_bytes w32 c.0.0 ++ to_be_bytes w64 c.1.seconds) (λ c. IsDoc c.0)
    doc_field (λ _. time_field)
    (λ d t fits any. (λ rest. refl, fits))
    (λ c fits. (c.0, c.1, refl, fits, tt))
