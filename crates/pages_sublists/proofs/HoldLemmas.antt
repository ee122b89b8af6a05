-- Pages that hold the pieces of a list's segments hold their sublists.
use Rattle.std.proofs.Common.{ℕ, List, [], ◌∷◌, arith, ap, sym, ◌∙◌, inl, inr}
use Rattle.std.proofs.lemmas.Bool.{cases_lt}
use Rattle.std.proofs.lemmas.List.Elements.{All-head, All-tail}
use Rattle.sha2.specs.Sha256.{sha256}
use Rattle.lists_postings.specs.Lists.{sublist}
use Rattle.pages_area.specs.Wrote.{Piece, HoldsPiece}
use Rattle.pages_checked.specs.Layouts.{spelling_in}
use Rattle.pages_sublists.specs.Segments.{next_cut}
use Rattle.pages_sublists.specs.Preparing.{spellings, pieces_of, PiecesHoldSublists, PlacesAreForSublists}

pub hold_sublists : PiecesHoldSublists
hold_sublists layout list [] h [] pages each held = tt
hold_sublists layout list [] h (p ∷ places) pages each held = absurd each
hold_sublists layout list (f ∷ cuts) h [] pages each held = absurd each
hold_sublists layout list (f ∷ cuts) h (p ∷ places) pages each held =
    let bytes : List ℕ = spelling_in layout (sublist f (next_cut cuts h) list) in
    let one : Piece = record { extent = p.extent; bytes = bytes } in
    let rest : List Piece = pieces_of places (spellings layout list cuts h) in
    let holds = All-head (HoldsPiece pages) one rest held in (
      record {
        inside = elim (cases_lt 0 p.extent.bytes) [ inl some ↦ holds.inside some | inr none ↦ omega (arith, none, each.0.empty (omega (arith, none))) ];
        bytes = holds.bytes;
        digest = each.0.digest ∙ ap sha256 (sym holds.bytes);
      },
      hold_sublists layout list cuts h places pages each.1 (All-tail (HoldsPiece pages) one rest held),
    )

pub for_sublists : PlacesAreForSublists
for_sublists layout list [] h [] each = tt
for_sublists layout list [] h (p ∷ places) each = absurd each
for_sublists layout list (f ∷ cuts) h [] each = absurd each
for_sublists layout list (f ∷ cuts) h (p ∷ places) each = (each.0, for_sublists layout list cuts h places each.1)
