-- What is exported is a stream.
use Rattle.std.specs.Prelude.{◌≡◌, ℕ, ◌+◌, ◌-◌, ◌<◌, ◌≤◌, ◌^◌, List, [], ◌∷◌, ◌++◌, length, slice_get, All, Some, refl}
use Rattle.std.proofs.Common.{arith, ap, sym, ◌∙◌, append_assoc, length-append}
use Rattle.std.proofs.lemmas.List.Elements.{All-drop, All-nil, All-cons, All-head, All-tail}
use Rattle.std.proofs.lemmas.Option.{slice_get-get_or}
use Rattle.std.proofs.Math.Seq.{get_or-append_seam}
use Rattle.journal_packets.specs.Streams.{ExportsAreStreams, IsPacketOf, numbered}

-- what stands behind a front
at_seam : (front : List (List ℕ)) (body : List ℕ) (bodies : List (List ℕ)) → slice_get (front ++ body ∷ bodies) (length front) ≡ Some body
at_seam front body bodies =
    slice_get-get_or (front ++ body ∷ bodies) (length front) [] (omega (arith, length-append front (body ∷ bodies))) ∙ ap Some (get_or-append_seam front body bodies [])

are_packets : (all front bodies : List (List ℕ)) (n : ℕ) → all ≡ front ++ bodies → n ≡ length front + 1 → length all < 2 ^ 64 → All (λ (body : List ℕ). length body ≤ 67108864) bodies
    → All (IsPacketOf all) (numbered n bodies)
are_packets all front [] n is counted few short = All-nil (IsPacketOf all)
are_packets all front (body ∷ bodies) n is counted few short =
    let within : length front < length all = omega (arith, ap (λ (l : List (List ℕ)). length l) is, length-append front (body ∷ bodies)) in
    let same : n - 1 ≡ length front = omega (arith, counted) in
    let here : slice_get all (n - 1) ≡ Some body = ap (slice_get all) same ∙ ap (λ (l : List (List ℕ)). slice_get l (length front)) is ∙ at_seam front body bodies in
    All-cons (IsPacketOf all) (record { number = n; body = body }) (numbered (n + 1) bodies)
    (record {
      proper = record { counted = omega (arith, counted); numbered = omega (arith, counted, within, few); short = All-head (λ (b : List ℕ). length b ≤ 67108864) body bodies short };
      is = here;
    })
    (are_packets all (front ++ body ∷ []) bodies (n + 1) (is ∙ sym (append_assoc front (body ∷ []) bodies)) (omega (arith, counted, length-append front (body ∷ []))) few
    (All-tail (λ (b : List ℕ). length b ≤ 67108864) body bodies short))

pub export_streams : ExportsAreStreams
export_streams from bodies few short =
    (_, refl, All-drop (IsPacketOf bodies) (from - 1) (numbered 1 bodies) (are_packets bodies [] bodies 1 refl refl few short))
