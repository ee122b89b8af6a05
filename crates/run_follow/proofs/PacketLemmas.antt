-- The packets of an export one by one.
use Rattle.std.proofs.Common.{◌≡◌, ℕ, zero, suc, ◌+◌, ◌-◌, ◌≤◌, List, [], ◌∷◌, ◌++◌, length, take, drop, Some, refl, ap, sym, ◌∙◌, arith, append_assoc}
use Rattle.std.specs.Prelude.{slice_get}
use Rattle.std.proofs.lemmas.List.{append-nil, length-drop, take-append-drop, take_all, take_more}
use Rattle.std.proofs.lemmas.Option.{get_or_from_slice_get, slice_get_within}
use Rattle.machine_model.specs.Pushes.{IsPrefix}
use Rattle.journal_packets.specs.Packets.{Framed, packet_bytes}
use Rattle.journal_packets.specs.Streams.{export, numbered, stream}

pub stream_more : (xs ys : List Framed) → stream (xs ++ ys) ≡ stream xs ++ stream ys
stream_more [] ys = refl
stream_more (p ∷ xs) ys = ap (λ (l : List ℕ). packet_bytes p.number p.body ++ l) (stream_more xs ys) ∙ sym (append_assoc (packet_bytes p.number p.body) (stream xs) (stream ys))

numbered_nth : (n : ℕ) (bodies : List (List ℕ)) (k : ℕ) (body : List ℕ) → slice_get bodies k ≡ Some body → slice_get (numbered n bodies) k ≡ Some (record { number = n + k; body = body })
numbered_nth n [] k body e = absurd cc
numbered_nth n (b ∷ bodies) zero body e =
    let same : b ≡ body = cc in
    ap (λ (x : List ℕ). Some (record { number = n; body = x })) same ∙ ap (λ (m : ℕ). Some (record { number = m; body = body })) (omega arith)
numbered_nth n (b ∷ bodies) (suc k) body e = numbered_nth (n + 1) bodies k body e ∙ ap (λ (m : ℕ). Some (record { number = m; body = body })) (omega arith)

drop_nth : {X : Type 0} (j k : ℕ) (xs : List X) → slice_get (drop j xs) k ≡ slice_get xs (j + k)
drop_nth zero k xs = ap (slice_get xs) (omega arith)
drop_nth (suc j) k [] = refl
drop_nth (suc j) k (x ∷ xs) =
    let e : suc (j + k) ≡ suc j + k = omega arith in
    drop_nth j k xs ∙ ap (slice_get (x ∷ xs)) e

length_numbered : (n : ℕ) (bodies : List (List ℕ)) → length (numbered n bodies) ≡ length bodies
length_numbered n [] = refl
length_numbered n (body ∷ bodies) = ap suc (length_numbered (n + 1) bodies)

-- one packet more of an export
pub export_more : (from : ℕ) (all : List (List ℕ)) (place : ℕ) (body : List ℕ) → from ≤ place + 1 → slice_get all place ≡ Some body
    → stream (take (place + 1 - (from - 1)) (export from all)) ≡ stream (take (place - (from - 1)) (export from all)) ++ packet_bytes (place + 1) body
export_more from all place body begun is =
    let k = place - (from - 1) in
    let p : Framed = record { number = place + 1; body = body } in
    let here : slice_get (export from all) k ≡ Some p =
    drop_nth (from - 1) k (numbered 1 all) ∙ ap (slice_get (numbered 1 all)) (omega (arith, begun)) ∙ numbered_nth 1 all place body is
    ∙ ap (λ (m : ℕ). Some (record { number = m; body = body })) (omega arith) in
    let more : take (k + 1) (export from all) ≡ take k (export from all) ++ p ∷ [] =
    take_more (export from all) k p (slice_get_within (export from all) k p here)
    ∙ ap (λ (q : Framed). take k (export from all) ++ q ∷ []) (get_or_from_slice_get (export from all) k p p here) in
    ap (λ (m : ℕ). stream (take m (export from all))) (omega (arith, begun)) ∙ ap stream more ∙ stream_more (take k (export from all)) (p ∷ [])
    ∙ ap (λ (l : List ℕ). stream (take k (export from all)) ++ l) (append-nil (packet_bytes (place + 1) body))

-- the packets in front and a part of the next one are a front of all
pub export_front : (from : ℕ) (all : List (List ℕ)) (place : ℕ) (body part : List ℕ) → from ≤ place + 1 → slice_get all place ≡ Some body → IsPrefix part (packet_bytes (place + 1) body)
    → IsPrefix (stream (take (place - (from - 1)) (export from all)) ++ part) (stream (export from all))
export_front from all place body part begun is front =
    let before = stream (take (place - (from - 1)) (export from all)) in
    let n = place + 1 - (from - 1) in
    let behind = stream (drop n (export from all)) in
    let whole : stream (export from all) ≡ (before ++ packet_bytes (place + 1) body) ++ behind =
    ap stream (sym (take-append-drop n (export from all))) ∙ stream_more (take n (export from all)) (drop n (export from all))
    ∙ ap (λ (l : List ℕ). l ++ behind) (export_more from all place body begun is) in (
      front.0 ++ behind,
      whole ∙ ap (λ (l : List ℕ). (before ++ l) ++ behind) front.1 ∙ ap (λ (l : List ℕ). l ++ behind) (sym (append_assoc before part front.0))
          ∙ append_assoc (before ++ part) front.0 behind,
    )

-- behind the last body all are shown
pub export_all : (from : ℕ) (all : List (List ℕ)) (place : ℕ) → length all ≤ place → take (place - (from - 1)) (export from all) ≡ export from all
export_all from all place past =
    take_all (place - (from - 1)) (export from all) (omega (arith, past, length-drop (from - 1) (numbered 1 all), length_numbered 1 all))
