-- A list that is clipped at a time.
use Rattle.std.proofs.Common.{true, ◌==◌, ◌≡◌, ℕ, ◌≤◌, ◌^◌, List, [], ◌∷◌, All, Result, Ok, Err, IfOk, subst, arith}
use Rattle.std.specs.List.{AllZip}
use Rattle.std.proofs.Math.Nat.{min-le_right}
use Rattle.std.proofs.lemmas.Bool.Decides.{nat_tests}
use Rattle.std.proofs.lemmas.List.Elements.{All-nil, All-cons}
use Rattle.base_types.specs.declared.time.Span.{Span}
use Rattle.base_types.specs.declared.posting.Posting.{Posting}
use Rattle.lists_postings.specs.Lists.{sublist}
use Rattle.lists_postings.specs.Clips.{IsCut, IsClip}
use Rattle.lists_postings.specs.ListsOf.{IsListOf}
use Rattle.lists_postings.proofs.Clipping.{clip_of_list_of}

-- a clip ends in time
pub clip_early : (f g : ℕ) (list clip : List Posting) → AllZip (IsCut f g) list clip → All (λ p. p.span.to ≤ g) clip
clip_early f g [] [] c = All-nil (λ p. p.span.to ≤ g)
clip_early f g [] (q ∷ clip) c = absurd c
clip_early f g (p ∷ list) [] c = absurd c
clip_early f g (p ∷ list) (q ∷ clip) c = All-cons (λ r. r.span.to ≤ g) q clip (omega (arith, c.0.to, min-le_right p.span.to g)) (clip_early f g list clip c.1)

-- a list clipped at a time is the list up to there
pub clipped : {T E : Type 0} (items : T → List Posting) (list : List Posting) (span : Span) (h : ℕ) (r : Result T E) → span.from ≡ 0 → span.to ≡ h
    → IfOk r (λ v. IsClip span.from span.to list (items v)) → IfOk r (λ v. (f : ℕ → ℕ → ℕ) → IsListOf f 0 (2 ^ 40) list → IsListOf f 0 h (items v))
clipped items list span h (Ok v) from to clip = λ f is.
    let there = clip_of_list_of f 0 (2 ^ 40) span.from span.to list (items v) (omega arith) (omega (arith, span.in_time)) is clip in
    subst (λ (n : ℕ). IsListOf f 0 n (items v)) to (subst (λ (n : ℕ). IsListOf f n span.to (items v)) from there)
clipped items list span h (Err e) from to clip = tt

pub clipped_early : {T E : Type 0} (items : T → List Posting) (list : List Posting) (span : Span) (h : ℕ) (r : Result T E) → span.to ≡ h
    → IfOk r (λ v. IsClip span.from span.to list (items v)) → IfOk r (λ v. All (λ p. p.span.to ≤ h) (items v))
clipped_early items list span h (Ok v) to clip = subst (λ (n : ℕ). All (λ p. p.span.to ≤ n) (items v)) to (clip_early span.from span.to (sublist span.from span.to list) (items v) clip)
clipped_early items list span h (Err e) to clip = tt

pub none_left : (n : ℕ) → n == 0 ≡ true → n ≡ 0
none_left n e = grind (arith, nat_tests)
