-- Bytes filled range by range, and the image of an area that comes of it.
use Rattle.std.proofs.Common.{◌≡◌, ◌⊎◌, ℕ, ◌+◌, ◌-◌, ◌<◌, ◌≤◌, ◌^◌, min, List, [], ◌∷◌, ◌++◌, length, take, drop, slice_index, get_or, inl, inr, ap, sym, ◌∙◌, subst, arith}
use Rattle.std.proofs.lemmas.List.{take_more, take_at, get_or-take, length-take-le}
use Rattle.std.proofs.lemmas.Bool.{cases_lt}
use Rattle.machine_model.specs.Images.{IsUntouched, AreBytes}
use Rattle.machine_model.specs.declared.range.Range.{Range}
use Rattle.machine_mem.specs.Stores.{IsSound}
use Rattle.machine_mem.specs.Stamps.{IsStamped, IsStampedOver, IsFilled}
use Rattle.machine_mem.specs.Tails.{IsOpen, IsTail, filled}
use Rattle.machine_mem.specs.declared.picks.Fill.TheVariants.{Byte}
use Rattle.machine_mem.specs.declared.picks.Tail.{Tail}

-- outside some ranges and one more
untouched_push : (ranges : List Range) (range : Range) (k : ℕ) → IsUntouched ranges k → (k < range.at) ⊎ (range.at + range.count ≤ k)
    → IsUntouched (ranges ++ range ∷ []) k
untouched_push [] range k out here = (here, tt)
untouched_push (r ∷ ranges) range k out here = (out.0, untouched_push ranges range k out.1 here)

untouched_pop : (ranges : List Range) (range : Range) (k : ℕ) → IsUntouched (ranges ++ range ∷ []) k
    → IsUntouched ranges k × ((k < range.at) ⊎ (range.at + range.count ≤ k))
untouched_pop [] range k out = (tt, out.0)
untouched_pop (r ∷ ranges) range k out = let rest = untouched_pop ranges range k out.1 in ((out.0, rest.0), rest.1)

stamped_push : (ranges : List Range) (range : Range) (byte end : ℕ) (first old new : List ℕ) → IsStampedOver ranges byte first old
    → length first ≤ 2 ^ 40 → end ≡ min (range.at + range.count) (2 ^ 64 - 1) → IsStamped range.at end byte old new
    → IsStampedOver (ranges ++ range ∷ []) byte first new
stamped_push ranges range byte end first old new so_far small end_is step = record {
  long = step.long ∙ so_far.long;
  outside = λ k within out.
      let both = untouched_pop ranges range k out in
      let there : k < length old = omega (arith, so_far.long) in
      let beyond : (k < range.at) ⊎ (end ≤ k) = elim both.1 [ inl before ↦ inl before | inr behind ↦ inr (omega arith) ] in
      step.outside k there beyond ∙ so_far.outside k within both.0;
  inside = λ k within touched.
      let there : k < length old = omega (arith, so_far.long) in
      elim (cases_lt k range.at) [
        | inl before ↦ step.outside k there (inl before) ∙ so_far.inside k within (λ out. touched (untouched_push ranges range k out (inl before)))
        | inr at ↦ elim (cases_lt k (range.at + range.count)) [
          | inl here ↦ step.inside k there at (omega arith)
          | inr behind ↦ step.outside k there (inr (omega arith)) ∙ so_far.inside k within (λ out. touched (untouched_push ranges range k out (inr behind)))
        ]
      ];
}

pub stamped_more : (ranges : List Range) (i byte end : ℕ) (d : Range) (first old new : List ℕ) → i < length ranges → IsStampedOver (take i ranges) byte first old
    → length first ≤ 2 ^ 40 → end ≡ min ((get_or ranges i d).at + (get_or ranges i d).count) (2 ^ 64 - 1) → IsStamped (get_or ranges i d).at end byte old new
    → IsStampedOver (take (i + 1) ranges) byte first new
stamped_more ranges i byte end d first old new within so_far small end_is step =
    let P : List Range → Type 0 = λ rs. IsStampedOver rs byte first new in
    subst P (sym (take_more ranges i d within)) (stamped_push (take i ranges) (get_or ranges i d) byte end first old new so_far small end_is step)

pub filled_both : (ranges : List Range) (least byte : ℕ) (old mid new : List ℕ) → IsStampedOver ranges byte old mid
    → IsStamped least (length mid) byte mid new → IsFilled ranges least byte old new
filled_both ranges least byte old mid new one two = record {
  long = two.long ∙ one.long;
  outside = λ k within low out. two.outside k (omega (arith, one.long)) (inl low) ∙ one.outside k within out;
  inside = λ k within loose. elim (cases_lt k least) [
    | inl low ↦ two.outside k (omega (arith, one.long)) (inl low) ∙ one.inside k within (loose low)
    | inr high ↦ two.inside k (omega (arith, one.long)) high (omega (arith, one.long))
  ];
}

-- what makes bytes the image that a tail takes
tail_made : (stable : List ℕ) (pending : List Range) (written : List ℕ) (tail : Tail) (image : List ℕ) → IsSound stable pending written
    → length image ≡ min (length stable + tail.extra) (length written) → AreBytes image
    → ((k : ℕ) → k < length image → k < length stable → IsUntouched pending k → slice_index image k ≡ slice_index written k)
    → ((k : ℕ) → k < length image → IsOpen stable pending k → slice_index image k ≡ filled tail.fill written k)
    → IsTail stable pending written tail image
tail_made stable pending written tail image sound long bytes shut loose =
    let least : length stable ≤ length image = omega (arith, sound.allowed.no_shorter) in
    record {
      allowed = record {
        no_shorter = least;
        no_longer = omega (arith, sound.whole);
        untouched = λ k within out. shut k (omega arith) within out ∙ sound.allowed.untouched k within out;
        bytes = bytes;
      };
      long = long ∙ ap (λ n. min (length stable + tail.extra) n) sound.whole;
      limit = omega (arith, sound.limit);
      filling = loose;
    }

-- the length that a tail asks for
cut_length : (stable : List ℕ) (written : List ℕ) (extra wanted len : ℕ) → wanted ≡ min (length stable + extra) (2 ^ 64 - 1) → len ≡ min wanted (length written)
    → length written ≤ 2 ^ 40 → length (take len written) ≡ min (length stable + extra) (length written)
cut_length stable written extra wanted len wanted_is len_is small =
    length-take-le len written (omega arith) ∙ omega arith

-- the bytes as last written, cut to that length, with one byte in each open place
tail_byte_lem : (stable : List ℕ) (pending : List Range) (written : List ℕ) (tail : Tail) (wanted len byte : ℕ) (image : List ℕ) → IsSound stable pending written
    → wanted ≡ min (length stable + tail.extra) (2 ^ 64 - 1) → len ≡ min wanted (length written) → tail.fill ≡ Byte byte
    → IsFilled pending (length stable) byte (take len written) image → AreBytes image → IsTail stable pending written tail image
tail_byte_lem stable pending written tail wanted len byte image sound wanted_is len_is fill filling bytes =
    let cut = cut_length stable written tail.extra wanted len wanted_is len_is sound.limit in
    let long = filling.long ∙ cut in
    tail_made stable pending written tail image sound long bytes
    (λ k within low out. filling.outside k (omega (arith, filling.long)) low out ∙ get_or-take len written k 0 (omega arith))
    (λ k within loose. filling.inside k (omega (arith, filling.long)) loose ∙ ap (λ f. filled f written k) (sym fill))

-- the same, for bytes that were filled in place
pub tail_byte : (stable : List ℕ) (pending : List Range) (written : List ℕ) (tail : Tail) (wanted len byte least n : ℕ) (ranges : List Range) (first new : List ℕ)
    → IsSound stable pending written
    → wanted ≡ min (length stable + tail.extra) (2 ^ 64 - 1) → len ≡ min wanted (length written) → tail.fill ≡ Byte byte
    → ranges ≡ pending → least ≡ length stable → first ≡ take len written → length first ≡ n
    → IsFilled ranges least byte first new → AreBytes new → IsTail stable pending written tail (take n (new ++ drop (length new) first))
tail_byte stable pending written tail wanted len byte least n ranges first new sound wanted_is len_is fill ranges_are least_is first_is n_is filling bytes =
    let P : List ℕ → Type 0 = λ image. IsTail stable pending written tail image in
    let F : List Range → Type 0 = λ rs. IsFilled rs least byte first new in
    let G : ℕ → Type 0 = λ m. IsFilled pending m byte first new in
    let H : List ℕ → Type 0 = λ l. IsFilled pending (length stable) byte l new in
    let all : take n (new ++ drop (length new) first) ≡ new = take_at new (drop (length new) first) n (filling.long ∙ n_is) in
    subst P (sym all) (tail_byte_lem stable pending written tail wanted len byte new sound wanted_is len_is fill
    (subst H first_is (subst G least_is (subst F ranges_are filling))) bytes)
