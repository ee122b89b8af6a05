-- A turn of a document, word by word.
use Rattle.std.specs.Prelude.{◌≡◌, ◌≢◌, ◌⊎◌, ℕ, ◌+◌, ◌≤◌, List, [], length}
use Rattle.std.proofs.Common.{arith, ap, sym, ◌∙◌, subst, inl, inr}
use Rattle.std.proofs.lemmas.Bool.{cases_eq}
use Rattle.base_types.specs.declared.posting.Posting.{Posting}
use Rattle.lists_tails.specs.declared.weight.Weight.{Weight}
use Rattle.lists_tails.specs.States.{TailState}
use Rattle.lists_tails.specs.Tails.{held_of, tail_of, room_of}
use Rattle.lists_tails.specs.Turns.{IsTurned}
use Rattle.lists_tails.specs.Weights.{weight_of}
use Rattle.lists_tails.specs.Passing.{first_of, behind, AreFrom, IsDone, IsLeft, IsPassing}
use Rattle.lists_tails.proofs.Passed.{turned-same}
use Rattle.lists_tails.proofs.Words.{behind-words, first-weight, behind-none, behind-other, room-behind}

same-tail : (x y : TailState) → x ≡ y → x.list ≡ y.list
same-tail x y e = ap {B = List Posting} (λ (h : TailState). h.list) e

same-room : (x y : TailState) → x ≡ y → x.room ≡ y.room
same-room x y e = ap {B = ℕ} (λ (h : TailState). h.room) e

-- a word for which the same is held, and which has the same weights to come
stays : (doc at : ℕ) (old new lost gained less fewer : List Weight) (was mid now : List TailState) (v : ℕ) → held_of now v ≡ held_of mid v → weight_of v less ≡ weight_of v lost → weight_of v fewer ≡ weight_of v gained
    → IsDone doc at old new lost gained was mid v ⊎ IsLeft old new lost gained was mid v → IsDone doc at old new less fewer was now v ⊎ IsLeft old new less fewer was now v
stays doc at old new lost gained less fewer was mid now v e l g (inl d) = inl (record {
  none_lost = l ∙ d.none_lost;
  none_gained = g ∙ d.none_gained;
  turned = subst (λ z. IsTurned doc at (weight_of v old) (weight_of v new) (tail_of was v) z) (sym (same-tail (held_of now v) (held_of mid v) e)) d.turned;
  same = λ k. e ∙ d.same k;
  longer = omega (arith, d.longer, ap length (same-tail (held_of now v) (held_of mid v) e));
  shorter = λ z. omega (arith, d.shorter z, ap length (same-tail (held_of now v) (held_of mid v) e));
  none = λ z. omega (arith, d.none z, same-room (held_of now v) (held_of mid v) e);
  room = omega (arith, d.room, same-room (held_of now v) (held_of mid v) e);
})
stays doc at old new lost gained less fewer was mid now v e l g (inr d) = inr (record { held = e ∙ d.held; to_lose = l ∙ d.to_lose; to_gain = g ∙ d.to_gain })

-- a word that is passed on
passes : (doc at : ℕ) (old new lost gained less fewer : List Weight) (was mid now : List TailState) (w before after : ℕ) → before ≡ weight_of w lost → after ≡ weight_of w gained → weight_of w less ≡ 0 → weight_of w fewer ≡ 0
    → IsTurned doc at before after (tail_of mid w) (tail_of now w) → (before ≡ after → held_of now w ≡ held_of mid w) → (length (tail_of now w) ≤ length (tail_of mid w) + 1) → (after ≡ 0 → length (tail_of now w) ≤ length (tail_of mid w)) → (after ≡ 0 → room_of mid w ≤ room_of now w) → room_of mid w ≤ room_of now w + 1
    → IsDone doc at old new lost gained was mid w ⊎ IsLeft old new lost gained was mid w → IsDone doc at old new less fewer was now w ⊎ IsLeft old new less fewer was now w
passes doc at old new lost gained less fewer was mid now w before after b a l f turned same longer shorter none room (inl d) =
    stays doc at old new lost gained less fewer was mid now w (same (b ∙ d.none_lost ∙ sym d.none_gained ∙ sym a)) (l ∙ sym d.none_lost) (f ∙ sym d.none_gained) (inl d)
passes doc at old new lost gained less fewer was mid now w before after b a l f turned same longer shorter none room (inr d) = inl (record {
  none_lost = l;
  none_gained = f;
  turned =
      subst (λ z. IsTurned doc at z (weight_of w new) (tail_of was w) (tail_of now w)) (b ∙ d.to_lose)
      (subst (λ z. IsTurned doc at before z (tail_of was w) (tail_of now w)) (a ∙ d.to_gain)
      (subst (λ z. IsTurned doc at before after z (tail_of now w)) (same-tail (held_of mid w) (held_of was w) d.held) turned));
  longer = omega (arith, longer, ap length (same-tail (held_of mid w) (held_of was w) d.held));
  shorter = λ z. omega (arith, shorter (a ∙ d.to_gain ∙ z), ap length (same-tail (held_of mid w) (held_of was w) d.held));
  none = λ z. omega (arith, none (a ∙ d.to_gain ∙ z), same-room (held_of mid w) (held_of was w) d.held);
  same = λ k. same (b ∙ d.to_lose ∙ k ∙ sym d.to_gain ∙ sym a) ∙ d.held;
  room = omega (arith, room, same-room (held_of mid w) (held_of was w) d.held);
})

-- the turn goes on by the first word of both lists
pub pass-word : (doc at : ℕ) (old new lost gained less fewer : List Weight) (was mid now : List TailState) (w before after : ℕ) → before ≡ first_of w lost → after ≡ first_of w gained → less ≡ behind w lost → fewer ≡ behind w gained
    → AreFrom w lost → AreFrom w gained → IsTurned doc at before after (tail_of mid w) (tail_of now w) → (before ≡ after → held_of now w ≡ held_of mid w) → ((v : ℕ) → v ≢ w → held_of now v ≡ held_of mid v)
    → (length (tail_of now w) ≤ length (tail_of mid w) + 1) → (after ≡ 0 → length (tail_of now w) ≤ length (tail_of mid w)) → (after ≡ 0 → room_of mid w ≤ room_of now w) → room_of mid w ≤ room_of now w + 1 → IsPassing doc at old new lost gained was mid → IsPassing doc at old new less fewer was now
pass-word doc at old new lost gained less fewer was mid now w before after b a l f from also turned same others longer shorter none room p = rw (l, f) (record {
  lost_words = behind-words lost w p.lost_words;
  gained_words = behind-words gained w p.gained_words;
  gained_room = room-behind gained w mid now p.gained_words also others p.gained_room;
  each = λ v. elim (cases_eq v w) [
    | inl e ↦ subst (λ z. IsDone doc at old new (behind w lost) (behind w gained) was now z ⊎ IsLeft old new (behind w lost) (behind w gained) was now z) (sym e)
        (passes doc at old new lost gained (behind w lost) (behind w gained) was mid now w before after (b ∙ first-weight lost w p.lost_words from) (a ∙ first-weight gained w p.gained_words also) (behind-none lost w p.lost_words from) (behind-none gained w p.gained_words also) turned same longer shorter none room (p.each w))
    | inr n ↦ stays doc at old new lost gained (behind w lost) (behind w gained) was mid now v (others v n) (behind-other lost w v n) (behind-other gained w v n) (p.each v)
  ];
})

-- each word is passed on where none is left
pub passed-all : (doc at : ℕ) (old new lost gained : List Weight) (was now : List TailState) → lost ≡ [] → gained ≡ [] → IsPassing doc at old new lost gained was now → (w : ℕ) → IsTurned doc at (weight_of w old) (weight_of w new) (tail_of was w) (tail_of now w)
passed-all doc at old new lost gained was now l g p w = go (p.each w)
  where
    go : IsDone doc at old new lost gained was now w ⊎ IsLeft old new lost gained was now w → IsTurned doc at (weight_of w old) (weight_of w new) (tail_of was w) (tail_of now w)
    go (inl d) = d.turned
    go (inr d) =
        let o : weight_of w old ≡ 0 = sym d.to_lose ∙ ap (weight_of w) l in
        let n : weight_of w new ≡ 0 = sym d.to_gain ∙ ap (weight_of w) g in
        rw (o, n, same-tail (held_of now w) (held_of was w) d.held) (turned-same doc at 0 (tail_of was w))

-- and no tail is longer by more than one
pub longer-all : (doc at : ℕ) (old new lost gained : List Weight) (was now : List TailState) → IsPassing doc at old new lost gained was now → (w : ℕ) → length (tail_of now w) ≤ length (tail_of was w) + 1
longer-all doc at old new lost gained was now p w = go (p.each w)
  where
    go : IsDone doc at old new lost gained was now w ⊎ IsLeft old new lost gained was now w → length (tail_of now w) ≤ length (tail_of was w) + 1
    go (inl d) = d.longer
    go (inr d) = omega (arith, ap length (same-tail (held_of now w) (held_of was w) d.held))

pub shorter-all : (doc at : ℕ) (old new lost gained : List Weight) (was now : List TailState) → IsPassing doc at old new lost gained was now → (w : ℕ) → weight_of w new ≡ 0 → length (tail_of now w) ≤ length (tail_of was w)
shorter-all doc at old new lost gained was now p w z = go (p.each w)
  where
    go : IsDone doc at old new lost gained was now w ⊎ IsLeft old new lost gained was now w → length (tail_of now w) ≤ length (tail_of was w)
    go (inl d) = d.shorter z
    go (inr d) = omega (arith, ap length (same-tail (held_of now w) (held_of was w) d.held))

pub none-all : (doc at : ℕ) (old new lost gained : List Weight) (was now : List TailState) → IsPassing doc at old new lost gained was now → (w : ℕ) → weight_of w new ≡ 0 → room_of was w ≤ room_of now w
none-all doc at old new lost gained was now p w z = go (p.each w)
  where
    go : IsDone doc at old new lost gained was now w ⊎ IsLeft old new lost gained was now w → room_of was w ≤ room_of now w
    go (inl d) = d.none z
    go (inr d) = omega (arith, same-room (held_of now w) (held_of was w) d.held)
