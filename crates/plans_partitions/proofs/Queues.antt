-- What becomes of a queue where a value is added, where the window's start moves on, and what its first place is.
use Rattle.std.specs.Prelude.{◌≡◌, ◌⊎◌, ◌↔◌, ℕ, zero, suc, ◌+◌, ◌-◌, ◌<◌, ◌≤◌, IsTrue, cond, nat_lt, List, [], ◌∷◌, ◌++◌, length, slice_index_or, Option, Some, None, refl}
use Rattle.std.proofs.Common.{arith, ap, sym, ◌∙◌, subst, inl, inr, length-append}
use Rattle.std.proofs.lemmas.Bool.{cases_lt, ltb-true, lt-ltb}
use Rattle.std.proofs.lemmas.Bool.Decides.{nat_tests}
use Rattle.std.proofs.lemmas.List.{append-nil}
use Rattle.std.specs.Option.{option_to_list}
use Rattle.plans_partitions.specs.Windows.{Window, IsEntry, IsQueue, IsFront, IsOver, IsWindow, EndsBelow}

-- a queue of a window from some place up to this one
pub record StartsUpTo (f : ℕ → ℕ) (place next : ℕ) (queue : List (ℕ × ℕ)) : Type 0 where
  pub from : ℕ
  pub up_to : from ≤ place
  pub is : IsQueue f from next queue

-- a whole queue is a front of one
pub front_whole : (f : ℕ → ℕ) (value from next : ℕ) (queue : List (ℕ × ℕ)) → IsQueue f from next queue → IsFront f value from next queue
front_whole f value from next [] q = (omega (arith, q), λ i a b. absurd (omega (arith, q)))
front_whole f value from next (e ∷ queue) (a, q) = (a, front_whole f value (e.0 + 1) next queue q)

-- the last entry leaves
pub last_left : (f : ℕ → ℕ) (value from next : ℕ) (queue : List (ℕ × ℕ)) (e : ℕ × ℕ) → value ≤ e.1 → IsFront f value from next (queue ++ e ∷ []) → IsFront f value from next queue
last_left f value from next [] e l (a, q) = (omega (arith, a.least.after, a.least.before), λ i b c. omega (arith, a.value, a.least.least i b c))
last_left f value from next (d ∷ queue) e l (a, q) = (a, last_left f value (d.0 + 1) next queue e l q)

-- what the last entry is
pub ends_at : (value : ℕ) (queue : List (ℕ × ℕ)) (n : ℕ) (x : ℕ × ℕ) → n + 1 ≡ length queue → x ≡ slice_index_or queue n x → EndsBelow value queue ↔ (x.1 < value)
ends_at value [] n x l e = absurd (omega (arith, l))
ends_at value (d ∷ []) zero x l e = (λ h. omega (arith, h, ap (λ (y : ℕ × ℕ). y.1) e), λ h. omega (arith, h, ap (λ (y : ℕ × ℕ). y.1) e))
ends_at value (d ∷ []) (suc n) x l e = absurd (omega (arith, l))
ends_at value (d ∷ b ∷ queue) zero x l e = absurd (omega (arith, l))
ends_at value (d ∷ b ∷ queue) (suc n) x l e = ends_at value (b ∷ queue) n x (omega (arith, l)) e

ends_last : (value : ℕ) (queue : List (ℕ × ℕ)) (e : ℕ × ℕ) → e.1 < value → EndsBelow value (queue ++ e ∷ [])
ends_last value [] e h = h
ends_last value (d ∷ []) e h = h
ends_last value (d ∷ b ∷ queue) e h = ends_last value (b ∷ queue) e h

pub ends_iff : (value : ℕ) (queue : List (ℕ × ℕ)) (long : ℕ) (x : ℕ × ℕ) → long ≡ length queue → 0 < long → x ≡ slice_index_or queue (long - 1) x → IsTrue (nat_lt x.1 value) ↔ EndsBelow value queue
ends_iff value queue long x l some e =
    let h : EndsBelow value queue ↔ (x.1 < value) = ends_at value queue (long - 1) x (omega arith) e in
    (λ t. h.1 (ltb-true x.1 value t), λ b. lt-ltb x.1 value (h.0 b))

pub last_gone : (f : ℕ → ℕ) (value from next : ℕ) (old new : List (ℕ × ℕ)) (r : Option (ℕ × ℕ)) → old ≡ new ++ option_to_list r → (EndsBelow value old → ⊥) → IsFront f value from next old → IsFront f value from next new
last_gone f value from next old new None made n q = subst (λ (l : List (ℕ × ℕ)). IsFront f value from next l) (made ∙ append-nil new) q
last_gone f value from next old new (Some e) made n q = go (cases_lt e.1 value)
  where
    go : ((e.1 < value) ⊎ (value ≤ e.1)) → IsFront f value from next new
    go (inl h) = absurd (n (subst (λ (l : List (ℕ × ℕ)). EndsBelow value l) (sym made) (ends_last value new e h)))
    go (inr h) = last_left f value from next new e h (subst (λ (l : List (ℕ × ℕ)). IsFront f value from next l) made q)

-- a value is added
with_last : (f : ℕ → ℕ) (from next : ℕ) (e : ℕ × ℕ) → e.1 ≤ f next → IsEntry f from next e → IsEntry f from (next + 1) e
with_last f from next e l a = record {
  least = record {
    after = a.least.after;
    before = omega (arith, a.least.before);
    least = λ i b c. go i b c (cases_lt i next);
  };
  value = a.value;
}
  where
    go : (i : ℕ) → from ≤ i → i < next + 1 → ((i < next) ⊎ (next ≤ i)) → f e.0 ≤ f i
    go i b c (inl h) = a.least.least i b h
    go i b c (inr h) = let s : next ≡ i = omega arith in omega (arith, ap f s, a.value)

pub queue_more : (f : ℕ → ℕ) (value from next : ℕ) (queue : List (ℕ × ℕ)) → value ≡ f next → EndsBelow value queue → IsFront f value from next queue → IsQueue f from (next + 1) (queue ++ (next, value) ∷ [])
queue_more f value from next [] v b (a, q) = (
  record {
    least = record {
      after = a;
      before = omega arith;
      least = λ i c d. go i c d (cases_lt i next);
    };
    value = v;
  },
  refl,
)
  where
    go : (i : ℕ) → from ≤ i → i < next + 1 → ((i < next) ⊎ (next ≤ i)) → f next ≤ f i
    go i c d (inl h) = omega (arith, v, q i c h)
    go i c d (inr h) = let s : next ≡ i = omega arith in omega (arith, ap f s)
queue_more f value from next (e ∷ []) v b (a, q) = (with_last f from next e (omega (arith, b, v)) a, queue_more f value (e.0 + 1) next [] v tt q)
queue_more f value from next (e ∷ d ∷ queue) v b (a, q) =
    let rest : IsQueue f (e.0 + 1) (next + 1) ((d ∷ queue) ++ (next, value) ∷ []) = queue_more f value (e.0 + 1) next (d ∷ queue) v b q in
    (with_last f from next e (omega (arith, a.value, a.least.least d.0 (omega (arith, a.least.after, q.0.least.after)) q.0.least.before, rest.0.least.least next (omega (arith, a.least.before)) (omega arith))) a, rest)

pub pushed : (f : ℕ → ℕ) (value : ℕ) (old new : Window) (left : List (ℕ × ℕ)) → new.next ≡ old.next + 1 → new.from ≡ old.from → new.queue ≡ left ++ (old.next, value) ∷ [] → EndsBelow value left
    → (IsQueue f old.from old.next old.queue → IsFront f value old.from old.next left) → value ≡ f old.next → IsOver f old → IsOver f new
pushed f value old new left e g made below front v o = record {
  queue =
      subst (λ n. IsQueue f n new.next new.queue) (sym g)
      (subst (λ n. IsQueue f old.from n new.queue) (sym e)
      (subst (λ (l : List (ℕ × ℕ)). IsQueue f old.from (old.next + 1) l) (sym made) (queue_more f value old.from old.next left v below (front o.queue))));
}

-- one popped entry is one less
pub one_less : (old new : List (ℕ × ℕ)) (r : Option (ℕ × ℕ)) → old ≡ new ++ option_to_list r → length new ≤ length old
one_less old new r made = omega (arith, ap length made, length-append new (option_to_list r))

-- only the values before the end count
pub queue_same : (f g : ℕ → ℕ) (from next : ℕ) (queue : List (ℕ × ℕ)) → ((i : ℕ) → i < next → f i ≡ g i) → IsQueue f from next queue → IsQueue g from next queue
queue_same f g from next [] same q = q
queue_same f g from next (e ∷ queue) same (a, q) = (
  record {
    least = record {
      after = a.least.after;
      before = a.least.before;
      least = λ i b c. omega (arith, same i c, same e.0 a.least.before, a.least.least i b c);
    };
    value = omega (arith, a.value, same e.0 a.least.before);
  },
  queue_same f g (e.0 + 1) next queue same q,
)

pub over_same : (f g : ℕ → ℕ) (window : Window) → ((i : ℕ) → i < window.next → f i ≡ g i) → IsOver f window → IsOver g window
over_same f g window same o = record { queue = queue_same f g window.from window.next window.queue same o.queue }

-- a window with a value more is over some function
pub window_more : (old new : Window) (value : ℕ) → ((f : ℕ → ℕ) → value ≡ f old.next → IsOver f old → IsOver f new) → IsWindow old → IsWindow new
window_more old new value more w = record { values = longer; over = more longer here (over_same w.values longer old before w.over) }
  where
    longer : ℕ → ℕ
    longer i = cond (nat_lt i old.next) (w.values i) value

    here : value ≡ longer old.next
    here = grind (arith, nat_tests)

    before : (i : ℕ) → i < old.next → w.values i ≡ longer i
    before i l = grind (arith, nat_tests)
