-- Live places share no page in a history that can be followed, and one entry more.
use Rattle.std.proofs.Common.{◌≡◌, ◌⊎◌, ℕ, ◌+◌, ◌<◌, ◌≤◌, List, [], ◌∷◌, ◌++◌, inl, inr, sym, subst, append_assoc}
use Rattle.std.proofs.lemmas.List.{append-nil}
use Rattle.base_types.specs.declared.extent.Extent.{Extent}
use Rattle.pages_area.specs.Placing.{ArePlaced}
use Rattle.pages_area.specs.Runs.{IsPageOf, IsTaken, pages_for}
use Rattle.pages_area.specs.Taken.{AreApart, IsApartFrom}
use Rattle.journal_entries.specs.declared.entry.Entry.{Entry}
use Rattle.journal_entries.specs.declared.entry.Entry.TheVariants.{Arrive, Delete, Planned, Format, Batch}
use Rattle.model_archive.specs.Histories.{History}
use Rattle.model_archive.specs.Legal.{EachMayCome, IsLegal}
use Rattle.model_archive.specs.Plans.{live_extents, live_plans}
use Rattle.plans_kinds.specs.Plans.{IsGoodPlan}
use Rattle.model_archive.proofs.HoldLemmas.{all_extents, apart_more, same_live}
use Rattle.model_archive.specs.declared.stored.StoredPlan.{StoredPlan}
use Rattle.model_follow.specs.Taking.{CanBeFollowed, EachMayBeTaken, MayBeTaken}

-- ---- entries one by one

after_push : (before h : History) (e : Entry) → EachMayBeTaken before h → MayBeTaken (before ++ h) e → EachMayBeTaken before (h ++ e ∷ [])
after_push before [] e each next = (let P : History → Type 0 = λ g. MayBeTaken g e in subst P (append-nil before) next, tt)
after_push before (x ∷ h) e each next = (
  each.0,
  after_push (before ++ x ∷ []) h e each.1 (let P : History → Type 0 = λ g. MayBeTaken g e in subst P (sym (append_assoc before (x ∷ []) h)) next),
)

pub followed_push : (h : History) (e : Entry) → CanBeFollowed h → MayBeTaken h e → CanBeFollowed (h ++ e ∷ [])
followed_push h e each next = after_push [] h e each next

all_legal : (before h : History) → EachMayBeTaken before h → EachMayCome IsGoodPlan before h
all_legal before [] each = tt
all_legal before (e ∷ h) each = (each.0.legal, all_legal (before ++ e ∷ []) h each.1)

pub followed_legal : (h : History) → CanBeFollowed h → IsLegal h
followed_legal h each = all_legal [] h each

-- ---- pages

-- one in the middle of extents that are apart is apart from the others, which are so
from_middle : (xs ys : List Extent) (e : Extent) → AreApart (xs ++ e ∷ ys) → AreApart (e ∷ (xs ++ ys))
from_middle [] ys e apart = apart
from_middle (x ∷ xs) ys e apart =
    let rest = from_middle xs ys e apart.1 in (
      (λ p mine taken. elim taken [ inl is ↦ apart.0 p is (among xs p (inl mine)) | inr more ↦ rest.0 p mine more ]),
      ((λ p is more. apart.0 p is (among xs p (inr more))), rest.1),
    )
  where
    among : (zs : List Extent) (p : ℕ) → IsPageOf e p ⊎ IsTaken (zs ++ ys) p → IsTaken (zs ++ e ∷ ys) p
    among [] p taken = taken
    among (z ∷ zs) p (inl mine) = inr (among zs p (inl mine))
    among (z ∷ zs) p (inr (inl is)) = inl is
    among (z ∷ zs) p (inr (inr more)) = inr (among zs p (inr more))

-- what takes the lowest free runs is apart, and from what is taken
pub placed_apart : (taken : List Extent) (sizes : List ℕ) (es : List Extent) → AreApart taken → ArePlaced taken sizes es → AreApart (es ++ taken)
placed_apart taken [] [] apart placed = apart
placed_apart taken (bytes ∷ sizes) (e ∷ es) apart placed =
    let own : IsApartFrom e taken = λ p is taken. lies e bytes placed.0 p is (λ from below. placed.1.is.free p from below taken) in
    from_middle es taken e (placed_apart (e ∷ taken) sizes es (own, apart) placed.2)
  where
    lies : (e : Extent) (bytes : ℕ) → e.bytes ≡ bytes → (p : ℕ) → IsPageOf e p → (e.first ≤ p → p < e.first + pages_for bytes → ⊥) → ⊥
    lies e bytes same p is none = none is.0 (subst (λ n. p < e.first + pages_for n) same is.1)
placed_apart taken [] (e ∷ es) apart placed = absurd placed
placed_apart taken (bytes ∷ sizes) [] apart placed = absurd placed

-- live places with one entry more
same_apart : (h next : History) → live_plans next ≡ live_plans h → AreApart (live_extents h) → AreApart (live_extents next)
same_apart h next same apart = let A : List StoredPlan → Type 0 = λ live. AreApart (all_extents live) in subst A (sym same) apart

apart_push : (h : History) (e : Entry) → MayBeTaken h e → AreApart (live_extents h) → AreApart (live_extents (h ++ e ∷ []))
apart_push h (Arrive doc at text) may apart = same_apart h (h ++ Arrive doc at text ∷ []) (same_live h (Arrive doc at text) tt) apart
apart_push h (Delete doc at) may apart = same_apart h (h ++ Delete doc at ∷ []) (same_live h (Delete doc at) tt) apart
apart_push h (Planned plan) may apart = apart_more h plan may.placed.apart
apart_push h Format may apart = same_apart h (h ++ Format ∷ []) (same_live h Format tt) apart
apart_push h (Batch batch) may apart = same_apart h (h ++ Batch batch ∷ []) (same_live h (Batch batch) tt) apart

apart_after : (before h : History) → EachMayBeTaken before h → AreApart (live_extents before) → AreApart (live_extents (before ++ h))
apart_after before [] each apart = let A : History → Type 0 = λ g. AreApart (live_extents g) in subst A (sym (append-nil before)) apart
apart_after before (e ∷ h) each apart =
    let A : History → Type 0 = λ g. AreApart (live_extents g) in
    subst A (append_assoc before (e ∷ []) h) (apart_after (before ++ e ∷ []) h each.1 (apart_push before e each.0 apart))

pub followed_apart : (h : History) → CanBeFollowed h → AreApart (live_extents h)
followed_apart h each = apart_after [] h each tt
