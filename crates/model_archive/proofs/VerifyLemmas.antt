-- Of a history that loads there is one verdict, where its pages hold what its live plans need; and where each plan is what its kind promises, all is sound.
use Rattle.std.proofs.Common.{◌≡◌, ◌⊎◌, inl, inr, ℕ, ◌<◌, ◌≤◌, List, [], ◌∷◌, ◌++◌, length, All, refl, ap, sym, subst, ◌∙◌, arith}
use Rattle.std.proofs.lemmas.Bool.{cases_lt}
use Rattle.std.proofs.lemmas.List.Elements.{All-nil, All-cons, All-head, All-tail, All-weaker}
use Rattle.std.proofs.lemmas.List.Sorted.{All-permutation}
use Rattle.base_types.specs.declared.fraction.Fraction.{Fraction}
use Rattle.base_types.specs.declared.posting.Posting.{Posting}
use Rattle.base_types.specs.declared.time.Time.{Time}
use Rattle.base_commands.specs.declared.command.Kind.{Kind}
use Rattle.base_commands.specs.declared.command.Kind.TheVariants.{Guarantee, Uniform, Since}
use Rattle.lists_postings.proofs.Clipping.{one_list_of}
use Rattle.plans_partitions.specs.Partitions.{IsLeast, space}
use Rattle.plans_partitions.proofs.Bests.{each_has_a_least}
use Rattle.plans_kinds.specs.Plans.{IsGoodPlan, IsFitFor, IsFitPlan, IsLeastPlan, later, plan_space}
use Rattle.journal_entries.specs.declared.plan.PlanEntry.{PlanEntry}
use Rattle.model_archive.specs.declared.stored.StoredPlan.{StoredPlan}
use Rattle.model_archive.specs.declared.verdict.Verdict.{Verdict}
use Rattle.model_archive.specs.declared.verdict.Verdict.TheVariants.{Sound, Differs, NotLeast, BadText}
use Rattle.model_archive.specs.Answers.{frequency_at}
use Rattle.model_archive.specs.Bounds.{GoodPlansAreSound}
use Rattle.model_archive.specs.Histories.{History, vocabulary}
use Rattle.model_archive.specs.Legal.{MayBePlanned, IsLoadable}
use Rattle.model_archive.specs.Planning.{IsListUpTo}
use Rattle.model_archive.specs.Plans.{live_plans}
use Rattle.model_archive.specs.Verifying.{IsLeastSpace, TakesLeast, Wastes, IsFirstToWaste, Judges, Verifies, sound_of}
use Rattle.model_archive.proofs.LiveLemmas.{live_planned}
use Rattle.model_archive.proofs.OrderLemmas.{put_in_order, are_put, one_way, are_moved}

-- ---- the first in a list

pub all_at : {X : Type 0} (P : X → Type 0) (front back : List X) (x : X) → All P (front ++ x ∷ back) → P x
all_at P [] back x all = All-head P x back all
all_at P (y ∷ front) back x all = all_at P front back x (All-tail P y (front ++ x ∷ back) all)

-- two lists with an item of which P doesn't hold, behind items of which it does: it is one item, at one place
pub record IsOneAt {X : Type 0} (f g : List X) (s t : X) : Type 0 where
  pub long : length f ≡ length g
  pub same : s ≡ t

pub one_at : {X : Type 0} (P : X → Type 0) (f g : List X) (s t : X) (b c : List X) → f ++ s ∷ b ≡ g ++ t ∷ c → All P f → All P g → (P s → ⊥) → (P t → ⊥) → IsOneAt f g s t
one_at P [] [] s t b c same early other bad ill = record { long = refl; same = cc }
one_at {X} P [] (x ∷ g) s t b c same early other bad ill = let here : s ≡ x = cc in absurd (bad (subst P (sym here) (All-head P x g other)))
one_at {X} P (x ∷ f) [] s t b c same early other bad ill = let here : x ≡ t = cc in absurd (ill (subst P here (All-head P x f early)))
one_at {X} P (x ∷ f) (y ∷ g) s t b c same early other bad ill =
    let rest : f ++ s ∷ b ≡ g ++ t ∷ c = cc in
    let more = one_at P f g s t b c rest (All-tail P x f early) (All-tail P y g other) bad ill in
    record { long = omega (arith, more.long); same = more.same }

-- ---- least space

-- a least plan takes no more than the least space
pub no_more : (list : List Posting) (factor : Fraction) (cuts : List Time) (h least : ℕ) → IsLeastPlan list factor cuts h → IsLeastSpace list factor cuts h least → plan_space list cuts h ≤ least
no_more list factor [] h least plan best = absurd plan
no_more list factor (f ∷ cuts) h least plan best = omega (arith, plan.least best.cuts best.covers, best.takes)

pub one_least : (list : List Posting) (factor : Fraction) (cuts : List Time) (h m n : ℕ) → IsLeastSpace list factor cuts h m → IsLeastSpace list factor cuts h n → m ≡ n
one_least list factor [] h m n a b = absurd a
one_least list factor (f ∷ cuts) h m n a b = omega (arith, a.least b.cuts b.covers, b.takes, b.least a.cuts a.covers, a.takes)

-- a plan that may be loaded is a least one, or takes more
least_or_more : (list : List Posting) (factor : Fraction) (cuts : List Time) (h : ℕ) → All (λ p. p.span.to ≤ h) list → IsFitPlan list factor cuts h
    → IsLeastPlan list factor cuts h ⊎ ((least : ℕ) × (IsLeastSpace list factor cuts h least × (least < plan_space list cuts h)))
least_or_more list factor [] h early fit = absurd fit
least_or_more list factor (f ∷ cuts) h early fit =
    let (first, (best, found)) = each_has_a_least list factor h early in
    let same : first ≡ f.seconds = omega (arith, found.first.none_before f.seconds fit.first.is, fit.first.none_before first found.first.is) in
    let least = subst (λ (n : ℕ). IsLeast list factor n best h) same found in
    elim (cases_lt (space list f.seconds best) (space list f.seconds (later cuts h))) [
      | inl below ↦ inr (space list f.seconds best, (record { cuts = best; covers = least.covers; at_boundaries = least.at_boundaries; takes = refl; least = least.least }, below))
      | inr over ↦ inl (record { first = fit.first; at_boundaries = fit.at_boundaries; covers = fit.covers; least = λ other covers. omega (arith, over, least.least other covers) })
    ]

-- ---- a plan

one_list : (h : History) (plan : PlanEntry) (a b : List Posting) → IsListUpTo h plan.word plan.horizon.seconds a → IsListUpTo h plan.word plan.horizon.seconds b → a ≡ b
one_list h plan a b x y = one_list_of (λ d t. frequency_at h plan.word (record { 0 = d }) t) 0 plan.horizon.seconds a b x y

pub never_both : (taken least : ℕ) (h : History) (plan : PlanEntry) → Wastes taken least h plan → TakesLeast h plan → ⊥
never_both taken least h plan more spare =
    omega (arith, no_more more.list plan.fraction plan.cuts plan.horizon.seconds least (spare more.guarantee more.list more.list_is) more.least_is, more.taken_is, more.more)

-- a plan of another kind has no guarantee
other_kind : (h : History) (plan : PlanEntry) → (plan.kind ≡ Guarantee → ⊥) → TakesLeast h plan
other_kind h plan other = λ guarantee list is. absurd (other guarantee)

judged : (h : History) (plan : PlanEntry) (kind : Kind) → plan.kind ≡ kind → MayBePlanned IsFitFor h plan → TakesLeast h plan ⊎ ((taken : ℕ) × ((least : ℕ) × Wastes taken least h plan))
judged h plan Guarantee kind may =
    let suits = subst (λ (k : Kind). IsFitFor k may.list plan.fraction plan.cuts plan.horizon.seconds) kind may.suits in
    let early = All-weaker (λ (p : Posting). (0 ≤ p.span.from) × (p.span.to ≤ plan.horizon.seconds)) (λ (p : Posting). p.span.to ≤ plan.horizon.seconds) (λ p in_it. in_it.1) may.list may.list_is.inside in
    elim (least_or_more may.list plan.fraction plan.cuts plan.horizon.seconds early suits.1) [
      | inl least ↦ inl (λ guarantee list is. subst (λ (l : List Posting). IsLeastPlan l plan.fraction plan.cuts plan.horizon.seconds) (one_list h plan may.list list may.list_is is) least)
      | inr more ↦ inr (
        plan_space may.list plan.cuts plan.horizon.seconds,
        (more.0, record { guarantee = kind; list = may.list; list_is = may.list_is; taken_is = refl; least_is = more.1.0; more = more.1.1 }),
      )
    ]
judged h plan Uniform kind may = inl (other_kind h plan (λ guarantee. let no : Uniform ≡ Guarantee = sym kind ∙ guarantee in absurd cc))
judged h plan (Since at) kind may = inl (other_kind h plan (λ guarantee. let no : Since at ≡ Guarantee = sym kind ∙ guarantee in absurd cc))

-- ---- plans

each_judged : (h : History) (plans : List StoredPlan) → All (λ s. MayBePlanned IsFitFor h s.plan) plans
    → All (λ s. TakesLeast h s.plan) plans ⊎ ((word : List ℕ) × ((taken : ℕ) × ((least : ℕ) × IsFirstToWaste word taken least h plans)))
each_judged h [] may = inl (All-nil (λ s. TakesLeast h s.plan))
each_judged h (s ∷ plans) may =
    let M : StoredPlan → Type 0 = λ t. MayBePlanned IsFitFor h t.plan in
    let L : StoredPlan → Type 0 = λ t. TakesLeast h t.plan in
    elim (judged h s.plan s.plan.kind refl (All-head M s plans may)) [
      | inr there ↦ inr (
        s.plan.word,
        (there.0, (there.1.0, record { front = []; stored = s; back = plans; plans_are = refl; spare = All-nil L; word_is = refl; there = there.1.1 })),
      )
      | inl spare ↦ elim (each_judged h plans (All-tail M s plans may)) [
        | inl all ↦ inl (All-cons L s plans spare all)
        | inr (word, (taken, (least, first))) ↦ inr (
          word,
          (
            taken,
            (
              least,
              record {
                front = s ∷ first.front;
                stored = first.stored;
                back = first.back;
                plans_are = ap (λ (l : List StoredPlan). s ∷ l) first.plans_are;
                spare = All-cons L s first.front spare first.spare;
                word_is = first.word_is;
                there = first.there;
              },
            ),
          ),
        )
      ]
    ]

pub each_verdict : (h : History) → IsLoadable h → (verdict : Verdict) × Verifies h verdict
each_verdict h loads =
    let words = vocabulary h in
    let live = live_plans h in
    let ordered = put_in_order words live in
    let put = are_put words live in
    let may = All-permutation (λ (s : StoredPlan). MayBePlanned IsFitFor h s.plan) live ordered (are_moved words live ordered put) (live_planned IsFitFor h loads) in
    elim (each_judged h ordered may) [
      | inl all ↦ (sound_of h, (ordered, put, (all, refl, refl)))
      | inr (word, (taken, (least, first))) ↦ (NotLeast word taken least, (ordered, put, first))
    ]

-- ---- one verdict

all_spare : (word : List ℕ) (taken least : ℕ) (h : History) (plans : List StoredPlan) → IsFirstToWaste word taken least h plans → All (λ s. TakesLeast h s.plan) plans → ⊥
all_spare word taken least h plans first all =
    let L : StoredPlan → Type 0 = λ s. TakesLeast h s.plan in
    never_both taken least h first.stored.plan first.there (all_at L first.front first.back first.stored (subst (λ (l : List StoredPlan). All L l) first.plans_are all))

both_more : (v u : List ℕ) (k l m n : ℕ) (h : History) (plan : PlanEntry) → v ≡ u → Wastes k l h plan → Wastes m n h plan → NotLeast v k l ≡ NotLeast u m n
both_more v u k l m n h plan e0 a b =
    let same = one_list h plan b.list a.list b.list_is a.list_is in
    let e1 : k ≡ m = a.taken_is ∙ ap (λ (list : List Posting). plan_space list plan.cuts plan.horizon.seconds) (sym same) ∙ sym b.taken_is in
    let e2 : l ≡ n = one_least a.list plan.fraction plan.cuts plan.horizon.seconds l n a.least_is (subst (λ (list : List Posting). IsLeastSpace list plan.fraction plan.cuts plan.horizon.seconds n) same b.least_is) in
    cc

one_judged : (h : History) (plans : List StoredPlan) (one other : Verdict) → Judges h plans one → Judges h plans other → one ≡ other
one_judged h plans (Sound a b) (Sound c d) x y =
    let e : a ≡ c = x.1 ∙ sym y.1 in
    let f : b ≡ d = x.2 ∙ sym y.2 in
    cc
one_judged h plans (Sound a b) (NotLeast v k l) x y = absurd (all_spare v k l h plans y x.0)
one_judged h plans (Sound a b) (Differs w s p f g) x y = absurd y
one_judged h plans (Sound a b) (BadText c t) x y = absurd y
one_judged h plans (NotLeast v k l) (Sound a b) x y = absurd (all_spare v k l h plans x y.0)
one_judged h plans (NotLeast v k l) (NotLeast u m n) x y =
    let L : StoredPlan → Type 0 = λ s. TakesLeast h s.plan in
    let same = (one_at L x.front y.front x.stored y.stored x.back y.back (sym x.plans_are ∙ y.plans_are) x.spare y.spare (never_both k l h x.stored.plan x.there) (never_both m n h y.stored.plan y.there)).same in
    let word : v ≡ u = x.word_is ∙ ap (λ (s : StoredPlan). s.plan.word) same ∙ sym y.word_is in
    both_more v u k l m n h x.stored.plan word x.there (subst (λ (s : StoredPlan). Wastes m n h s.plan) (sym same) y.there)
one_judged h plans (NotLeast v k l) (Differs w s p f g) x y = absurd y
one_judged h plans (NotLeast v k l) (BadText c t) x y = absurd y
one_judged h plans (Differs w s p f g) other x y = absurd x
one_judged h plans (BadText c t) other x y = absurd x

pub one_verdict : (h : History) (one other : Verdict) → Verifies h one → Verifies h other → one ≡ other
one_verdict h one other x y =
    let J : List StoredPlan → Type 0 = λ l. Judges h l other in
    one_judged h x.0 one other x.2 (subst J (sym (one_way (vocabulary h) (live_plans h) x.0 y.0 x.1 y.1)) y.2)

-- ---- plans that are what their kind promises

good_spare : (h : History) (live : List StoredPlan) → All (λ s. MayBePlanned IsGoodPlan h s.plan) live → All (λ s. TakesLeast h s.plan) live
good_spare h live may =
    All-weaker (λ (s : StoredPlan). MayBePlanned IsGoodPlan h s.plan) (λ (s : StoredPlan). TakesLeast h s.plan)
    (λ s is guarantee list list_is.
    let suits = subst (λ (k : Kind). IsGoodPlan k is.list s.plan.fraction s.plan.cuts s.plan.horizon.seconds) guarantee is.suits in
    subst (λ (l : List Posting). IsLeastPlan l s.plan.fraction s.plan.cuts s.plan.horizon.seconds) (one_list h s.plan is.list list is.list_is list_is) suits.1) live may

pub good_is_sound : GoodPlansAreSound
good_is_sound h verdict legal verifies =
    let words = vocabulary h in
    let live = live_plans h in
    let ordered = put_in_order words live in
    let put = are_put words live in
    let all = All-permutation (λ (s : StoredPlan). TakesLeast h s.plan) live ordered (are_moved words live ordered put) (good_spare h live (live_planned IsGoodPlan h legal)) in
    one_verdict h verdict (sound_of h) verifies (ordered, put, (all, refl, refl))
