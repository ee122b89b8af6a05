-- What is told of two plans that may be stored for one list: the same, but for the number of segments.
use Rattle.std.proofs.Common.{◌≡◌, ℕ, ◌+◌, Bool, true, false, bytes_eq, List, [], ◌∷◌, length, Option, Some, None, inl, inr, ap, sym, subst, ◌∙◌, arith}
use Rattle.std.proofs.lemmas.List.{length-append}
use Rattle.base_types.specs.declared.fraction.Fraction.{Fraction}
use Rattle.base_types.specs.declared.posting.Posting.{Posting}
use Rattle.base_types.specs.declared.time.Time.{Time}
use Rattle.base_types.proofs.Equal.{same_time}
use Rattle.plans_partitions.specs.Partitions.{Covers, IsLeast, space}
use Rattle.text_words.specs.Terms.{one_term}
use Rattle.journal_entries.specs.declared.entry.Entry.TheVariants as entries
use Rattle.journal_entries.specs.declared.plan.PlanEntry.{PlanEntry}
use Rattle.base_commands.specs.declared.command.Kind.{Kind}
use Rattle.base_commands.specs.declared.command.Kind.TheVariants.{Guarantee, Uniform, Since}
use Rattle.plans_kinds.specs.Plans.{IsLeastPlan, IsGoodPlan, IsCostOf, later, plan_space}
use Rattle.plans_kinds.proofs.GoodLemmas.{cost_the_same}
use Rattle.model_archive.specs.declared.refusal.Refusal.{Refusal}
use Rattle.model_archive.specs.declared.refusal.Refusal.TheVariants as refusals
use Rattle.model_archive.specs.declared.summary.Summary.{Summary}
use Rattle.model_archive.specs.Histories.{History}
use Rattle.model_archive.specs.Worlds.{Job, World}
use Rattle.model_archive.specs.Choices.{SamePlanned}
use Rattle.model_archive.specs.Steps.{Refused, Planned, Begun, Declines, Idles, AddsPlan, TakesOn, ChoosesPlan, StoresPlan, ByWord, OfStill, OfIdle, Begins, Plans, in_blocks, spelled_key, full_journal}
use Rattle.model_archive.proofs.PlanningLemmas.{of_phrase, one_phrase}

-- two least partitions take the same space
same_space : (list : List Posting) (factor : Fraction) (f g : ℕ) (cuts others : List ℕ) (h : ℕ) → IsLeast list factor f cuts h → IsLeast list factor g others h → space list f cuts ≡ space list g others
same_space list factor f g cuts others h a b =
    let first : f ≡ g = omega (arith, a.first.none_before g b.first.is, b.first.none_before f a.first.is) in
    let C : List ℕ → ℕ → Type 0 = λ cs n. Covers list factor n cs h in
    let over = a.least others (subst (C others) (sym first) b.covers) in
    let under = b.least cuts (subst (C cuts) first a.covers) in
    omega (arith, over, under, ap (λ (n : ℕ). space list n cuts) first, ap (λ (n : ℕ). space list n others) first)

same_plan_space : (list : List Posting) (factor : Fraction) (cuts others : List Time) (h : ℕ) → IsLeastPlan list factor cuts h → IsLeastPlan list factor others h → plan_space list cuts h ≡ plan_space list others h
same_plan_space list factor [] others h a b = absurd a
same_plan_space list factor (f ∷ cuts) [] h a b = absurd b
same_plan_space list factor (f ∷ cuts) (g ∷ others) h a b = same_space list factor f.seconds g.seconds (later cuts h) (later others h) h a b

-- a refusal tells of no plan
none_told : (h : History) (why : Refusal) (one : Summary) (next : History) → Declines h why (Planned one) next → ⊥
none_told h why one next declines = let other : Planned one ≡ Refused why = declines.1 in absurd cc

-- so do two good plans whose kind has no cost
same_good_space : (kind : Kind) (list : List Posting) (factor : Fraction) (cuts others : List Time) (h : ℕ) (cost : Option ℕ) → IsGoodPlan kind list factor cuts h → IsGoodPlan kind list factor others h
    → IsCostOf kind list cuts h cost → cost ≡ None → plan_space list cuts h ≡ plan_space list others h
same_good_space Guarantee list factor cuts others h cost a b costs none = same_plan_space list factor cuts others h a.1 b.1
same_good_space Uniform list factor cuts others h cost a b (n, is, same) none = absurd cc
same_good_space (Since at) list factor cuts others h cost a b (n, is, same) none = absurd cc

-- what is told of a plan with these cuts
record IsTold (h : History) (kind : Kind) (list : List Posting) (cuts : List Time) (horizon : Time) (one : Summary) : Type 0 where
  long : one.length ≡ length h + 1
  takes : one.space ≡ plan_space list cuts horizon.seconds
  whole : one.full ≡ length list
  until : one.horizon ≡ horizon
  costs : IsCostOf kind list cuts horizon.seconds one.cost

told : (h : History) (plan : PlanEntry) (refusal : Option Refusal) (list : List Posting) (one : Summary) (next : History) → AddsPlan h plan refusal list (Planned one) next → IsTold h plan.kind list plan.cuts plan.horizon one
told h plan (Some why) list one next adds = absurd (none_told h why one next adds)
told h plan None list one next adds =
    let (on, (cost, costs, reply)) = adds in
    let is : Summary = record { length = length next; segments = length plan.cuts; space = plan_space list plan.cuts plan.horizon.seconds; full = length list; horizon = plan.horizon; cost = cost } in
    let same : Planned one ≡ Planned is = reply in
    let here : one ≡ is = cc in
    record {
      long = ap (λ (s : Summary). s.length) here ∙ ap length on ∙ length-append h (entries.Planned plan ∷ []);
      takes = ap (λ (s : Summary). s.space) here;
      whole = ap (λ (s : Summary). s.full) here;
      until = ap (λ (s : Summary). s.horizon) here;
      costs = (let C : Option ℕ → Type 0 = λ c. IsCostOf plan.kind list plan.cuts plan.horizon.seconds c in subst C (sym (ap (λ (s : Summary). s.cost) here)) costs);
    }

plan_told : (job : Option Job) (h : History) (kind : Kind) (factor : Fraction) (word : List ℕ) (list : List Posting) (one : Summary) (next : History) → (s : StoresPlan job h kind factor word list (Planned one) next) → IsTold h kind list s.cuts s.horizon one
plan_told job h kind factor word list one next s = elim s.stores [
  | inl full ↦ absurd (none_told h _ one next full.1)
  | inr fits ↦
      let (places, placed, zip, adds) = fits in
      let plan = in_blocks word kind factor s.horizon s.cuts places in
      told h plan (full_journal h (entries.Planned plan)) list one next adds
]

told_alike : (job : Option Job) (h : History) (kind : Kind) (factor : Fraction) (word : List ℕ) (list : List Posting) (one other : Summary) (next then : History)
    → StoresPlan job h kind factor word list (Planned one) next → StoresPlan job h kind factor word list (Planned other) then → SamePlanned one other
told_alike job h kind factor word list one other next then a b =
    let mine = plan_told job h kind factor word list one next a in
    let its = plan_told job h kind factor word list other then b in
    let until : b.horizon.seconds ≡ a.horizon.seconds = b.horizon_is ∙ sym a.horizon_is in
    let G : ℕ → Type 0 = λ n. IsGoodPlan kind list factor b.cuts n in
    let C : ℕ → Type 0 = λ n. IsCostOf kind list b.cuts n other.cost in
    let good = subst G until b.good in
    record {
      length = mine.long ∙ sym its.long;
      full = mine.whole ∙ sym its.whole;
      horizon = mine.until ∙ same_time a.horizon b.horizon (sym until) ∙ sym its.until;
      cost = cost_the_same kind list factor a.cuts b.cuts a.horizon one.cost other.cost a.good good mine.costs (subst C until its.costs);
      space = λ none. mine.takes ∙ same_good_space kind list factor a.cuts b.cuts a.horizon.seconds one.cost a.good good mine.costs none ∙ ap (λ (n : ℕ). plan_space list b.cuts n) (sym until) ∙ sym its.takes;
    }

-- beside a plan that is being written both are refused, or both are stored
still_alike : (C A B : Type 0) (Refuses Declines : Refusal → Type 0) → ((why : Refusal) → Refuses why → C) → (A → B → C) → (job : Option Job) (word : List ℕ)
    → OfStill job word Refuses A → OfStill job word Declines B → C
still_alike C A B Refuses Declines refused both None word a b = both a b
still_alike C A B Refuses Declines refused both (Some job) word a b = go (bytes_eq job.plan.word word) a b
  where
    go : (b : Bool) → ByWord b (Refuses refusals.Busy) A → ByWord b (Declines refusals.Busy) B → C
    go true x y = refused refusals.Busy x
    go false x y = both x y

pub plans_alike : (job : Option Job) (h : History) (phrase : List ℕ) (kind : Kind) (factor : Fraction) (one other : Summary) (next then : History)
    → Plans job h phrase kind factor (Planned one) next → Plans job h phrase kind factor (Planned other) then → SamePlanned one other
plans_alike job h phrase kind factor one other next then =
    one_phrase kind h (SamePlanned one other) (λ why. Declines h why (Planned one) next) (λ why. Declines h why (Planned other) then)
    (λ word list. OfStill job word (λ why. Declines h why (Planned one) next) (StoresPlan job h kind factor word list (Planned one) next))
    (λ word list. OfStill job word (λ why. Declines h why (Planned other) then) (StoresPlan job h kind factor word list (Planned other) then))
    (λ why a b. absurd (none_told h why one next a))
    (λ word list a b.
    still_alike (SamePlanned one other) (StoresPlan job h kind factor word list (Planned one) next) (StoresPlan job h kind factor word list (Planned other) then) (λ why. Declines h why (Planned one) next)
    (λ why. Declines h why (Planned other) then) (λ why is. absurd (none_told h why one next is)) (told_alike job h kind factor word list one other next then) job word a b)
    (spelled_key (one_term phrase))

-- what is begun isn't told as stored
pub none_begun : (w : World) (phrase : List ℕ) (factor : Fraction) (one : Summary) (next : World) → Begins w phrase factor (Planned one) next → ⊥
none_begun w phrase factor one next =
    of_phrase Guarantee w.history ⊥ D (λ word list. OfIdle w.job word D (ChoosesPlan w.job w.history Guarantee factor word list D (A list))) (spelled_key (one_term phrase)) declined
    (λ word list term is some of. idle w.job word list of)
  where
    D : Refusal → Type 0
    D why = Idles w why (Planned one) next

    A : List Posting → PlanEntry → Type 0
    A list plan = TakesOn w plan (full_journal w.history (entries.Planned plan)) list (Planned one) next

    declined : (why : Refusal) → Idles w why (Planned one) next → ⊥
    declined why idles = (let other : Planned one ≡ Refused why = idles.1 in cc)

    taken_on : (plan : PlanEntry) (refusal : Option Refusal) (list : List Posting) → TakesOn w plan refusal list (Planned one) next → ⊥
    taken_on plan None list takes = (let other : Planned one ≡ Begun _ _ = takes.1 in cc)
    taken_on plan (Some why) list takes = declined why takes

    chosen : (word : List ℕ) (list : List Posting) → ChoosesPlan w.job w.history Guarantee factor word list D (A list) → ⊥
    chosen word list s = elim s.stores [
      | inl full ↦ declined _ full.1
      | inr fits ↦ (let plan = in_blocks word Guarantee factor s.horizon s.cuts fits.0 in taken_on plan (full_journal w.history (entries.Planned plan)) list fits.3)
    ]

    idle : (job : Option Job) (word : List ℕ) (list : List Posting) → OfIdle job word D (ChoosesPlan w.job w.history Guarantee factor word list D (A list)) → ⊥
    idle None word list of = chosen word list of
    idle (Some job) word list of = by (bytes_eq job.plan.word word) of
      where
        by : (b : Bool) → ByWord b (D refusals.Busy) (D refusals.OneJob) → ⊥
        by true is = declined refusals.Busy is
        by false is = declined refusals.OneJob is
