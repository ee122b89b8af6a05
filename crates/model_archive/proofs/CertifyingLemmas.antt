-- There is one certificate of a plan.
use Rattle.std.proofs.Common.{◌≡◌, ℕ, ◌<◌, ◌≤◌, ◌^◌, Bool, true, false, cond, bytes_eq, List, [], ◌∷◌, filter, All, Option, Some, None, inl, inr, refl, sym, subst, ◌∙◌, arith}
use Rattle.std.proofs.lemmas.List.Elements.{All-head, All-tail, All-weaker}
use Rattle.base_types.specs.declared.fraction.Fraction.{Fraction}
use Rattle.base_types.specs.declared.posting.Posting.{Posting}
use Rattle.base_types.specs.declared.time.Time.{Time}
use Rattle.base_commands.specs.declared.command.Kind.{Kind}
use Rattle.base_commands.specs.declared.command.Kind.TheVariants.{Guarantee, Uniform, Since}
use Rattle.text_words.specs.Terms.{one_term}
use Rattle.lists_postings.proofs.Clipping.{one_list_of}
use Rattle.plans_kinds.specs.declared.proposal.Node.{Node}
use Rattle.plans_kinds.specs.declared.proposal.Segment.{Segment}
use Rattle.plans_kinds.specs.Proposals.{IsProposal}
use Rattle.plans_kinds.proofs.Pieces.{shown, shown_once}
use Rattle.journal_entries.specs.declared.plan.PlanEntry.{PlanEntry}
use Rattle.plans_partitions.specs.Partitions.{space}
use Rattle.plans_kinds.specs.Plans.{IsLeastPlan, IsFitPlan, IsGoodPlan, IsFitFor, later}
use Rattle.model_archive.specs.declared.refusal.Refusal.TheVariants as refusals
use Rattle.model_archive.specs.declared.stored.StoredPlan.{StoredPlan}
use Rattle.model_archive.specs.Histories.{History, vocabulary}
use Rattle.model_archive.specs.Answers.{frequency_at}
use Rattle.model_archive.specs.Bounds.{CertifiedPlansAreLeast}
use Rattle.model_archive.specs.Legal.{MayBePlanned, IsLoadable}
use Rattle.model_archive.specs.Planning.{OfTerm}
use Rattle.model_archive.specs.Plans.{first_plan, live_plans, plan_of}
use Rattle.model_archive.specs.Steps.{Reply, Refused, Proposed, IsCertificate, CertifiesPlan, CertifiesLive, Certifies}
use Rattle.model_archive.proofs.LiveLemmas.{live_planned}
use Rattle.model_archive.proofs.PlanningLemmas.{known_or_not}

-- what holds of all live plans holds of a word's
pub live_has : (P : PlanEntry → Type 0) (keep : StoredPlan → Bool) (live : List StoredPlan) (plan : PlanEntry) → All (λ stored. P stored.plan) live → first_plan (filter keep live) ≡ Some plan → P plan
live_has P keep [] plan all is = absurd cc
live_has P keep (s ∷ live) plan all is = go (keep s) is (live_has P keep live plan (All-tail (λ (stored : StoredPlan). P stored.plan) s live all))
  where
    go : (b : Bool) → first_plan (cond b (s ∷ filter keep live) (filter keep live)) ≡ Some plan → (first_plan (filter keep live) ≡ Some plan → P plan) → P plan
    go true some rest = (let same : s.plan ≡ plan = cc in subst P same (All-head (λ (stored : StoredPlan). P stored.plan) s live all))
    go false some rest = rest some

-- a plan that may be loaded is certified
certified : (list : List Posting) (factor : Fraction) (cuts : List Time) (horizon : Time) → All (λ p. p.span.to ≤ horizon.seconds) list → IsFitPlan list factor cuts horizon.seconds
    → (segments : List Segment) × ((nodes : List Node) × ((total : ℕ) × IsCertificate list factor cuts horizon.seconds segments nodes total))
certified list factor [] horizon early fit = absurd fit
certified list factor (f ∷ cuts) horizon early fit =
    let now : horizon.seconds < 2 ^ 40 = horizon.before_now in
    let (segments, (nodes, is)) = shown list factor horizon.seconds f.seconds (later cuts horizon.seconds) (omega (arith, now)) early fit.covers in
    (segments, (nodes, (space list f.seconds (later cuts horizon.seconds), is)))

plan_certified : (h : History) (plan : PlanEntry) (kind : Kind) → MayBePlanned IsFitFor h plan → plan.kind ≡ kind → (reply : Reply) × CertifiesPlan h plan kind reply
plan_certified h plan Guarantee may kind =
    let suits = subst (λ (k : Kind). IsFitFor k may.list plan.fraction plan.cuts plan.horizon.seconds) kind may.suits in
    let early = All-weaker (λ (p : Posting). (0 ≤ p.span.from) × (p.span.to ≤ plan.horizon.seconds)) (λ (p : Posting). p.span.to ≤ plan.horizon.seconds) (λ p in_it. in_it.1) may.list may.list_is.inside in
    let (segments, (nodes, (total, is))) = certified may.list plan.fraction plan.cuts plan.horizon early suits.1 in
    (Proposed segments nodes total, (may.list, may.list_is, (segments, nodes, total, is, refl)))
plan_certified h plan Uniform may kind = (Refused refusals.NoPlan, refl)
plan_certified h plan (Since at) may kind = (Refused refusals.NoPlan, refl)

live_certified : (h : History) (o : Option PlanEntry) → ((plan : PlanEntry) → o ≡ Some plan → MayBePlanned IsFitFor h plan) → (reply : Reply) × CertifiesLive h o reply
live_certified h None may = (Refused refusals.NoPlan, refl)
live_certified h (Some plan) may = plan_certified h plan plan.kind (may plan refl) refl

pub each_certifies : (h : History) (phrase : List ℕ) → IsLoadable h → (reply : Reply) × Certifies h phrase reply
each_certifies h phrase loads = go (one_term phrase)
  where
    go : (key : Option (List ℕ)) → (reply : Reply) × OfTerm h key (λ why. reply ≡ Refused why) (λ word. CertifiesLive h (plan_of h word) reply)
    go None = (Refused refusals.NotOneTerm, refl)
    go (Some word) = elim (known_or_not (vocabulary h) word) [
      | inr unknown ↦ (Refused refusals.UnknownWord, inl (unknown, refl))
      | inl known ↦
          let (reply, certifies) = live_certified h (plan_of h word) (λ plan is. live_has (λ p. MayBePlanned IsFitFor h p) (λ stored. bytes_eq stored.plan.word word) (live_plans h) plan (live_planned IsFitFor h loads) is) in
          (reply, inr (known, certifies))
    ]

-- a plan has one certificate
one_certificate : (list : List Posting) (factor : Fraction) (cuts : List Time) (h : ℕ) (segments others : List Segment) (nodes those : List Node) (total sum : ℕ)
    → IsCertificate list factor cuts h segments nodes total → IsCertificate list factor cuts h others those sum → Proposed segments nodes total ≡ Proposed others those sum
one_certificate list factor [] h segments others nodes those total sum a b = absurd a
one_certificate list factor (f ∷ cuts) h segments others nodes those total sum a b =
    let same = shown_once list factor h f.seconds (later cuts h) segments others nodes those total sum a b in
    let e0 : segments ≡ others = same.0 in
    let e1 : nodes ≡ those = same.1 in
    let e2 : total ≡ sum = same.2 in
    cc

one_certified : (h : History) (plan : PlanEntry) (kind : Kind) (reply other : Reply) → CertifiesPlan h plan kind reply → CertifiesPlan h plan kind other → reply ≡ other
one_certified h plan Guarantee reply other (list, is, (segments, nodes, total, one, reply_is)) (those, are, (others, rest, sum, two, other_is)) =
    let same = one_list_of (λ d t. frequency_at h plan.word (record { 0 = d }) t) 0 plan.horizon.seconds list those is are in
    let here = subst (λ (l : List Posting). IsCertificate l plan.fraction plan.cuts plan.horizon.seconds segments nodes total) same one in
    reply_is ∙ one_certificate those plan.fraction plan.cuts plan.horizon.seconds segments others nodes rest total sum here two ∙ sym other_is
one_certified h plan Uniform reply other a b = a ∙ sym b
one_certified h plan (Since at) reply other a b = a ∙ sym b

one_live : (h : History) (o : Option PlanEntry) (reply other : Reply) → CertifiesLive h o reply → CertifiesLive h o other → reply ≡ other
one_live h None reply other a b = a ∙ sym b
one_live h (Some plan) reply other a b = one_certified h plan plan.kind reply other a b

pub one_certifies : (h : History) (phrase : List ℕ) (reply other : Reply) → Certifies h phrase reply → Certifies h phrase other → reply ≡ other
one_certifies h phrase reply other = go (one_term phrase)
  where
    go : (key : Option (List ℕ)) → OfTerm h key (λ why. reply ≡ Refused why) (λ word. CertifiesLive h (plan_of h word) reply)
        → OfTerm h key (λ why. other ≡ Refused why) (λ word. CertifiesLive h (plan_of h word) other) → reply ≡ other
    go None a b = a ∙ sym b
    go (Some word) (inl x) (inl y) = x.1 ∙ sym y.1
    go (Some word) (inl x) (inr y) = absurd (x.0 y.0)
    go (Some word) (inr x) (inl y) = absurd (y.0 x.0)
    go (Some word) (inr x) (inr y) = one_live h (plan_of h word) reply other x.1 y.1

-- ---- plans that are least

least_proposed : (list : List Posting) (factor : Fraction) (cuts : List Time) (h : ℕ) (segments : List Segment) (nodes : List Node) (total : ℕ)
    → IsLeastPlan list factor cuts h → IsCertificate list factor cuts h segments nodes total → IsProposal list factor h segments nodes total
least_proposed list factor [] h segments nodes total least is = absurd least
least_proposed list factor (f ∷ cuts) h segments nodes total least is = record { first = f.seconds; cuts = later cuts h; least = least; shown = is }

pub certified_least : CertifiedPlansAreLeast
certified_least h word plan list segments nodes total legal live guarantee list_is is =
    let may = live_has (λ p. MayBePlanned IsGoodPlan h p) (λ stored. bytes_eq stored.plan.word word) (live_plans h) plan (live_planned IsGoodPlan h legal) live in
    let suits = subst (λ (k : Kind). IsGoodPlan k may.list plan.fraction plan.cuts plan.horizon.seconds) guarantee may.suits in
    let one = one_list_of (λ d t. frequency_at h plan.word (record { 0 = d }) t) 0 plan.horizon.seconds may.list list may.list_is list_is in
    least_proposed list plan.fraction plan.cuts plan.horizon.seconds segments nodes total (subst (λ (l : List Posting). IsLeastPlan l plan.fraction plan.cuts plan.horizon.seconds) one suits.1) is
