-- Plans that take more than they have to, and those that don't.
use Rattle.std.proofs.Common.{◌≡◌, ◌⊎◌, inl, inr, ℕ, ◌-◌, ◌<◌, ◌≤◌, List, [], ◌∷◌, ◌++◌, length, map, drop, All, refl, ap, sym, subst, subst₂, ◌∙◌, arith}
use Rattle.std.specs.Prelude.{slice_index, Option, Some, None, Result, Ok, Err, IfOk, IfSome, MatchOption}
use Rattle.std.proofs.lemmas.Bool.{cases_lt}
use Rattle.std.proofs.lemmas.List.Elements.{All-drop}
use Rattle.base_types.specs.declared.time.Time.{Time}
use Rattle.base_types.specs.declared.posting.Posting.{Posting}
use Rattle.base_types.specs.declared.fraction.Fraction.{Fraction}
use Rattle.base_commands.specs.declared.command.Kind.TheVariants.{Guarantee}
use Rattle.plans_partitions.specs.Boundaries.{IsBoundary}
use Rattle.plans_partitions.specs.Counts.{Counts, Tabulates}
use Rattle.plans_partitions.specs.Partitions.{Covers, IsBest, IsLeast, IsFitting, AreBest, space}
use Rattle.plans_partitions.proofs.Tables.{some_time, last_is_horizon}
use Rattle.plans_guarantee.specs.Certificates.{CertifiesCuts}
use Rattle.plans_guarantee.proofs.Proved.{best_numbers_certify, first_is}
use Rattle.plans_kinds.specs.Plans.{IsFitFor, IsLeastPlan}
use Rattle.plans_kinds.proofs.PlanLemmas.{seconds_are}
use Rattle.archive_check.specs.declared.least.Excess.{Excess}
use Rattle.archive_check.specs.Checking.{IsBeaten, IsExcess}

-- ---- what the best numbers tell of a partition

-- the last one is the least space from the first boundary to the horizon
last_best : (list : List Posting) (factor : Fraction) (h : ℕ) (table : Counts) (pi : List ℕ) → Tabulates list h table → AreBest list factor h table.boundaries pi
    → IsBest list factor h (slice_index table.boundaries 0) h (slice_index pi (length pi - 1))
last_best list factor h table pi t best =
    let times = table.boundaries in
    let there = best.each (length times - 1) (omega (arith, some_time list h times t.boundaries)) in
    let B : ℕ → ℕ → Type 0 = λ end n. IsBest list factor h (slice_index times 0) end (slice_index pi (n - 1)) in
    subst₂ B (last_is_horizon list h times t.boundaries t.early) (sym best.long) there

-- they certify a partition that keeps the factor and takes no more than that
no_more_certified : (list : List Posting) (factor : Fraction) (h : ℕ) (table : Counts) (pi cuts : List ℕ) → Tabulates list h table → AreBest list factor h table.boundaries pi → IsFitting table.boundaries cuts
    → Covers list factor (slice_index cuts 0) (drop 1 cuts) h → space list (slice_index cuts 0) (drop 1 cuts) ≤ slice_index pi (length pi - 1) → CertifiesCuts list factor table.boundaries pi cuts h
no_more_certified list factor h table pi cuts t best fits covers few =
    let times = table.boundaries in
    let first = first_is list h times t.boundaries in
    let F : ℕ → Type 0 = λ f. Covers list factor f (drop 1 cuts) h in
    let same : space list (slice_index cuts 0) (drop 1 cuts) ≡ space list (slice_index times 0) (drop 1 cuts) = ap (λ (f : ℕ). space list f (drop 1 cuts)) fits.first in
    let all : All (IsBoundary list h) cuts = λ k d l. (t.boundaries.each _).0 (fits.inside k d l) in
    let least : IsLeast list factor (slice_index times 0) (drop 1 cuts) h = record {
      first = first;
      at_boundaries = All-drop (IsBoundary list h) 1 cuts all;
      covers = subst F fits.first covers;
      least = λ other on. omega (arith, same, few, (last_best list factor h table pi t best).least other on);
    } in
    record { fits = fits; certifies = best_numbers_certify list factor times pi (drop 1 cuts) h t.early best least }

-- so one that they don't certify takes more
pub beaten : (list : List Posting) (factor : Fraction) (h : ℕ) (table : Counts) (pi cuts : List ℕ) (taken : ℕ) → Tabulates list h table → AreBest list factor h table.boundaries pi → IsFitting table.boundaries cuts
    → Covers list factor (slice_index cuts 0) (drop 1 cuts) h → (CertifiesCuts list factor table.boundaries pi cuts h → ⊥) → taken ≡ space list (slice_index cuts 0) (drop 1 cuts)
    → IsBeaten list factor h cuts taken (slice_index pi (length pi - 1))
beaten list factor h table pi cuts taken t best fits covers none is =
    let B : ℕ → Type 0 = λ f. IsBest list factor h f h (slice_index pi (length pi - 1)) in
    record { taken_is = is; least_is = subst B (sym fits.first) (last_best list factor h table pi t best); more = go (cases_lt (slice_index pi (length pi - 1)) taken) }
  where
    go : (slice_index pi (length pi - 1) < taken) ⊎ (taken ≤ slice_index pi (length pi - 1)) → slice_index pi (length pi - 1) < taken
    go (inl more) = more
    go (inr few) = absurd (none (no_more_certified list factor h table pi cuts t best fits covers (omega (arith, is, few))))

-- ---- the partition of a plan

-- what is known of the partition is known of the plan
pub plan_told : (list : List Posting) (factor : Fraction) (cuts : List Time) (horizon : Time) (p : List ℕ) (o : Option Excess) → IsFitFor Guarantee list factor cuts horizon.seconds
    → p ≡ map (λ (t : Time). t.seconds) (cuts ++ horizon ∷ []) → (o ≡ None → IsLeast list factor (slice_index p 0) (drop 1 p) horizon.seconds)
    → IfSome o (λ e. Covers list factor (slice_index p 0) (drop 1 p) horizon.seconds → IsBeaten list factor horizon.seconds p e.taken e.least)
    → MatchOption o (IsLeastPlan list factor cuts horizon.seconds) (λ e. IsExcess list factor cuts horizon.seconds e.taken e.least)
plan_told list factor [] horizon p o fit is least beaten = absurd fit.1
plan_told list factor (f ∷ cuts) horizon p None fit is least beaten =
    let L : List ℕ → Type 0 = λ l. IsLeast list factor (slice_index l 0) (drop 1 l) horizon.seconds in
    subst L (is ∙ sym (seconds_are f cuts horizon)) (least refl)
plan_told list factor (f ∷ cuts) horizon p (Some e) fit is least beaten =
    let B : List ℕ → Type 0 = λ l. Covers list factor (slice_index l 0) (drop 1 l) horizon.seconds → IsBeaten list factor horizon.seconds l e.taken e.least in
    let b = subst B (is ∙ sym (seconds_are f cuts horizon)) beaten fit.1.covers in
    record { fit = fit; taken_is = b.taken_is; least_is = b.least_is; more = b.more }

-- so it is of what a call answers
pub fit_told : {E : Type 0} (list : List Posting) (factor : Fraction) (cuts : List Time) (horizon : Time) (p : List ℕ) (table : Counts) (r : Result (Option Excess) E) → Tabulates list horizon.seconds table → IsFitFor Guarantee list factor cuts horizon.seconds
    → p ≡ map (λ (t : Time). t.seconds) (cuts ++ horizon ∷ [])
    → IfOk r (λ o. o ≡ None → (l : List Posting) (h : ℕ) → Tabulates l h table → IsLeast l factor (slice_index p 0) (drop 1 p) h)
    → IfOk r (λ o. IfSome o (λ e. (l : List Posting) (h : ℕ) → Tabulates l h table → Covers l factor (slice_index p 0) (drop 1 p) h → IsBeaten l factor h p e.taken e.least))
    → IfOk r (λ o. MatchOption o (IsLeastPlan list factor cuts horizon.seconds) (λ e. IsExcess list factor cuts horizon.seconds e.taken e.least))
fit_told list factor cuts horizon p table (Err why) t fit is least beaten = tt
fit_told list factor cuts horizon p table (Ok None) t fit is least beaten = plan_told list factor cuts horizon p None fit is (λ none. least none list horizon.seconds t) tt
fit_told list factor cuts horizon p table (Ok (Some e)) t fit is least beaten = plan_told list factor cuts horizon p (Some e) fit is (λ none. absurd cc) (beaten list horizon.seconds t)
