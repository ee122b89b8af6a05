-- Certificates, and the parts of their check.
use Rattle.std.specs.Prelude.{◌≡◌, ◌↔◌, ℕ, ◌+◌, ◌-◌, ◌<◌, ◌≤◌, Bool, IsTrue, false, List, [], drop, length, slice_index, refl}
use Rattle.std.proofs.Common.{arith, ap, sym, ◌∙◌, subst, nat_eq}
use Rattle.std.proofs.lemmas.List.Elements.{Contains-get_or, All-drop}
use Rattle.base_types.specs.declared.posting.Posting.{Posting}
use Rattle.base_types.specs.declared.fraction.Fraction.{Fraction}
use Rattle.lists_postings.specs.Sizes.{size}
use Rattle.plans_partitions.specs.Boundaries.{IsBoundary, IsFirst, AreBoundaries}
use Rattle.plans_partitions.specs.Counts.{Counts, Tabulates}
use Rattle.plans_partitions.specs.Partitions.{IsAdmissible, Covers, IsBest, IsLeast, IsFitting, space}
use Rattle.plans_partitions.proofs.Bests.{IsWayTo, longer_way}
use Rattle.plans_partitions.proofs.Cuts.{eq_from, is_eq}
use Rattle.plans_partitions.proofs.Places.{rises}
use Rattle.plans_partitions.proofs.Tables.{some_time, first_le, last_is_horizon, size_is, admissible_from_counts, counts_from_admissible}
use Rattle.plans_partitions.proofs.Walk.{AreBounds, paths_cost}
use Rattle.plans_guarantee.specs.Certificates.{BestNumbersCertify, Certifies, CertifiesCuts, CertificateProvesLeast}
use Rattle.plans_guarantee.specs.Edges.{EdgesBelow}

pub first_is : (list : List Posting) (horizon : ℕ) (times : List ℕ) → AreBoundaries list horizon times → IsFirst list horizon (slice_index times 0)
first_is list horizon times b = record {
  is = (b.each _).0 (Contains-get_or times 0 0 (some_time list horizon times b));
  none_before = λ t c. first_le times b.ascending t ((b.each t).1 c);
}

pub certificate_proves_least : CertificateProvesLeast
certificate_proves_least list factor times pi cuts horizon c = record {
  first = first_is list horizon times c.times_are;
  at_boundaries = c.at_boundaries;
  covers = c.covers;
  least = λ other p.
      let e : slice_index times (length times - 1) ≡ horizon = last_is_horizon list horizon times c.times_are c.early in
      let b : AreBounds list factor horizon times pi = record { times_are = c.times_are; edges = c.edges } in
      omega (
        arith,
        c.total,
        paths_cost list factor horizon times pi b c.starts other (length times - 1) (omega (arith, some_time list horizon times c.times_are))
            (subst (λ h. Covers list factor (slice_index times 0) other h) (sym e) p),
      );
}

-- a segment more is a way more: so no number is above an earlier one and the segment between them
pub best_numbers_certify : BestNumbersCertify
best_numbers_certify list factor times pi cuts horizon early best least =
    let some : 0 < length times = some_time list horizon times best.times_are in
    let last : IsBest list factor horizon (slice_index times 0) horizon (slice_index pi (length times - 1)) = rw (last_is_horizon list horizon times best.times_are early) at (best.each (length times - 1) (omega (arith, some))) in
    record {
      times_are = best.times_are;
      early = early;
      at_boundaries = least.at_boundaries;
      covers = least.covers;
      long = best.long;
      starts = omega (arith, (best.each 0 some).least [] refl);
      edges = λ j k lt l adm.
          let from = best.each j (omega (arith, lt, l)) in
          let way : IsWayTo list factor horizon (slice_index times 0) (slice_index times j) (slice_index pi j) = record { cuts = from.cuts; covers = from.covers; at_boundaries = from.at_boundaries; takes = from.takes } in
          let on = longer_way list factor horizon (slice_index times 0) (slice_index times j) (slice_index times k) (slice_index pi j) way (rises times best.times_are.ascending j k lt l) adm
          ((best.times_are.each _).0 (Contains-get_or times k 0 l)) in
          omega (arith, on.takes, (best.each k l).least on.cuts on.covers);
      total = omega (arith, last.takes, last.least cuts least.covers, least.least last.cuts last.covers);
    }

-- the edges by counts are those by sizes
pub edges_from : (list : List Posting) (horizon : ℕ) (table : Counts) (factor : Fraction) (pi : List ℕ) → Tabulates list horizon table → length pi ≡ length table.boundaries → EdgesBelow table factor pi (length pi)
    → (j k : ℕ) → j < k → k < length table.boundaries → IsAdmissible list factor (slice_index table.boundaries j) (slice_index table.boundaries k)
    → slice_index pi k ≤ slice_index pi j + size (slice_index table.boundaries j) (slice_index table.boundaries k) list
edges_from list horizon table factor pi t e h j k lt l adm =
    omega (arith, size_is list horizon table t j k lt l, h k (omega arith) j lt (counts_from_admissible list horizon table factor t j k lt l adm))

pub edges_back : (list : List Posting) (horizon : ℕ) (table : Counts) (factor : Fraction) (pi cuts : List ℕ) → Tabulates list horizon table → length pi ≡ length table.boundaries
    → Certifies list factor table.boundaries pi cuts horizon → EdgesBelow table factor pi (length pi)
edges_back list horizon table factor pi cuts t e c k m j lt adm =
    let l : k < length table.boundaries = omega arith in
    omega (arith, size_is list horizon table t j k lt l, c.edges j k lt l (admissible_from_counts list horizon table factor t j k lt l adm))

pub refused : (P : Type 0) → (P → ⊥) → IsTrue false ↔ P
refused P n = (λ e. cc, λ p. absurd (n p))

-- what the last test decides, where the others have passed
pub certified : (list : List Posting) (horizon : ℕ) (table : Counts) (factor : Fraction) (pi cuts : List ℕ) (b : Bool) → Tabulates list horizon table → length pi ≡ length table.boundaries → IsFitting table.boundaries cuts → slice_index pi 0 ≡ 0
    → EdgesBelow table factor pi (length pi) → Covers list factor (slice_index cuts 0) (drop 1 cuts) horizon → (IsTrue b ↔ (slice_index pi (length pi - 1) ≡ space list (slice_index cuts 0) (drop 1 cuts)))
    → IsTrue b ↔ CertifiesCuts list factor table.boundaries pi cuts horizon
certified list horizon table factor pi cuts b t long fits starts edges covers last = (
  λ e. record {
    fits = fits;
    certifies = record {
      times_are = t.boundaries;
      early = t.early;
      at_boundaries = All-drop (IsBoundary list horizon) 1 cuts (λ k d l. (t.boundaries.each _).0 (fits.inside k d l));
      covers = subst (λ f. Covers list factor f (drop 1 cuts) horizon) fits.first covers;
      long = long;
      starts = starts;
      edges = edges_from list horizon table factor pi t long edges;
      total = ap (λ n. slice_index pi (n - 1)) (sym long) ∙ (last.0 e ∙ ap (λ f. space list f (drop 1 cuts)) fits.first);
    };
  },
  λ c. last.1 (ap (λ n. slice_index pi (n - 1)) long ∙ (c.certifies.total ∙ ap (λ f. space list f (drop 1 cuts)) (sym fits.first))),
)

pub least_cuts : (list : List Posting) (factor : Fraction) (times pi cuts : List ℕ) (horizon : ℕ) → CertifiesCuts list factor times pi cuts horizon → IsLeast list factor (slice_index cuts 0) (drop 1 cuts) horizon
least_cuts list factor times pi cuts horizon c = subst (λ f. IsLeast list factor f (drop 1 cuts) horizon) (sym c.fits.first) (certificate_proves_least list factor times pi (drop 1 cuts) horizon c.certifies)

pub equal_iff : (a b x y : ℕ) → a ≡ x → b ≡ y → IsTrue (nat_eq a b) ↔ (x ≡ y)
equal_iff a b x y e f = (λ h. sym e ∙ (eq_from a b h ∙ f), λ h. is_eq a b (e ∙ (h ∙ sym f)))
