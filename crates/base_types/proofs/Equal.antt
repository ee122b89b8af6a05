-- Values with equal fields are equal.
use Rattle.std.specs.Prelude.{◌≡◌, ◌+◌, ◌/◌, ◌<◌, ◌≤◌, ◌^◌}
use Rattle.std.specs.Coded.{le_prop}
use mathlib.Core.HLevel.{is_prop→PathP}
use Rattle.base_types.specs.declared.time.Time.{Time}
use Rattle.base_types.specs.declared.time.Span.{Span}
use Rattle.base_types.specs.declared.fraction.Fraction.{Fraction}
use Rattle.base_types.specs.declared.tolerance.Tolerance.{Tolerance}
use Rattle.base_types.specs.declared.posting.Posting.{Posting}
use Rattle.base_types.specs.declared.extent.Extent.{Extent}

-- times of as many seconds are one
pub same_time : (s t : Time) → s.seconds ≡ t.seconds → s ≡ t
same_time s t n = λ i. record {
  seconds = n i;
  before_now = is_prop→PathP (λ j. n j < 2 ^ 40) (λ j. le_prop) s.before_now t.before_now i;
}

-- spans with the same ends are one
pub same_span : (s r : Span) → s.from ≡ r.from → s.to ≡ r.to → s ≡ r
same_span s r f e = λ i. record {
  from = f i;
  to = e i;
  ordered = is_prop→PathP (λ j. f j < e j) (λ j. le_prop) s.ordered r.ordered i;
  in_time = is_prop→PathP (λ j. e j ≤ 2 ^ 40) (λ j. le_prop) s.in_time r.in_time i;
}

-- fractions that are written alike are one
pub same_fraction : (a b : Fraction) → a.over ≡ b.over → a.under ≡ b.under → a ≡ b
same_fraction a b o u = λ i. record {
  over = o i;
  under = u i;
  proper = is_prop→PathP (λ j. 1 ≤ u j) (λ j. le_prop) a.proper b.proper i;
  at_least_one = is_prop→PathP (λ j. u j ≤ o j) (λ j. le_prop) a.at_least_one b.at_least_one i;
  in_range = is_prop→PathP (λ j. o j < 2 ^ 32) (λ j. le_prop) a.in_range b.in_range i;
}

-- tolerances that are written alike are one
pub same_tolerance : (a b : Tolerance) → a.part ≡ b.part → a.whole ≡ b.whole → a ≡ b
same_tolerance a b p w = λ i. record {
  part = p i;
  whole = w i;
  below = is_prop→PathP (λ j. p j < w j) (λ j. le_prop) a.below b.below i;
  in_range = is_prop→PathP (λ j. w j < 2 ^ 32) (λ j. le_prop) a.in_range b.in_range i;
}

-- postings with the same document, span and frequency are one
pub same_posting : (p q : Posting) → p.doc.0 ≡ q.doc.0 → p.span.from ≡ q.span.from → p.span.to ≡ q.span.to → p.tf ≡ q.tf → p ≡ q
same_posting p q d f e n = λ i. record {
  doc = record { 0 = d i };
  span = same_span p.span q.span f e i;
  tf = n i;
  numbered = is_prop→PathP (λ j. d j < 2 ^ 32) (λ j. le_prop) p.numbered q.numbered i;
  counted = is_prop→PathP (λ j. 1 ≤ n j) (λ j. le_prop) p.counted q.counted i;
  bounded = is_prop→PathP (λ j. n j < 2 ^ 32) (λ j. le_prop) p.bounded q.bounded i;
}

-- extents of as many bytes from the same page on are one
pub same_extent : (e f : Extent) → e.first ≡ f.first → e.bytes ≡ f.bytes → e ≡ f
same_extent e f p n = λ i. record {
  first = p i;
  bytes = n i;
  in_pages = is_prop→PathP (λ j. p j + (n j + 4095) / 4096 ≤ 2 ^ 28) (λ j. le_prop) e.in_pages f.in_pages i;
  numbered = is_prop→PathP (λ j. p j < 2 ^ 32) (λ j. le_prop) e.numbered f.numbered i;
  sized = is_prop→PathP (λ j. n j < 2 ^ 64) (λ j. le_prop) e.sized f.sized i;
}
