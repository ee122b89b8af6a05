-- One segment more of those that overlap a window.
use Rattle.std.proofs.Common.{◌≡◌, ℕ, ◌+◌, ◌<◌, ◌==◌, suc, add-one, All, Bool, false, ◌&&◌, if◌then◌else◌, nat_lt, List, [], ◌∷◌, ◌++◌, length, drop, get_or, refl, ap, sym, subst, ◌∙◌, arith, sum_by}
use Rattle.std.proofs.Math.Seq.{drop-cons}
use Rattle.std.proofs.lemmas.List.Sums.{sum_by-cons}
use Rattle.base_types.specs.declared.time.Time.{Time}
use Rattle.journal_entries.specs.declared.place.Place.{Place}
use Rattle.std.proofs.lemmas.List.Elements.{All-tail}
use Rattle.machine_model.specs.States.{DiskState}
use Rattle.pages_area.specs.Live.{IsInside}
use Rattle.pages_sublists.specs.Fetching.{IfDamaged}
use Rattle.pages_sublists.specs.declared.why.FetchError.{FetchError}
use Rattle.pages_sublists.specs.declared.why.FetchError.TheVariants.{Failed, Damaged, Memory}
use Rattle.pages_sublists.specs.Segments.{seconds, next_cut}
use Rattle.pages_sublists.specs.Gathering.{Chosen, chosen, overlapping}
use Rattle.pages_sublists.specs.declared.fetching.Segment.{Segment}
use Rattle.pages_sublists.specs.declared.why.Damage.{Damage}

-- the segments that overlap the window, from segment k on
abbrev pub chosen_from : (a b h : ℕ) → List Time → List Place → ℕ → List Chosen
chosen_from a b h cuts places k = chosen a b h (k == 0) (seconds (drop k cuts)) (drop k places)

-- a segment in hand with its place, as one that is read
abbrev pub with_place : Segment → Place → Chosen
with_place s place = record { from = s.bounds.from; to = s.bounds.to; place = place; first = s.first }

pub place_at : (places : List Place) (k : ℕ) (p : Place) → k < length places → p ≡ get_or places k p → drop k places ≡ p ∷ drop (k + 1) places
place_at places k p within is =
    drop-cons places k p (omega (arith, within)) ∙ ap (λ (x : Place). x ∷ drop (suc k) places) (sym is) ∙ ap (λ (i : ℕ). p ∷ drop i places) (sym (add-one k))

later_none : (k : ℕ) → false ≡ ((k + 1) == 0)
later_none k = grind arith

-- segment k, where it overlaps the window, and those behind it
pub chosen_one : (a b h : ℕ) (cuts : List Time) (places : List Place) (k : ℕ) (s : Segment) (p : Place) → drop k places ≡ p ∷ drop (k + 1) places
    → seconds (drop k cuts) ≡ s.bounds.from ∷ seconds (drop (k + 1) cuts) → s.bounds.to ≡ next_cut (seconds (drop (k + 1) cuts)) h → s.first ≡ (k == 0)
    → (meets : Bool) → meets ≡ (nat_lt s.bounds.from b && nat_lt a s.bounds.to)
    → chosen_from a b h cuts places k ≡ (if meets then with_place s p ∷ [] else []) ++ chosen_from a b h cuts places (k + 1)
chosen_one a b h cuts places k s p place from to first meets is =
    let C : List ℕ → Type 0 = λ cs. chosen a b h (k == 0) cs (drop k places) ≡ (if meets then with_place s p ∷ [] else []) ++ chosen_from a b h cuts places (k + 1) in
    let P : List Place → Type 0 = λ ps. chosen a b h (k == 0) (s.bounds.from ∷ seconds (drop (k + 1) cuts)) ps ≡ (if meets then with_place s p ∷ [] else []) ++ chosen_from a b h cuts places (k + 1) in
    let one : Chosen = record { from = s.bounds.from; to = next_cut (seconds (drop (k + 1) cuts)) h; place = p; first = k == 0 } in
    let same : one ≡ with_place s p = rw (sym to, sym first) refl in
    let rest : Bool → List Chosen = λ early. chosen a b h early (seconds (drop (k + 1) cuts)) (drop (k + 1) places) in
    subst C (sym from) (subst P (sym place) (ap (λ (x : Chosen). overlapping a b x ++ rest false) same ∙ ap (λ (early : Bool). overlapping a b (with_place s p) ++ rest early) (later_none k)
    ∙ ap (λ (t : Bool). (if t then with_place s p ∷ [] else []) ++ rest ((k + 1) == 0)) (sym is)))

-- ---- one place more

pub sizes_at : (rest more : List Place) (p : Place) → rest ≡ p ∷ more → sum_by (λ (q : Place). q.extent.bytes) rest ≡ p.extent.bytes + sum_by (λ (q : Place). q.extent.bytes) more
sizes_at rest more p is = ap (λ (ps : List Place). sum_by (λ (q : Place). q.extent.bytes) ps) is ∙ sum_by-cons (λ (q : Place). q.extent.bytes) p more

pub inside_behind : (n : ℕ) (rest more : List Place) (p : Place) → rest ≡ p ∷ more → All (λ (q : Place). IsInside n q.extent) rest → All (λ (q : Place). IsInside n q.extent) more
inside_behind n rest more p is each =
    let I : Place → Type 0 = λ q. IsInside n q.extent in
    All-tail I p more (subst (λ (ps : List Place). All I ps) is each)

-- ---- what a call says, by what the loop knows

pub disk_joins : (a b d : DiskState) → b ≡ record a { faults = b.faults; bytes_read = b.bytes_read } → d ≡ record b { faults = d.faults; bytes_read = d.bytes_read } → d ≡ record a { faults = d.faults; bytes_read = d.bytes_read }
disk_joins a b d one two = two ∙ ap (λ (x : DiskState). record x { faults = d.faults; bytes_read = d.bytes_read }) one

pub if_damaged : (P Q : Damage → Type 0) → ((d : Damage) → P d → Q d) → (e : FetchError) → IfDamaged P e → IfDamaged Q e
if_damaged P Q more Failed is = tt
if_damaged P Q more (Damaged d) is = more d is
if_damaged P Q more Memory is = tt
