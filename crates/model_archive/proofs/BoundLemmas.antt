-- A question for a planned word reads the one segment that holds the time, which is admissible.
use Rattle.std.proofs.Common.{◌≡◌, ◌⊎◌, ℕ, zero, suc, ◌+◌, ◌*◌, ◌^◌, ◌<◌, ◌≤◌, Bool, true, false, cond, ◌&&◌, if◌then◌else◌, nat_lt, min, bytes_eq, List, [], ◌∷◌, ◌++◌, length, map, filter, get_or, All, Contains, Some, inl, inr, refl, ap, sym, subst, ◌∙◌, arith}
use Rattle.std.specs.List.{AllZip}
use Rattle.std.specs.List.Sorted.{IsStrictlyIncreasing}
use Rattle.std.specs.Cmp.Lexicographic.{bytes_decides}
use Rattle.std.proofs.lemmas.Bool.{cases_lt}
use Rattle.std.proofs.lemmas.Bool.Decides.{nat_tests}
use Rattle.std.proofs.lemmas.List.{length-map, map-append}
use Rattle.std.proofs.lemmas.List.Elements.{All-head, All-tail, All-contains, Contains-append_cases, Contains-append_left, filter_passes}
use Rattle.std.proofs.lemmas.List.Sums.{length-filter, sum_by-cons}
use Rattle.base_types.specs.declared.fraction.Fraction.{Fraction}
use Rattle.base_types.specs.declared.posting.Posting.{Posting}
use Rattle.base_types.specs.declared.time.Time.{Time}
use Rattle.base_commands.specs.declared.command.Kind.{Kind}
use Rattle.base_commands.specs.declared.command.Kind.TheVariants.{Guarantee, Uniform, Since}
use Rattle.plans_partitions.specs.Boundaries.{IsBoundary, IsFirst}
use Rattle.plans_partitions.specs.Partitions.{IsAdmissible, Covers}
use Rattle.plans_partitions.proofs.Places.{contains_map}
use Rattle.lists_postings.specs.Clips.{IsCut, IsClip}
use Rattle.lists_postings.specs.Lists.{ComesBefore, IsList, frequency, holds, meets, rows_at, sublist}
use Rattle.lists_postings.specs.Sizes.{size, alive_count}
use Rattle.lists_postings.proofs.Clipping.{clip_of_list_of, one_list_of, rows_list}
use Rattle.lists_postings.proofs.Frequencies.{found, frequency-of}
use Rattle.lists_postings.proofs.Elements.{filter-from, filter-in}
use Rattle.journal_entries.specs.declared.plan.PlanEntry.{PlanEntry}
use Rattle.pages_sublists.specs.Segments.{next_cut, seconds, AreCutsOf}
use Rattle.pages_sublists.specs.Gathering.{stored_size}
use Rattle.plans_space.specs.Caps.{cap}
use Rattle.plans_kinds.specs.Laws.{BeginsFirst}
use Rattle.plans_kinds.specs.Plans.{IsFitFor, IsFitPlan, IsCappedPlan, plan_space}
use Rattle.plans_kinds.proofs.GoodLemmas.{fit_well_cut}
use Rattle.model_archive.specs.declared.stored.StoredPlan.{StoredPlan}
use Rattle.model_archive.specs.Histories.{History}
use Rattle.model_archive.specs.Answers.{frequency_at, IsWordList}
use Rattle.model_archive.specs.Bounds.{HoldersAreDocuments, PlannedReadsAreBounded, PlannedSpaceIsCapped}
use Rattle.model_archive.specs.Chosen.{IsTailFor}
use Rattle.model_archive.specs.Legal.{MayBePlanned, IsLoadable}
use Rattle.model_archive.specs.Planning.{IsListUpTo}
use Rattle.model_archive.specs.Plans.{first_plan, live_plans, plan_of}
use Rattle.model_archive.proofs.CertifyingLemmas.{live_has}
use Rattle.model_archive.proofs.LiveLemmas.{live_planned}

-- ---- the live plan of a word

first_has : (P : PlanEntry → Type 0) (live : List StoredPlan) (plan : PlanEntry) → All (λ stored. P stored.plan) live → first_plan live ≡ Some plan → P plan
first_has P [] plan all is = absurd cc
first_has P (s ∷ live) plan all is = let same : s.plan ≡ plan = cc in subst P same (All-head (λ (stored : StoredPlan). P stored.plan) s live all)

-- it is of the word
pub of_word : (h : History) (word : List ℕ) (plan : PlanEntry) → plan_of h word ≡ Some plan → plan.word ≡ word
of_word h word plan live =
    let keep : StoredPlan → Bool = λ stored. bytes_eq stored.plan.word word in
    (bytes_decides plan.word word).0 (first_has (λ p. bytes_eq p.word word ≡ true) (filter keep (live_plans h)) plan (filter_passes keep (live_plans h)) live)

-- what holds of all live plans holds of it
pub word_has : (P : PlanEntry → Type 0) (h : History) (word : List ℕ) (plan : PlanEntry) → All (λ stored. P stored.plan) (live_plans h) → plan_of h word ≡ Some plan → P plan
word_has P h word plan all live = live_has P (λ stored. bytes_eq stored.plan.word word) (live_plans h) plan all live

-- its list, and that it is fit for the list
pub record IsPlanned (h : History) (word : List ℕ) (plan : PlanEntry) : Type 0 where
  pub list : List Posting
  pub list_is : IsListUpTo h word plan.horizon.seconds list
  pub some : 0 < length list
  pub fit : IsFitFor plan.kind list plan.fraction plan.cuts plan.horizon.seconds

pub word_planned : (h : History) (word : List ℕ) (plan : PlanEntry) → IsLoadable h → plan_of h word ≡ Some plan → IsPlanned h word plan
word_planned h word plan loads live =
    let may = word_has (λ p. MayBePlanned IsFitFor h p) h word plan (live_planned IsFitFor h loads) live in
    let L : List ℕ → Type 0 = λ w. IsListUpTo h w plan.horizon.seconds may.list in
    record { list = may.list; list_is = subst L (of_word h word plan live) may.list_is; some = may.some; fit = may.suits }

-- ---- its cuts

starts : (list : List Posting) (h k : ℕ) (d : Posting) → k < length list → IsBoundary list h (get_or list k d).span.from
starts list h k d within =
    let (place, inside, is) = Contains-append_left (map (λ (p : Posting). p.span.from) list) (map (λ (p : Posting). p.span.to) list) (get_or list k d).span.from (contains_map (λ (p : Posting). p.span.from) list k d within) in
    (suc place, omega (arith, inside), is)

-- an element of a list mapped is one of the list's
mapped : (f : Posting → ℕ) (list : List Posting) (x : ℕ) → Contains (map f list) x → (p : Posting) × Contains list p × (f p ≡ x)
mapped f [] x c = absurd (omega (arith, c.1))
mapped f (p ∷ list) x (zero, within, is) = (p, (zero, omega arith, refl), is)
mapped f (p ∷ list) x (suc k, within, is) = let (q, c, e) = mapped f list x (k, omega (arith, within), is) in (q, (suc c.0, omega (arith, c.1), c.2), e)

some_there : (list : List Posting) → 0 < length list → (p : Posting) × Contains list p
some_there [] some = absurd (omega (arith, some))
some_there (p ∷ list) some = (p, (zero, omega arith, refl))

-- the first boundary is where a posting begins, and all end behind it
module _ (list : List Posting) (h f : ℕ) (some : 0 < length list) (inside : All (λ p. (0 ≤ p.span.from) × (p.span.to ≤ h)) list) (first : IsFirst list h f) where
  lowest : (k : ℕ) (d : Posting) → k < length list → f ≤ (get_or list k d).span.from
  lowest k d within = first.none_before (get_or list k d).span.from (starts list h k d within)

  ends_behind : (p : Posting) → Contains list p → f < p.span.to
  ends_behind p (k, within, is) =
      let low = subst (λ (q : Posting). f ≤ q.span.from) is (lowest k p within) in
      let order : p.span.from < p.span.to = p.span.ordered in
      omega (arith, low, order)

  first_begins : (p : Posting) × Contains list p × (p.span.from ≡ f)
  first_begins = go first.is
    where
      go : IsBoundary list h f → (p : Posting) × Contains list p × (p.span.from ≡ f)
      go (zero, within, is) =
          let (p, there) = some_there list some in
          absurd (omega (arith, is, ends_behind p there, (All-contains (λ (q : Posting). (0 ≤ q.span.from) × (q.span.to ≤ h)) list p inside there).1))
      go (suc k, within, is) = elim (Contains-append_cases (map (λ (p : Posting). p.span.from) list) (map (λ (p : Posting). p.span.to) list) f (k, omega (arith, within), is)) [
        | inl c ↦ mapped (λ p. p.span.from) list f c
        | inr c ↦ (let (p, there, ends) = mapped (λ p. p.span.to) list f c in absurd (omega (arith, ends_behind p there, ends)))
      ]

-- the cuts of a fit plan are those of its list
pub are_cuts : (kind : Kind) (list : List Posting) (factor : Fraction) (cuts : List Time) (horizon : Time) → IsList list → 0 < length list → All (λ p. (0 ≤ p.span.from) × (p.span.to ≤ horizon.seconds)) list
    → IsFitFor kind list factor cuts horizon.seconds → AreCutsOf list (seconds cuts) horizon.seconds
are_cuts kind list factor cuts horizon ordered some inside fit = let cut = fit_well_cut kind list factor cuts horizon fit in cut_list_of list cuts horizon ordered some inside cut.1 cut.2
  where
    cut_list_of : (list : List Posting) (cuts : List Time) (horizon : Time) → IsList list → 0 < length list → All (λ p. (0 ≤ p.span.from) × (p.span.to ≤ horizon.seconds)) list
        → BeginsFirst list cuts horizon.seconds → IsStrictlyIncreasing (map (λ (t : Time). t.seconds) (cuts ++ horizon ∷ [])) → AreCutsOf list (seconds cuts) horizon.seconds
    cut_list_of list [] horizon ordered some inside begins ascending = absurd begins
    cut_list_of list (f ∷ cuts) horizon ordered some inside at ascending =
        let (p, there, begins) = first_begins list horizon.seconds f.seconds some inside at in
        record {
          ordered = ordered;
          ascending = subst (λ (xs : List ℕ). IsStrictlyIncreasing xs) (map-append (λ (t : Time). t.seconds) (f ∷ cuts) (horizon ∷ [])) ascending;
          first = p;
          among = there;
          begins = begins;
          inside = λ k d within. (lowest list horizon.seconds f.seconds some inside at k d within, (inside k d within).1);
        }

-- ---- the segment that holds a time

overlap_none : (t f g n : ℕ) → (t < f) ⊎ (g ≤ t) → (if (nat_lt f (t + 1) && nat_lt t g) then n else 0) ≡ 0
overlap_none t f g n (inl early) = grind (arith, nat_tests)
overlap_none t f g n (inr late) = grind (arith, nat_tests)

overlap_is : (t f g n : ℕ) → f ≤ t → t < g → (if (nat_lt f (t + 1) && nat_lt t g) then n else 0) ≡ n
overlap_is t f g n from to = grind (arith, nat_tests)

-- segments that lie behind it have no size there
none_later : (list : List Posting) (factor : Fraction) (h t f : ℕ) (cuts : List ℕ) → Covers list factor f (cuts ++ h ∷ []) h → t < f → stored_size t (t + 1) h list (f ∷ cuts) ≡ 0
none_later list factor h t f [] covers early = omega (arith, overlap_none t f h (size f h list) (inl early))
none_later list factor h t f (g ∷ cuts) covers early =
    omega (arith, overlap_none t f g (size f g list) (inl early), none_later list factor h t g cuts covers.2 (omega (arith, early, covers.0)))

-- an admissible segment that holds the time, and has all that is read
record IsRead (list : List Posting) (factor : Fraction) (t read : ℕ) : Type 0 where
  from : ℕ
  to : ℕ
  begun : from ≤ t
  over : t < to
  admissible : IsAdmissible list factor from to
  is : read ≡ size from to list

one_read : (list : List Posting) (factor : Fraction) (h t f : ℕ) (cuts : List ℕ) → Covers list factor f (cuts ++ h ∷ []) h → f ≤ t → t < h → IsRead list factor t (stored_size t (t + 1) h list (f ∷ cuts))
one_read list factor h t f [] covers from to =
    record { from = f; to = h; begun = from; over = to; admissible = covers.1; is = omega (arith, overlap_is t f h (size f h list) from to) }
one_read list factor h t f (g ∷ cuts) covers from to = elim (cases_lt t g) [
  | inl inside ↦ record {
    from = f;
    to = g;
    begun = from;
    over = inside;
    admissible = covers.1;
    is = omega (arith, overlap_is t f g (size f g list) from inside, none_later list factor h t g cuts covers.2 inside);
  }
  | inr behind ↦
      let more = one_read list factor h t g cuts covers.2 behind to in
      record {
        from = more.from;
        to = more.to;
        begun = more.begun;
        over = more.over;
        admissible = more.admissible;
        is = omega (arith, overlap_none t f g (size f g list) (inr behind), more.is);
      }
]

read_is : (list : List Posting) (factor : Fraction) (cuts : List Time) (h t : ℕ) → IsFitPlan list factor cuts h → next_cut (seconds cuts) h ≤ t → t < h → IsRead list factor t (stored_size t (t + 1) h list (seconds cuts))
read_is list factor [] h t fit from to = absurd fit
read_is list factor (f ∷ cuts) h t fit from to = one_read list factor h t f.seconds (seconds cuts) fit.covers from to

-- ---- how many postings hold a time

cut_to : (h : ℕ) (p : Posting) → meets 0 h p ≡ true → (q : Posting) × IsCut 0 h p q
cut_to h p meeting =
    let order : p.span.from < p.span.to = p.span.ordered in
    let last : p.span.to ≤ 2 ^ 40 = p.span.in_time in
    let early : p.span.from < h = grind (arith, nat_tests) in (
      record {
        doc = p.doc;
        tf = p.tf;
        span = record { from = p.span.from; to = min p.span.to h; ordered = omega (arith, order, early); in_time = omega (arith, last) };
        numbered = p.numbered;
        counted = p.counted;
        bounded = p.bounded;
      },
      record { doc = refl; tf = refl; from = omega arith; to = refl },
    )

holds_cut : (h t : ℕ) (p q : Posting) → IsCut 0 h p q → t < h → holds t q ≡ holds t p
holds_cut h t p q cut early =
    let low : q.span.from ≡ p.span.from = omega (arith, cut.from) in
    let high : q.span.to ≡ min p.span.to h = cut.to in
    grind (arith, nat_tests)

holds_not : (h t : ℕ) (p : Posting) → meets 0 h p ≡ false → t < h → holds t p ≡ false
holds_not h t p apart early = let order : p.span.from < p.span.to = p.span.ordered in grind (arith, nat_tests)

-- a list that is cut to the times before h has as many postings at each of them
cut_list : (h : ℕ) (list : List Posting) → (clip : List Posting) × IsClip 0 h list clip × ((t : ℕ) → t < h → alive_count t clip ≡ alive_count t list)
cut_list h [] = ([], tt, λ t early. refl)
cut_list h (p ∷ list) = go (meets 0 h p) refl (cut_list h list)
  where
    go : (m : Bool) → meets 0 h p ≡ m → ((clip : List Posting) × IsClip 0 h list clip × ((t : ℕ) → t < h → alive_count t clip ≡ alive_count t list))
        → (clip : List Posting) × AllZip (IsCut 0 h) (cond m (p ∷ sublist 0 h list) (sublist 0 h list)) clip × ((t : ℕ) → t < h → alive_count t clip ≡ alive_count t (p ∷ list))
    go true e (clip, is, alive) =
        let (q, cut) = cut_to h p e in (
          q ∷ clip,
          (cut, is),
          λ t early.
              omega (arith, sum_by-cons (λ (r : Posting). cond (holds t r) 1 0) q clip, sum_by-cons (λ (r : Posting). cond (holds t r) 1 0) p list, ap {B = ℕ} (λ b. cond b 1 0) (holds_cut h t p q cut early), alive t early),
        )
    go false e (clip, is, alive) =
        (clip, is, λ t early. omega (arith, sum_by-cons (λ (r : Posting). cond (holds t r) 1 0) p list, ap {B = ℕ} (λ b. cond b 1 0) (holds_not h t p e early), alive t early))

same_alive : (h : History) (word : List ℕ) (horizon t : ℕ) (sealed list : List Posting) → horizon ≤ 2 ^ 40 → t < horizon → IsListUpTo h word horizon sealed → IsWordList h word list
    → alive_count t sealed ≡ alive_count t list
same_alive h word horizon t sealed list now early up_to whole =
    let f : ℕ → ℕ → ℕ = λ doc t. frequency_at h word (record { 0 = doc }) t in
    let (clip, is, alive) = cut_list horizon list in
    ap (alive_count t) (one_list_of f 0 horizon sealed clip up_to (clip_of_list_of f 0 (2 ^ 40) 0 horizon list clip (omega arith) now whole is)) ∙ alive t early

-- ---- the bound

no_tail : (h : History) (word : List ℕ) (b horizon : ℕ) (tail : List Posting) → b ≤ horizon → IsTailFor h word b horizon tail → length tail ≡ 0
no_tail h word b horizon tail within (inl (past, list)) = absurd (omega (arith, past, within))
no_tail h word b horizon tail within (inr (still, none)) = ap length none

-- a plan of this kind keeps to a guarantee
guaranteed : (list : List Posting) (factor : Fraction) (cuts : List Time) (h : ℕ) (kind : Kind) → kind ≡ Guarantee → IsFitFor kind list factor cuts h → IsFitPlan list factor cuts h
guaranteed list factor cuts h Guarantee is fit = fit.1
guaranteed list factor cuts h Uniform is fit = absurd cc
guaranteed list factor cuts h (Since at) is fit = absurd cc

pub planned_bounded : PlannedReadsAreBounded
planned_bounded h word plan list t read loads live kind whole from to (sealed, those, up_to, them, is) =
    let horizon = plan.horizon.seconds in
    let f : ℕ → ℕ → ℕ = λ doc t. frequency_at h word (record { 0 = doc }) t in
    let planned = word_planned h word plan loads live in
    let same = one_list_of f 0 horizon planned.list sealed planned.list_is up_to in
    let one = read_is sealed plan.fraction plan.cuts horizon t (subst (λ (l : List Posting). IsFitPlan l plan.fraction plan.cuts horizon) same (guaranteed planned.list plan.fraction plan.cuts horizon plan.kind kind planned.fit)) from to in
    let all : read ≡ size one.from one.to sealed = omega (arith, is, no_tail h word (t + 1) horizon those (omega (arith, to)) them, one.is) in
    let now : horizon < 2 ^ 40 = plan.horizon.before_now in
    let B : ℕ → ℕ → Type 0 = λ n alive. n * plan.fraction.under ≤ plan.fraction.over * alive in
    subst (λ (alive : ℕ). B read alive) (same_alive h word horizon t sealed list (omega (arith, now)) to up_to whole)
    (subst (λ (n : ℕ). B n (alive_count t sealed)) (sym all) (one.admissible t one.begun one.over))

-- ---- the documents that have a word at a time

abbrev doc_of : Posting → ℕ
doc_of p = p.doc.0

-- postings that all hold a time are of one document each
rising_docs : (t : ℕ) (rows : List Posting) → IsList rows → All (λ p. holds t p ≡ true) rows → IsStrictlyIncreasing (map doc_of rows)
rising_docs t [] ordered hold = λ k within. absurd (omega (arith, within))
rising_docs t (p ∷ []) ordered hold = λ k within. absurd (omega (arith, within))
rising_docs t (p ∷ q ∷ rows) ordered hold = go (rising_docs t (q ∷ rows) ordered.1 (All-tail (λ r. holds t r ≡ true) p (q ∷ rows) hold))
  where
    next : p.doc.0 < q.doc.0
    next =
        let one : holds t p ≡ true = All-head (λ r. holds t r ≡ true) p (q ∷ rows) hold in
        let other : holds t q ≡ true = All-head (λ r. holds t r ≡ true) q rows (All-tail (λ r. holds t r ≡ true) p (q ∷ rows) hold) in
        let before : ComesBefore p q = ordered.0 in
        grind (arith, nat_tests)

    go : IsStrictlyIncreasing (map doc_of (q ∷ rows)) → IsStrictlyIncreasing (map doc_of (p ∷ q ∷ rows))
    go rest zero within = next
    go rest (suc k) within =
        let e : suc k + 1 ≡ suc (k + 1) = omega arith in
        subst (λ (n : ℕ). get_or (map doc_of (q ∷ rows)) k 0 < get_or (map doc_of (p ∷ q ∷ rows)) n 0) (sym e) (rest k (omega (arith, within)))

pub holders_are_documents : HoldersAreDocuments
holders_are_documents h word list t whole now =
    let rows = rows_at t list in (
      map doc_of rows,
      record {
        ascending = rising_docs t rows (rows_list t list whole.ordered) (filter_passes (holds t) list);
        each = λ doc. (from doc, to doc);
      },
      length-map rows doc_of ∙ length-filter (holds t) list,
    )
  where
    from : (doc : ℕ) → Contains (map doc_of (rows_at t list)) doc → 0 < frequency_at h word (record { 0 = doc }) t
    from doc there =
        let (p, among, is) = mapped doc_of (rows_at t list) doc there in
        let (inside, held) = filter-from (holds t) p list among in
        let some : 1 ≤ p.tf = p.counted in
        let gives : frequency doc t list ≡ p.tf = frequency-of doc t p list whole.ordered inside is (grind (arith, nat_tests)) (grind (arith, nat_tests)) in
        omega (arith, some, gives, whole.same doc t (omega arith) now)

    to : (doc : ℕ) → 0 < frequency_at h word (record { 0 = doc }) t → Contains (map doc_of (rows_at t list)) doc
    to doc some =
        let (p, inside, is, begun, over, gives) = found doc t list (omega (arith, some, whole.same doc t (omega arith) now)) in
        let held : holds t p ≡ true = grind (arith, nat_tests) in
        let (k, within, at) = filter-in (holds t) p list inside held in
        let there = subst (λ (q : Posting). Contains (map doc_of (rows_at t list)) (doc_of q)) at (contains_map doc_of (rows_at t list) k p within) in
        subst (λ (x : ℕ). Contains (map doc_of (rows_at t list)) x) is there

-- a plan of another kind keeps its bound on space
within : (list : List Posting) (factor : Fraction) (cuts : List Time) (h : ℕ) → IsCappedPlan list factor cuts h → plan_space list cuts h ≤ cap factor (length list)
within list factor [] h fit = absurd fit
within list factor (f ∷ cuts) h fit = fit.capped

capped : (list : List Posting) (factor : Fraction) (cuts : List Time) (h : ℕ) (kind : Kind) → (kind ≡ Guarantee → ⊥) → IsFitFor kind list factor cuts h → plan_space list cuts h ≤ cap factor (length list)
capped list factor cuts h Guarantee other fit = absurd (other refl)
capped list factor cuts h Uniform other fit = within list factor cuts h fit
capped list factor cuts h (Since at) other fit = within list factor cuts h fit

pub planned_capped : PlannedSpaceIsCapped
planned_capped h word plan list loads live other up_to =
    let horizon = plan.horizon.seconds in
    let planned = word_planned h word plan loads live in
    let same = one_list_of (λ doc t. frequency_at h word (record { 0 = doc }) t) 0 horizon planned.list list planned.list_is up_to in
    let C : List Posting → Type 0 = λ l. plan_space l plan.cuts horizon ≤ cap plan.fraction (length l) in
    subst C same (capped planned.list plan.fraction plan.cuts horizon plan.kind other planned.fit)
