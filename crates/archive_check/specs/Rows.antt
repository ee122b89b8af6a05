-- A worked row: an image that stands for a history with a live plan. It is shown by steps, for any digest of the sublist's bytes that is theirs.
use Rattle.std.specs.Prelude.{◌≡◌, ℕ, ◌<◌, ◌≤◌, ◌==◌, ◌&&◌, ◌^◌, nat_le, nat_lt, unwrap_or, option_map, Bool, true, false, cond, List, [], ◌∷◌, ◌++◌, Some, None, Contains, All, IsUtf8, length, count_by, codes, refl}
use Rattle.std.specs.Str.{chars, is_utf8}
use lib.Utf8.{encode}
use Rattle.std.proofs.Common.{arith, lit<, lit≤, ap, subst, inl, inr, length-append, ◌∙◌}
use Rattle.std.proofs.lemmas.Bool.{le-leb, lt-ltb}
use Rattle.std.proofs.lemmas.List.Elements.{All-nil, All-cons}
use Rattle.std.proofs.lemmas.List.Sums.{sum_by-cons}
use Rattle.ucd_category.proofs.Computing.{ucd_category}
use Rattle.unicode_normalization.proofs.Computing.{unicode_normalization}
use Rattle.caseless.proofs.Computing.{caseless}
use Rattle.sha2.specs.Sha256.{sha256}
use Rattle.machine_model.specs.Areas.{Bytes}
use Rattle.base_types.specs.declared.fraction.Fraction.{Fraction}
use Rattle.base_types.specs.declared.ids.DocId.{DocId}
use Rattle.base_types.specs.declared.posting.Posting.{Posting}
use Rattle.base_types.specs.declared.time.Time.{Time}
use Rattle.base_commands.specs.declared.command.Kind.TheVariants.{Guarantee}
use Rattle.lists_postings.specs.Lists.{frequency, holds, meets}
use Rattle.lists_postings.specs.Sizes.{size, alive_count}
use Rattle.lists_postings.proofs.Elements.{here, later, here-or-later, none}
use Rattle.journal_gates.specs.Records.{front}
use Rattle.plans_partitions.specs.Boundaries.{IsBoundary, IsFirst, AreBoundaries}
use Rattle.plans_partitions.specs.Partitions.{Covers, IsAdmissible, IsLeast, space}
use Rattle.plans_partitions.proofs.Ordering.{increasing}
use Rattle.text_words.specs.Terms.{occurrences}
use Rattle.lists_versions.specs.Changes.{valid_at}
use Rattle.journal_entries.specs.Spelling.{spelling}
use Rattle.journal_entries.specs.PlanSpelling.{IsDigest, IsPlanEntry, plan_spelling}
use Rattle.journal_entries.specs.declared.entry.Entry.TheVariants as entries
use Rattle.journal_entries.specs.declared.place.Layout.TheVariants.{Flat}
use Rattle.journal_entries.specs.declared.place.Place.{Place}
use Rattle.journal_entries.specs.declared.plan.PlanEntry.{PlanEntry}
use Rattle.plans_kinds.specs.Plans.{IsNarrow, IsGoodPlan}
use Rattle.model_archive.specs.declared.stored.StoredPlan.{StoredPlan}
use Rattle.model_archive.specs.Answers.{frequency_at}
use Rattle.model_archive.specs.Histories.{History}
use Rattle.model_archive.specs.Holding.{HoldsPlan, HoldsPlans}
use Rattle.model_archive.specs.Legal.{IsLegal, MayBePlanned}
use Rattle.model_archive.specs.Planning.{last_second, IsListUpTo}
use Rattle.model_archive.specs.Plans.{live_plans}
use Rattle.model_archive.specs.Stands.{Stands, bodies_of}
use Rattle.model_archive.proofs.HistoryLemmas.{legal_loads}
use Rattle.model_archive.proofs.StoringLemmas.{sha_digest}

-- ---- the history: document 1 has the word `v` in [10, 40), and a plan of the word has one segment

abbrev doc : ℕ → DocId
doc n = record { 0 = n }

abbrev ten : Time
ten = record { seconds = 10; before_now = lit< tt }

abbrev forty : Time
forty = record { seconds = 40; before_now = lit< tt }

abbrev v : List ℕ
v = codes "v"

abbrev changed : History
changed = entries.Arrive (doc 1) ten v ∷ entries.Delete (doc 1) forty ∷ []

abbrev posting : Posting
posting = record { doc = doc 1; span = record { from = 10; to = 40; ordered = lit< tt; in_time = lit≤ tt }; tf = 1; numbered = lit< tt; counted = lit≤ tt; bounded = lit< tt }

abbrev list : List Posting
list = posting ∷ []

-- the flat sublist: document and frequency in 4 bytes each, and both ends in 8
abbrev sublist_bytes : List ℕ
sublist_bytes = 0 ∷ 0 ∷ 0 ∷ 1 ∷ 0 ∷ 0 ∷ 0 ∷ 1 ∷ 0 ∷ 0 ∷ 0 ∷ 0 ∷ 0 ∷ 0 ∷ 0 ∷ 10 ∷ 0 ∷ 0 ∷ 0 ∷ 0 ∷ 0 ∷ 0 ∷ 0 ∷ 40 ∷ []

abbrev one_whole : Fraction
one_whole = record { over = 1; under = 1; proper = lit≤ tt; at_least_one = lit≤ tt; in_range = lit< tt }

-- it lies in the first page
abbrev place : List ℕ → Place
place digest = record { extent = record { first = 0; bytes = 24; in_pages = lit≤ tt; numbered = lit< tt; sized = lit< tt }; digest = digest }

abbrev plan : List ℕ → PlanEntry
plan digest = record { word = v; layout = Flat; kind = Guarantee; fraction = one_whole; horizon = forty; cuts = ten ∷ []; places = place digest ∷ [] }

abbrev planned : List ℕ → History
planned digest = entries.Arrive (doc 1) ten v ∷ entries.Delete (doc 1) forty ∷ entries.Planned (plan digest) ∷ []

abbrev image : List ℕ → Bytes
image digest = record { journal = front (bodies_of (planned digest)) ++ 0 ∷ []; pages = sublist_bytes }

-- ---- the word's list

frequency_is : (d t : ℕ) → t < 40 → frequency d t list ≡ frequency_at changed v (doc d) t
unfolding ucd_category caseless unicode_normalization chars encode
frequency_is d t before = on_doc (1 == d)
  where
    on_time : (a e : Bool) → e ≡ true → (f : Bool) → cond (a && e) 1 0 ≡ unwrap_or (option_map (occurrences v) (cond (a && e) (Some v) (cond f None None))) 0
    on_time true true is f = refl
    on_time true false is f = absurd cc
    on_time false e is true = refl
    on_time false e is false = refl

    on_doc : (b : Bool) → cond (b && (nat_le 10 t && nat_lt t 40)) 1 0
        ≡ unwrap_or (option_map (occurrences v) (valid_at t (cond b (record { doc = doc 1; at = ten; held = Some v } ∷ cond b (record { doc = doc 1; at = forty; held = None } ∷ []) []) (cond b (record { doc = doc 1; at = forty; held = None } ∷ []) [])))) 0
    on_doc false = refl
    on_doc true = on_time (nat_le 10 t) (nat_lt t 40) (lt-ltb t 40 before) (nat_le 40 t)

list_is : IsListUpTo changed v 40 list
list_is = record {
  ordered = tt;
  coalesced = tt;
  inside = All-cons (λ p. (0 ≤ p.span.from) × (p.span.to ≤ 40)) posting [] (omega arith, omega arith) (All-nil (λ p. (0 ≤ p.span.from) × (p.span.to ≤ 40)));
  same = λ d t some before. frequency_is d t before;
}

-- ---- its plan is a least one

ten_first : IsFirst list 40 10
ten_first = record { is = later 40 10 (10 ∷ 40 ∷ []) (here 10 (40 ∷ [])); none_before = λ t there. first t there }
  where
    last : (t : ℕ) → Contains (40 ∷ []) t → 10 ≤ t
    last t there = elim (here-or-later 40 t [] there) [ inl is ↦ omega (arith, is) | inr more ↦ absurd (none t more) ]

    second : (t : ℕ) → Contains (10 ∷ 40 ∷ []) t → 10 ≤ t
    second t there = elim (here-or-later 10 t (40 ∷ []) there) [ inl is ↦ omega (arith, is) | inr more ↦ last t more ]

    first : (t : ℕ) → IsBoundary list 40 t → 10 ≤ t
    first t there = elim (here-or-later 40 t (10 ∷ 40 ∷ []) there) [ inl is ↦ omega (arith, is) | inr more ↦ second t more ]

boundaries : AreBoundaries list 40 (10 ∷ 40 ∷ [])
boundaries = record { ascending = increasing 0 (10 ∷ 40 ∷ []) (omega arith, (omega arith, tt)); each = λ t. (later 40 t (10 ∷ 40 ∷ []), back t) }
  where
    back : (t : ℕ) → IsBoundary list 40 t → Contains (10 ∷ 40 ∷ []) t
    back t there = elim (here-or-later 40 t (10 ∷ 40 ∷ []) there) [
      | inl is ↦ subst (Contains (10 ∷ 40 ∷ [])) is (later 10 40 (40 ∷ []) (here 40 []))
      | inr more ↦ more
    ]

-- the posting is counted where a test holds
one_counted : (p : Posting → Bool) → p posting ≡ true → count_by p list ≡ 1
one_counted p passes =
    let here : cond {A = ℕ} (p posting) 1 0 ≡ 1 = ap (λ (b : Bool). cond {A = ℕ} b 1 0) passes in
    omega (arith, sum_by-cons (λ (x : Posting). cond {A = ℕ} (p x) 1 0) posting [], here)

admissible : IsAdmissible list one_whole 10 40
admissible t from to =
    let a : nat_le 10 t ≡ true = le-leb 10 t from in
    let b : nat_lt t 40 ≡ true = lt-ltb t 40 to in
    let alive : alive_count t list ≡ 1 = one_counted (holds t) (ap (λ (x : Bool). x && nat_lt t 40) a ∙ b) in
    let all : size 10 40 list ≡ 1 = refl in
    omega (arith, alive, all)

least : IsLeast list one_whole 10 (40 ∷ []) 40
least = record {
  first = ten_first;
  at_boundaries = All-cons (IsBoundary list 40) 40 [] (here 40 (10 ∷ 40 ∷ [])) (All-nil (IsBoundary list 40));
  covers = (omega arith, admissible, refl);
  least = λ other covers. no_less other covers;
}
  where
    no_less : (other : List ℕ) → Covers list one_whole 10 other 40 → space list 10 (40 ∷ []) ≤ space list 10 other
    no_less [] covers = absurd (omega (arith, covers))
    no_less (g ∷ cuts) covers =
        let one : size 10 g list ≡ 1 = one_counted (meets 10 g) (ap (λ (x : Bool). x && true) (lt-ltb 10 g covers.0)) in
        let all : space list 10 (40 ∷ []) ≡ 1 = refl in
        omega (arith, one, all)

narrow : IsNarrow list 40
narrow = (10 ∷ 40 ∷ [], boundaries, omega arith)

-- ---- the history is legal

v_text : IsUtf8 v
unfolding encode
v_text = (118 ∷ [], (refl, refl))

is_plan : (digest : List ℕ) → IsDigest digest → IsPlanEntry (plan digest)
unfolding is_utf8 chars encode
is_plan digest fits = record {
  well_cut = record { some = omega arith; most = omega arith; places = refl; ascend = increasing 0 (10 ∷ 40 ∷ []) (omega arith, (omega arith, tt)) };
  word = (omega arith, omega arith, v_text);
  digests = All-cons (λ (p : Place). IsDigest p.digest) (place digest) [] fits (All-nil (λ (p : Place). IsDigest p.digest));
}

may_be_planned : (digest : List ℕ) → MayBePlanned IsGoodPlan changed (plan digest)
may_be_planned digest =
    let last : last_second changed ≡ 40 = refl in
    record { past = omega (arith, last); list = list; list_is = list_is; some = omega arith; suits = (narrow, least) }

legal : (digest : List ℕ) → IsDigest digest → IsLegal (planned digest)
unfolding ucd_category caseless unicode_normalization chars encode is_utf8
legal digest fits = (
  record { ranges = (omega arith, omega arith, omega arith, v_text); allowed = refl; planned = tt },
  (
    record { ranges = (omega arith, omega arith); allowed = refl; planned = tt },
    (record { ranges = is_plan digest fits; allowed = refl; planned = may_be_planned digest }, tt),
  ),
)

-- ---- and the image stands for it

-- the 45 bytes of the plan's entry in front of the digest
abbrev before_digest : List ℕ
before_digest = 3 ∷ 1 ∷ 1 ∷ 0 ∷ 0 ∷ 0 ∷ 1 ∷ 0 ∷ 0 ∷ 0 ∷ 1 ∷ 0 ∷ 0 ∷ 0 ∷ 0 ∷ 0 ∷ 0 ∷ 0 ∷ 40 ∷ 1 ∷ 118 ∷ 0 ∷ 0 ∷ 0 ∷ 1 ∷ 0 ∷ 0 ∷ 0 ∷ 0 ∷ 0 ∷ 0 ∷ 0 ∷ 10 ∷ 0 ∷ 0 ∷ 0 ∷ 0 ∷ 0 ∷ 0 ∷ 0 ∷ 0 ∷ 0 ∷ 0 ∷ 0 ∷ 24 ∷ []

plan_long : (digest : List ℕ) → IsDigest digest → length (plan_spelling (plan digest)) ≡ 77
unfolding plan_spelling
plan_long digest fits =
    let split : plan_spelling (plan digest) ≡ before_digest ++ (digest ++ []) = refl in
    omega (arith, ap length split, length-append before_digest (digest ++ []), length-append digest [], fits.0)

spelled_long : (digest : List ℕ) → IsDigest digest → All (λ (body : List ℕ). length body < 2 ^ 32) (bodies_of (planned digest))
spelled_long digest fits =
    let S : List ℕ → Type 0 = λ body. length body < 2 ^ 32 in
    All-cons S (spelling (entries.Arrive (doc 1) ten v)) (spelling (entries.Delete (doc 1) forty) ∷ plan_spelling (plan digest) ∷ []) (omega arith)
    (All-cons S (spelling (entries.Delete (doc 1) forty)) (plan_spelling (plan digest) ∷ []) (omega arith)
    (All-cons S (plan_spelling (plan digest)) [] (let long = plan_long digest fits in omega (arith, long)) (All-nil S)))

live_is : (digest : List ℕ) → live_plans (planned digest) ≡ record { gate = 53; plan = plan digest } ∷ []
live_is digest = refl

held : (digest : List ℕ) → digest ≡ sha256 sublist_bytes → HoldsPlans (planned digest) sublist_bytes
held digest is =
    let H : StoredPlan → Type 0 = λ s. HoldsPlan (planned digest) sublist_bytes s.plan in
    record {
      apart = ((λ p page taken. taken), tt);
      each = All-cons H (record { gate = 53; plan = plan digest }) [] (record { list = list; list_is = record { ordered = list_is.ordered; coalesced = list_is.coalesced; inside = list_is.inside; same = list_is.same }; each = (record { inside = omega arith; bytes = refl; digest = is }, tt) }) (All-nil H);
    }

stands_by : (digest : List ℕ) → digest ≡ sha256 sublist_bytes → IsDigest digest → Stands (planned digest) (image digest)
stands_by digest is fits = record {
  spelled = inr (record { gate = 0; rest = []; shut = λ same. absurd (omega (arith, same)); fit = spelled_long digest fits; whole = refl });
  loadable = legal_loads (planned digest) (legal digest fits);
  held = held digest is;
}

stands : Stands (planned (sha256 sublist_bytes)) (image (sha256 sublist_bytes))
stands = stands_by (sha256 sublist_bytes) refl (sha_digest sublist_bytes)
