-- The first digest that is wrong: in halves of a plan's segments, over plans one after another, and beside a verdict.
use Rattle.std.proofs.Common.{◌≡◌, ℕ, ◌+◌, ◌<◌, List, [], ◌∷◌, ◌++◌, length, take, get_or, All, Option, Some, None, Result, Ok, Err, refl, ap, sym, subst, ◌∙◌, arith, append_assoc}
use Rattle.std.specs.Prelude.{IfOk, MatchOption}
use Rattle.std.proofs.lemmas.List.{take_more, length-append}
use Rattle.std.proofs.lemmas.List.Elements.{All-append, All-push}
use Rattle.std.proofs.lemmas.List.Sorted.{All-permutation, IsPermutation-sym}
use Rattle.journal_entries.specs.declared.place.Place.{Place}
use Rattle.journal_entries.specs.declared.plan.PlanEntry.{PlanEntry}
use Rattle.lists_versions.specs.declared.change.Change.{Change}
use Rattle.lists_index.specs.Words.{words_in}
use Rattle.model_archive.specs.declared.stored.StoredPlan.{StoredPlan}
use Rattle.model_archive.specs.declared.verdict.Verdict.{Verdict}
use Rattle.model_archive.specs.declared.verdict.Verdict.TheVariants.{Sound, Differs, NotLeast, BadText}
use Rattle.archive_check.specs.declared.digests.Digests.TheVariants.{Asked}
use Rattle.archive_check.specs.declared.verifying.Altered.{Altered}
use Rattle.archive_check.specs.declared.finding.Finding.{Finding}
use Rattle.archive_check.specs.declared.finding.Finding.TheVariants.{Told, BadDigest}
use Rattle.archive_check.specs.Verdicts.{with_texts}
use Rattle.archive_check.specs.Digests.{HasDigest, HasDigests, IsAltered, IsFirstAltered, TellsSound, Finds}
use Rattle.archive_check.specs.Checking.{IsFaultOf, AreAltered, AreFirstAltered, TellsAll}
use Rattle.archive_check.specs.Laws.{OneFinding}
use Rattle.model_archive.proofs.OrderLemmas.{one_way, are_moved}
use Rattle.model_archive.proofs.VerifyLemmas.{all_at, one_at}
use Rattle.archive_check.proofs.LawLemmas.{tells_one}

-- ---- segments by halves

pub altered_joined : (pages : List ℕ) (places one other : List Place) (k : ℕ) (front back o : Option ℕ) → one ++ other ≡ places → length one ≡ k → AreAltered pages one front → AreAltered pages other back
    → MatchOption front (MatchOption back (o ≡ None) (λ n. o ≡ Some (k + n))) (λ n. o ≡ Some n) → AreAltered pages places o
altered_joined pages places one other k None None o whole long left right is =
    let P : List Place → Type 0 = λ l. All (HasDigest pages) l in
    subst (λ (x : Option ℕ). AreAltered pages places x) (sym is) (subst P whole (All-append (HasDigest pages) one other left right))
altered_joined pages places one other k None (Some n) o whole long left right is =
    let there : IsAltered pages places (k + n) = record {
      front = one ++ right.front;
      place = right.place;
      back = right.back;
      places_are = sym whole ∙ ap (λ (l : List Place). one ++ l) right.places_are ∙ sym (append_assoc one right.front (right.place ∷ right.back));
      segment_is = omega (arith, long, right.segment_is, length-append one right.front);
      right = All-append (HasDigest pages) one right.front left right.right;
      wrong = right.wrong;
    } in
    subst (λ (x : Option ℕ). AreAltered pages places x) (sym is) there
altered_joined pages places one other k (Some n) back o whole long left right is =
    let there : IsAltered pages places n = record {
      front = left.front;
      place = left.place;
      back = left.back ++ other;
      places_are = sym whole ∙ ap (λ (l : List Place). l ++ other) left.places_are ∙ append_assoc left.front (left.place ∷ left.back) other;
      segment_is = left.segment_is;
      right = left.right;
      wrong = left.wrong;
    } in
    subst (λ (x : Option ℕ). AreAltered pages places x) (sym is) there

-- ---- plans in turn

-- one plan more, behind plans of which this digest is the first that is wrong, or none is
pub altered_more : (pages : List ℕ) (plans : List StoredPlan) (i : ℕ) (stored : StoredPlan) (before after : Option Altered) (segment : Option ℕ) → i < length plans → stored ≡ get_or plans i stored
    → AreFirstAltered pages (take i plans) before → AreAltered pages stored.plan.places segment
    → MatchOption before (MatchOption segment (after ≡ None) (λ n. after ≡ Some (record { word = stored.plan.word; segment = n }))) (λ a. after ≡ Some a) → AreFirstAltered pages (take (i + 1) plans) after
altered_more pages plans i stored before after segment within is was here next =
    let more : take (i + 1) plans ≡ take i plans ++ stored ∷ [] = take_more plans i stored within ∙ ap (λ (s : StoredPlan). take i plans ++ s ∷ []) (sym is) in
    subst (λ (l : List StoredPlan). AreFirstAltered pages l after) (sym more) (go before segment was here next)
  where
    go : (before : Option Altered) (segment : Option ℕ) → AreFirstAltered pages (take i plans) before → AreAltered pages stored.plan.places segment
        → MatchOption before (MatchOption segment (after ≡ None) (λ n. after ≡ Some (record { word = stored.plan.word; segment = n }))) (λ a. after ≡ Some a) → AreFirstAltered pages (take i plans ++ stored ∷ []) after
    go None None was here next =
        let H : StoredPlan → Type 0 = λ s. HasDigests pages s.plan in
        subst (λ (o : Option Altered). AreFirstAltered pages (take i plans ++ stored ∷ []) o) (sym next) (All-push H (take i plans) stored was here)
    go None (Some n) was here next =
        let there : IsFirstAltered stored.plan.word n pages (take i plans ++ stored ∷ []) = record { front = take i plans; stored = stored; back = []; plans_are = refl; right = was; word_is = refl; there = here } in
        subst (λ (o : Option Altered). AreFirstAltered pages (take i plans ++ stored ∷ []) o) (sym next) there
    go (Some a) segment was here next =
        let there : IsFirstAltered a.word a.segment pages (take i plans ++ stored ∷ []) = record {
          front = was.front;
          stored = was.stored;
          back = was.back ++ stored ∷ [];
          plans_are = ap (λ (l : List StoredPlan). l ++ stored ∷ []) was.plans_are ∙ append_assoc was.front (was.stored ∷ was.back) (stored ∷ []);
          right = was.right;
          word_is = was.word_is;
          there = was.there;
        } in
        subst (λ (o : Option Altered). AreFirstAltered pages (take i plans ++ stored ∷ []) o) (sym next) there

-- a fault isn't that all is sound
pub fault_unsound : (texts : List (Change (List ℕ))) (pages : List ℕ) (plan : PlanEntry) (verdict : Verdict) → IsFaultOf texts pages plan verdict → TellsSound verdict → ⊥
fault_unsound texts pages plan (Sound words segments) fault sound = fault
fault_unsound texts pages plan (Differs word segment place found wanted) fault sound = sound
fault_unsound texts pages plan (NotLeast word taken least) fault sound = sound
fault_unsound texts pages plan (BadText doc at) fault sound = sound

-- ---- what is found

-- what a call gives holds both
pub told_both : {T E : Type 0} (P Q R : T → Type 0) (A : Type 0) (r : Result T E) → ((v : T) → P v → (A → Q v) → R v) → IfOk r P → (A → IfOk r Q) → IfOk r R
told_both P Q R A (Ok v) join one other = join v one other
told_both P Q R A (Err e) join one other = tt

pub finding_bad : (texts : List (Change (List ℕ))) (pages : List ℕ) (plans : List StoredPlan) (verdict : Verdict) (a : Altered)
    → TellsAll Asked (record { verdict = verdict; altered = Some a }) texts pages plans → Finds (BadDigest a.word a.segment) texts pages plans
finding_bad texts pages plans (Sound words segments) a t =
    record { words = words; segments = segments; sound = (t.ordered, t.by_number, t.says); ordered = t.ordered; by_number = t.by_number; first = (t.digests_told refl).0 tt }
finding_bad texts pages plans (Differs word segment place found wanted) a t = absurd ((t.digests_told refl).1)
finding_bad texts pages plans (NotLeast word taken least) a t = absurd ((t.digests_told refl).1)
finding_bad texts pages plans (BadText doc at) a t = absurd ((t.digests_told refl).1)

pub finding_told : (texts : List (Change (List ℕ))) (pages : List ℕ) (plans : List StoredPlan) (verdict : Verdict)
    → TellsAll Asked (record { verdict = verdict; altered = None }) texts pages plans → Finds (Told verdict) texts pages plans
finding_told texts pages plans verdict t = (
  (t.ordered, t.by_number, t.says),
  λ sound.
      let H : StoredPlan → Type 0 = λ s. HasDigests pages s.plan in
      All-permutation H t.ordered plans (IsPermutation-sym plans t.ordered (are_moved (words_in texts) plans t.ordered t.by_number)) ((t.digests_told refl).0 sound),
)

-- ---- there is one finding

-- a plan with a digest that is wrong hasn't all digests
pub not_digests : (pages : List ℕ) (places : List Place) (segment : ℕ) → IsAltered pages places segment → All (HasDigest pages) places → ⊥
not_digests pages places segment a all = a.wrong (all_at (HasDigest pages) a.front a.back a.place (subst (λ (l : List Place). All (HasDigest pages) l) a.places_are all))

one_altered : (pages : List ℕ) (places : List Place) (m n : ℕ) → IsAltered pages places m → IsAltered pages places n → m ≡ n
one_altered pages places m n a b =
    let one = one_at (HasDigest pages) a.front b.front a.place b.place a.back b.back (sym a.places_are ∙ b.places_are) a.right b.right a.wrong b.wrong in
    a.segment_is ∙ one.long ∙ sym b.segment_is

both_bad : (pages : List ℕ) (plans : List StoredPlan) (v u : List ℕ) (m n : ℕ) → IsFirstAltered v m pages plans → IsFirstAltered u n pages plans → BadDigest v m ≡ BadDigest u n
both_bad pages plans v u m n a b =
    let H : StoredPlan → Type 0 = λ s. HasDigests pages s.plan in
    let one = one_at H a.front b.front a.stored b.stored a.back b.back (sym a.plans_are ∙ b.plans_are) a.right b.right (not_digests pages a.stored.plan.places m a.there) (not_digests pages b.stored.plan.places n b.there) in
    let word : v ≡ u = a.word_is ∙ ap (λ (s : StoredPlan). s.plan.word) one.same ∙ sym b.word_is in
    let segment : m ≡ n = one_altered pages a.stored.plan.places m n a.there (subst (λ (s : StoredPlan). IsAltered pages s.plan.places n) (sym one.same) b.there) in
    cc

-- where all digests are right, none is wrong
told_or_bad : (texts : List (Change (List ℕ))) (pages : List ℕ) (plans : List StoredPlan) (verdict : Verdict) (word : List ℕ) (segment : ℕ)
    → Finds (Told verdict) texts pages plans → Finds (BadDigest word segment) texts pages plans → ⊥
told_or_bad texts pages plans verdict word segment told bad =
    let H : StoredPlan → Type 0 = λ s. HasDigests pages s.plan in
    let same : Sound bad.words bad.segments ≡ verdict = tells_one texts pages plans (Sound bad.words bad.segments) verdict bad.sound told.0 in
    let all : All H plans = told.1 (subst TellsSound same tt) in
    let there : All H bad.ordered = All-permutation H plans bad.ordered (are_moved (words_in texts) plans bad.ordered bad.by_number) all in
    let first = bad.first in
    not_digests pages first.stored.plan.places segment first.there (all_at H first.front first.back first.stored (subst (λ (l : List StoredPlan). All H l) first.plans_are there))

pub finds_one : (texts : List (Change (List ℕ))) (pages : List ℕ) (plans : List StoredPlan) (one other : Finding) → Finds one texts pages plans → Finds other texts pages plans → one ≡ other
finds_one texts pages plans (Told one) (Told other) x y = ap Told (tells_one texts pages plans one other x.0 y.0)
finds_one texts pages plans (Told one) (BadDigest word segment) x y = absurd (told_or_bad texts pages plans one word segment x y)
finds_one texts pages plans (BadDigest word segment) (Told other) x y = absurd (told_or_bad texts pages plans other word segment y x)
finds_one texts pages plans (BadDigest v m) (BadDigest u n) x y =
    let B : List StoredPlan → Type 0 = λ l. IsFirstAltered u n pages l in
    both_bad pages x.ordered v u m n x.first (subst B (one_way (words_in texts) plans y.ordered x.ordered y.by_number x.by_number) y.first)

pub findings_are_one : OneFinding
findings_are_one journal changes pages plans one other x y = finds_one (with_texts journal changes) pages plans one other x y
