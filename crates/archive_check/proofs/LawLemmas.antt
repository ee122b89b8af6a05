-- Of some plans there is one verdict; and the order of a history's changes.
use Rattle.std.proofs.Common.{◌≡◌, ◌⊎◌, inl, inr, ℕ, zero, suc, ◌<◌, ◌≤◌, List, [], ◌∷◌, ◌++◌, length, take, map, slice_get, All, Option, Some, refl, ap, sym, subst, ◌∙◌, arith}
use Rattle.std.proofs.lemmas.Bool.{cases_lt}
use Rattle.std.proofs.lemmas.List.{append_cancel_left}
use Rattle.std.proofs.lemmas.List.Elements.{All-contains}
use Rattle.base_types.specs.declared.ids.DocId.{DocId}
use Rattle.base_types.specs.declared.time.Time.{Time}
use Rattle.base_types.specs.declared.text_place.TextPlace.{TextPlace}
use Rattle.base_types.specs.declared.posting.Posting.{Posting}
use Rattle.base_types.proofs.Equal.{same_time}
use Rattle.lists_postings.specs.Lists.{EachNext}
use Rattle.lists_postings.proofs.Clipping.{one_list_of}
use Rattle.lists_versions.specs.declared.change.Change.{Change}
use Rattle.lists_versions.specs.Changes.{changes_of}
use Rattle.lists_versions.proofs.Mapped.{changes_of-mapped}
use Rattle.lists_index.specs.Words.{frequency_in, words_in}
use Rattle.plans_kinds.specs.Plans.{IsLeastPlan, plan_space}
use Rattle.journal_entries.specs.declared.plan.PlanEntry.{PlanEntry}
use Rattle.model_archive.specs.Histories.{changes}
use Rattle.model_archive.specs.declared.stored.StoredPlan.{StoredPlan}
use Rattle.archive_entries.specs.Texts.{bare, nothing}
use Rattle.archive_entries.proofs.PlaceLemmas.{bare_changes}
use Rattle.archive_entries.proofs.IndexLemmas.{loadable_rises}
use Rattle.model_archive.specs.declared.verdict.Verdict.{Verdict}
use Rattle.model_archive.specs.declared.verdict.Verdict.TheVariants.{Sound, Differs, NotLeast, BadText}
use Rattle.archive_check.specs.Verdicts.{with_texts, IsText, IsUpTo, IsFirstBad, IsPlanned, found_in, wanted_of, DifferAt, SegmentDiffers, IsSound, HasDifference, TakesMore, FirstFault, AllSound, Says, Tells}
use Rattle.archive_check.specs.Laws.{LoadedChangesAreInOrder, OneVerdict}
use Rattle.model_archive.proofs.OrderLemmas.{one_way}
use Rattle.model_archive.proofs.VerifyLemmas.{all_at, one_at, no_more, one_least}
use Rattle.model_archive.specs.Verifying.{IsLeastSpace}

-- ---- the order of changes

each_bare : {A B : Type 0} (xs : List (Change A)) (ys : List (Change B)) → map bare xs ≡ map bare ys → EachNext (λ c d. c.at.seconds < d.at.seconds) xs → EachNext (λ c d. c.at.seconds < d.at.seconds) ys
each_bare xs [] same each = tt
each_bare xs (y ∷ []) same each = tt
each_bare [] (y ∷ z ∷ ys) same each = absurd cc
each_bare (x ∷ []) (y ∷ z ∷ ys) same each = absurd cc
each_bare (x ∷ w ∷ xs) (y ∷ z ∷ ys) same each =
    let one : bare x ≡ bare y = cc in
    let two : bare w ≡ bare z = cc in
    let rest : map bare (w ∷ xs) ≡ map bare (z ∷ ys) = cc in
    let a : x.at.seconds ≡ y.at.seconds = ap (λ (c : Change (Unit {0})). c.at.seconds) one in
    let b : w.at.seconds ≡ z.at.seconds = ap (λ (c : Change (Unit {0})). c.at.seconds) two in
    (omega (arith, each.0, a, b), each_bare (w ∷ xs) (z ∷ ys) rest each.1)

pub loaded_in_order : LoadedChangesAreInOrder
loaded_in_order history cs loads placed doc =
    let lists : map bare (changes_of doc (changes history)) ≡ map bare (changes_of doc cs) =
    sym (changes_of-mapped (nothing {A = List ℕ}) doc (changes history)) ∙ ap (changes_of doc) (sym (bare_changes 16 history cs placed)) ∙ changes_of-mapped (nothing {A = TextPlace}) doc cs in
    each_bare (changes_of doc (changes history)) (changes_of doc cs) lists (loadable_rises history loads doc)

-- ---- places at which bytes differ

same_before : (a b : List ℕ) (p q : ℕ) → q < p → take p a ≡ take p b → slice_get a q ≡ slice_get b q
same_before a b zero q below same = absurd (omega (arith, below))
same_before [] [] (suc p) q below same = refl
same_before [] (y ∷ b) (suc p) q below same = absurd cc
same_before (x ∷ a) [] (suc p) q below same = absurd cc
same_before (x ∷ a) (y ∷ b) (suc p) zero below same = let head : x ≡ y = cc in ap Some head
same_before (x ∷ a) (y ∷ b) (suc p) (suc q) below same = let rest : take p a ≡ take p b = cc in same_before a b p q (omega (arith, below)) rest

not_before : (a b : List ℕ) (p q : ℕ) (f w x y : Option ℕ) → DifferAt a b p f w → DifferAt a b q x y → p < q → ⊥
not_before a b p q f w x y one other below = one.differ (one.found_is ∙ same_before a b q p below other.same ∙ sym one.wanted_is)

one_place : (a b : List ℕ) (p q : ℕ) (f w x y : Option ℕ) → DifferAt a b p f w → DifferAt a b q x y → p ≡ q
one_place a b p q f w x y one other = go (cases_lt p q) (cases_lt q p)
  where
    go : (p < q) ⊎ (q ≤ p) → (q < p) ⊎ (p ≤ q) → p ≡ q
    go (inl below) o = absurd (not_before a b p q f w x y one other below)
    go (inr ge) (inl above) = absurd (not_before a b q p x y f w other one above)
    go (inr ge) (inr le) = omega (arith, ge, le)

never_itself : (a : List ℕ) (p : ℕ) (f w : Option ℕ) → DifferAt a a p f w → ⊥
never_itself a p f w d = d.differ (d.found_is ∙ sym d.wanted_is)

-- two rows differ first at one segment
record AreFirst (a b c d : List ℕ) (f g : List (List ℕ)) : Type 0 where
  front_is : f ≡ g
  this_is : a ≡ c
  that_is : b ≡ d

one_segment : (f g : List (List ℕ)) (a b c d : List ℕ) (k l m n : List (List ℕ)) → f ++ a ∷ k ≡ g ++ c ∷ l → f ++ b ∷ m ≡ g ++ d ∷ n → (a ≡ b → ⊥) → (c ≡ d → ⊥) → AreFirst a b c d f g
one_segment [] [] a b c d k l m n one other this that = record { front_is = refl; this_is = cc; that_is = cc }
one_segment [] (x ∷ g) a b c d k l m n one other this that = absurd (this cc)
one_segment (x ∷ f) [] a b c d k l m n one other this that = absurd (that cc)
one_segment (x ∷ f) (y ∷ g) a b c d k l m n one other this that =
    let head : x ≡ y = cc in
    let rest : f ++ a ∷ k ≡ g ++ c ∷ l = cc in
    let more : f ++ b ∷ m ≡ g ++ d ∷ n = cc in
    let first = one_segment f g a b c d k l m n rest more this that in
    record { front_is = ap (λ (z : List ℕ). z ∷ f) head ∙ ap (λ (z : List (List ℕ)). y ∷ z) first.front_is; this_is = first.this_is; that_is = first.that_is }

record IsOneSpot (s t p q : ℕ) (f w x y : Option ℕ) : Type 0 where
  segment_is : s ≡ t
  place_is : p ≡ q
  found_is : f ≡ x
  wanted_is : w ≡ y

one_spot : (one other : List (List ℕ)) (s t p q : ℕ) (f w x y : Option ℕ) → SegmentDiffers one other s p f w → SegmentDiffers one other t q x y → IsOneSpot s t p q f w x y
one_spot one other s t p q f w x y a b =
    let D : List ℕ → List ℕ → Type 0 = λ u v. DifferAt u v q x y in
    let first = one_segment a.front b.front a.this a.that b.this b.that a.behind b.behind a.after b.after (sym a.one_is ∙ b.one_is) (sym a.other_is ∙ b.other_is)
    (λ e. never_itself a.that p f w (subst (λ (u : List ℕ). DifferAt u a.that p f w) e a.differs)) (λ e. never_itself b.that q x y (subst (λ (u : List ℕ). DifferAt u b.that q x y) e b.differs)) in
    let there : DifferAt a.this a.that q x y = subst (λ (u : List ℕ). D u a.that) (sym first.this_is) (subst (λ (v : List ℕ). D b.this v) (sym first.that_is) b.differs) in
    let place : p ≡ q = one_place a.this a.that p q f w x y a.differs there in
    record {
      segment_is = a.segment_is ∙ ap length first.front_is ∙ sym b.segment_is;
      place_is = place;
      found_is = a.differs.found_is ∙ ap (λ (n : ℕ). slice_get a.this n) place ∙ sym there.found_is;
      wanted_is = a.differs.wanted_is ∙ ap (λ (n : ℕ). slice_get a.that n) place ∙ sym there.wanted_is;
    }

pub not_the_same : (one other : List (List ℕ)) (s p : ℕ) (f w : Option ℕ) → SegmentDiffers one other s p f w → one ≡ other → ⊥
not_the_same one other s p f w d same =
    let rest : d.this ∷ d.behind ≡ d.that ∷ d.after = append_cancel_left d.front (d.this ∷ d.behind) (d.that ∷ d.after) (sym d.one_is ∙ same ∙ d.other_is) in
    let here : d.this ≡ d.that = cc in
    never_itself d.that p f w (subst (λ (u : List ℕ). DifferAt u d.that p f w) here d.differs)

-- ---- plans

one_planned : (texts : List (Change (List ℕ))) (plan : PlanEntry) (x y : List Posting) → IsPlanned texts plan x → IsPlanned texts plan y → x ≡ y
one_planned texts plan x y a b = one_list_of (frequency_in texts plan.word) 0 plan.horizon.seconds x y a b

differs_unsound : (word : List ℕ) (s p : ℕ) (f w : Option ℕ) (texts : List (Change (List ℕ))) (pages : List ℕ) (plan : PlanEntry) → HasDifference word s p f w texts pages plan → IsSound texts pages plan → ⊥
differs_unsound word s p f w texts pages plan d sound =
    not_the_same (found_in pages plan) (wanted_of plan d.list) s p f w d.differs (sound.held ∙ ap (wanted_of plan) (one_planned texts plan sound.list d.list sound.planned d.planned))

more_unsound : (word : List ℕ) (taken least : ℕ) (texts : List (Change (List ℕ))) (pages : List ℕ) (plan : PlanEntry) → TakesMore word taken least texts pages plan → IsSound texts pages plan → ⊥
more_unsound word taken least texts pages plan m sound =
    let same = one_planned texts plan m.list sound.list m.planned sound.planned in
    let back = sym same in
    let L : List Posting → Type 0 = λ l. IsLeastPlan l plan.fraction plan.cuts plan.horizon.seconds in
    let is : IsLeastPlan sound.list plan.fraction plan.cuts plan.horizon.seconds = sound.least (m.asked.0, (rw back m.asked.1)) in
    omega (arith, no_more m.list plan.fraction plan.cuts plan.horizon.seconds least (subst L back is) m.least_is, m.taken_is, m.more)

-- the first plan that isn't sound
fault_sound : (fault : List (Change (List ℕ)) → List ℕ → PlanEntry → Type 0) (words segments : ℕ) (texts : List (Change (List ℕ))) (pages : List ℕ) (plans : List StoredPlan)
    → ((plan : PlanEntry) → fault texts pages plan → IsSound texts pages plan → ⊥) → FirstFault fault texts pages plans → AllSound words segments texts pages plans → ⊥
fault_sound fault words segments texts pages plans unsound first all =
    let S : StoredPlan → Type 0 = λ s. IsSound texts pages s.plan in
    unsound first.stored.plan first.there (all_at S first.front first.back first.stored (subst (λ (l : List StoredPlan). All S l) first.plans_are all.sound))

-- two faults are those of one plan
one_plan : (fault other : List (Change (List ℕ)) → List ℕ → PlanEntry → Type 0) (texts : List (Change (List ℕ))) (pages : List ℕ) (plans : List StoredPlan)
    → ((plan : PlanEntry) → fault texts pages plan → IsSound texts pages plan → ⊥) → ((plan : PlanEntry) → other texts pages plan → IsSound texts pages plan → ⊥)
    → FirstFault fault texts pages plans → FirstFault other texts pages plans → (plan : PlanEntry) × (fault texts pages plan × other texts pages plan)
one_plan fault other texts pages plans unsound ill a b =
    let S : StoredPlan → Type 0 = λ s. IsSound texts pages s.plan in
    let same = (one_at S a.front b.front a.stored b.stored a.back b.back (sym a.plans_are ∙ b.plans_are) a.sound b.sound (unsound a.stored.plan a.there) (ill b.stored.plan b.there)).same in
    (a.stored.plan, (a.there, subst (λ (s : StoredPlan). other texts pages s.plan) (sym same) b.there))

-- ---- verdicts

pub bad_unread : (texts : List (Change (List ℕ))) (doc : DocId) (at : Time) → IsFirstBad texts doc at → All IsText texts → ⊥
bad_unread texts doc at b all = b.bad (All-contains IsText texts b.change all b.among)

one_doc : (c d : DocId) → c.0 ≡ d.0 → c ≡ d
one_doc c d same = λ i. record { 0 = same i }

up_both : (x y : Change (List ℕ)) → IsUpTo x y → IsUpTo y x → (x.doc.0 ≡ y.doc.0) × (x.at.seconds ≡ y.at.seconds)
up_both x y (inl a) (inl b) = absurd (omega (arith, a, b))
up_both x y (inl a) (inr b) = absurd (omega (arith, a, b.0))
up_both x y (inr a) (inl b) = absurd (omega (arith, a.0, b))
up_both x y (inr a) (inr b) = (a.0, omega (arith, a.1, b.1))

one_bad : (texts : List (Change (List ℕ))) (c d : DocId) (s t : Time) → IsFirstBad texts c s → IsFirstBad texts d t → (c ≡ d) × (s ≡ t)
one_bad texts c d s t a b =
    let F : Change (List ℕ) → Change (List ℕ) → Type 0 = λ x y. ¬ (IsText y) → IsUpTo x y in
    let one = All-contains (F a.change) texts b.change a.first b.among b.bad in
    let other = All-contains (F b.change) texts a.change b.first a.among a.bad in
    let both = up_both a.change b.change one other in (
      a.doc_is ∙ one_doc a.change.doc b.change.doc both.0 ∙ sym b.doc_is,
      a.at_is ∙ same_time a.change.at b.change.at both.1 ∙ sym b.at_is,
    )

both_differ : (texts : List (Change (List ℕ))) (pages : List ℕ) (v u : List ℕ) (s t p q : ℕ) (f w x y : Option ℕ) (plan : PlanEntry) → HasDifference v s p f w texts pages plan → HasDifference u t q x y texts pages plan
    → Differs v s p f w ≡ Differs u t q x y
both_differ texts pages v u s t p q f w x y plan a b =
    let same = one_planned texts plan b.list a.list b.planned a.planned in
    let there = subst (λ (l : List Posting). SegmentDiffers (found_in pages plan) (wanted_of plan l) t q x y) same b.differs in
    let spot = one_spot (found_in pages plan) (wanted_of plan a.list) s t p q f w x y a.differs there in
    let e0 : v ≡ u = a.word_is ∙ sym b.word_is in
    let e1 = spot.segment_is in
    let e2 = spot.place_is in
    let e3 = spot.found_is in
    let e4 = spot.wanted_is in
    cc

both_more : (texts : List (Change (List ℕ))) (pages : List ℕ) (v u : List ℕ) (k l m n : ℕ) (plan : PlanEntry) → TakesMore v k l texts pages plan → TakesMore u m n texts pages plan → NotLeast v k l ≡ NotLeast u m n
both_more texts pages v u k l m n plan a b =
    let same = one_planned texts plan b.list a.list b.planned a.planned in
    let e0 : v ≡ u = a.word_is ∙ sym b.word_is in
    let e1 : k ≡ m = a.taken_is ∙ ap (λ (list : List Posting). plan_space list plan.cuts plan.horizon.seconds) (sym same) ∙ sym b.taken_is in
    let e2 : l ≡ n = one_least a.list plan.fraction plan.cuts plan.horizon.seconds l n a.least_is (subst (λ (list : List Posting). IsLeastSpace list plan.fraction plan.cuts plan.horizon.seconds n) same b.least_is) in
    cc

not_both : (texts : List (Change (List ℕ))) (pages : List ℕ) (v u : List ℕ) (s p : ℕ) (f w : Option ℕ) (k l : ℕ) (plan : PlanEntry) → HasDifference v s p f w texts pages plan → TakesMore u k l texts pages plan → ⊥
not_both texts pages v u s p f w k l plan a b =
    not_the_same (found_in pages plan) (wanted_of plan a.list) s p f w a.differs (b.held ∙ ap (wanted_of plan) (one_planned texts plan b.list a.list b.planned a.planned))

one_says : (texts : List (Change (List ℕ))) (pages : List ℕ) (plans : List StoredPlan) (one other : Verdict) → Says one texts pages plans → Says other texts pages plans → one ≡ other
one_says texts pages plans (Sound a b) (Sound c d) x y =
    let e : a ≡ c = x.words_are ∙ sym y.words_are in
    let f : b ≡ d = x.segments_are ∙ sym y.segments_are in
    cc
one_says texts pages plans (Sound a b) (Differs v s p f w) x y = absurd (fault_sound (HasDifference v s p f w) a b texts pages plans (differs_unsound v s p f w texts pages) y x)
one_says texts pages plans (Sound a b) (NotLeast v k l) x y = absurd (fault_sound (TakesMore v k l) a b texts pages plans (more_unsound v k l texts pages) y x)
one_says texts pages plans (Sound a b) (BadText c t) x y = absurd (bad_unread texts c t y.1 (x.utf8 y.0))
one_says texts pages plans (Differs v s p f w) (Sound a b) x y = absurd (fault_sound (HasDifference v s p f w) a b texts pages plans (differs_unsound v s p f w texts pages) x y)
one_says texts pages plans (Differs v s p f w) (Differs u t q g z) x y =
    let both = one_plan (HasDifference v s p f w) (HasDifference u t q g z) texts pages plans (differs_unsound v s p f w texts pages) (differs_unsound u t q g z texts pages) x y in
    both_differ texts pages v u s t p q f w g z both.0 both.1.0 both.1.1
one_says texts pages plans (Differs v s p f w) (NotLeast u k l) x y =
    let both = one_plan (HasDifference v s p f w) (TakesMore u k l) texts pages plans (differs_unsound v s p f w texts pages) (more_unsound u k l texts pages) x y in
    absurd (not_both texts pages v u s p f w k l both.0 both.1.0 both.1.1)
one_says texts pages plans (Differs v s p f w) (BadText c t) x y = absurd (bad_unread texts c t y.1 x.utf8)
one_says texts pages plans (NotLeast v k l) (Sound a b) x y = absurd (fault_sound (TakesMore v k l) a b texts pages plans (more_unsound v k l texts pages) x y)
one_says texts pages plans (NotLeast v k l) (Differs u s p f w) x y =
    let both = one_plan (TakesMore v k l) (HasDifference u s p f w) texts pages plans (more_unsound v k l texts pages) (differs_unsound u s p f w texts pages) x y in
    absurd (not_both texts pages u v s p f w k l both.0 both.1.1 both.1.0)
one_says texts pages plans (NotLeast v k l) (NotLeast u m n) x y =
    let both = one_plan (TakesMore v k l) (TakesMore u m n) texts pages plans (more_unsound v k l texts pages) (more_unsound u m n texts pages) x y in
    both_more texts pages v u k l m n both.0 both.1.0 both.1.1
one_says texts pages plans (NotLeast v k l) (BadText c t) x y = absurd (bad_unread texts c t y.1 x.utf8)
one_says texts pages plans (BadText c t) (Sound a b) x y = absurd (bad_unread texts c t x.1 (y.utf8 x.0))
one_says texts pages plans (BadText c t) (Differs v s p f w) x y = absurd (bad_unread texts c t x.1 y.utf8)
one_says texts pages plans (BadText c t) (NotLeast v k l) x y = absurd (bad_unread texts c t x.1 y.utf8)
one_says texts pages plans (BadText c s) (BadText d t) x y =
    let both = one_bad texts c d s t x.1 y.1 in
    let e = both.0 in
    let f = both.1 in
    cc

pub tells_one : (texts : List (Change (List ℕ))) (pages : List ℕ) (plans : List StoredPlan) (one other : Verdict) → Tells one texts pages plans → Tells other texts pages plans → one ≡ other
tells_one texts pages plans one other x y =
    let P : List StoredPlan → Type 0 = λ l. Says other texts pages l in
    one_says texts pages x.0 one other x.2 (subst P (sym (one_way (words_in texts) plans x.0 y.0 x.1 y.1)) y.2)

pub verdicts_are_one : OneVerdict
verdicts_are_one journal changes pages plans one other x y = tells_one (with_texts journal changes) pages plans one other x y
