-- What is checked with its digests is held, and what is held is checked so.
use Rattle.std.proofs.Common.{◌≡◌, ℕ, List, [], ◌∷◌, ◌++◌, length, map, All, refl, ap, subst, ◌∙◌}
use Rattle.std.specs.List.{flat_map}
use Rattle.std.proofs.lemmas.List.Elements.{All-nil, All-cons, All-head, All-tail}
use Rattle.std.proofs.lemmas.List.Sorted.{All-permutation, IsPermutation-sym}
use Rattle.machine_model.specs.Areas.{Bytes}
use Rattle.base_types.specs.declared.extent.Extent.{Extent}
use Rattle.base_types.specs.declared.posting.Posting.{Posting}
use Rattle.pages_area.specs.Live.{IsInside}
use Rattle.pages_area.specs.Ranges.{bytes_in}
use Rattle.lists_versions.specs.declared.change.Change.{Change}
use Rattle.lists_index.specs.Words.{words_in}
use Rattle.journal_entries.specs.declared.place.Layout.{Layout}
use Rattle.journal_entries.specs.declared.place.Place.{Place}
use Rattle.journal_entries.specs.declared.plan.PlanEntry.{PlanEntry}
use Rattle.pages_sublists.specs.Preparing.{spellings}
use Rattle.pages_sublists.specs.Segments.{seconds, EachSegment, HoldsSublist}
use Rattle.model_archive.specs.declared.stored.StoredPlan.{StoredPlan}
use Rattle.model_archive.specs.declared.verdict.Verdict.{Verdict}
use Rattle.model_archive.specs.declared.verdict.Verdict.TheVariants.{Sound}
use Rattle.model_archive.specs.Stands.{Stands}
use Rattle.model_archive.specs.Histories.{History, changes}
use Rattle.model_archive.specs.Holding.{HoldsPlan}
use Rattle.model_archive.specs.Plans.{live_plans, extents_of}
use Rattle.archive_entries.proofs.PlaceLemmas.{texts_are}
use Rattle.archive_check.specs.Checked.{IsChecked}
use Rattle.archive_check.specs.declared.finding.Finding.{Finding}
use Rattle.archive_check.specs.declared.finding.Finding.TheVariants.{Told, BadDigest}
use Rattle.archive_check.specs.Verdicts.{with_texts, IsSound, Tells}
use Rattle.archive_check.specs.Digests.{HasDigest, HasDigests, IsExamined}
use Rattle.archive_check.specs.Laws.{SoundWithDigestsIsHeld, WhatIsHeldHasItsDigests, WhatStandsIsFoundSound}
use Rattle.archive_check.proofs.DigestLemmas.{not_digests}
use Rattle.model_archive.proofs.OrderLemmas.{are_moved}
use Rattle.model_archive.proofs.VerifyLemmas.{all_at}
use Rattle.archive_check.proofs.SoundLemmas.{stands_sound}

-- ---- bytes and digests that are right are held

each_held : (layout : Layout) (list : List Posting) (pages : List ℕ) (cuts : List ℕ) (h : ℕ) (places : List Place) → map (λ place. bytes_in place.extent pages) places ≡ spellings layout list cuts h
    → All (HasDigest pages) places → All (λ place. IsInside (length pages) place.extent) places → EachSegment (HoldsSublist layout list pages) cuts h places
each_held layout list pages [] h [] same digests inside = tt
each_held layout list pages [] h (p ∷ places) same digests inside = absurd cc
each_held layout list pages (f ∷ cuts) h [] same digests inside = absurd cc
each_held layout list pages (f ∷ cuts) h (p ∷ places) same digests inside =
    let I : Place → Type 0 = λ place. IsInside (length pages) place.extent in
    let rest : map (λ place. bytes_in place.extent pages) places ≡ spellings layout list cuts h = cc in (
      record { inside = All-head I p places inside; bytes = cc; digest = All-head (HasDigest pages) p places digests },
      each_held layout list pages cuts h places rest (All-tail (HasDigest pages) p places digests) (All-tail I p places inside),
    )

plan_held : (h : History) (pages : List ℕ) (plan : PlanEntry) → IsSound (changes h) pages plan → HasDigests pages plan → All (λ place. IsInside (length pages) place.extent) plan.places → HoldsPlan h pages plan
plan_held h pages plan sound digests inside = record {
  list = sound.list;
  list_is = record { ordered = sound.planned.ordered; coalesced = sound.planned.coalesced; inside = sound.planned.inside; same = sound.planned.same };
  each = each_held plan.layout sound.list pages (seconds plan.cuts) plan.horizon.seconds plan.places sound.held digests inside;
}

-- what holds of the extents of places and of others
pub extents_split : (P : Extent → Type 0) (places : List Place) (rest : List Extent) → All P (map (λ (p : Place). p.extent) places ++ rest) → All (λ (p : Place). P p.extent) places × All P rest
extents_split P [] rest all = (All-nil (λ (p : Place). P p.extent), all)
extents_split P (p ∷ places) rest all =
    let more = extents_split P places rest (All-tail P p.extent (map (λ (p : Place). p.extent) places ++ rest) all) in
    (All-cons (λ (q : Place). P q.extent) p places (All-head P p.extent (map (λ (p : Place). p.extent) places ++ rest) all) more.0, more.1)

plans_held : (h : History) (pages : List ℕ) (live : List StoredPlan) → All (λ s. IsSound (changes h) pages s.plan) live → All (λ s. HasDigests pages s.plan) live
    → All (IsInside (length pages)) (flat_map (λ (s : StoredPlan). extents_of s.plan) live) → All (λ s. HoldsPlan h pages s.plan) live
plans_held h pages [] sound digests inside = All-nil (λ s. HoldsPlan h pages s.plan)
plans_held h pages (s ∷ live) sound digests inside =
    let S : StoredPlan → Type 0 = λ t. IsSound (changes h) pages t.plan in
    let D : StoredPlan → Type 0 = λ t. HasDigests pages t.plan in
    let both = extents_split (IsInside (length pages)) s.plan.places (flat_map (λ (s : StoredPlan). extents_of s.plan) live) inside in
    All-cons (λ t. HoldsPlan h pages t.plan) s live (plan_held h pages s.plan (All-head S s live sound) (All-head D s live digests) both.0)
    (plans_held h pages live (All-tail S s live sound) (All-tail D s live digests) both.1)

pub sound_is_held : SoundWithDigestsIsHeld
sound_is_held h image words segments spelled checked digests live =
    let cs = checked.0 in
    let T : List (Change (List ℕ)) → Type 0 = λ texts. Tells (Sound words segments) texts image.pages (live_plans h) in
    let told = subst T (texts_are image.journal h cs spelled checked.1) checked.2 in
    let S : StoredPlan → Type 0 = λ s. IsSound (changes h) image.pages s.plan in
    let sound : All S (live_plans h) = All-permutation S told.0 (live_plans h) (IsPermutation-sym (live_plans h) told.0 (are_moved (words_in (changes h)) (live_plans h) told.0 told.1)) told.2.sound in
    record { apart = live.1; each = plans_held h image.pages (live_plans h) sound digests live.0 }

-- ---- and what is held has them

each_digest : (layout : Layout) (list : List Posting) (pages : List ℕ) (cuts : List ℕ) (h : ℕ) (places : List Place) → EachSegment (HoldsSublist layout list pages) cuts h places → All (HasDigest pages) places
each_digest layout list pages [] h [] each = All-nil (HasDigest pages)
each_digest layout list pages [] h (p ∷ places) each = absurd each
each_digest layout list pages (f ∷ cuts) h [] each = absurd each
each_digest layout list pages (f ∷ cuts) h (p ∷ places) each = All-cons (HasDigest pages) p places each.0.digest (each_digest layout list pages cuts h places each.1)

all_digests : (h : History) (pages : List ℕ) (live : List StoredPlan) → All (λ s. HoldsPlan h pages s.plan) live → All (λ s. HasDigests pages s.plan) live
all_digests h pages [] held = All-nil (λ s. HasDigests pages s.plan)
all_digests h pages (s ∷ live) held =
    let H : StoredPlan → Type 0 = λ t. HoldsPlan h pages t.plan in
    let here = All-head H s live held in
    All-cons (λ t. HasDigests pages t.plan) s live (each_digest s.plan.layout here.list pages (seconds s.plan.cuts) s.plan.horizon.seconds s.plan.places here.each) (all_digests h pages live (All-tail H s live held))

pub held_digests : WhatIsHeldHasItsDigests
held_digests h pages held = all_digests h pages (live_plans h) held.each

-- where the pages hold the plans, no digest is found wrong
found_told : (h : History) (image : Bytes) (finding : Finding) → Stands h image → IsExamined h image finding → (verdict : Verdict) × (IsChecked h image verdict × (finding ≡ Told verdict))
found_told h image (Told verdict) stands examined = (verdict, ((examined.0, examined.1, examined.2.0), refl))
found_told h image (BadDigest word segment) stands examined =
    let bad = examined.2 in
    let first = bad.first in
    let D : StoredPlan → Type 0 = λ s. HasDigests image.pages s.plan in
    let moved = are_moved (words_in (with_texts image.journal examined.0)) (live_plans h) bad.ordered bad.by_number in
    let all = All-permutation D (live_plans h) bad.ordered moved (held_digests h image.pages stands.held) in
    absurd (not_digests image.pages first.stored.plan.places segment first.there (all_at D first.front first.back first.stored (subst (λ (l : List StoredPlan). All D l) first.plans_are all)))

pub found_sound : WhatStandsIsFoundSound
found_sound h image finding legal stands examined =
    let (verdict, (checked, is)) = found_told h image finding stands examined in
    is ∙ ap Told (stands_sound h image verdict legal stands checked)
