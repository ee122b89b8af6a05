-- What is chosen of words' lists, by the plans in hand.
use Rattle.std.proofs.Common.{◌≡◌, ℕ, ◌+◌, ◌<◌, ◌^◌, Bool, true, false, List, [], ◌∷◌, ◌++◌, length, get_or, filter, cond, All, Option, Some, None, Result, Ok, Err, refl, ap, sym, subst, ◌∙◌, inl, arith}
use Rattle.std.specs.List.{AllZip}
use Rattle.machine_model.specs.Areas.{Both}
use Rattle.machine_model.specs.Calls.{OnlyReads}
use Rattle.machine_model.specs.States.{DiskState}
use Rattle.model_archive.specs.Answers.{IsWordList, frequency_at}
use Rattle.base_types.specs.declared.posting.Posting.{Posting}
use Rattle.lists_postings.specs.Clips.{IsClip, IsCut}
use Rattle.lists_postings.specs.Lists.{meets, sublist}
use Rattle.lists_postings.proofs.Clipping.{clip_of_list_of}
use Rattle.journal_entries.specs.declared.plan.PlanEntry.{PlanEntry}
use Rattle.query_eval.specs.declared.part.Part.{Part}
use Rattle.model_archive.specs.declared.stored.StoredPlan.{StoredPlan}
use Rattle.model_archive.specs.Histories.{History}
use Rattle.model_archive.specs.Plans.{is_another, plan_of}
use Rattle.model_archive.specs.Chosen.{AreChosen, GathersOf, IsChosenOf, IsFirstDamage, IsTailFor}
use Rattle.archive_hand.specs.States.{ArchiveState, StandsFor, IsSameButCache, Reaches}
use Rattle.archive_entries.specs.Live.{IsPlanAt}
use Rattle.std.specs.Result.{IsErrAnd}
use Rattle.archive_questions.proofs.CacheLemmas.{reaches_but_cache}
use Rattle.archive_questions.proofs.LiveLemmas.{plan_found, none_found}
use Rattle.pages_sublists.specs.Fetching.{IfDamaged}
use Rattle.pages_sublists.specs.declared.why.Damage.{Damage}
use Rattle.pages_sublists.specs.declared.why.FetchError.{FetchError}
use Rattle.pages_sublists.specs.declared.why.FetchError.TheVariants as fetches

-- ---- one word more

pub chosen_more : (a b : ℕ) (h : History) (pages : List ℕ) (words : List (List ℕ)) (parts : List Part) (word : List ℕ) (part : Part) → AreChosen h pages a b words parts
    → IsChosenOf h pages word (plan_of h word) a b part.list.items part.read → AreChosen h pages a b (words ++ word ∷ []) (parts ++ part ∷ [])
chosen_more a b h pages [] [] word part are is = (is, tt)
chosen_more a b h pages [] (q ∷ parts) word part are is = absurd are
chosen_more a b h pages (w ∷ words) [] word part are is = absurd are
chosen_more a b h pages (w ∷ words) (q ∷ parts) word part are is = (are.0, chosen_more a b h pages words parts word part are.1 is)

-- what was kept is kept again
kept_twice : (keep : Posting → Bool) (list : List Posting) → filter keep (filter keep list) ≡ filter keep list
kept_twice keep [] = refl
kept_twice keep (p ∷ list) = go (keep p) refl (kept_twice keep list)
  where
    go : (b : Bool) → keep p ≡ b → filter keep (filter keep list) ≡ filter keep list → filter keep (cond b (p ∷ filter keep list) (filter keep list)) ≡ cond b (p ∷ filter keep list) (filter keep list)
    go true e rest = ap (λ (c : Bool). cond c (p ∷ filter keep (filter keep list)) (filter keep (filter keep list))) e ∙ ap (λ (l : List Posting). p ∷ l) rest
    go false e rest = rest

-- what a word's list has from the horizon on, cut to begin there, is its tail
pub cut_tail : (h : History) (word : List ℕ) (b horizon : ℕ) (whole rows tail : List Posting) → horizon < b → IsWordList h word whole → rows ≡ sublist horizon (2 ^ 40) whole → IsClip horizon (2 ^ 40) rows tail
    → IsTailFor h word b horizon tail
cut_tail h word b horizon whole rows tail past is rows_are clip =
    let C : List Posting → Type 0 = λ l. AllZip (IsCut horizon (2 ^ 40)) l tail in
    let cut = subst C (ap (sublist horizon (2 ^ 40)) rows_are ∙ kept_twice (meets horizon (2 ^ 40)) whole) clip in
    inl (past, clip_of_list_of (λ d t. frequency_at h word (record { 0 = d }) t) 0 (2 ^ 40) horizon (2 ^ 40) whole tail (omega arith) (omega arith) is cut)

-- the plan that stands there is the word's
pub planned_is : (a : ArchiveState) (h : History) (word : List ℕ) (at : ℕ) (s : StoredPlan) → StandsFor a h → IsPlanAt a.shelf.plans word at → s ≡ get_or a.shelf.plans at s → plan_of h word ≡ Some s.plan
planned_is a h word at s stands is same =
    let P : List StoredPlan → Type 0 = λ ps. IsPlanAt ps word at in
    plan_found h word at s (subst P stands.plans_are is) (same ∙ ap (λ (ps : List StoredPlan). get_or ps at s) stands.plans_are)

pub unplanned_is : (a : ArchiveState) (h : History) (word : List ℕ) → StandsFor a h → All (λ s. is_another word s ≡ true) a.shelf.plans → plan_of h word ≡ None
unplanned_is a h word stands others =
    let P : List StoredPlan → Type 0 = λ ps. All (λ s. is_another word s ≡ true) ps in
    none_found h word (subst P stands.plans_are others)

-- a damage that is handed on
pub damage_of : (P : Damage → Type 0) (e : FetchError) (d : Damage) → IfDamaged P e → e ≡ fetches.Damaged d → P d
damage_of P (fetches.Damaged x) d holds is = let same : x ≡ d = cc in subst P same holds
damage_of P fetches.Failed d holds is = absurd cc
damage_of P fetches.Memory d holds is = absurd cc

-- what was gathered of a plan, with its tail, is chosen of the word
pub planned_chosen : (h : History) (pages : List ℕ) (word : List ℕ) (plan : PlanEntry) (a b : ℕ) (stored tail list : List Posting) (n read : ℕ) → plan_of h word ≡ Some plan → GathersOf pages plan a b (Ok (stored, n))
    → IsTailFor h word b plan.horizon.seconds tail → list ≡ stored ++ tail → read ≡ n + length tail
    → IsChosenOf h pages word (plan_of h word) a b list read
planned_chosen h pages word plan a b stored tail list n read live gathers is list_is read_is =
    let P : Option PlanEntry → Type 0 = λ o. IsChosenOf h pages word o a b list read in
    subst P (sym live) (stored, tail, n, gathers, is, list_is, read_is)

-- of a word without a plan it is the whole list
pub whole_chosen : (h : History) (pages : List ℕ) (word : List ℕ) (a b : ℕ) (list whole : List Posting) (read : ℕ) → plan_of h word ≡ None → IsWordList h word whole → list ≡ sublist a b whole → read ≡ length whole
    → IsChosenOf h pages word (plan_of h word) a b list read
whole_chosen h pages word a b list whole read none is list_is read_is =
    let P : Option PlanEntry → Type 0 = λ o. IsChosenOf h pages word o a b list read in
    subst P (sym none) (whole, is, list_is, read_is)

-- a fetch's error that was handed on
pub handed : {T : Type 0} (r : Result T FetchError) (e : FetchError) (d : Damage) → IsErrAnd r (λ x. x ≡ e) → r ≡ Err (fetches.Damaged d) → e ≡ fetches.Damaged d
handed {T = T} r e d and is = sym (subst (λ (x : Result T FetchError). IsErrAnd x (λ y. y ≡ e)) is and)

-- the first damage in a window is so by equal times and words
pub first_damage : (h : History) (pages : List ℕ) (from a to b : ℕ) (ws words : List (List ℕ)) (d : Damage) → from ≡ a → to ≡ b → ws ≡ words
    → IsFirstDamage h pages from to ws d → IsFirstDamage h pages a b words d
first_damage h pages from a to b ws words d begins ends same first =
    let F : ℕ → Type 0 = λ n. IsFirstDamage h pages n b words d in
    let T : ℕ → Type 0 = λ n. IsFirstDamage h pages from n words d in
    let W : List (List ℕ) → Type 0 = λ l. IsFirstDamage h pages from to l d in
    subst F begins (subst T ends (subst W same first))

-- ---- over reads

pub reaches_on : (a b : DiskState) (x y : ArchiveState) → OnlyReads a b → IsSameButCache x y → Reaches a.reach x → Reaches b.reach y
reaches_on a b x y same but_cache within =
    let R : Both ℕ → Type 0 = λ r. Reaches r y in
    subst R (sym (ap (λ (d : DiskState). d.reach) same)) (reaches_but_cache a.reach x y but_cache within)
