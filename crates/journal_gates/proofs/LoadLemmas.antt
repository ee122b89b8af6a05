-- What a load does to the disk, and what it finds.
use Rattle.std.proofs.Common.{◌≡◌, ℕ, ◌<◌, ◌≤◌, List, [], ◌∷◌, ◌++◌, length, take, drop, get_or, Result, Err, refl, inl, inr, ap, subst, sym, ◌∙◌, arith, append_assoc, length-append}
use Rattle.std.proofs.lemmas.List.{append-nil, take-take, get_or-take}
use Rattle.machine_model.specs.Areas.{Bytes}
use Rattle.machine_model.specs.States.{DiskState, moment}
use Rattle.machine_model.specs.Images.{MayLeave, Leaves, Only}
use Rattle.machine_model.specs.Moments.{LeavesOnly, LeftSince}
use Rattle.machine_model.specs.Calls.{OnlyReads, OnlyFails, Syncs, IsSynced, WritesThrough, Stays}
use Rattle.machine_model.specs.declared.area.Area.TheVariants.{Journal}
use Rattle.machine_model.proofs.MomentLemmas.{joined, goes_on_joins, goes_on_reads, since_now, allowed_left}
use Rattle.machine_model.proofs.ImageLemmas.{only_synced}
use Rattle.journal_gates.specs.declared.head.Head.{Head}
use Rattle.journal_gates.specs.Header.{header}
use Rattle.journal_gates.specs.Records.{front}
use Rattle.journal_gates.specs.Spelled.{Spells, EachSpells}
use Rattle.journal_gates.specs.Refused.{IsFirstWrong, IsCutShort, IsNotJournal}
use Rattle.journal_gates.specs.Found.{IsLaidOut, IsFound}
use Rattle.journal_gates.specs.InStep.{IsInStep}
use Rattle.journal_gates.specs.Crash.{KeepsBodies, KeepsPages}
use Rattle.journal_gates.proofs.SpellingLemmas.{length-header, spells_once}
use Rattle.journal_gates.proofs.TornLemmas.{written_behind}
use Rattle.journal_gates.proofs.InStepLemmas.{step_spells}

-- reads leave the images that are allowed
reads_leave : (a b : DiskState) → OnlyReads a b → LeavesOnly a b (λ image beside. Leaves a.now image beside)
reads_leave a b same = λ image beside left.
    let L : DiskState → Type 0 = λ d. LeftSince d (moment a) image beside in
    since_now a image beside (subst L same left)

-- a sync, and then reads
pub sync_reads : (a b c : DiskState) → Syncs a b → OnlyReads b c → Syncs a c
sync_reads a b c syncs same = record {
  goes_on = goes_on_joins syncs.goes_on (goes_on_reads b c same);
  holds = ap (λ (d : DiskState). d.holds) same ∙ syncs.holds;
  beside = ap (λ (d : DiskState). d.now.beside) same ∙ syncs.beside;
  during = joined (λ image beside. Leaves a.now image beside) syncs.goes_on syncs.during (goes_on_reads b c same) (λ image beside left.
      let now = reads_leave b c same image beside left in
      let B : List ℕ → Type 0 = λ x. Leaves a.now image x in
      subst B (sym now.1) (syncs.during image b.now.beside (allowed_left b (moment a) image now.0)));
}

-- after a good sync, and a call that only fails, there is one image
pub one_settled : (a b c : DiskState) → Syncs a b → IsSynced a b → OnlyFails b c → Only c.holds c
one_settled a b c syncs synced same =
    let H : Bytes → Type 0 = λ h. Only h b in
    let O : DiskState → Type 0 = λ d. Only d.holds d in
    subst O (sym same) (subst H (sym syncs.holds) (only_synced a b synced))

-- and reads leave it the only one
pub one_read : (a b : DiskState) → OnlyReads a b → Only a.holds a → Only b.holds b
one_read a b same one =
    let O : DiskState → Type 0 = λ d. Only d.holds d in
    subst O (sym same) one

KeptBodies : List (List ℕ) → DiskState → Bytes → List ℕ → Type 0
KeptBodies bodies old image beside = Spells image.journal bodies × (beside ≡ old.now.beside)

pub kept_sync : (bodies : List (List ℕ)) (a b : DiskState) → EachSpells a bodies → Syncs a b → KeepsBodies bodies a b
unfolding KeptBodies
kept_sync bodies a b each syncs = record {
  goes_on = syncs.goes_on;
  images = λ image beside left.
      let was = syncs.during image beside left in (each image was.0, was.1);
}

kept_join : {bodies : List (List ℕ)} {a b c : DiskState} → KeepsBodies bodies a b → b.now.beside ≡ a.now.beside → KeepsBodies bodies b c → KeepsBodies bodies a c
unfolding KeptBodies
kept_join {bodies} {a} {b} {c} first same second = record {
  goes_on = goes_on_joins first.goes_on second.goes_on;
  images = joined (KeptBodies bodies a) first.goes_on first.images second.goes_on (λ image beside left.
      let later = second.images image beside left in (later.0, later.1 ∙ same));
}

pub kept_reads : (bodies : List (List ℕ)) (a b c : DiskState) → KeepsBodies bodies a b → OnlyReads b c → KeepsBodies bodies a c
unfolding KeptBodies
kept_reads bodies a b c first same = record {
  goes_on = goes_on_joins first.goes_on (goes_on_reads b c same);
  images = joined (KeptBodies bodies a) first.goes_on first.images (goes_on_reads b c same) (λ image beside left.
      let now = reads_leave b c same image beside left in
      let was = first.images image b.now.beside (allowed_left b (moment a) image now.0) in
      (was.0, now.1 ∙ was.1));
}

pub pages_sync : (a b : DiskState) → Syncs a b → KeepsPages a b
pages_sync a b syncs = record {
  goes_on = syncs.goes_on;
  images = λ image beside left.
      let was = syncs.during image beside left in (image, was.0, refl, was.1);
}

-- while a new journal is written each image has at most 17 bytes
pub begun : (a b : DiskState) → length a.holds.journal ≤ 17 → Only a.holds a → WritesThrough Journal 0 17 a b → KeepsBodies [] a b
begun a b short one through = record {
  goes_on = through.goes_on;
  images = λ image beside left.
      let w = through.images image beside left in
      let was : length w.0.journal ≤ 17 = omega (arith, short, ap (λ (i : Bytes). length i.journal) (one w.0 w.1)) in
      let few : length image.journal ≤ 17 = elim w.2 as (λ _. length image.journal ≤ 17) [
        | inl equal ↦ omega (arith, was, ap (λ (i : Bytes). length i.journal) equal)
        | inr torn ↦ omega (arith, was, torn.here.no_longer)
      ] in
      (inl (few, refl), w.3);
}

length-front_none : length (front []) ≡ 16
length-front_none = omega (arith, length-append header [], length-header)

-- and then the disk is in step with it
pub begun_in_step : (a b : DiskState) (bytes : List ℕ) (end : ℕ) (heads : List Head) → bytes ≡ header ++ 0 ∷ [] → Stays Journal 0 bytes a b → end ≡ 17 → heads ≡ [] → IsLaidOut [] end heads × IsInStep b end []
begun_in_step a b bytes end heads new stays here none =
    let rest = drop (length bytes) a.holds.journal in
    let journal : b.holds.journal ≡ front [] ++ 0 ∷ rest = ap (λ (i : Bytes). i.journal) stays.holds ∙ written_behind 0 bytes [] a.holds.journal refl
    ∙ ap (λ (l : List ℕ). l ++ rest) new ∙ append_assoc header (0 ∷ []) rest ∙ ap (λ (l : List ℕ). l ++ 0 ∷ rest) (sym (append-nil header)) in (
      record { end_is = omega (arith, here, length-front_none); heads_are = none },
      record {
        gate = 0;
        shut = λ same. cc;
        fit = λ k d inside. absurd (omega (arith, inside));
        end_is = omega (arith, here, length-front_none);
        images = λ image allowed. (rest, ap (λ (i : Bytes). i.journal) (stays.only image allowed) ∙ journal);
      },
    )

-- a journal of at most 17 bytes spells no body
pub none_spelled : (bytes : List ℕ) (bodies : List (List ℕ)) → length bytes ≤ 17 → Spells bytes bodies → bodies ≡ []
none_spelled bytes bodies few spells = spells_once bytes bodies [] spells (inl (few, refl))

-- and nothing is found in it
pub none_found : (bytes : List ℕ) (end : ℕ) (heads : List Head) → length bytes ≤ 17 → IsLaidOut [] end heads → IsFound bytes end heads
none_found bytes end heads few laid_out = record { bodies = []; spelled = inl (few, refl); laid_out = laid_out; not_refused = λ at refused. omega (arith, few, refused.0) }

pub none_in_step : (b : DiskState) (end : ℕ) (heads : List Head) (bodies : List (List ℕ)) → bodies ≡ [] → MayLeave b.now b.holds → IsLaidOut [] end heads × IsInStep b end [] → IsLaidOut bodies end heads × IsInStep b end bodies × Spells b.holds.journal bodies
none_in_step b end heads bodies none now begun =
    let S : List (List ℕ) → Type 0 = λ l. IsLaidOut l end heads × IsInStep b end l × Spells b.holds.journal l in
    subst S (sym none) (begun.0, begun.1, step_spells b end [] begun.1 b.holds now)

pub kept_begun : (bodies : List (List ℕ)) (a b c : DiskState) → bodies ≡ [] → EachSpells a bodies → Syncs a b → KeepsBodies [] b c → KeepsBodies bodies a c
kept_begun bodies a b c none each syncs second =
    let K : List (List ℕ) → Type 0 = λ l. KeepsBodies l b c in
    kept_join (kept_sync bodies a b each syncs) syncs.beside (subst K (sym none) second)

-- a wrong byte among the first is wrong in the journal
pub wrong_in_front : (bytes journal : List ℕ) (at : ℕ) → bytes ≡ take 16 journal → 17 < length journal → IsFirstWrong bytes at → IsNotJournal journal at
wrong_in_front bytes journal at is longer wrong =
    let inside : at < 16 = omega (arith, wrong.inside, length-header) in
    let front : take at bytes ≡ take at journal = ap (take at) is ∙ take-take at 16 journal (omega (arith, inside)) in
    let byte : get_or bytes at 0 ≡ get_or journal at 0 = ap (λ (l : List ℕ). get_or l at 0) is ∙ get_or-take 16 journal at 0 inside in
    (longer, inl (record { inside = wrong.inside; before = sym front ∙ wrong.before; wrong = λ equal. wrong.wrong (byte ∙ equal) }))

pub right_in_front : (bytes journal : List ℕ) → bytes ≡ take 16 journal → take 16 bytes ≡ header → take 16 journal ≡ header
right_in_front bytes journal is right = sym (ap (take 16) is ∙ take-take 16 16 journal (omega arith)) ∙ right

-- a journal that is cut short is refused, whatever was read since
pub refused_cut : (a b : DiskState) (at : ℕ) → OnlyReads a b → 17 < length a.holds.journal → IsCutShort b.holds.journal at → IsNotJournal a.holds.journal at
refused_cut a b at same longer cut = let C : DiskState → Type 0 = λ d. IsCutShort d.holds.journal at in (longer, inr (subst C same cut))

pub found_before : (a b : DiskState) (end : ℕ) (heads : List Head) → OnlyReads a b → IsFound b.holds.journal end heads → IsFound a.holds.journal end heads
found_before a b end heads same found = let F : DiskState → Type 0 = λ d. IsFound d.holds.journal end heads in subst F same found

-- what a journal spells is what was found in it
found_are : (bytes : List ℕ) (end : ℕ) (heads : List Head) (bodies : List (List ℕ)) → (found : IsFound bytes end heads) → Spells bytes bodies → IsLaidOut bodies end heads
found_are bytes end heads bodies found spells = subst (λ (b : List (List ℕ)). IsLaidOut b end heads) (spells_once bytes found.bodies bodies found.spelled spells) found.laid_out

-- and the one image is in step with it
found_in_step : (d : DiskState) (end : ℕ) (heads : List Head) (bodies : List (List ℕ)) → Only d.holds d → 17 < length d.holds.journal
    → IsFound d.holds.journal end heads → Spells d.holds.journal bodies → IsLaidOut bodies end heads × IsInStep d end bodies × Spells d.holds.journal bodies
found_in_step d end heads bodies one longer found (inl few) = absurd (omega (arith, longer, few.0))
found_in_step d end heads bodies one longer found (inr long) =
    let laid_out = found_are d.holds.journal end heads bodies found (inr long) in (
      laid_out,
      record { gate = long.gate; shut = long.shut; fit = long.fit; end_is = laid_out.end_is; images = λ image allowed. (long.rest, ap (λ (i : Bytes). i.journal) (one image allowed) ∙ long.whole) },
      inr long,
    )

step_read : (a b : DiskState) (end : ℕ) (bodies : List (List ℕ)) → OnlyReads a b → IsInStep a end bodies → IsInStep b end bodies
step_read a b end bodies same step = record {
  gate = step.gate;
  shut = step.shut;
  fit = step.fit;
  end_is = step.end_is;
  images = λ image allowed.
      let M : DiskState → Type 0 = λ d. MayLeave d.now image in step.images image (subst M same allowed);
}

pub in_step_after : (a b : DiskState) (end : ℕ) (heads : List Head) (bodies : List (List ℕ)) → OnlyReads a b → Only a.holds a → 17 < length a.holds.journal
    → IsFound a.holds.journal end heads → Spells a.holds.journal bodies → IsLaidOut bodies end heads × IsInStep b end bodies × Spells b.holds.journal bodies
in_step_after a b end heads bodies same one longer found spells =
    let S : DiskState → Type 0 = λ d. Spells d.holds.journal bodies in
    let there = found_in_step a end heads bodies one longer found spells in
    (there.0, step_read a b end bodies same there.1, subst S (sym same) spells)

-- what a call's error is where the caller hands it on
pub exit_is : {T U E : Type 0} (r : Result T E) (s : Result U E) (e y x : E) → r ≡ Err e → s ≡ Err y → y ≡ e → s ≡ Err x → r ≡ Err x
exit_is r s e y x was made same is = cc
