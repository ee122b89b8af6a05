-- Where a run stands joins over outcomes in a row, and gives what the definitions of specs/Runs say of an image.
use Rattle.std.proofs.Common.{Bool, true, false, All, ◌≡◌, ◌⊎◌, ℕ, ◌+◌, ◌<◌, ◌≤◌, zero, suc, List, [], ◌∷◌, ◌++◌, length, take, refl, inl, inr, ap, subst, sym, ◌∙◌, arith, append_assoc, length-append}
use Rattle.std.proofs.lemmas.Bool.{cases_lt}
use Rattle.std.proofs.lemmas.List.{append-nil, append_cancel_left}
use Rattle.std.proofs.lemmas.List.Elements.{All-head, All-tail}
use Rattle.machine_model.specs.Areas.{Bytes}
use Rattle.machine_model.specs.States.{DiskState}
use Rattle.machine_model.specs.Images.{MayLeave}
use Rattle.machine_model.specs.Moments.{LeavesOnly, GoesOn}
use Rattle.machine_model.specs.Pushes.{IsPrefix, OnlyShows}
use Rattle.machine_model.proofs.MomentLemmas.{joined, goes_on_joins}
use Rattle.model_archive.specs.Runs.{Outcome, IsRun, AfterStint, IsRunWith, AreStints, state_after, shown_by, IsAcknowledged, Reopens}
use Rattle.model_archive.specs.Standing.{StandsAlong, last_state, Carried, IsQuiet, AreQuiet}

pub state_after_all : {S R : Type 0} (state : S) (outcomes : List (Outcome R S)) → state_after state outcomes (length outcomes) ≡ last_state state outcomes
state_after_all state [] = refl
state_after_all state (outcome ∷ outcomes) = state_after_all outcome.next outcomes

-- outcomes behind don't count
pub state_after_front : {S R : Type 0} (state : S) (outcomes further : List (Outcome R S)) (j : ℕ) → j ≤ length outcomes → state_after state (outcomes ++ further) j ≡ state_after state outcomes j
state_after_front state [] further zero within = refl
state_after_front state [] further (suc j) within = absurd (omega (arith, within))
state_after_front state (outcome ∷ outcomes) further zero within = refl
state_after_front state (outcome ∷ outcomes) further (suc j) within = state_after_front outcome.next outcomes further j (omega (arith, within))

-- runs in a row
pub runs_join : {S C R : Type 0} (step : S → C → R → S → Type 0) (state : S) (commands more : List C) (outcomes further : List (Outcome R S))
    → IsRun step state commands outcomes → IsRun step (last_state state outcomes) more further → IsRun step state (commands ++ more) (outcomes ++ further)
runs_join step state [] more [] further one two = two
runs_join step state (c ∷ commands) more (o ∷ outcomes) further one two = (one.0, runs_join step o.next commands more outcomes further one.1 two)
runs_join step state [] more (o ∷ outcomes) further one two = absurd one
runs_join step state (c ∷ commands) more [] further one two = absurd one

pub last_state_joins : {S R : Type 0} (state : S) (outcomes further : List (Outcome R S)) → last_state state (outcomes ++ further) ≡ last_state (last_state state outcomes) further
last_state_joins state [] further = refl
last_state_joins state (o ∷ outcomes) further = last_state_joins o.next outcomes further

pub shown_by_joins : {S R : Type 0} (text : R → List ℕ) (outcomes further : List (Outcome R S)) → shown_by text (outcomes ++ further) ≡ shown_by text outcomes ++ shown_by text further
shown_by_joins text [] further = refl
shown_by_joins text (o ∷ outcomes) further = ap (λ (rest : List ℕ). text o.reply ++ rest) (shown_by_joins text outcomes further) ∙ sym (append_assoc (text o.reply) (shown_by text outcomes) (shown_by text further))

-- where more outcomes follow, a run that stood still stands
along_early : {S R : Type 0} (text : R → List ℕ) (stands : S → Bytes → Type 0) (state : S) (outcomes further : List (Outcome R S)) (image : Bytes) (shown : List ℕ)
    → StandsAlong text stands state outcomes image shown → StandsAlong text stands state (outcomes ++ further) image shown
along_early text stands state [] [] image shown along = along
along_early text stands state [] (o ∷ further) image shown along = inl along
along_early text stands state (o ∷ outcomes) further image shown (inl still) = inl still
along_early text stands state (o ∷ outcomes) further image shown (inr (inl next)) = inr (inl next)
along_early text stands state (o ∷ outcomes) further image shown (inr (inr (rest, shown_is, on))) = inr (inr (rest, shown_is, along_early text stands o.next outcomes further image rest on))

-- what stands after the outcomes stands in the whole run
along_late : {S R : Type 0} (text : R → List ℕ) (stands : S → Bytes → Type 0) (state : S) (outcomes further : List (Outcome R S)) (image : Bytes) (shown : List ℕ)
    → StandsAlong text stands (last_state state outcomes) further image shown → StandsAlong text stands state (outcomes ++ further) image (shown_by text outcomes ++ shown)
along_late text stands state [] further image shown along = along
along_late text stands state (o ∷ outcomes) further image shown along =
    inr (inr (shown_by text outcomes ++ shown, append_assoc (text o.reply) (shown_by text outcomes) shown, along_late text stands o.next outcomes further image shown along))

-- where more outcomes follow, outcomes that were carried out are still so
pub carried_on : {S R : Type 0} (text : R → List ℕ) (stands : S → Bytes → Type 0) (state : S) (outcomes further : List (Outcome R S)) (before : List ℕ) (old new : DiskState)
    → Carried text stands state outcomes before old new → Carried text stands state (outcomes ++ further) before old new
carried_on text stands state outcomes further before old new carried = record {
  goes_on = carried.goes_on;
  images = λ image beside left. let was = carried.images image beside left in (was.0, was.1, along_early text stands state outcomes further image was.0 was.2);
}

-- outcomes in a row
pub carried_joins : {S R : Type 0} {text : R → List ℕ} {stands : S → Bytes → Type 0} {state : S} {outcomes : List (Outcome R S)} {before : List ℕ} {old mid : DiskState} (further : List (Outcome R S)) (new : DiskState)
    → Carried text stands state outcomes before old mid → Carried text stands (last_state state outcomes) further (before ++ shown_by text outcomes) mid new
    → Carried text stands state (outcomes ++ further) before old new
carried_joins {S} {R} {text} {stands} {state} {outcomes} {before} {old} {mid} further new one two = record {
  goes_on = goes_on_joins one.goes_on two.goes_on;
  images = joined (λ image beside. (shown : List ℕ) × (beside ≡ before ++ shown) × StandsAlong text stands state (outcomes ++ further) image shown)
      one.goes_on (λ image beside left. let was = one.images image beside left in (was.0, was.1, along_early text stands state outcomes further image was.0 was.2))
      two.goes_on (λ image beside left. let is = two.images image beside left in
      (shown_by text outcomes ++ is.0, is.1 ∙ append_assoc before (shown_by text outcomes) is.0, along_late text stands state outcomes further image is.0 is.2));
}

-- what was shown between the start of a reply and a front of it is a front of the reply
front_between : (before shown beside : List ℕ) (more : List ℕ) (after rest text : List ℕ) → beside ≡ before ++ shown → after ≡ beside ++ more
    → before ++ text ≡ after ++ rest → IsPrefix shown text
front_between before shown beside more after rest text one two three = (
  more ++ rest,
  append_cancel_left before text (shown ++ (more ++ rest))
      (three ∙ ap (λ (l : List ℕ). l ++ rest) (two ∙ ap (λ (l : List ℕ). l ++ more) one) ∙ simp append_assoc),
)

-- One outcome: calls of the disk that leave either state, and then pushes of a front of the reply where each image has the new state.
pub one_outcome : {S R : Type 0} (text : R → List ℕ) (stands : S → Bytes → Type 0) (state : S) (outcome : Outcome R S) (before after : List ℕ) (old mid new : DiskState)
    → GoesOn old mid → LeavesOnly old mid (λ image beside. (stands state image ⊎ stands outcome.next image) × (beside ≡ before))
    → OnlyShows mid new before after → ((image : Bytes) → MayLeave mid.now image → stands outcome.next image)
    → IsPrefix after (before ++ text outcome.reply) → Carried text stands state (outcome ∷ []) before old new
one_outcome text stands state outcome before after old mid new goes early shows now front = record {
  goes_on = goes_on_joins goes shows.goes_on;
  images = joined (λ image beside. (shown : List ℕ) × (beside ≡ before ++ shown) × StandsAlong text stands state (outcome ∷ []) image shown)
      goes (λ image beside left. let was = early image beside left in
      ([], was.1 ∙ sym (append-nil before), elim was.0 [ inl still ↦ inl (still, refl) | inr next ↦ inr (inl (next, (text outcome.reply, refl))) ]))
      shows.goes_on (λ image beside left. let is = shows.since image beside left in
      (is.1.0, is.1.1, inr (inl (now image is.0, front_between before is.1.0 beside is.2.0 after front.0 (text outcome.reply) is.1.1 is.2.1 front.1))));
}

no_outcome : {S R : Type 0} (text : R → List ℕ) (outcome : Outcome R S) (outcomes : List (Outcome R S)) (shown : List ℕ) → length shown < length (text outcome.reply)
    → (m : ℕ) → m ≤ length (outcome ∷ outcomes) → IsPrefix (shown_by text (take m (outcome ∷ outcomes))) shown → m ≤ 0
no_outcome text outcome outcomes shown short zero within front = omega arith
no_outcome text outcome outcomes shown short (suc m) within (rest, e) = absurd (omega (arith, short, simp length-append at (ap length e)))

nothing : (rest : List ℕ) → length rest ≤ 0 → rest ≡ []
nothing [] none = refl
nothing (b ∷ rest) none = absurd (omega (arith, none))

whole_front : (text shown rest : List ℕ) → text ≡ shown ++ rest → length text ≤ length shown → shown ≡ (text ++ []) ++ []
whole_front text shown rest e long =
    let none : rest ≡ [] = nothing rest (omega (arith, long, simp length-append at (ap length e))) in
    let same : text ≡ shown = e ∙ ap (λ (l : List ℕ). shown ++ l) none ∙ append-nil shown in
    sym (append-nil (text ++ []) ∙ append-nil text ∙ same)

-- one outcome more is acknowledged where its whole reply stands in front
one_more_outcome : {S R : Type 0} (text : R → List ℕ) (outcome : Outcome R S) (outcomes : List (Outcome R S)) (shown rest : List ℕ) (k : ℕ) → shown ≡ text outcome.reply ++ rest
    → IsAcknowledged text outcomes rest k → IsAcknowledged text (outcome ∷ outcomes) shown (suc k)
one_more_outcome text outcome outcomes shown rest k e known = record {
  within = omega (arith, known.within);
  whole = (known.whole.0, e ∙ ap (λ (l : List ℕ). text outcome.reply ++ l) known.whole.1 ∙ sym (append_assoc (text outcome.reply) (shown_by text (take k outcomes)) known.whole.0));
  greatest = λ m. most m;
}
  where
    most : (m : ℕ) → m ≤ length (outcome ∷ outcomes) → IsPrefix (shown_by text (take m (outcome ∷ outcomes))) shown → m ≤ suc k
    most zero within front = omega arith
    most (suc m) within (more, f) = omega (
      arith,
      known.greatest m (omega (arith, within)) (
        more,
        append_cancel_left (text outcome.reply) rest (shown_by text (take m outcomes) ++ more)
            (sym e ∙ f ∙ append_assoc (text outcome.reply) (shown_by text (take m outcomes)) more),
      ),
    )

-- a run stands where it begins, with nothing shown
along_start : {S R : Type 0} (text : R → List ℕ) (stands : S → Bytes → Type 0) (state : S) (outcomes : List (Outcome R S)) (image : Bytes) → stands state image → StandsAlong text stands state outcomes image []
along_start text stands state [] image is = (is, refl)
along_start text stands state (o ∷ outcomes) image is = inl (is, refl)

-- what was acknowledged of a run, and where an image stands in it
abbrev Acknowledges : {S R : Type 0} → (R → List ℕ) → (S → Bytes → Type 0) → S → List (Outcome R S) → Bytes → List ℕ → Type 0
Acknowledges text stands state outcomes image shown =
    (k : ℕ) × IsAcknowledged text outcomes shown k × ((j : ℕ) × ((j ≡ k) ⊎ (j ≡ k + 1)) × (j ≤ length outcomes) × stands (state_after state outcomes j) image)

-- it goes on behind an outcome whose whole reply stands in front
acknowledged_more : {S R : Type 0} (text : R → List ℕ) (stands : S → Bytes → Type 0) (state : S) (o : Outcome R S) (outcomes : List (Outcome R S)) (image : Bytes) (shown rest : List ℕ)
    → shown ≡ text o.reply ++ rest → Acknowledges text stands o.next outcomes image rest → Acknowledges text stands state (o ∷ outcomes) image shown
acknowledged_more text stands state o outcomes image shown rest e known = (
  suc known.0,
  one_more_outcome text o outcomes shown rest known.0 e known.1,
  (suc known.2.0, elim known.2.1 [ inl same ↦ inl (ap suc same) | inr more ↦ inr (omega (arith, more)) ], omega (arith, known.2.2), known.2.3),
)

-- none is acknowledged where less than the first reply is shown
none_acknowledged : {S R : Type 0} (text : R → List ℕ) (o : Outcome R S) (outcomes : List (Outcome R S)) (shown : List ℕ) → length shown < length (text o.reply) → IsAcknowledged text (o ∷ outcomes) shown 0
none_acknowledged text o outcomes shown short = record { within = omega arith; whole = (shown, refl); greatest = no_outcome text o outcomes shown short }

-- Where a run stands, told by what was acknowledged: an outcome whose reply has no text counts as soon as those in front of it do.
acknowledged : {S R : Type 0} (text : R → List ℕ) (stands : S → Bytes → Type 0) (state : S) (outcomes : List (Outcome R S)) (image : Bytes) (shown : List ℕ)
    → AreQuiet text stands state outcomes → StandsAlong text stands state outcomes image shown → Acknowledges text stands state outcomes image shown
acknowledged text stands state [] image shown quiet along =
    (0, record { within = omega arith; whole = (shown, refl); greatest = λ m within front. within }, (0, inl refl, omega arith, along.0))
acknowledged text stands state (o ∷ outcomes) image shown quiet (inr (inr (rest, e, on))) =
    acknowledged_more text stands state o outcomes image shown rest e (acknowledged text stands o.next outcomes image rest quiet.1 on)
acknowledged text stands state (o ∷ outcomes) image shown quiet (inr (inl (next, (rest, e)))) = elim (cases_lt (length shown) (length (text o.reply))) [
  | inl short ↦ (0, none_acknowledged text o outcomes shown short, (1, inr refl, omega arith, next))
  | inr long ↦ acknowledged_more text stands state o outcomes image shown [] (whole_front (text o.reply) shown rest e long ∙ append-nil (text o.reply ++ []))
      (acknowledged text stands o.next outcomes image [] quiet.1 (along_start text stands o.next outcomes image next))
]
acknowledged text stands state (o ∷ outcomes) image shown quiet (inl (still, none)) = elim (cases_lt (length shown) (length (text o.reply))) [
  | inl short ↦ (0, none_acknowledged text o outcomes shown short, (0, inl refl, omega arith, still))
  | inr long ↦ (
      let silent : text o.reply ≡ [] = nothing (text o.reply) (omega (arith, long, ap length none)) in
      acknowledged_more text stands state o outcomes image shown [] (none ∙ sym (append-nil (text o.reply) ∙ silent))
      (acknowledged text stands o.next outcomes image [] quiet.1 (along_start text stands o.next outcomes image (quiet.0 silent image still))))
]

-- the images that a run has left stand for what was acknowledged
pub reopens : {S R : Type 0} (text : R → List ℕ) (stands : S → Bytes → Type 0) (state : S) (outcomes : List (Outcome R S)) (before : List ℕ) (old new : DiskState)
    → AreQuiet text stands state outcomes → Carried text stands state outcomes before old new → LeavesOnly old new (Reopens text stands state outcomes before)
reopens text stands state outcomes before old new quiet carried = λ image beside left.
    let was = carried.images image beside left in
    let known = acknowledged text stands state outcomes image was.0 quiet was.2 in
    record { shown = was.0; shown_is = was.1; k = known.0; acknowledged = known.1; j = known.2.0; one_more = known.2.1; reached = known.2.2; holds = known.2.3 }

-- ---- runs of a machine that works on its own too

after_stint_joins : {S R : Type 0} (stint : S → R → S → Type 0) (working : Bool) (state : S) (outcomes further : List (Outcome R S)) (Rest More : S → List (Outcome R S) → Type 0)
    → ((next : S) (rest : List (Outcome R S)) → Rest next rest → last_state next rest ≡ last_state state outcomes → More next (rest ++ further))
    → AfterStint stint working state outcomes Rest → AfterStint stint working state (outcomes ++ further) More
after_stint_joins stint false state outcomes further Rest More on run = on state outcomes run refl
after_stint_joins stint true state [] further Rest More on run = absurd run
after_stint_joins stint true state (w ∷ outcomes) further Rest More on run = (run.0, on w.next outcomes run.1 refl)

-- runs in a row
pub works_join : {S E R : Type 0} (step : S → E → R → S → Type 0) (stint : S → R → S → Type 0) (at_work : S → Bool) (state : S) (events more : List E) (outcomes further : List (Outcome R S))
    → IsRunWith step stint at_work state events outcomes → IsRunWith step stint at_work (last_state state outcomes) more further → IsRunWith step stint at_work state (events ++ more) (outcomes ++ further)
works_join {S} {E} {R} step stint at_work state [] more outcomes further one two =
    let P : List (Outcome R S) → Type 0 = λ os. IsRunWith step stint at_work (last_state state os) more further → IsRunWith step stint at_work state more (os ++ further) in
    (subst P (sym one) (λ run. run)) two
works_join step stint at_work state (e ∷ events) more [] further one two = absurd one
works_join {S} {E} {R} step stint at_work state (e ∷ events) more (o ∷ outcomes) further one two = (
  one.0,
  after_stint_joins stint (at_work state) o.next outcomes further (λ next rest. IsRunWith step stint at_work next events rest) (λ next rest. IsRunWith step stint at_work next (events ++ more) rest)
      (λ next rest run same. works_join step stint at_work next events more rest further run (subst (λ (s : S). IsRunWith step stint at_work s more further) (sym same) two)) one.1,
)

quiet_behind : {S R : Type 0} (text : R → List ℕ) (stands : S → Bytes → Type 0) (stint : S → R → S → Type 0) → ((s : S) (r : R) (t : S) → stint s r t → IsQuiet text stands s r t)
    → (working : Bool) (next : S) (rest : List (Outcome R S)) (Rest : S → List (Outcome R S) → Type 0) → ((s : S) (os : List (Outcome R S)) → Rest s os → AreQuiet text stands s os)
    → AfterStint stint working next rest Rest → AreQuiet text stands next rest
quiet_behind text stands stint by_stint false next rest Rest on is = on next rest is
quiet_behind text stands stint by_stint true next [] Rest on is = absurd is
quiet_behind text stands stint by_stint true next (w ∷ rest) Rest on is = (by_stint next w.reply w.next is.0, on w.next rest is.1)

-- where steps and stints without text leave what stands, so do the outcomes of a run
pub works_quiet : {S E R : Type 0} (text : R → List ℕ) (stands : S → Bytes → Type 0) (step : S → E → R → S → Type 0) (stint : S → R → S → Type 0) (at_work : S → Bool)
    → ((s : S) (e : E) (r : R) (t : S) → step s e r t → IsQuiet text stands s r t) → ((s : S) (r : R) (t : S) → stint s r t → IsQuiet text stands s r t)
    → (state : S) (events : List E) (outcomes : List (Outcome R S)) → IsRunWith step stint at_work state events outcomes → AreQuiet text stands state outcomes
works_quiet {S} {E} {R} text stands step stint at_work by_step by_stint state [] outcomes run = subst (λ (os : List (Outcome R S)). AreQuiet text stands state os) (sym run) tt
works_quiet text stands step stint at_work by_step by_stint state (e ∷ events) [] run = absurd run
works_quiet {S} {E} {R} text stands step stint at_work by_step by_stint state (e ∷ events) (o ∷ outcomes) run = (
  by_step state e o.reply o.next run.0,
  quiet_behind text stands stint by_stint (at_work state) o.next outcomes (λ s os. IsRunWith step stint at_work s events os)
      (λ next rest is. works_quiet text stands step stint at_work by_step by_stint next events rest is) run.1,
)

pub stints_quiet : {S R : Type 0} (text : R → List ℕ) (stands : S → Bytes → Type 0) (stint : S → R → S → Type 0) → ((s : S) (r : R) (t : S) → stint s r t → IsQuiet text stands s r t)
    → (state : S) (outcomes : List (Outcome R S)) → AreStints stint state outcomes → AreQuiet text stands state outcomes
stints_quiet text stands stint by_stint state [] are = tt
stints_quiet text stands stint by_stint state (w ∷ outcomes) are = (by_stint state w.reply w.next are.0, stints_quiet text stands stint by_stint w.next outcomes are.1)

pub quiet_joins : {S R : Type 0} (text : R → List ℕ) (stands : S → Bytes → Type 0) (state : S) (outcomes further : List (Outcome R S)) → AreQuiet text stands state outcomes → AreQuiet text stands (last_state state outcomes) further
    → AreQuiet text stands state (outcomes ++ further)
quiet_joins text stands state [] further one two = two
quiet_joins text stands state (o ∷ outcomes) further one two = (one.0, quiet_joins text stands o.next outcomes further one.1 two)

-- ---- that there are runs

work_behind : {S R : Type 0} (stint : S → R → S → Type 0) (Fair : S → Type 0) (working : Bool) (next : S) (Rest : S → List (Outcome R S) → Type 0) → Fair next
    → (working ≡ true → (o : Outcome R S) × stint next o.reply o.next × Fair o.next) → ((s : S) → Fair s → (os : List (Outcome R S)) × Rest s os × Fair (last_state s os))
    → (os : List (Outcome R S)) × AfterStint stint working next os Rest × Fair (last_state next os)
work_behind stint Fair false next Rest fair more rest = rest next fair
work_behind stint Fair true next Rest fair more rest =
    let work = more refl in
    let on = rest work.0.next work.2 in
    (work.0 ∷ on.0, (work.1, on.1), on.2)

-- Each event has an outcome, and each state at work a stint, that lead to states of which this holds again: then there is a run over any events.
pub works_on : {S E R : Type 0} (step : S → E → R → S → Type 0) (stint : S → R → S → Type 0) (at_work : S → Bool) (Fair : S → Type 0) (Fine : E → Type 0)
    → ((s : S) (e : E) → Fair s → Fine e → (o : Outcome R S) × step s e o.reply o.next × Fair o.next) → ((s : S) → Fair s → at_work s ≡ true → (o : Outcome R S) × stint s o.reply o.next × Fair o.next)
    → ((s : S) (e : E) (o : Outcome R S) → at_work s ≡ true → step s e o.reply o.next → at_work o.next ≡ true)
    → (state : S) (events : List E) → Fair state → All Fine events → (outcomes : List (Outcome R S)) × IsRunWith step stint at_work state events outcomes × Fair (last_state state outcomes)
works_on step stint at_work Fair Fine each more still state [] fair fine = ([], refl, fair)
works_on {S} {E} {R} step stint at_work Fair Fine each more still state (e ∷ events) fair fine =
    let one = each state e fair (All-head Fine e events fine) in
    let rest : (s : S) → Fair s → (os : List (Outcome R S)) × IsRunWith step stint at_work s events os × Fair (last_state s os) =
    λ s good. works_on step stint at_work Fair Fine each more still s events good (All-tail Fine e events fine) in
    let on = work_behind stint Fair (at_work state) one.0.next (λ s os. IsRunWith step stint at_work s events os) one.2 (λ working. more one.0.next one.2 (still state e one.0 working one.1)) rest in
    (one.0 ∷ on.0, (one.1, on.1), on.2)
