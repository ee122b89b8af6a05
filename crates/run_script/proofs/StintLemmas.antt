-- An item with the stint behind it.
use Rattle.std.proofs.Common.{◌≡◌, ◌⊎◌, ℕ, ◌<◌, Bool, true, false, List, [], ◌∷◌, ◌++◌, length, Option, Some, None, Result, Ok, Err, is_some, refl, inl, inr, ap, sym, subst, ◌∙◌, arith, append_assoc}
use Rattle.std.proofs.lemmas.Bool.{false≢true}
use Rattle.std.proofs.lemmas.List.{append-nil}
use Rattle.machine_model.specs.States.{DiskState, moment}
use Rattle.machine_model.proofs.MomentLemmas.{allowed_left}
use Rattle.base_commands.specs.declared.command.Item.{Item}
use Rattle.pages_sublists.specs.declared.why.Damage.{Damage}
use Rattle.model_archive.specs.Replies.{reply_text}
use Rattle.model_archive.specs.Runs.{Outcome, AfterStint, IsRunWith, shown_by}
use Rattle.model_archive.specs.Standing.{Carried}
use Rattle.model_archive.specs.Steps.{Reply}
use Rattle.model_archive.proofs.RunLemmas.{carried_joins}
use Rattle.archive_hand.specs.Changing.{KeepsBy}
use Rattle.archive_hand.specs.Jobs.{plain_job}
use Rattle.archive_hand.specs.States.{ArchiveState, AreInStepBy}
use Rattle.archive_hand.specs.Stored.{Store, EachStandsBy, Spoils, StandsBy, StoreStep, StoreStint, is_at_work}
use Rattle.archive_hand.specs.declared.job.Job.{Job}
use Rattle.archive_hand.proofs.StandingLemmas.{works_on_by}
use Rattle.run_script.specs.Outcomes.{CameOf, CarriesOn, CarriesOut, IsShown, IsStopped, NeverSpoiled, Passes, PassesOn}
use Rattle.run_script.specs.declared.stop.Stop.{Stop}
use Rattle.run_script.specs.declared.stop.Stop.TheVariants as stops

-- a plan is being written, or none is: the archive says so
works_plain : (job : Option Job) → is_some job ≡ is_some (plain_job job)
works_plain None = refl
works_plain (Some job) = refl

pub works_by : (b told : Bool) (d : DiskState) (a : ArchiveState) (s : Store) → AreInStepBy d a s → told ≡ is_some a.job → told ≡ b → is_at_work s ≡ b
works_by b told d a s in_step is same = sym (works_plain a.job ∙ ap is_some in_step.job_is) ∙ sym is ∙ same

-- a run over one item, where no work was under way, and where it was
alone : (s : Store) (item : Item) (o : Outcome Reply Store) → StoreStep s item o.reply o.next → is_at_work s ≡ false → IsRunWith StoreStep StoreStint is_at_work s (item ∷ []) (o ∷ [])
alone s item o step idle = (step, (let A : Bool → Type 0 = λ b. AfterStint StoreStint b o.next [] (λ next rest. rest ≡ []) in subst A (sym idle) refl))

with_stint : (s : Store) (item : Item) (o w : Outcome Reply Store) → StoreStep s item o.reply o.next → is_at_work s ≡ true → StoreStint o.next w.reply w.next → IsRunWith StoreStep StoreStint is_at_work s (item ∷ []) (o ∷ w ∷ [])
with_stint s item o w step working stint = (step, (let A : Bool → Type 0 = λ b. AfterStint StoreStint b o.next (w ∷ []) (λ next rest. rest ≡ []) in subst A (sym working) (stint, refl)))

-- the item alone
pub on_idle : (s : Store) (item : Item) (before after : List ℕ) (old new : DiskState) (archive : ArchiveState) → is_at_work s ≡ false → CarriesOut s (StoreStep s item) (Spoils s item) (Ok tt) before after old new archive → CarriesOn s item (Ok tt) before after old new archive
on_idle s item before after old new archive idle (shown, is, whole, in_step) = (
  is.outcome ∷ [],
  alone s item is.outcome is.step idle,
  is.carried,
  is.shown_is ∙ ap (λ (l : List ℕ). before ++ l) (whole ∙ sym (append-nil (reply_text is.outcome.reply))),
  in_step,
)

-- and with the stint
pub on_stint : (s : Store) (item : Item) (before between after : List ℕ) (old mid new : DiskState) (a b : ArchiveState) → is_at_work s ≡ true → (one : CarriesOut s (StoreStep s item) (Spoils s item) (Ok tt) before between old mid a)
    → CarriesOut one.1.outcome.next (StoreStint one.1.outcome.next) NeverSpoiled (Ok tt) between after mid new b → CarriesOn s item (Ok tt) before after old new b
on_stint s item before between after old mid new a b working (shown, is, whole, in_step) (said, works, all, then) =
    let o = is.outcome in
    let w = works.outcome in
    let told : between ≡ before ++ shown_by reply_text (o ∷ []) = is.shown_is ∙ ap (λ (l : List ℕ). before ++ l) (whole ∙ sym (append-nil (reply_text o.reply))) in (
      o ∷ w ∷ [],
      with_stint s item o w is.step working works.step,
      carried_joins (w ∷ []) new is.carried (rw told at works.carried),
      works.shown_is ∙ ap (λ (l : List ℕ). between ++ l) (all ∙ sym (append-nil (reply_text w.reply))) ∙ ap (λ (l : List ℕ). l ++ (reply_text w.reply ++ [])) is.shown_is ∙ append_assoc before shown (reply_text w.reply ++ [])
          ∙ ap (λ (l : List ℕ). before ++ (l ++ (reply_text w.reply ++ []))) whole,
      then,
    )

-- ---- stopped

-- calls that keep what is stored are no event
pub nothing_came : (s : Store) (before : List ℕ) (old new : DiskState) → old.now.beside ≡ before → KeepsBy s old new → Carried {R = Reply} reply_text StandsBy s [] before old new
nothing_came s before old new beside keeps = record {
  goes_on = keeps.goes_on;
  images = λ image other left. let was = keeps.images image other left in ([], was.1 ∙ beside ∙ sym (append-nil before), (was.0, refl));
}

-- and what is kept over them is so of each image that a stop may leave then
pub each_kept : (s : Store) (old new : DiskState) → KeepsBy s old new → EachStandsBy new s
each_kept s old new keeps = λ image allowed. (keeps.images image new.now.beside (allowed_left new (moment old) image allowed)).0

-- at the item
pub stopped_item : (s : Store) (item : Item) (stop : Stop) (before after : List ℕ) (old new : DiskState) (archive : ArchiveState) → old.now.beside ≡ before → CarriesOut s (StoreStep s item) (Spoils s item) (Err stop) before after old new archive
    → IsStopped s item stop before after old new
stopped_item s item stop before after old new archive beside out = go stop out
  where
    undone : (stop : Stop) → KeepsBy s old new → after ≡ before → ((damage : Damage) → stop ≡ stops.Damaged damage → Spoils s item damage) → IsStopped s item stop before after old new
    undone stop keeps shown spoils = record {
      outcomes = [];
      came = inl refl;
      whole = [];
      others = [];
      part = [];
      outcomes_are = refl;
      shown_is = shown ∙ sym (append-nil before);
      front = ([], refl);
      short = refl;
      carried = nothing_came s before old new beside keeps;
      undone = λ is. refl;
      steady = λ fine. each_kept s old new keeps;
      unfinished = inl refl;
      spoiled = spoils;
    }

    came_of : (stop : Stop) (o : Outcome Reply Store) → StoreStep s item o.reply o.next → (stop ≡ stops.Disk) ⊎ (stop ≡ stops.Sink) → (b : Bool) → is_at_work s ≡ b → CameOf s item stop (o ∷ [])
    came_of stop o step fault true is = inr (inr (o, refl, step, is, fault))
    came_of stop o step fault false is = inr (inl (alone s item o step is))

    cut : (stop : Stop) → (stop ≡ stops.Disk) ⊎ (stop ≡ stops.Sink) → (shown : List ℕ) (i : IsShown s (StoreStep s item) shown before after old new) → length shown < length (reply_text i.outcome.reply) → ((stop ≡ stops.Disk → ⊥) → EachStandsBy new i.outcome.next)
        → ((stop ≡ stops.Memory) ⊎ ((damage : Damage) × (stop ≡ stops.Damaged damage)) → ⊥) → IsStopped s item stop before after old new
    cut stop fault shown i short each done = record {
      outcomes = i.outcome ∷ [];
      came = came_of stop i.outcome i.step fault (is_at_work s) refl;
      whole = [];
      others = i.outcome ∷ [];
      part = shown;
      outcomes_are = refl;
      shown_is = i.shown_is;
      front = (i.front.0, append-nil (reply_text i.outcome.reply) ∙ i.front.1);
      short = short;
      carried = i.carried;
      undone = λ is. absurd (done is);
      steady = each;
      unfinished = inr (inl (omega (arith, short, ap length (append-nil (reply_text i.outcome.reply)))));
      spoiled = λ damage is. absurd (done (inr (damage, is)));
    }

    not_done : (stop : Stop) → (stop ≡ stops.Disk) ⊎ (stop ≡ stops.Sink) → (stop ≡ stops.Memory) ⊎ ((damage : Damage) × (stop ≡ stops.Damaged damage)) → ⊥
    not_done stop (inl disk) (inl memory) = (let other : stops.Disk ≡ stops.Memory = sym disk ∙ memory in cc)
    not_done stop (inl disk) (inr (damage, is)) = (let other : stops.Disk ≡ stops.Damaged damage = sym disk ∙ is in cc)
    not_done stop (inr sink) (inl memory) = (let other : stops.Sink ≡ stops.Memory = sym sink ∙ memory in cc)
    not_done stop (inr sink) (inr (damage, is)) = (let other : stops.Sink ≡ stops.Damaged damage = sym sink ∙ is in cc)

    go : (stop : Stop) → CarriesOut s (StoreStep s item) (Spoils s item) (Err stop) before after old new archive → IsStopped s item stop before after old new
    go stops.Disk (inl (keeps, shown)) = undone stops.Disk keeps shown (λ damage is. absurd cc)
    go stops.Disk (inr (shown, i, short)) = cut stops.Disk (inl refl) shown i short (λ fine. absurd (fine refl)) (not_done stops.Disk (inl refl))
    go stops.Sink ((shown, i, short), each) = cut stops.Sink (inr refl) shown i short (λ fine. each) (not_done stops.Sink (inr refl))
    go stops.Memory (keeps, shown) = undone stops.Memory keeps shown (λ damage is. absurd cc)
    go (stops.Damaged damage) ((keeps, shown), spoils) = undone (stops.Damaged damage) keeps shown (λ other same. (let one : damage ≡ other = cc in subst (Spoils s item) one spoils))

-- in the stint behind it
pub stopped_stint : (s : Store) (item : Item) (stop : Stop) (before between after : List ℕ) (old mid new : DiskState) (a b : ArchiveState) → is_at_work s ≡ true → mid.now.beside ≡ between → (one : CarriesOut s (StoreStep s item) (Spoils s item) (Ok tt) before between old mid a)
    → (stop ≡ stops.Memory → ⊥) → CarriesOut one.1.outcome.next (StoreStint one.1.outcome.next) NeverSpoiled (Err stop) between after mid new b → IsStopped s item stop before after old new
stopped_stint s item stop before between after old mid new a b working beside (shown, is, whole, in_step) fed out = go stop fed out
  where
    o : Outcome Reply Store
    o = is.outcome

    told : between ≡ before ++ shown_by reply_text (o ∷ [])
    told = is.shown_is ∙ ap (λ (l : List ℕ). before ++ l) (whole ∙ sym (append-nil (reply_text o.reply)))

    goes : is_at_work o.next ≡ true
    goes = works_on_by s item o.reply o.next is.step working

    undone : KeepsBy o.next mid new → after ≡ between → IsStopped s item stops.Disk before after old new
    undone keeps shown = record {
      outcomes = o ∷ [];
      came = inr (inr (o, refl, is.step, working, inl refl));
      whole = o ∷ [];
      others = [];
      part = [];
      outcomes_are = refl;
      shown_is = shown ∙ told ∙ ap (λ (l : List ℕ). before ++ l) (sym (append-nil (shown_by reply_text (o ∷ []))));
      front = ([], refl);
      short = refl;
      carried = carried_joins [] new is.carried (subst (λ (b : List ℕ). Carried reply_text StandsBy o.next [] b mid new) told (nothing_came o.next between mid new beside keeps));
      undone = λ is. elim is [ inl memory ↦ absurd cc | inr damage ↦ (let other : stops.Disk ≡ stops.Damaged damage.0 = damage.1 in absurd cc) ];
      steady = λ fine. absurd (fine refl);
      unfinished = inr (inr goes);
      spoiled = λ damage is. absurd cc;
    }

    cut : (stop : Stop) → ((stop ≡ stops.Memory) ⊎ ((damage : Damage) × (stop ≡ stops.Damaged damage)) → ⊥) → (said : List ℕ) (i : IsShown o.next (StoreStint o.next) said between after mid new) → length said < length (reply_text i.outcome.reply)
        → ((stop ≡ stops.Disk → ⊥) → EachStandsBy new i.outcome.next) → IsStopped s item stop before after old new
    cut stop done said i short each = record {
      outcomes = o ∷ i.outcome ∷ [];
      came = inr (inl (with_stint s item o i.outcome is.step working i.step));
      whole = o ∷ [];
      others = i.outcome ∷ [];
      part = said;
      outcomes_are = refl;
      shown_is = i.shown_is ∙ ap (λ (l : List ℕ). l ++ said) told ∙ append_assoc before (shown_by reply_text (o ∷ [])) said;
      front = (i.front.0, append-nil (reply_text i.outcome.reply) ∙ i.front.1);
      short = short;
      carried = carried_joins (i.outcome ∷ []) new is.carried (subst (λ (b : List ℕ). Carried reply_text StandsBy o.next (i.outcome ∷ []) b mid new) told i.carried);
      undone = λ is. absurd (done is);
      steady = each;
      unfinished = inr (inl (omega (arith, short, ap length (append-nil (reply_text i.outcome.reply)))));
      spoiled = λ damage is. absurd (done (inr (damage, is)));
    }

    go : (stop : Stop) → (stop ≡ stops.Memory → ⊥) → CarriesOut o.next (StoreStint o.next) NeverSpoiled (Err stop) between after mid new b → IsStopped s item stop before after old new
    go stops.Disk fed (inl (keeps, shown)) = undone keeps shown
    go stops.Disk fed (inr (said, i, short)) = cut stops.Disk (λ is. elim is [ inl memory ↦ cc | inr damage ↦ (let other : stops.Disk ≡ stops.Damaged damage.0 = damage.1 in cc) ]) said i short (λ fine. absurd (fine refl))
    go stops.Sink fed ((said, i, short), each) = cut stops.Sink (λ is. elim is [ inl memory ↦ cc | inr damage ↦ (let other : stops.Sink ≡ stops.Damaged damage.0 = damage.1 in cc) ]) said i short (λ fine. each)
    go stops.Memory fed out = absurd (fed refl)
    go (stops.Damaged damage) fed (none, never) = absurd never

-- what came of the item, by how the stint behind it ended
pub on_work : (s : Store) (item : Item) (result : Result (Unit {0}) Stop) (before between after : List ℕ) (old mid new : DiskState) (a b : ArchiveState) → is_at_work s ≡ true → mid.now.beside ≡ between → (one : CarriesOut s (StoreStep s item) (Spoils s item) (Ok tt) before between old mid a)
    → (result ≡ Err stops.Memory → ⊥) → CarriesOut one.1.outcome.next (StoreStint one.1.outcome.next) NeverSpoiled result between after mid new b → CarriesOn s item result before after old new b
on_work s item (Ok done) before between after old mid new a b working beside one fed out = on_stint s item before between after old mid new a b working one out
on_work s item (Err stop) before between after old mid new a b working beside one fed out = stopped_stint s item stop before between after old mid new a b working beside one (λ is. fed (ap Err is)) out

-- an item ends no work
pub on_ended : (s : Store) (item : Item) (before after : List ℕ) (old new : DiskState) (a : ArchiveState) → is_at_work s ≡ true → (one : CarriesOut s (StoreStep s item) (Spoils s item) (Ok tt) before after old new a) → is_at_work one.1.outcome.next ≡ false → CarriesOn s item (Ok tt) before after old new a
on_ended s item before after old new a working (shown, is, whole, in_step) ended = absurd (false≢true (sym ended ∙ works_on_by s item is.outcome.reply is.outcome.next is.step working))

-- ---- by the disk alone

pub passes_idle : (s : Store) (item : Item) (d : DiskState) (archive : ArchiveState) → is_at_work s ≡ false → Passes s (StoreStep s item) (Spoils s item) (Ok tt) d archive → PassesOn s item (Ok tt) d archive
passes_idle s item d archive idle (reply, next, step, in_step) = (record { reply = reply; next = next } ∷ [], alone s item (record { reply = reply; next = next }) step idle, in_step)

pub passes_stint : (s : Store) (item : Item) (d e : DiskState) (a b : ArchiveState) → is_at_work s ≡ true → (one : Passes s (StoreStep s item) (Spoils s item) (Ok tt) d a) → Passes one.1 (StoreStint one.1) NeverSpoiled (Ok tt) e b → PassesOn s item (Ok tt) e b
passes_stint s item d e a b working (reply, next, step, in_step) (said, then, stint, there) =
    let o : Outcome Reply Store = record { reply = reply; next = next } in
    let w : Outcome Reply Store = record { reply = said; next = then } in
    (o ∷ w ∷ [], with_stint s item o w step working stint, there)

pub passes_stopped : (s : Store) (item : Item) (stop : Stop) (d : DiskState) (archive : ArchiveState) → Passes s (StoreStep s item) (Spoils s item) (Err stop) d archive → PassesOn s item (Err stop) d archive
passes_stopped s item stops.Disk d archive passes = tt
passes_stopped s item stops.Sink d archive passes = tt
passes_stopped s item stops.Memory d archive passes = tt
passes_stopped s item (stops.Damaged damage) d archive passes = passes

pub passes_never : (s next : Store) (item : Item) (stop : Stop) (d : DiskState) (archive : ArchiveState) → Passes next (StoreStint next) NeverSpoiled (Err stop) d archive → PassesOn s item (Err stop) d archive
passes_never s next item stops.Disk d archive passes = tt
passes_never s next item stops.Sink d archive passes = tt
passes_never s next item stops.Memory d archive passes = tt
passes_never s next item (stops.Damaged damage) d archive (never, pages) = absurd never

pub passes_work : (s : Store) (item : Item) (result : Result (Unit {0}) Stop) (d e : DiskState) (a b : ArchiveState) → is_at_work s ≡ true → (one : Passes s (StoreStep s item) (Spoils s item) (Ok tt) d a) → Passes one.1 (StoreStint one.1) NeverSpoiled result e b → PassesOn s item result e b
passes_work s item (Ok done) d e a b working one then = passes_stint s item d e a b working one then
passes_work s item (Err stop) d e a b working one then = passes_never s one.1 item stop e b then

pub passes_ended : (s : Store) (item : Item) (d : DiskState) (a : ArchiveState) → is_at_work s ≡ true → (one : Passes s (StoreStep s item) (Spoils s item) (Ok tt) d a) → is_at_work one.1 ≡ false → PassesOn s item (Ok tt) d a
passes_ended s item d a working (reply, next, step, in_step) ended = absurd (false≢true (sym ended ∙ works_on_by s item reply next step working))
