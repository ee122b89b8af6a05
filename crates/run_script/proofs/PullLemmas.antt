-- What a run pulls, call by call of the reader, where the input was at its end, and with which statuses it may come there.
use Rattle.std.proofs.Common.{◌≡◌, ◌⊎◌, ℕ, ◌<◌, ◌≤◌, ◌^◌, Bool, true, false, List, [], ◌∷◌, ◌++◌, length, Option, Some, None, Result, Ok, Err, IfErr, OnOk, refl, inl, inr, ap, subst, sym, ◌∙◌, arith, append_assoc}
use Rattle.std.proofs.lemmas.List.{append-nil, length-append}
use Rattle.machine_model.specs.Causes.{Rose}
use Rattle.machine_model.specs.Pushes.{IsSameBeside}
use Rattle.machine_model.specs.States.{SourceState, SinkState, DiskState, MachineState}
use Rattle.base_commands.specs.declared.command.Item.{Item}
use Rattle.script_items.specs.Items.{Begins, IsBrokenAt, IsScript, Splits}
use Rattle.script_items.specs.Reading.{ReaderState, Finds, Reads, fresh, given, taken}
use Rattle.script_read.specs.declared.first.First.TheVariants.{End, More}
use Rattle.script_read.specs.declared.error.ScriptError.{ScriptError}
use Rattle.script_read.specs.declared.error.ScriptError.TheVariants as errors
use Rattle.script_items.proofs.Joins.{items-join}
use Rattle.script_items.proofs.RunLemmas.{read_so_far, reads_start, reads_on, reads_end}
use Rattle.script_items.proofs.Splitting.{broken_once, each_splits, end-is, more-open, not_broken, script_unbroken, script_whole}
use Rattle.pages_sublists.specs.declared.why.Damage.{Damage}
use Rattle.model_archive.specs.Standing.{last_state}
use Rattle.model_archive.proofs.RunLemmas.{last_state_joins, works_join}
use Rattle.archive_hand.specs.States.{ArchiveState, AreInStepBy}
use Rattle.archive_hand.specs.Stored.{Store, StoreStep, StoreStint, is_at_work}
use Rattle.run_script.specs.Causes.{IsLater, IsLeft, MayEnd}
use Rattle.run_script.specs.Headline.{ArePulled, CarriesOutAll, Ends, EndsEarly, InputAt}
use Rattle.run_script.specs.Outcomes.{PassesOn}
use Rattle.run_script.specs.Serving.{Gives, HasPassed, HasSpoiled, Pulling, next_by}
use Rattle.run_script.specs.Statuses.{status_of_stop}
use Rattle.run_script.specs.declared.stop.Stop.{Stop}
use Rattle.run_script.specs.declared.stop.Stop.TheVariants as stops
use Rattle.run_script.specs.declared.status.Status.{Status}
use Rattle.run_script.specs.declared.status.Status.TheVariants.{Done, Usage, NotArchive, Disk, Sink, Source, Budget, Script, Damaged, NotEmpty, Memory, Gap, Conflict, Packet}

-- ---- calls of the reader

-- nothing was pulled by a reader that has taken nothing
pub first_reads : fresh.parts.ended ≡ true → ⊥
first_reads is = cc

abbrev pub pulling_first : (began now : SourceState) → now ≡ began → Pulling began now fresh
pulling_first began now same = record { pulled = []; pulled_are = ap (λ (s : SourceState). s.left) (sym same); told = λ is. absurd (first_reads is); items = []; since = []; reads = reads_start }

pub pulling_start : (began now : SourceState) (held : ReaderState) → now ≡ began → held ≡ fresh → Pulling began now held
pulling_start began now held same is = rw is (pulling_first began now same)

-- the item that comes next, as a list
abbrev pub given_by : Result Item Status → List Item
given_by (Ok item) = item ∷ []
given_by (Err status) = []

pub given_so : (answer : Result (Option Item) ScriptError) → given answer ≡ given_by (next_by answer)
given_so (Ok (Some item)) = refl
given_so (Ok None) = refl
given_so (Err error) = refl

-- what was pulled, with what a call gave
abbrev pub pulling_on : (old now source : SourceState) (held held_now : ReaderState) (next : Result Item Status) (items : List Item) (pulling : Pulling old now held) → pulling.items ++ given_by next ≡ items → Gives held held_now pulling.since next now source
    → Pulling old source held_now
pulling_on old now source held held_now next items pulling are gives = record {
  pulled = pulling.pulled ++ gives.more;
  pulled_are = pulling.pulled_are ∙ ap (λ (l : List ℕ). pulling.pulled ++ l) gives.gave ∙ sym (append_assoc pulling.pulled gives.more source.left);
  told = gives.told;
  items = items;
  since = gives.says.rest;
  reads = (let R : List Item → Type 0 = λ l. Reads (pulling.pulled ++ gives.more) l gives.says.rest held_now in
      subst R (ap (λ (l : List Item). pulling.items ++ l) (given_so gives.answer ∙ ap given_by (sym gives.next_is)) ∙ are)
      (reads_on pulling.pulled pulling.items pulling.since held gives.more gives.answer held_now pulling.reads gives.calm gives.says));
}

-- the call gave an item
abbrev pub pulling_next : (old now source : SourceState) (held held_now : ReaderState) (item : Item) (pulling : Pulling old now held) → Gives held held_now pulling.since (Ok item) now source → Pulling old source held_now
pulling_next old now source held held_now item pulling gives = pulling_on old now source held held_now (Ok item) (pulling.items ++ item ∷ []) pulling refl gives

-- the call gave none
abbrev pub pulling_still : (old now source : SourceState) (held held_now : ReaderState) (status : Status) (pulling : Pulling old now held) → Gives held held_now pulling.since (Err status) now source → Pulling old source held_now
pulling_still old now source held held_now status pulling gives = pulling_on old now source held held_now (Err status) pulling.items pulling (append-nil pulling.items) gives

-- ---- where the input was

-- statuses that end a run early aren't those before which all items are carried out
pub not_early : (status : Status) → EndsEarly status → CarriesOutAll status → ⊥
not_early status (inl is) all = subst CarriesOutAll is all
not_early status (inr (inl is)) all = subst CarriesOutAll is all
not_early status (inr (inr (inl is))) all = subst CarriesOutAll is all
not_early status (inr (inr (inr (damage, is)))) all = subst CarriesOutAll is all

-- nor the one at the end of the input
pub early_undone : (status : Status) → EndsEarly status → status ≡ Done → ⊥
early_undone status early is = not_early status early (subst CarriesOutAll (sym is) tt)

-- a run that is stopped ends early
pub stops_early : (status : Status) (stop : Stop) → status ≡ status_of_stop stop → EndsEarly status
stops_early status stops.Disk is = inl is
stops_early status stops.Sink is = inr (inl is)
stops_early status stops.Memory is = inr (inr (inl is))
stops_early status (stops.Damaged damage) is = inr (inr (inr (damage, is)))

-- what a status says of the input
abbrev Tells : Status → Bool → List ℕ → List ℕ → Type 0
Tells Done ended pulled rest = (ended ≡ true) × (rest ≡ [])
Tells Source ended pulled rest = Begins ended rest More × (ended ≡ false) × (length pulled < 2 ^ 40)
Tells Budget ended pulled rest = Begins ended rest More × (ended ≡ false) × (length pulled ≡ 2 ^ 40)
Tells (Script at) ended pulled rest = IsBrokenAt ended pulled at
Tells status ended pulled rest = Unit {0}

input_by : (status : Status) (ended : Bool) (pulled rest : List ℕ) → Tells status ended pulled rest → ((at : ℕ) → IsBrokenAt ended pulled at → (status ≡ Script at) ⊎ EndsEarly status) → InputAt status ended pulled rest
input_by status ended pulled rest tells broken =
    let T : Status → Type 0 = λ s. Tells s ended pulled rest in
    record { done = λ is. subst T is tells; source = λ is. subst T is tells; budget = λ is. subst T is tells; script = λ at is. subst T is tells; broken = broken }

early_tells : (status : Status) (ended : Bool) (pulled rest : List ℕ) → EndsEarly status → Tells status ended pulled rest
early_tells status ended pulled rest (inl is) = rw is tt
early_tells status ended pulled rest (inr (inl is)) = rw is tt
early_tells status ended pulled rest (inr (inr (inl is))) = rw is tt
early_tells status ended pulled rest (inr (inr (inr (damage, is)))) = rw is tt

-- where the input was needn't be known at a status that ends a run early
pub input_early : (status : Status) (ended : Bool) (pulled rest : List ℕ) → EndsEarly status → InputAt status ended pulled rest
input_early status ended pulled rest early = input_by status ended pulled rest (early_tells status ended pulled rest early) (λ at broken. inr early)

-- where the input wasn't begun, nothing was pulled
pub not_pulled : (status : Status) (old new : SourceState) → EndsEarly status → new ≡ old → Ends status old new
not_pulled status old new early same = record { pulled = []; pulled_are = ap (λ (s : SourceState). s.left) (sym same); ended = false; ended_is = λ is. cc; rest = []; input_at = input_early status false [] [] early }

-- ---- the end of a run

-- a run ended by which so many items were given out: there are none behind them where all are carried out
pub record EndsBehind (status : Status) (old new : SourceState) (items : List Item) : Type 0 where
  pub ends : Ends status old new
  pub behind : List Item
  pub split : Splits ends.ended ends.pulled (items ++ behind) ends.rest
  pub none : CarriesOutAll status → behind ≡ []

pub early_behind : (status : Status) (old new : SourceState) (held : ReaderState) → EndsEarly status → (p : Pulling old new held) → EndsBehind status old new p.items
early_behind status old new held early p =
    let behind = each_splits held.parts.ended p.since in
    record {
      ends = record { pulled = p.pulled; pulled_are = p.pulled_are; ended = held.parts.ended; ended_is = p.told; rest = behind.1; input_at = input_early status held.parts.ended p.pulled behind.1 early };
      behind = behind.0;
      split = (items-join held.parts.ended p.pulled p.since behind.1 p.items behind.0 (read_so_far p.reads) behind.2.0, behind.2.1);
      none = λ all. absurd (not_early status early all);
    }

whole_behind : (status : Status) (old new : SourceState) (held : ReaderState) (p : Pulling old new held) → Splits held.parts.ended p.pulled p.items p.since → InputAt status held.parts.ended p.pulled p.since → EndsBehind status old new p.items
whole_behind status old new held p split input_at = record {
  ends = record { pulled = p.pulled; pulled_are = p.pulled_are; ended = held.parts.ended; ended_is = p.told; rest = p.since; input_at = input_at };
  behind = [];
  split = rw append-nil split;
  none = λ all. refl;
}

-- where an answer is no item a run so ends, or there was no memory
abbrev pub EndsHere : Status → SourceState → SourceState → List Item → Type 0
EndsHere status old new items = (CarriesOutAll status ⊎ (status ≡ Memory)) × EndsBehind status old new items

ends_here : (old source : SourceState) (held : ReaderState) (p : Pulling old source held) (answer : Result (Option Item) ScriptError) → Finds answer held.parts.ended (taken held) p.since
    → IfErr (next_by answer) (λ status. EndsHere status old source p.items)
ends_here old source held p (Ok (Some item)) finds = tt
ends_here old source held p (Ok None) finds =
    let none = end-is held.parts.ended p.since finds in
    let script = reads_end p.pulled p.items p.since held (Ok None) p.reads finds in
    (inl tt, whole_behind Done old source held p (read_so_far p.reads, (End, finds)) (input_by Done held.parts.ended p.pulled p.since none (λ at broken. absurd (script_unbroken p.pulled at (p.items, script.1) (rw none.0 at broken)))))
ends_here old source held p (Err (errors.Broken at)) finds =
    let ends = reads_end p.pulled p.items p.since held (Err (errors.Broken at)) p.reads finds in
    (inl tt, whole_behind (Script at) old source held p ends.0 (input_by (Script at) held.parts.ended p.pulled p.since ends.1 (λ place other. inl (ap Script (broken_once held.parts.ended p.pulled at place ends.1 other)))))
ends_here old source held p (Err errors.Budget) finds =
    let ends = reads_end p.pulled p.items p.since held (Err errors.Budget) p.reads finds in
    (inl tt, whole_behind Budget old source held p ends.0 (input_by Budget held.parts.ended p.pulled p.since (ends.1, more-open held.parts.ended p.since ends.1, ends.2) (λ at broken. absurd (not_broken held.parts.ended p.pulled p.items p.since ends.0 ends.1 at broken))))
ends_here old source held p (Err errors.Failed) finds =
    let ends = reads_end p.pulled p.items p.since held (Err errors.Failed) p.reads finds in
    let few : length p.pulled < 2 ^ 40 = omega (arith, p.reads.before, finds.1) in
    (inl tt, whole_behind Source old source held p ends.0 (input_by Source held.parts.ended p.pulled p.since (ends.1, more-open held.parts.ended p.since ends.1, few) (λ at broken. absurd (not_broken held.parts.ended p.pulled p.items p.since ends.0 ends.1 at broken))))
ends_here old source held p (Err errors.Memory) finds = (inr refl, early_behind Memory old source held (inr (inr (inl refl))) p)

pub ends_by : (old now source : SourceState) (held held_now : ReaderState) (status : Status) (pulling : Pulling old now held) → Gives held held_now pulling.since (Err status) now source → EndsHere status old source pulling.items
ends_by old now source held held_now status pulling gives =
    let I : Result Item Status → Type 0 = λ next. IfErr next (λ s. EndsHere s old source pulling.items) in
    subst I (sym gives.next_is) (ends_here old source held_now (pulling_still old now source held held_now status pulling gives) gives.answer gives.says.finds)

-- behind the end of the input it is where it was, however the stints there end
pub ends_closed : (status : Status) (old new : SourceState) → EndsEarly status ⊎ (status ≡ Done) → Ends Done old new → Ends status old new
ends_closed status old new (inl early) e = record { pulled = e.pulled; pulled_are = e.pulled_are; ended = e.ended; ended_is = e.ended_is; rest = e.rest; input_at = input_early status e.ended e.pulled e.rest early }
ends_closed status old new (inr is) e = subst (λ (st : Status). Ends st old new) (sym is) e

-- so no other status ends it
pub ends_else : (status other : Status) → CarriesOutAll status ⊎ (status ≡ Memory) → (CarriesOutAll other → ⊥) → (Memory ≡ other → ⊥) → status ≡ other → ⊥
ends_else status other (inl all) early late is = early (subst CarriesOutAll is all)
ends_else status other (inr memory) early late is = late (sym memory ∙ is)

-- why a run whose machine didn't fail came to its end, or found no memory or a sublist damaged
pub completes : (status : Status) (old new : MachineState) → Ends status old.source new.source → MayEnd status old new → IsScript old.source.left → length old.source.left < 2 ^ 40
    → (status ≡ Disk → ⊥) → (status ≡ Source → ⊥) → (status ≡ Sink → ⊥) → (status ≡ Done) ⊎ ((status ≡ Memory) ⊎ ((damage : Damage) × (status ≡ Damaged damage)))
completes Done old new ends may script few disk source sink = inl refl
completes Memory old new ends may script few disk source sink = inr (inl refl)
completes (Damaged damage) old new ends may script few disk source sink = inr (inr (damage, refl))
completes (Script at) old new ends may script few disk source sink = absurd (go ends.ended ends.ended_is (ends.input_at.script at refl))
  where
    whole : IsScript (ends.pulled ++ new.source.left)
    whole = subst IsScript ends.pulled_are script

    go : (ended : Bool) → (ended ≡ true → new.source.left ≡ []) → IsBrokenAt ended ends.pulled at → ⊥
    go false is broken = script_whole ends.pulled new.source.left at whole broken
    go true is broken =
        let none : ends.pulled ++ new.source.left ≡ ends.pulled = ap (λ (l : List ℕ). ends.pulled ++ l) (is refl) ∙ append-nil ends.pulled in
        script_unbroken ends.pulled at (subst IsScript none whole) broken
completes Budget old new ends may script few disk source sink = absurd (omega (arith, (ends.input_at.budget refl).2, few, length-append ends.pulled new.source.left, ap length ends.pulled_are))
completes Usage old new ends may script few disk source sink = absurd (may.no_usage refl)
completes (NotArchive at) old new ends may script few disk source sink = absurd (may.no_load at refl)
completes (NotEmpty n) old new ends may script few disk source sink = absurd (may.not_full n refl)
completes Disk old new ends may script few disk source sink = absurd (disk refl)
completes Source old new ends may script few disk source sink = absurd (source refl)
completes Sink old new ends may script few disk source sink = absurd (sink refl)
completes (Gap have got) old new ends may script few disk source sink = absurd (may.no_packets tt)
completes (Conflict number place kept got) old new ends may script few disk source sink = absurd (may.no_packets tt)
completes (Packet at) old new ends may script few disk source sink = absurd (may.no_packets tt)

-- ---- what is left over calls in a row, and what may have been the cause of the end

pub later_joins : (old mid new : MachineState) → IsLater old mid → IsLater mid new → IsLater old new
later_joins old mid new one other = record { source = omega (arith, one.source, other.source); sink = omega (arith, one.sink, other.sink); disk = omega (arith, one.disk, other.disk) }

-- a call of the disk is no fault of another part
pub later_alone : (old new : MachineState) → new.source ≡ old.source → new.sink ≡ old.sink → old.disk.faults ≤ new.disk.faults → IsLater old new
later_alone old new source sink disk = record { source = omega (arith, ap (λ (s : SourceState). s.faults) source); sink = omega (arith, ap (λ (s : SinkState). s.faults) sink); disk = disk }

-- calls that leave the source as it was
pub later_still : (old new : MachineState) → new.source ≡ old.source → old.sink.faults ≤ new.sink.faults → old.disk.faults ≤ new.disk.faults → IsLater old new
later_still old new source sink disk = record { source = omega (arith, ap (λ (s : SourceState). s.faults) source); sink = sink; disk = disk }

-- what ended so since a moment ended so since any earlier one
pub ends_later : (status : Status) (old mid new : MachineState) → IsLater old mid → MayEnd status mid new → MayEnd status old new
ends_later status old mid new later ends = record {
  source = λ is. omega (arith, later.source, ends.source is);
  sink = λ is. omega (arith, later.sink, ends.sink is);
  disk = λ is. omega (arith, later.disk, ends.disk is);
  no_usage = ends.no_usage;
  no_load = ends.no_load;
  not_full = ends.not_full;
  no_packets = ends.no_packets;
}

-- what stopped a run ended it
pub stop_ends : (status : Status) (stop : Stop) (old new : MachineState) → status ≡ status_of_stop stop → (stop ≡ stops.Disk → Rose old.disk.faults new.disk.faults) → (stop ≡ stops.Sink → Rose old.sink.faults new.sink.faults) → MayEnd status old new
stop_ends status stop old new is disk sink = subst (λ (st : Status). MayEnd st old new) (sym is) (go stop disk sink)
  where
    go : (s : Stop) → (s ≡ stops.Disk → Rose old.disk.faults new.disk.faults) → (s ≡ stops.Sink → Rose old.sink.faults new.sink.faults) → MayEnd (status_of_stop s) old new
    go stops.Disk disk sink = record { source = λ is. absurd cc; sink = λ is. absurd cc; disk = λ is. disk refl; no_usage = λ is. cc; no_load = λ at is. cc; not_full = λ n is. cc; no_packets = λ of. of }
    go stops.Sink disk sink = record { source = λ is. absurd cc; sink = λ is. sink refl; disk = λ is. absurd cc; no_usage = λ is. cc; no_load = λ at is. cc; not_full = λ n is. cc; no_packets = λ of. of }
    go stops.Memory disk sink = record { source = λ is. absurd cc; sink = λ is. absurd cc; disk = λ is. absurd cc; no_usage = λ is. cc; no_load = λ at is. cc; not_full = λ n is. cc; no_packets = λ of. of }
    go (stops.Damaged damage) disk sink = record { source = λ is. absurd cc; sink = λ is. absurd cc; disk = λ is. absurd cc; no_usage = λ is. cc; no_load = λ at is. cc; not_full = λ n is. cc; no_packets = λ of. of }

pub left_joins : (tells : Type 0) (old mid new : DiskState) (first then now : ArchiveState) → IsLeft tells old mid first then → IsLeft tells mid new then now → IsLeft tells old new first now
left_joins tells old mid new first then now one other = record {
  ready = other.ready;
  cached = λ told stands. other.cached told (one.cached told stands);
}

pub on_left : (tells : Type 0) (result : Result (Unit {0}) Stop) (old mid new : DiskState) (first then now : ArchiveState) → IsLeft tells old mid first then → OnOk result (IsLeft tells mid new then now) → OnOk result (IsLeft tells old new first now)
on_left tells (Ok done) old mid new first then now one other = left_joins tells old mid new first then now one other
on_left tells (Err stop) old mid new first then now one other = tt

-- and over pushes
pub left_beside : (tells : Type 0) (old mid new : DiskState) (archive archive_now : ArchiveState) → IsSameBeside mid new → IsLeft tells old mid archive archive_now → IsLeft tells old new archive archive_now
left_beside tells old mid new archive archive_now same left =
    let L : DiskState → Type 0 = λ d. IsLeft tells old d archive archive_now in
    let is = subst L (sym same.same) left in
    record { ready = is.ready; cached = is.cached }

-- a run that ends at a damage was stopped there
pub stopped_at : (stop : Stop) (damage : Damage) → status_of_stop stop ≡ Damaged damage → stop ≡ stops.Damaged damage
stopped_at (stops.Damaged other) damage is = cc
stopped_at stop damage is = cc

-- ---- by the disk alone

-- the item that was taken is the next of the bytes pulled
pub pulled_one : (old now source : SourceState) (held held_now : ReaderState) (item : Item) (p : Pulling old now held) → Gives held held_now p.since (Ok item) now source → (q : Pulling old source held_now) × (q.items ≡ p.items ++ item ∷ [])
pulled_one old now source held held_now item p gives = (pulling_next old now source held held_now item p gives, refl)

-- items that were given out are the first of those of the bytes pulled
pub are_pulled : (old new : SourceState) (held : ReaderState) (items : List Item) → (q : Pulling old new held) → q.items ≡ items → ArePulled old new items
are_pulled old new held items q same =
    let behind = each_splits held.parts.ended q.since in
    record {
      pulled = q.pulled;
      pulled_are = q.pulled_are;
      ended = held.parts.ended;
      ended_is = q.told;
      behind = behind.0;
      rest = behind.1;
      split = (let S : List Item → Type 0 = λ l. Splits held.parts.ended q.pulled (l ++ behind.0) behind.1 in subst S same (items-join held.parts.ended q.pulled q.since behind.1 q.items behind.0 (read_so_far q.reads) behind.2.0, behind.2.1));
    }

-- what an item that was taken came to
pub passes_one : (tells : Type 0) (s : Store) (item : Item) (d : DiskState) (archive : ArchiveState) (source source_now : SourceState) (held held_now : ReaderState) → PassesOn s item (Ok tt) d archive
    → (tells → (began : SourceState) → (p : Pulling began source held) → Gives held held_now p.since (Ok item) source source_now) → HasPassed tells s d archive source source_now held held_now
passes_one tells s item d archive source source_now held held_now (outcomes, run, in_step) gives = record {
  items = item ∷ [];
  outcomes = outcomes;
  run = run;
  in_step = in_step;
  pulled = λ told began p. pulled_one began source source_now held held_now item p (gives told began p);
}

pub spoils_one : (tells : Type 0) (s : Store) (item : Item) (status : Status) (stop : Stop) (d : DiskState) (archive : ArchiveState) (source source_now : SourceState) (held held_now : ReaderState) → status ≡ status_of_stop stop → PassesOn s item (Err stop) d archive
    → (tells → (began : SourceState) → (p : Pulling began source held) → Gives held held_now p.since (Ok item) source source_now) → (damage : Damage) → status ≡ Damaged damage → HasSpoiled tells s d source source_now held damage
spoils_one tells s item status stop d archive source source_now held held_now is passes gives damage same =
    let (spoils, pages) = subst (λ (x : Stop). PassesOn s item (Err x) d archive) (stopped_at stop damage (sym is ∙ same)) passes in
    record {
      before = [];
      outcomes = [];
      run = refl;
      item = item;
      spoiled = spoils;
      pages_are = pages;
      pulled = λ told began p. (let one = pulled_one began source source_now held held_now item p (gives told began p) in are_pulled began source_now held_now (p.items ++ item ∷ []) one.0 one.1);
    }

-- items in turn
pub passed_joins : (tells : Type 0) (s : Store) (d e : DiskState) (a b : ArchiveState) (x y z : SourceState) (h i j : ReaderState) → (one : HasPassed tells s d a x y h i) → HasPassed tells (last_state s one.outcomes) e b y z i j → HasPassed tells s e b x z h j
passed_joins tells s d e a b x y z h i j one more = record {
  items = one.items ++ more.items;
  outcomes = one.outcomes ++ more.outcomes;
  run = works_join StoreStep StoreStint is_at_work s one.items more.items one.outcomes more.outcomes one.run more.run;
  in_step = rw (last_state_joins s one.outcomes more.outcomes) more.in_step;
  pulled = λ told began p.
      let first = one.pulled told began p in
      let then = more.pulled told began first.0 in
      (then.0, then.1 ∙ ap (λ (l : List Item). l ++ more.items) first.1 ∙ append_assoc p.items one.items more.items);
}

pub spoiled_joins : (tells : Type 0) (s : Store) (d e : DiskState) (a : ArchiveState) (x y z : SourceState) (h i : ReaderState) (damage : Damage) → (one : HasPassed tells s d a x y h i) → HasSpoiled tells (last_state s one.outcomes) e y z i damage → HasSpoiled tells s e x z h damage
spoiled_joins tells s d e a x y z h i damage one more = record {
  before = one.items ++ more.before;
  outcomes = one.outcomes ++ more.outcomes;
  run = works_join StoreStep StoreStint is_at_work s one.items more.before one.outcomes more.outcomes one.run more.run;
  item = more.item;
  spoiled = rw (last_state_joins s one.outcomes more.outcomes) more.spoiled;
  pages_are = rw (last_state_joins s one.outcomes more.outcomes) more.pages_are;
  pulled = λ told began p.
      let first = one.pulled told began p in
      let all : first.0.items ++ (more.before ++ more.item ∷ []) ≡ p.items ++ ((one.items ++ more.before) ++ more.item ∷ []) =
      ap (λ (l : List Item). l ++ (more.before ++ more.item ∷ [])) first.1 ∙ append_assoc p.items one.items (more.before ++ more.item ∷ []) ∙ ap (λ (l : List Item). p.items ++ l) (sym (append_assoc one.items more.before (more.item ∷ []))) in
      let P : List Item → Type 0 = λ l. ArePulled began z l in
      subst P all (more.pulled told began first.0);
}

-- since the input was begun
pub spoiled_start : (tells : Type 0) (s : Store) (d : DiskState) (began source source_now : SourceState) (held : ReaderState) (damage : Damage) → source ≡ began → held ≡ fresh → (one : HasSpoiled tells s d source source_now held damage) → tells
    → ArePulled began source_now (one.before ++ one.item ∷ [])
spoiled_start tells s d began source source_now held damage same is one told =
    let G : ReaderState → Type 0 = λ h. (p : Pulling began source h) → ArePulled began source_now (p.items ++ (one.before ++ one.item ∷ [])) in
    subst G is (one.pulled told began) (pulling_first began source same)

-- before any
pub none_passed : (tells : Type 0) (s : Store) (d : DiskState) (a : ArchiveState) (x : SourceState) (h : ReaderState) → AreInStepBy d a s → HasPassed tells s d a x x h h
none_passed tells s d a x h in_step = record { items = []; outcomes = []; run = refl; in_step = in_step; pulled = λ told began p. (p, sym (append-nil p.items)) }
