-- What a run of calls of a reader gives.
use Rattle.std.specs.Prelude.{◌≡◌, ℕ, Bool, true, false, List, [], ◌++◌, Option, Some, None, Result, Ok, Err, refl}
use Rattle.std.proofs.Common.{arith, sym, ◌∙◌, subst, append_assoc, append-nil, length-append}
use Rattle.base_commands.specs.declared.command.Item.{Item}
use Rattle.script_read.specs.declared.first.First.TheVariants.{Broken, More}
use Rattle.script_read.specs.declared.error.ScriptError.{ScriptError}
use Rattle.script_read.specs.declared.error.ScriptError.TheVariants as errors
use Rattle.script_read.specs.Reading.{MayFollow}
use Rattle.script_read.proofs.RunLemmas as run
use Rattle.script_items.specs.Items.{Items, Splits, Waits}
use Rattle.script_items.specs.Reading.{ReaderState, fresh, given, Finds, Says, IsCalm, Reads, EndsWith, IsAwaited, taken}
use Rattle.script_items.proofs.Joins.{items-join, stay}
use Rattle.script_items.proofs.Splitting.{end-is, never-more}

-- at the start
pub reads_start : Reads [] [] [] fresh
reads_start = record {
  stands = record { parts = []; tail = []; reads = run.reads_start; none_whole = refl; holds = tt };
  split = λ ended more ok. record { parts = []; in_turn = record { pieces = []; items_are = refl; in_turn = refl }; are = refl };
  before = refl;
}

-- once the end was told nothing was pulled, and it stays told
told : (since : List ℕ) (old : ReaderState) (more : List ℕ) (new : ReaderState) → IsCalm since old more new → old.parts.ended ≡ true → (more ≡ []) × (new.parts.ended ≡ true)
told since old more new calm e =
    let never : Waits old.parts.ended since → ⊥ = λ waits. (let there = subst (λ (b : Bool). Waits b since) e waits in never-more there.0 there.2) in
    let still = calm never in (still.0, still.1 ∙ e)

-- After any answer the bytes pulled are the items given out and then those that the reader stands for.
pub reads_on : (pulled : List ℕ) (items : List Item) (since : List ℕ) (old : ReaderState) (more : List ℕ) (r : Result (Option Item) ScriptError) (new : ReaderState)
    → Reads pulled items since old → IsCalm since old more new → (says : Says old since more r new) → Reads (pulled ++ more) (items ++ given r) says.rest new
reads_on pulled items since old more r new reads calm says = record {
  stands = says.stands;
  split = λ ended x ok.
      let P : List ℕ → Type 0 = λ l. Items ended l (items ++ given r) (says.rest ++ x) in
      let S : List ℕ → Type 0 = λ l. Items ended l (given r) (says.rest ++ x) in
      let base = reads.split ended (more ++ x) (run.follows old.parts.ended ended new.parts.ended more x (told since old more new calm) ok) in
      let behind = subst S (append_assoc since more x) (stay new.parts.ended ended (since ++ more) x says.rest (given r) ok says.items) in
      subst P (sym (append_assoc pulled more x)) (items-join ended (pulled ++ (more ++ x)) (since ++ (more ++ x)) (says.rest ++ x) items (given r) base behind);
  before = omega (arith, reads.before, says.place, length-append pulled more);
}

-- the bytes pulled so far are the items given out and then those since
pub read_so_far : {pulled : List ℕ} {items : List Item} {since : List ℕ} {held : ReaderState} → Reads pulled items since held → Items held.parts.ended pulled items since
read_so_far {pulled} {items} {since} {held} reads =
    let I : List ℕ → List ℕ → Type 0 = λ p s. Items held.parts.ended p items s in
    subst (λ p. I p since) (append-nil pulled) (subst (λ s. I (pulled ++ []) s) (append-nil since) (reads.split held.parts.ended [] (go held.parts.ended)))
  where
    go : (ended : Bool) → MayFollow ended ended []
    go false = tt
    go true = (refl, refl)

-- What the last answer of a run says of all bytes pulled and of the items given out.
pub reads_end : (pulled : List ℕ) (items : List Item) (rest : List ℕ) (held : ReaderState) (r : Result (Option Item) ScriptError) → Reads pulled items rest held
    → Finds r held.parts.ended (taken held) rest → EndsWith r held.parts.ended pulled items rest
reads_end pulled items rest held (Ok (Some item)) reads finds = tt
reads_end pulled items rest held (Ok None) reads finds =
    let is = end-is held.parts.ended rest finds in
    let P : Bool → Type 0 = λ b. Items b pulled items rest in
    let Q : List ℕ → Type 0 = λ l. Items true pulled items l in
    (is.0, subst Q is.1 (subst P is.0 (read_so_far reads)))
reads_end pulled items rest held (Err (errors.Broken at)) reads finds =
    let so_far = read_so_far reads in (
      (so_far, (Broken finds.0, finds.1)),
      record { items = items; rest = rest; within = finds.0; before = so_far; broken = finds.1; place = omega (arith, finds.2, reads.before) },
    )
reads_end pulled items rest held (Err errors.Budget) reads finds = ((read_so_far reads, (More, finds.0)), finds.0, sym reads.before ∙ finds.1)
reads_end pulled items rest held (Err errors.Failed) reads finds = ((read_so_far reads, (More, finds.0)), finds.0)
reads_end pulled items rest held (Err errors.Memory) reads finds = read_so_far reads

-- where a pull is made, what was pulled by then is the items given out and a rest in which no item is whole
pub pulled_by_then : (pulled : List ℕ) (items : List Item) (since : List ℕ) (held : ReaderState) (all left : List ℕ) → Reads pulled items since held → IsAwaited since all left
    → held.parts.ended ≡ false → (given : List ℕ) × (all ≡ given ++ left) × (rest : List ℕ) × Splits false (pulled ++ given) items rest
pulled_by_then pulled items since held all left reads awaited open_end =
    let base = reads.split false awaited.0 (subst (λ (b : Bool). MayFollow b false awaited.0) (sym open_end) tt) in
    let waits = awaited.2 in
    let I : List Item → Type 0 = λ l. Items false (pulled ++ awaited.0) l waits.0 in
    (awaited.0, awaited.1, waits.0, (subst I (append-nil items) (items-join false (pulled ++ awaited.0) (since ++ awaited.0) waits.0 items [] base waits.1), (More, waits.2)))
