-- What a run of calls of a reader gives.
use Rattle.std.specs.Prelude.{◌≡◌, ℕ, ◌+◌, Bool, true, false, List, [], ◌++◌, length, Option, Result, refl}
use Rattle.std.proofs.Common.{arith, ap, sym, ◌∙◌, subst, append_assoc, append-nil}
use Rattle.script_read.specs.declared.part.Part.{Part}
use Rattle.script_read.specs.Items.{Items, Waits}
use Rattle.script_read.specs.Reading.{ReaderState, StandsFor, fresh, given, taken, Says, IsCalm, MayFollow, Reads}
use Rattle.script_read.specs.declared.error.ScriptError.{ScriptError}
use Rattle.script_read.proofs.Joins.{items-join, items-append}
use Rattle.script_read.proofs.ReaderLemmas.{length-since}
use Rattle.script_read.proofs.Splitting.{never-more}

-- at the start
pub reads_start : Reads [] [] [] fresh
reads_start = record { stands = refl; split = λ ended more ok. record { pieces = []; items_are = refl; in_turn = refl } }

-- once the end was told nothing was pulled, and it stays told
told : (since : List ℕ) (old : ReaderState) (more : List ℕ) (new : ReaderState) → IsCalm since old more new → old.ended ≡ true → (more ≡ []) × (new.ended ≡ true)
told since old more new calm e =
    let never : Waits old.ended since → ⊥ = λ waits. (let P : Bool → Type 0 = λ b. Waits b since in let there = subst P e waits in never-more there.0 there.2) in
    let still = calm never in (still.0, still.1 ∙ e)

-- what may follow after a call may follow before it, behind the bytes pulled in it
pub follows : (e ended next : Bool) (more x : List ℕ) → (e ≡ true → (more ≡ []) × (next ≡ true)) → MayFollow next ended x → MayFollow e ended (more ++ x)
follows false ended next more x calm ok = tt
follows true ended next more x calm ok =
    let P : Bool → Type 0 = λ b. MayFollow b ended x in
    let last : MayFollow true ended x = subst P (calm refl).1 ok in
    (last.0, ap (λ (l : List ℕ). l ++ x) (calm refl).0 ∙ last.1)

-- items stay so whatever may follow
pub stay : (e ended : Bool) (bs x rest : List ℕ) (items : List Part) → MayFollow e ended x → Items e bs items rest → Items ended (bs ++ x) items (rest ++ x)
stay false ended bs x rest items ok are = items-append ended bs x rest items are
stay true ended bs x rest items ok are =
    let P : List ℕ → Type 0 = λ l. Items ended (bs ++ l) items (rest ++ l) in
    let Q : List ℕ → Type 0 = λ l. Items ended l items (rest ++ []) in
    let R : List ℕ → Type 0 = λ l. Items ended bs items l in
    let E : Bool → Type 0 = λ b. Items b bs items rest in
    subst P (sym ok.1) (subst Q (sym (append-nil bs)) (subst R (sym (append-nil rest)) (subst E (sym ok.0) are)))

-- After any answer the bytes pulled are the items given out and then those that the reader stands for.
pub reads_on : (pulled : List ℕ) (items : List Part) (since : List ℕ) (old : ReaderState) (more : List ℕ) (r : Result (Option Part) ScriptError) (new : ReaderState)
    → Reads pulled items since old → IsCalm since old more new → (says : Says old.passed (since ++ more) r new) → Reads (pulled ++ more) (items ++ given r) says.rest new
reads_on pulled items since old more r new run calm says = record {
  stands = says.stands;
  split = λ ended x ok.
      let P : List ℕ → Type 0 = λ l. Items ended l (items ++ given r) (says.rest ++ x) in
      let S : List ℕ → Type 0 = λ l. Items ended l (given r) (says.rest ++ x) in
      let base = run.split ended (more ++ x) (follows old.ended ended new.ended more x (told since old more new calm) ok) in
      let behind = subst S (append_assoc since more x) (stay new.ended ended (since ++ more) x says.rest (given r) ok says.items) in
      subst P (sym (append_assoc pulled more x)) (items-join ended (pulled ++ (more ++ x)) (since ++ (more ++ x)) (says.rest ++ x) items (given r) base behind);
}

-- the bytes pulled so far are the items given out and then those since
pub read_so_far : {pulled : List ℕ} {items : List Part} {since : List ℕ} {held : ReaderState} → Reads pulled items since held → Items held.ended pulled items since
read_so_far {pulled} {items} {since} {held} reads =
    let I : List ℕ → List ℕ → Type 0 = λ p s. Items held.ended p items s in
    subst (λ p. I p since) (append-nil pulled) (subst (λ s. I (pulled ++ []) s) (append-nil since) (reads.split held.ended [] (go held.ended)))
  where
    go : (ended : Bool) → MayFollow ended ended []
    go false = tt
    go true = (refl, refl)

-- how many bytes were taken
pub taken-is : (held : ReaderState) (since : List ℕ) → StandsFor held since → taken held ≡ held.passed + length since
taken-is held since stands = omega (arith, length-since held since stands)
