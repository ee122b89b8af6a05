-- The faults looked at so far.
use Rattle.std.proofs.Common.{◌≡◌, ◌↔◌, ℕ, ◌+◌, ◌<◌, ◌≤◌, Bool, false, IsTrue, List, take, length, get_or, subst, rules}
use Rattle.std.proofs.lemmas.List.{take_all}
use Rattle.std.proofs.lemmas.List.Elements.{All-more}
use Rattle.machine_mem.specs.declared.faults.CallKind.{CallKind}
use Rattle.machine_mem.specs.declared.faults.Fault.{Fault}
use Rattle.machine_mem.specs.Faults.{Names, IsSpared}

untrue : (result : Bool) → result ≡ false → IsTrue result → ⊥
untrue result is so = search rules

pub spared_more : (faults : List Fault) (kind : CallKind) (nth i : ℕ) (d : Fault) (result : Bool) → i < length faults → IsSpared (take i faults) kind nth
    → (IsTrue result ↔ Names (get_or faults i d) kind nth) → result ≡ false → IsSpared (take (i + 1) faults) kind nth
spared_more faults kind nth i d result within so_far test is =
    All-more (λ (f : Fault). Names f kind nth → ⊥) faults i d within so_far (λ names. untrue result is (test.1 names))

pub spared_all : (faults items : List Fault) (kind : CallKind) (nth number i : ℕ) → items ≡ faults → nth ≡ number → length items ≤ i
    → IsSpared (take i items) kind nth → IsSpared faults kind number
spared_all faults items kind nth number i same number_is over so_far =
    let P : List Fault → Type 0 = λ xs. IsSpared xs kind number in
    let Q : ℕ → Type 0 = λ n. IsSpared (take i items) kind n in
    subst P same (subst P (take_all i items over) (subst Q number_is so_far))
