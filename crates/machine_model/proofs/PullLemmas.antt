-- Pulls in a row are joined, and a source's pulls are those of its machine.
use Rattle.std.proofs.Common.{◌≡◌, ◌≤◌, ◌^◌, ◌-◌, List, [], ◌∷◌, ◌++◌, ℕ, map, refl, ap, subst, ◌∙◌}
use Rattle.machine_model.specs.States.{SourceState, SinkState}
use Rattle.machine_model.specs.Pulls.{Pull, ArePulls, AreAsked}
use Rattle.machine_model.specs.Laws.{SourceLaws, AskedLaws}

pulls_join : {S : Type 0} (left : S → List ℕ) (only : S → S → Type 0) (x y z : S) (a b : List (List ℕ)) →
    ArePulls left only x a y → ArePulls left only y b z → ArePulls left only x (a ++ b) z
pulls_join {S} left only x y z [] b same two = let P : S → Type 0 = λ s. ArePulls left only s b z in subst P same two
pulls_join {S} left only x y z (before ∷ a) b one two = (one.0, one.1, one.2, pulls_join left only one.0 y z a b one.3 two)

still_asked : {S A : Type 0} (source : S → A) (before : S → Pull → Type 0) (only : S → S → Type 0) (x y z : S) (b : List Pull) →
    source y ≡ source x → AreAsked source before only y b z → AreAsked source before only x b z
still_asked source before only x y z [] same two = two ∙ same
still_asked source before only x y z (pull ∷ b) same two = (two.0, two.1, two.2 ∙ same, two.3, two.4, two.5)

asked_join : {S A : Type 0} (source : S → A) (before : S → Pull → Type 0) (only : S → S → Type 0) (x y z : S) (a b : List Pull) →
    AreAsked source before only x a y → AreAsked source before only y b z → AreAsked source before only x (a ++ b) z
asked_join source before only x y z [] b one two = still_asked source before only x y z b one two
asked_join source before only x y z (pull ∷ a) b one two = (one.0, one.1, one.2, one.3, one.4, asked_join source before only one.1 y z a b one.5 two)

-- the pulls of a source, beside what is shown, which they leave as it is
pulls_asked : {S A : Type 0} (source : S → A) (left shown : S → List ℕ) (only : S → S → Type 0) → ((x y : S) → only x y → shown y ≡ shown x) →
    (x y : S) (beside : List ℕ) → shown x ≡ beside → (lefts : List (List ℕ)) → ArePulls left only x lefts y →
    AreAsked source (λ s pull. (left s ≡ pull.left) × (shown s ≡ pull.shown)) only x (map (λ before. record { left = before; shown = beside }) lefts) y
pulls_asked source left shown only alone x y beside is [] same = ap source same
pulls_asked source left shown only alone x y beside is (before ∷ lefts) one =
    (x, one.0, refl, (one.1, is), one.2, pulls_asked source left shown only alone one.0 y beside (alone x one.0 one.2 ∙ is) lefts one.3)

-- the laws of a source, from those of the states that it stands for
pub source_laws : {X S : Type 0} (meaning : X → S) (source : S → SourceState) (only : S → S → Type 0) →
    ((s : S) → only s s) → ((s t u : S) → only s t → only t u → only s u) → ((s t : S) → only s t → (source s).faults ≤ (source t).faults) → ((x : X) → (source (meaning x)).faults ≤ 2 ^ 64 - 1) →
    SourceLaws (λ x. source (meaning x)) (λ x y. only (meaning x) (meaning y)) (λ x lefts y. ArePulls (λ s. (source s).left) only (meaning x) lefts (meaning y))
source_laws meaning source only same joins faults limit = record {
  same = λ x. same (meaning x);
  joins = λ x y z one two. joins (meaning x) (meaning y) (meaning z) one two;
  unpulled = λ x. refl;
  pulls_join = λ x y z a b one two. pulls_join (λ s. (source s).left) only (meaning x) (meaning y) (meaning z) a b one two;
  still = λ x y is. ap source is;
  faults = λ x y one. faults (meaning x) (meaning y) one;
  limit = limit;
}

-- the laws of a machine's pulls, from those of the states that it stands for
pub asked_laws : {X S : Type 0} (meaning : X → S) (source : S → SourceState) (sink : S → SinkState) (only : S → S → Type 0) → ((s t : S) → only s t → sink t ≡ sink s) →
    (sink_only : S → S → Type 0) → ((s t : S) → sink_only s t → source t ≡ source s) → (disk_only : S → S → Type 0) → ((s t : S) → disk_only s t → source t ≡ source s) →
    AskedLaws (λ x. source (meaning x)) (λ x. sink (meaning x)) (λ x lefts y. ArePulls (λ s. (source s).left) only (meaning x) lefts (meaning y)) (λ x y. sink_only (meaning x) (meaning y)) (λ x y. disk_only (meaning x) (meaning y))
    (λ x pulls y. AreAsked source (λ s pull. ((source s).left ≡ pull.left) × ((sink s).shown ≡ pull.shown)) only (meaning x) pulls (meaning y))
asked_laws meaning source sink only alone sink_only of_sink disk_only of_disk = record {
  by = λ x y lefts are. pulls_asked source (λ s. (source s).left) (λ s. (sink s).shown) only (λ s t one. ap (λ (k : SinkState). k.shown) (alone s t one)) (meaning x) (meaning y) (sink (meaning x)).shown refl lefts are;
  of_sink = λ x y one. of_sink (meaning x) (meaning y) one;
  of_disk = λ x y one. of_disk (meaning x) (meaning y) one;
  join = λ x y z a b one two. asked_join source (λ s pull. ((source s).left ≡ pull.left) × ((sink s).shown ≡ pull.shown)) only (meaning x) (meaning y) (meaning z) a b one two;
  still = λ x y is. is;
}
