use Rattle.std.proofs.Common.{◌≡◌, ℕ, List, [], ◌∷◌, ◌++◌, ◌+◌, ◌*◌, ◌<◌, ◌==◌, All, arith}
use Rattle.std.proofs.lemmas.List.Elements.{All-filter, All-weaker, All-append, All-cons, All-nil}
use Rattle.lists_versions.specs.declared.change.Change.{Change}
use Rattle.lists_index.specs.Indexing.{ComesLater}
use Rattle.lists_index.specs.Loads.{Loads}
use Rattle.tests_lists.proofs.tests.index.loaded.Goals as goal

-- the next change comes 10 seconds later than the one before it
step : (A B : List (Change (List ℕ)) → Type 0) (c : Change (List ℕ)) (n : ℕ) → c.at.seconds ≡ 10 * n + 10 → ((cs : List (Change (List ℕ))) → A cs → ComesLater cs c → B (cs ++ c ∷ []))
    → (cs : List (Change (List ℕ))) × A cs × All (λ d. d.at.seconds < 10 * n + 10) cs → (cs : List (Change (List ℕ))) × B cs × All (λ d. d.at.seconds < 10 * (n + 1) + 10) cs
step A B c n e f (cs, a, h) = (
  cs ++ c ∷ [],
  f cs a (All-filter (λ d. d.doc.0 == c.doc.0) (λ (d : Change (List ℕ)). d.at.seconds < c.at.seconds) cs (All-weaker (λ (d : Change (List ℕ)). d.at.seconds < 10 * n + 10) (λ d. d.at.seconds < c.at.seconds) (λ d m. omega (arith, m, e)) cs h)),
  All-append (λ (d : Change (List ℕ)). d.at.seconds < 10 * (n + 1) + 10) cs (c ∷ []) (All-weaker (λ (d : Change (List ℕ)). d.at.seconds < 10 * n + 10) (λ d. d.at.seconds < 10 * (n + 1) + 10) (λ d m. omega (arith, m)) cs h)
      (All-cons (λ (d : Change (List ℕ)). d.at.seconds < 10 * (n + 1) + 10) c [] (omega (arith, e)) (All-nil (λ (d : Change (List ℕ)). d.at.seconds < 10 * (n + 1) + 10))),
)

pub loop-i-preserved : goal.loop-i-preserved
loop-i-preserved g c = step (Loads c.loop-i.loader) (Loads c.add.new.loader) _ c.loop-i.i c.time_at.ensures c.add.ensures c.loop-i.invariant
