-- Runs of items join.
use Rattle.std.specs.Prelude.{◌≡◌, ℕ, Bool, false, List, [], ◌∷◌, ◌++◌, drop, filter_map, Option, Some, None, refl}
use Rattle.std.proofs.Common.{ap, subst, ◌∙◌}
use Rattle.script_read.specs.declared.part.Part.{Part}
use Rattle.script_read.specs.Items.{Pieces, Items}
use Rattle.script_read.proofs.Cuts.{pieces-append}

pieces-join : (e : Bool) (bytes mid rest : List ℕ) (xs ys : List (Option Part)) → Pieces e bytes xs mid → Pieces e mid ys rest → Pieces e bytes (xs ++ ys) rest
pieces-join e bytes mid rest [] ys p q = subst (λ b. Pieces e b ys rest) p q
pieces-join e bytes mid rest (x ∷ xs) ys (n, whole, p) q = (n, whole, pieces-join e (drop n bytes) mid rest xs ys p q)

somes-append : (xs ys : List (Option Part)) → filter_map (λ p. p) (xs ++ ys) ≡ filter_map (λ p. p) xs ++ filter_map (λ p. p) ys
somes-append [] ys = refl
somes-append (None ∷ xs) ys = somes-append xs ys
somes-append (Some x ∷ xs) ys = ap (λ l. x ∷ l) (somes-append xs ys)

pub items-join : (e : Bool) (bytes mid rest : List ℕ) (xs ys : List Part) → Items e bytes xs mid → Items e mid ys rest → Items e bytes (xs ++ ys) rest
items-join e bytes mid rest xs ys a b = record {
  pieces = a.pieces ++ b.pieces;
  items_are = somes-append a.pieces b.pieces ∙ ap (λ l. l ++ filter_map (λ p. p) b.pieces) a.items_are ∙ ap (λ l. xs ++ l) b.items_are;
  in_turn = pieces-join e bytes mid rest a.pieces b.pieces a.in_turn b.in_turn;
}

-- the items of bytes are those of any longer ones
pub items-append : (e : Bool) (bytes x rest : List ℕ) (items : List Part) → Items false bytes items rest → Items e (bytes ++ x) items (rest ++ x)
items-append e bytes x rest items i = record { pieces = i.pieces; items_are = i.items_are; in_turn = pieces-append e bytes x rest i.pieces i.in_turn }
