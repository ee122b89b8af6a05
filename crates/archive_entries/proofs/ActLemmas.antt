-- Going over the acts of a batch, one after another.
use Rattle.std.proofs.Common.{◌≡◌, ℕ, ◌+◌, ◌<◌, ◌≤◌, List, [], ◌∷◌, ◌++◌, length, map, take, drop, get_or, All, ap, subst, sym, ◌∙◌, arith, append_assoc, append-nil, length-append, take-append-drop}
use Rattle.std.proofs.lemmas.List.{map-append, drop_more, take_more}
use Rattle.base_types.specs.declared.text_place.TextPlace.{TextPlace}
use Rattle.lists_versions.specs.declared.change.Change.{Change}
use Rattle.lists_versions.specs.Changes.{mapped}
use Rattle.lists_index.specs.Loads.{Loaded}
use Rattle.journal_entries.specs.Acts.{act_bytes, acts_bytes, act_length, alone, batch_front, batch_spelling, IsAct}
use Rattle.journal_entries.specs.Spelling.{spelling}
use Rattle.journal_entries.specs.declared.act.Act.{Act}
use Rattle.journal_entries.specs.declared.act.Act.TheVariants as batched
use Rattle.journal_entries.specs.declared.entry.Entry.TheVariants.{Batch}
use Rattle.model_archive.specs.Histories.{History, singles}
use Rattle.archive_entries.specs.Places.{pair_of, placed_act, placed_acts}
use Rattle.archive_entries.specs.Replaying.{AreMet}
use Rattle.archive_entries.proofs.PlaceLemmas.{acts_push}

-- one of the acts
pub act_at : (batch : List Act) (i : ℕ) (act : Act) → i < length batch → act ≡ get_or batch i act → All IsAct batch → IsAct act
act_at batch i act within is each = subst IsAct (sym is) (each i act within)

pub act_short : (act : Act) → IsAct act → act_length act ≤ 4194304
act_short (batched.Arrive doc at text) ranges = omega (arith, ranges.2)
act_short (batched.Delete doc at) ranges = omega arith

-- their bytes with an act more
pub acts_pushed : (batch : List Act) (act : Act) → acts_bytes (batch ++ act ∷ []) ≡ acts_bytes batch ++ act_bytes act
acts_pushed [] act = append-nil (act_bytes act)
acts_pushed (x ∷ batch) act = ap (λ (l : List ℕ). act_bytes x ++ l) (acts_pushed batch act) ∙ sym (append_assoc (act_bytes x) (acts_bytes batch) (act_bytes act))

-- how long they are
acts_joined : (one other : List Act) → length (acts_bytes (one ++ other)) ≡ length (acts_bytes one) + length (acts_bytes other)
acts_joined [] other = omega arith
acts_joined (a ∷ one) other = omega (arith, acts_joined one other, length-append (act_bytes a) (acts_bytes (one ++ other)), length-append (act_bytes a) (acts_bytes one))

pub acts_front : (i : ℕ) (batch : List Act) → length (acts_bytes (take i batch)) ≤ length (acts_bytes batch)
acts_front i batch = omega (arith, acts_joined (take i batch) (drop i batch), ap (λ (l : List Act). length (acts_bytes l)) (take-append-drop i batch))

-- an act more
pub acts_taken : (batch : List Act) (i : ℕ) (act : Act) → i < length batch → act ≡ get_or batch i act → take (i + 1) batch ≡ take i batch ++ act ∷ []
acts_taken batch i act within is = take_more batch i act within ∙ ap (λ (x : Act). take i batch ++ x ∷ []) (sym is)

pub acts_more : (batch : List Act) (i : ℕ) (act : Act) → i < length batch → act ≡ get_or batch i act → length (acts_bytes (take (i + 1) batch)) ≡ length (acts_bytes (take i batch)) + length (act_bytes act)
acts_more batch i act within is =
    omega (arith, acts_joined (take i batch) (act ∷ []), length-append (act_bytes act) [], ap (λ (l : List Act). length (acts_bytes l)) (acts_taken batch i act within is))

pub batch_length : (batch : List Act) → length (spelling (Batch batch)) ≡ 5 + length (acts_bytes batch)
unfolding batch_spelling
batch_length batch = omega (arith, length-append (batch_front (length batch)) (acts_bytes batch))

pub acts_split : (batch : List Act) (i : ℕ) (act : Act) → i < length batch → act ≡ get_or batch i act → batch ≡ take i batch ++ act ∷ drop (i + 1) batch
acts_split batch i act within is =
    sym (take-append-drop i batch) ∙ ap (λ (l : List Act). take i batch ++ l) (drop_more batch i act within ∙ ap (λ (x : Act). x ∷ drop (i + 1) batch) (sym is))

pub acts_met : (h : History) (batch : List Act) (i : ℕ) (act : Act) (cs : List (Change TextPlace)) (loader : Loaded) → i < length batch → act ≡ get_or batch i act
    → AreMet ((h ++ singles (take i batch)) ++ alone act ∷ []) cs loader → AreMet (h ++ singles (take (i + 1) batch)) cs loader
acts_met h batch i act cs loader within is met =
    let M : History → Type 0 = λ g. AreMet g cs loader in
    subst M (append_assoc h (singles (take i batch)) (alone act ∷ []) ∙ ap (λ (g : History). h ++ g) (sym (ap singles (acts_taken batch i act within is) ∙ map-append alone (take i batch) (act ∷ [])))) met

pub acts_placed : (batch : List Act) (i : ℕ) (act : Act) (start at : ℕ) (cs so_far more : List (Change TextPlace)) → i < length batch → act ≡ get_or batch i act → at ≡ start + length (acts_bytes (take i batch))
    → map (mapped pair_of) so_far ≡ map (mapped pair_of) cs ++ placed_acts start (take i batch) → map (mapped pair_of) more ≡ map (mapped pair_of) so_far ++ placed_act at act ∷ []
    → map (mapped pair_of) more ≡ map (mapped pair_of) cs ++ placed_acts start (take (i + 1) batch)
acts_placed batch i act start at cs so_far more within is here was pushed =
    let before = map (mapped pair_of) cs in
    let front = placed_acts start (take i batch) in
    pushed ∙ ap (λ (l : List (Change (ℕ × ℕ))). l ++ placed_act at act ∷ []) was ∙ append_assoc before front (placed_act at act ∷ [])
    ∙ ap (λ (l : List (Change (ℕ × ℕ))). before ++ l) (ap (λ (n : ℕ). front ++ placed_act n act ∷ []) here ∙ sym (acts_push start (take i batch) act) ∙ ap (placed_acts start) (sym (acts_taken batch i act within is)))
