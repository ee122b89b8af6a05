-- What the bytes in hand are of a journal.
use Rattle.std.proofs.Common.{◌≡◌, ℕ, ◌+◌, ◌-◌, List, length, take, drop, ap, subst, sym, ◌∙◌, arith}
use Rattle.std.proofs.lemmas.List.{take-take, drop-drop, drop-take}
use Rattle.machine_model.specs.States.{DiskState}
use Rattle.machine_model.specs.Calls.{OnlyReads}
use Rattle.journal_gates.specs.Windows.{WindowState, IsView, Covers, piece_of}

-- a piece in hand stands in the journal
pub piece_lies : (window : WindowState) (journal : List ℕ) (at count : ℕ) → IsView window journal → Covers window at count → piece_of window at count ≡ take count (drop at journal)
piece_lies window journal at count view covers =
    let skip = at - window.from in
    let more = length window.bytes - skip in
    let there = drop window.from journal in
    let long : length window.bytes ≡ skip + more = omega (arith, covers.begins, covers.ends) in
    let cut : window.bytes ≡ take (skip + more) there = view ∙ ap (λ (n : ℕ). take n there) long in
    ap (λ (l : List ℕ). take count (drop skip l)) cut
    ∙ ap (take count) (drop-take skip more there)
    ∙ take-take count more (drop skip there) (omega (arith, covers.begins, covers.ends))
    ∙ ap (take count) (drop-drop skip window.from journal)
    ∙ ap (λ (n : ℕ). take count (drop n journal)) (omega (arith, covers.begins))

-- reads leave a view as it is
pub view_read : (a b : DiskState) (window : WindowState) → OnlyReads a b → IsView window a.holds.journal → IsView window b.holds.journal
view_read a b window same view = let V : DiskState → Type 0 = λ d. IsView window d.holds.journal in subst V (sym same) view

pub view_before : (a b : DiskState) (window : WindowState) → OnlyReads a b → IsView window b.holds.journal → IsView window a.holds.journal
view_before a b window same view = let V : DiskState → Type 0 = λ d. IsView window d.holds.journal in subst V same view
