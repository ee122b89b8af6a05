use Rattle.std.proofs.Common.{◌≢◌, ◌∙◌, ◌+◌, ◌<◌, ◌∷◌, ◌++◌, [], ℕ, List, sym, ap, subst, length, set, slice_set, slice_index, arith}
use Rattle.std.proofs.lemmas.List.{get_or_default}
use Rattle.text_words.specs.Words.{ArePlaced}
use Rattle.text_words.proofs.WeighLemmas.{at, bump_here, bump_behind, here_alone, nowhere, placed_behind}
use Rattle.text_words.proofs.weigh.count_known.Goals as goal
use Rattle.text_words.proofs.weigh.count_known.Goals.{else-place-len-via-then-place-len+else-index-number, else-place-len-via-else-place-len}

pub returns-then-index-number-clause-counted : goal.returns-then-index-number-clause-counted
returns-then-index-number-clause-counted c =
    let known = c.args.known.now.items in
    let place = slice_index c.args.places.now c.args.number in
    let l : place < length known = omega (arith, c.if-place-len.true, c.len.ensures, c.args.known.now.ok.0) in
    let read = c.index.ensures ∙ get_or_default known place _ (0, 0) l in
    let lent = c.index_mut.ensures.value ∙ get_or_default known place _ (0, 0) l in
    ap (λ (v : ℕ × ℕ). slice_set known place (v.0, v.1 + 1)) lent
    ∙ bump_here known place c.args.number l (ap (λ (v : ℕ × ℕ). v.0) (sym read) ∙ c.if-index-number.true) (λ q r. here_alone c.args.places.now known c.args.number c.requires.placed q r (omega (arith, r, l)))

apart : (c : goal.In_ok-push) → (q : ℕ) → q < length c.args.known.now.items → (at c.args.known.now.items q).0 ≢ c.args.number
apart c =
    let known = c.args.known.now.items in
    let place = slice_index c.args.places.now c.args.number in
    nowhere c.args.places.now known c.args.number c.requires.placed (elim c.else-place-len.branch [
      | else-place-len-via-then-place-len+else-index-number w ↦ λ l e. w.if-index-number.false (ap (λ (v : ℕ × ℕ). v.0) (w.index.ensures ∙ get_or_default known place _ (0, 0) l) ∙ e)
      | else-place-len-via-else-place-len w ↦ λ l e. absurd (omega (arith, l, w.if-place-len.false, c.len.ensures, c.args.known.now.ok.0))
    ])

pub returns-clause-counted : goal.returns-clause-counted
returns-clause-counted c = c.in_ok-push.ensures.items ∙ bump_behind c.args.known.now.items c.args.number (apart c)

pub returns-clause-placed : goal.returns-clause-placed
returns-clause-placed c =
    subst (λ (l : List (ℕ × ℕ)). ArePlaced (set c.args.places.now c.args.number c.len-2.result) l) (sym c.in_ok-push.ensures.items)
    (subst (λ n. ArePlaced (set c.args.places.now c.args.number n) (c.args.known.now.items ++ (c.args.number, 1) ∷ [])) (sym (c.len-2.ensures ∙ c.args.known.now.ok.0))
    (placed_behind c.args.places.now c.args.known.now.items c.args.number c.requires.within c.requires.placed (apart c)))
