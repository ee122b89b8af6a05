use Rattle.std.proofs.Common.{◌≡◌, ◌≤◌, ◌<◌, ◌-◌, ℕ, List, length, take, drop, slice_index, arith, ap, sym, subst, ◌∙◌}
use Rattle.std.proofs.lemmas.List.{length-drop, take_all}
use Rattle.plans_space.specs.Steps.{IsNoPath, IsWay, whole_cost}
use Rattle.plans_space.proofs.JudgeLemmas.{piece, no_path, too_much, enough}
use Rattle.plans_space.proofs.judging.cost_of.Goals as goal

pub returns-then-cuts-eq2 : goal.returns-then-cuts-eq2
returns-then-cuts-eq2 c factor weights s list horizon t =
    let survey = c.args.survey.now in
    let p = piece list horizon c.args.table.now factor survey.limits.unit survey.limits.budget weights survey.sums.items survey.places.items survey.cells.items t s c.args.cuts.now c.requires.last (omega (arith, c.if-cuts-eq2.true)) in
    (p.0, c.whole.ensures ∙ ap (λ (l : List ℕ). whole_cost c.args.table.now l) c.deref.ensures.value ∙ p.1)

pub walk-requires-clause-rising : goal.walk-requires-clause-rising
walk-requires-clause-rising c =
    subst (λ (l : List ℕ). (j k : ℕ) → j ≤ k → k < length l → slice_index l j ≤ slice_index l k) (sym c.deref-2.ensures.value) c.requires.surveyed.2.rising

pub returns-in_err-charged : goal.returns-in_err-charged
returns-in_err-charged c factor weights s list horizon t =
    let survey = c.args.survey.now in
    let cuts = c.args.cuts.now in
    let places = survey.places.items in
    let times = c.args.table.now.boundaries in
    let part : List ℕ = take (length cuts - 1) (drop 1 cuts) in
    let whole : part ≡ drop 1 cuts = take_all (length cuts - 1) (drop 1 cuts) (omega (arith, length-drop 1 cuts)) in
    let long : c.len.result ≡ length places = omega (arith, c.len.ensures, c.deref-3.ensures.len, ap (λ (l : List ℕ). length l) c.deref-3.ensures.value) in
    let none : IsNoPath times c.deref-3.result.now (c.len.result - 1) part = c.in_err-charged.ensures.none in
    let none_of : IsNoPath times places (length places - 1) (drop 1 cuts) =
    subst (λ (l : List ℕ). IsNoPath times places (length places - 1) l) whole
    (subst (λ n. IsNoPath times places (n - 1) part) long (subst (λ (ps : List ℕ). IsNoPath times ps (c.len.result - 1) part) c.deref-3.ensures.value none)) in
    rw c.from_residual.ensures (no_path list horizon c.args.table.now factor survey.limits.unit survey.limits.budget weights survey.sums.items places survey.cells.items t s cuts c.requires.last
    (λ two. omega (arith, c.if-cuts-eq2.false, two)) c.requires.many none_of)

pub returns-then-charged-survey : goal.returns-then-charged-survey
returns-then-charged-survey c factor weights s list horizon t =
    let survey = c.args.survey.now in
    let cuts = c.args.cuts.now in
    let places = survey.places.items in
    let part : List ℕ = take (length cuts - 1) (drop 1 cuts) in
    let whole : part ≡ drop 1 cuts = take_all (length cuts - 1) (drop 1 cuts) (omega (arith, length-drop 1 cuts)) in
    let long : c.len.result ≡ length places = omega (arith, c.len.ensures, c.deref-3.ensures.len, ap (λ (l : List ℕ). length l) c.deref-3.ensures.value) in
    let W : List ℕ → List ℕ → ℕ → List ℕ → Type 0 = λ sums ps n l. IsWay c.args.table.now survey.limits.unit sums ps (n - 1) l c.in_ok-charged.charged c.in_ok-charged.cost in
    let way : W c.deref-2.result.now c.deref-3.result.now c.len.result part = c.in_ok-charged.ensures.way in
    let way_of : W survey.sums.items places (length places) (drop 1 cuts) =
    subst (λ (l : List ℕ). W survey.sums.items places (length places) l) whole (subst (λ n. W survey.sums.items places n part) long
    (subst (λ (ps : List ℕ). W survey.sums.items ps c.len.result part) c.deref-3.ensures.value (subst (λ (xs : List ℕ). W xs c.deref-3.result.now c.len.result part) c.deref-2.ensures.value way))) in
    too_much list horizon c.args.table.now factor survey.limits.unit survey.limits.budget weights survey.sums.items places survey.cells.items t s cuts c.requires.last
    (λ two. omega (arith, c.if-cuts-eq2.false, two)) c.requires.many c.in_ok-charged.charged c.in_ok-charged.cost way_of (omega (arith, c.if-charged-survey.true))

pub returns : goal.returns
returns c factor weights s list horizon t =
    let survey = c.args.survey.now in
    let cuts = c.args.cuts.now in
    let places = survey.places.items in
    let part : List ℕ = take (length cuts - 1) (drop 1 cuts) in
    let whole : part ≡ drop 1 cuts = take_all (length cuts - 1) (drop 1 cuts) (omega (arith, length-drop 1 cuts)) in
    let long : c.len.result ≡ length places = omega (arith, c.len.ensures, c.deref-3.ensures.len, ap (λ (l : List ℕ). length l) c.deref-3.ensures.value) in
    let W : List ℕ → List ℕ → ℕ → List ℕ → Type 0 = λ sums ps n l. IsWay c.args.table.now survey.limits.unit sums ps (n - 1) l c.in_ok-charged.charged c.in_ok-charged.cost in
    let way : W c.deref-2.result.now c.deref-3.result.now c.len.result part = c.in_ok-charged.ensures.way in
    let way_of : W survey.sums.items places (length places) (drop 1 cuts) =
    subst (λ (l : List ℕ). W survey.sums.items places (length places) l) whole (subst (λ n. W survey.sums.items places n part) long
    (subst (λ (ps : List ℕ). W survey.sums.items ps c.len.result part) c.deref-3.ensures.value (subst (λ (xs : List ℕ). W xs c.deref-3.result.now c.len.result part) c.deref-2.ensures.value way))) in
    enough list horizon c.args.table.now factor survey.limits.unit survey.limits.budget weights survey.sums.items places survey.cells.items t s cuts c.requires.last
    c.in_ok-charged.charged c.in_ok-charged.cost way_of (omega (arith, c.if-charged-survey.false))
