use Rattle.std.proofs.Common.{◌≡◌, ℕ, ◌<◌, [], List, true, length, get_or, Ok, Err, IfOk, IfErr, sym, subst}
use Rattle.base_types.specs.declared.time.Time.{Time}
use Rattle.pages_area.specs.Caches.{StandsFor}
use Rattle.pages_sublists.specs.Fetching.{IfDamaged}
use Rattle.pages_sublists.specs.Gathering.{Chosen, ListOrDamage, Gathers, chosen}
use Rattle.pages_sublists.specs.Segments.{seconds}
use Rattle.journal_entries.specs.declared.place.Place.{Place}
use Rattle.model_archive.specs.Chosen.{GathersOf}
use Rattle.model_archive.specs.declared.stored.StoredPlan.{StoredPlan}
use Rattle.archive_plans.specs.Shelves.{ShelfState, extents_all}
use Rattle.archive_plans.proofs.ShelfLemmas.{plan_among, plan_is, chosen_is}
use Rattle.archive_plans.proofs.shelf.Shelf.gather.Goals as goal

pub invariant_of-self : goal.invariant_of-self
invariant_of-self g c =
    let plans = c.self.inside.plans.items in
    let there = subst (λ (s : ShelfState). c.args.at < length s.plans) (sym c.self.view_is) c.requires.there in (
      c.self.invariant.0,
      c.gather.ensures.lie (extents_all plans) (plan_among plans c.args.at c.index.result.now c.as_slice-2.result.now there c.index.ensures c.as_slice-2.ensures) c.self.invariant.1,
    )

-- what is so of all to which the chosen segments of the plan that stands there lead is so of what is gathered of the plan
gathers_of : {state old : ShelfState} (at a b : ℕ) (s t : StoredPlan) (cuts : List Time) (places : List Place) (pages : List ℕ) (R : (ListOrDamage → Type 0) → Type 0) → state ≡ old
    → at < length old.plans → s ≡ get_or old.plans at s → t ≡ get_or state.plans at t → cuts ≡ t.plan.cuts → places ≡ t.plan.places → StandsFor old.cache pages
    → (StandsFor state.cache pages → R (λ o. Gathers t.plan.layout t.plan.horizon.seconds pages (chosen a b t.plan.horizon.seconds true (seconds cuts) places) [] 0 o))
    → R (λ o. GathersOf pages s.plan a b o)
gathers_of {state} {old} at a b s t cuts places pages R view there same is cuts_are places_are stands gathered =
    let h = t.plan.horizon.seconds in
    let within = subst (λ (x : ShelfState). at < length x.plans) (sym view) there in
    let here = subst (λ (x : ShelfState). s ≡ get_or x.plans at s) (sym view) same in
    let was = gathered (subst (λ (x : ShelfState). StandsFor x.cache pages) (sym view) stands) in
    let segments = chosen_is a b h cuts t.plan.cuts places t.plan.places cuts_are places_are in
    let now = subst (λ (cs : List Chosen). R (λ (o : ListOrDamage). Gathers t.plan.layout h pages cs [] 0 o)) segments was in
    subst (λ (u : StoredPlan). R (λ (o : ListOrDamage). GathersOf pages u.plan a b o)) (sym (plan_is state.plans at s t within here is)) now

pub returns-clause-gathered : goal.returns-clause-gathered
returns-clause-gathered g c = λ tells stands s same.
    gathers_of c.args.at c.args.span.from c.args.span.to s c.index.result.now c.as_slice.result.now c.as_slice-2.result.now (g.D.Disk.disk c.args.disk.now).holds.pages
    (λ (G : ListOrDamage → Type 0). IfOk c.gather.result (λ x. G (Ok (x.list.items, x.read)))) c.self.view_is c.requires.there same c.index.ensures c.as_slice.ensures c.as_slice-2.ensures stands (c.gather.ensures.gathered tells)

pub returns-clause-damaged : goal.returns-clause-damaged
returns-clause-damaged g c = λ tells stands s same.
    gathers_of c.args.at c.args.span.from c.args.span.to s c.index.result.now c.as_slice.result.now c.as_slice-2.result.now (g.D.Disk.disk c.args.disk.now).holds.pages
    (λ (G : ListOrDamage → Type 0). IfErr c.gather.result (IfDamaged (λ d. G (Err d)))) c.self.view_is c.requires.there same c.index.ensures c.as_slice.ensures c.as_slice-2.ensures stands (c.gather.ensures.damaged tells)

pub returns-clause-stays : goal.returns-clause-stays
returns-clause-stays g c = λ tells stands.
    c.gather.ensures.stays tells (subst (λ (s : ShelfState). StandsFor s.cache (g.D.Disk.disk c.args.disk.now).holds.pages) (sym c.self.view_is) stands)
