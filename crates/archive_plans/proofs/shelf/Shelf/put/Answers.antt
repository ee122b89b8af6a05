use Rattle.std.proofs.Common.{◌++◌, ◌∷◌, [], List, sym, subst}
use Rattle.pages_area.specs.Caches.{Kept, StandsFor}
use Rattle.pages_area.specs.CacheLaws.{LieIn}
use Rattle.pages_area.specs.Taken.{HasTaken}
use Rattle.pages_sublists.specs.Preparing.{extents}
use Rattle.model_archive.specs.declared.stored.StoredPlan.{StoredPlan}
use Rattle.archive_plans.specs.Shelves.{ShelfState, extents_all}
use Rattle.archive_plans.proofs.ShelfLemmas.{old_in_front, new_behind, lie_without, lie_behind, without_stands}
use Rattle.archive_plans.proofs.shelf.Shelf.put.Goals as goal

pub adopt-requires : goal.adopt-requires
adopt-requires c =
    let (more, taken) = c.requires.taken in
    let has = subst (λ (s : ShelfState). HasTaken s.pages (extents c.args.prepared.places ++ (more ++ extents_all s.plans))) (sym c.self.view_is) taken in
    let (front, back, was, now) = c.in-Some.ensures.old in
    record {
      taken = (
        more ++ extents_all (front ++ back),
        old_in_front c.self.inside.sublists.pages (extents c.args.prepared.places) more c.self.inside.plans.items front back c.in-Some.old c.as_slice.result.now was c.as_slice.ensures has,
      );
    }

pub returns-in-Some-clause-taken : goal.returns-in-Some-clause-taken
returns-in-Some-clause-taken c = λ more taken.
    let new = extents c.args.prepared.places in
    let has = subst (λ (s : ShelfState). HasTaken s.pages (new ++ (more ++ extents_all s.plans))) (sym c.self.view_is) taken in
    let (front, back, was, now) = c.in-Some.ensures.old in
    let there = old_in_front c.self.inside.sublists.pages new more c.self.inside.plans.items front back c.in-Some.old c.as_slice.result.now was c.as_slice.ensures has in
    let held = c.adopt.ensures.freed (more ++ extents_all (front ++ back)) there in
    subst (λ (ps : List StoredPlan). HasTaken c.adopt.new.self.pages (more ++ extents_all ps)) (sym now) (new_behind c.adopt.new.self.pages new more (front ++ back) c.args.stored c.requires.places held)

pub returns-in-None-clause-taken : goal.returns-in-None-clause-taken
returns-in-None-clause-taken c = λ more taken.
    let new = extents c.args.prepared.places in
    let plans = c.self.inside.plans.items in
    let has = subst (λ (s : ShelfState). HasTaken s.pages (new ++ (more ++ extents_all s.plans))) (sym c.self.view_is) taken in
    let held = c.adopt-in-None.ensures.freed (more ++ extents_all plans) has in
    subst (λ (ps : List StoredPlan). HasTaken c.adopt-in-None.new.self.pages (more ++ extents_all ps)) (sym c.in-None.ensures.old) (new_behind c.adopt-in-None.new.self.pages new more plans c.args.stored c.requires.places held)

pub invariant_of-self : goal.invariant_of-self
invariant_of-self c =
    let plans = c.self.inside.plans.items in
    let was = c.self.inside.sublists.cache in
    let (front, back, is, now) = c.in-Some.ensures.old in
    let lie = lie_without plans front back c.in-Some.old c.args.stored c.as_slice.result.now was is c.as_slice.ensures c.self.invariant.1 in
    let here = subst (λ (ks : List Kept). LieIn (extents_all ((front ++ back) ++ c.args.stored ∷ [])) ks) (sym c.adopt.ensures.cache) lie in
    (c.in-Some.ensures.once, subst (λ (ps : List StoredPlan). LieIn (extents_all ps) c.adopt.new.self.cache) (sym now) here)

pub invariant_of-self-in-None : goal.invariant_of-self-in-None
invariant_of-self-in-None c =
    let plans = c.self.inside.plans.items in
    let lie = lie_behind plans c.args.stored c.self.inside.sublists.cache c.self.invariant.1 in
    let here = subst (λ (ks : List Kept). LieIn (extents_all (plans ++ c.args.stored ∷ [])) ks) (sym c.adopt-in-None.ensures.cache) lie in
    (c.in-None.ensures.once, subst (λ (ps : List StoredPlan). LieIn (extents_all ps) c.adopt-in-None.new.self.cache) (sym c.in-None.ensures.old) here)

pub returns-in-Some-clause-stays : goal.returns-in-Some-clause-stays
returns-in-Some-clause-stays c = λ pages stands.
    let was = subst (λ (s : ShelfState). StandsFor s.cache pages) (sym c.self.view_is) stands in
    let left = without_stands (extents c.as_slice.result.now) c.self.inside.sublists.cache pages was in
    subst (λ (ks : List Kept). StandsFor ks pages) (sym c.adopt.ensures.cache) left
