use Rattle.std.specs.Prelude.{◌≡◌, ◌≤◌, ◌^◌, All, sum_by, take}
use Rattle.journal_entries.specs.declared.place.Place.{Place}
use Rattle.pages_area.specs.Live.{IsInside}
use Rattle.tests_pages.proofs.tests.sublists.given.fit.Given as goal

abbrev pub invariant-loop-place : goal.invariant-loop-place
invariant-loop-place l = record {
  few : l.total ≤ 2 ^ 40;
  is : l.total ≡ sum_by (λ (p : Place). p.extent.bytes) (take l.place-index l.places);
  inside : All (λ (p : Place). IsInside l.reach p.extent) (take l.place-index l.places);
}
