use Rattle.std.specs.Prelude.{◌≡◌, ℕ, ◌+◌, ◌^◌, ◌≤◌, List, All, drop, sum_by}
use Rattle.lists_postings.specs.Lists.{IsList}
use Rattle.base_types.specs.declared.extent.Extent.{Extent}
use Rattle.pages_area.specs.Live.{IsInside}
use Rattle.pages_area.specs.Runs.{IsTaken}
use Rattle.pages_area.specs.Caches.{StandsFor}
use Rattle.pages_area.specs.CacheLaws.{LieIn}
use Rattle.journal_entries.specs.declared.place.Place.{Place}
use Rattle.pages_sublists.specs.Joining.{Paged, size_of_all, AreFetched}
use Rattle.pages_sublists.specs.Preparing.{extents}
use Rattle.pages_sublists.proofs.GatherLemmas.{chosen_from}
use Rattle.pages_sublists.proofs.AskLemmas.{HasAsked}
use Rattle.pages_sublists.proofs.gathering.fetch_all.Given as goal

abbrev pub invariant-loop-k : goal.invariant-loop-k
invariant-loop-k g l = record {
  only : g.D.Disk.only l.fn.disk l.disk;
  same : g.D.Disk.disk l.disk ≡ record (g.D.Disk.disk l.fn.disk) { faults = (g.D.Disk.disk l.disk).faults; bytes_read = (g.D.Disk.disk l.disk).bytes_read };
  lists : All (λ (x : Paged). IsList x.1) l.lists.items;
  read : l.read ≡ size_of_all l.lists.items;
  few : l.read + sum_by (λ (p : Place). p.extent.bytes) (drop l.k l.placed.places.now) ≤ 2 ^ 60;
  inside : All (λ (p : Place). IsInside (g.D.Disk.disk l.fn.disk).reach.pages p.extent) (drop l.k l.placed.places.now);
  lie : (taken : List Extent) → ((p : ℕ) → IsTaken (extents l.placed.places.now) p → IsTaken taken p) → LieIn taken l.fn.cache → LieIn taken l.cache;
  stays : g.D.Disk.disk_tells → StandsFor l.fn.cache (g.D.Disk.disk l.fn.disk).holds.pages → StandsFor l.cache (g.D.Disk.disk l.disk).holds.pages;
  fetched : g.D.Disk.disk_tells → StandsFor l.fn.cache (g.D.Disk.disk l.fn.disk).holds.pages → AreFetched l.placed.layout l.placed.horizon.seconds (g.D.Disk.disk l.fn.disk).holds.pages
      (chosen_from l.span.from l.span.to l.placed.horizon.seconds l.placed.cuts.now l.placed.places.now 0) l.lists.items (chosen_from l.span.from l.span.to l.placed.horizon.seconds l.placed.cuts.now l.placed.places.now l.k);
  asked : g.D.Disk.disk_tells → StandsFor l.fn.cache (g.D.Disk.disk l.fn.disk).holds.pages → HasAsked (g.D.Disk.disk l.fn.disk).holds.pages
      l.fn.cache l.cache (g.D.Disk.disk l.fn.disk).bytes_read (g.D.Disk.disk l.disk).bytes_read
      (chosen_from l.span.from l.span.to l.placed.horizon.seconds l.placed.cuts.now l.placed.places.now l.k) (chosen_from l.span.from l.span.to l.placed.horizon.seconds l.placed.cuts.now l.placed.places.now 0);
}
