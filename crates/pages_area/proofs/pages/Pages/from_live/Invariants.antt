use Rattle.std.specs.Prelude.{All, take}
use Rattle.pages_area.specs.Taken.{HasTaken}
use Rattle.pages_area.specs.Live.{IsInside}
use Rattle.pages_area.proofs.pages.Pages.from_live.Given as goal

abbrev pub invariant-loop-index : goal.invariant-loop-index
invariant-loop-index l = record {
  taken : HasTaken l.pages (take l.index l.live);
  inside : All (IsInside l.reach) (take l.index l.live);
}
