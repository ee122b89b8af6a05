-- The live ones of the plans so far, each of another word.
use Rattle.std.proofs.Common.{◌≡◌, [], fold}
use Rattle.model_archive.specs.Plans.{with_plan}
use Rattle.archive_entries.specs.Live.{EachOnce}
use Rattle.archive_entries.proofs.live.live_of.Given as goal

abbrev pub invariant-loop-stored : goal.invariant-loop-stored
invariant-loop-stored l = record {
  live_is : l.live.items ≡ fold with_plan [] l.yielded;
  once : EachOnce l.live.items;
}
