use Rattle.std.proofs.Common.{◌≡◌, take}
use Rattle.std.specs.List.{AllZip}
use Rattle.query_eval.specs.Found.{read_of}
use Rattle.model_archive.specs.Rough.{IsShortPart}
use Rattle.archive_questions.proofs.approximating.short_parts.Given as goal

abbrev pub invariant-loop-part : goal.invariant-loop-part
invariant-loop-part l = record {
  short : AllZip (IsShortPart l.tolerance) (take l.part-index l.parts) l.shorts.items;
  read : read_of l.shorts.items ≡ read_of (take l.part-index l.parts);
}
