use Rattle.std.proofs.Common.{◌≤◌, length, map}
use Rattle.pages_codec.specs.Fields.{fields, seen}
use Rattle.pages_codec.specs.Flat.{front_at, list_at}
use Rattle.base_types.proofs.Bytes.{IsBytes}
use Rattle.pages_codec.proofs.AllAt.{IsRead}
use Rattle.pages_codec.proofs.flat.list_at.Given as goal

abbrev pub invariant-loop-rest : goal.invariant-loop-rest
invariant-loop-rest l = record {
  inside : length l.rest ≤ length l.bytes;
  fits : IsBytes l.rest;
  read : IsRead front_at (list_at l.bytes) (map fields l.list.items) (seen l.before) l.rest;
}

abbrev pub decreases-loop-rest : goal.decreases-loop-rest
decreases-loop-rest l = length l.rest
