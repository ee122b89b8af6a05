use Rattle.std.proofs.Common.{◌≡◌, take}
use Rattle.pages_codec.specs.Flat.{spelling}
use Rattle.pages_codec.proofs.flat.encode_list.Given as goal

abbrev pub invariant-loop-posting : goal.invariant-loop-posting
invariant-loop-posting l = l.bytes.items ≡ spelling (take l.posting-index l.list)
