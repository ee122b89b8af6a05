-- The bytes left of an input.
use Rattle.std.specs.Prelude.{List, ℕ, drop}
use Rattle.machine_mem.specs.declared.input.Input.{Input}

-- the bytes not pulled yet
abbrev pub bytes_left : Input → List ℕ
bytes_left input = drop input.at input.bytes.items
