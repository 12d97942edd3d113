use Rattle.std.proofs.Common.{◌≡◌, ◌+◌, ◌++◌, length, drop}
use Rattle.std.specs.List.{flat_map}
use Rattle.coset_base.specs.Structure.{byte_string}
use Rattle.coset_base.proofs.structure.room.Given as goal

abbrev pub invariant-loop-part : goal.invariant-loop-part
invariant-loop-part l =
    l.room + length (flat_map byte_string (drop l.part-index l.parts)) ≡ length (l.prefix ++ flat_map byte_string l.parts)
