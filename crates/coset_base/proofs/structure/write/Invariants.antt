use Rattle.std.proofs.Common.{◌≡◌, ◌+◌, ◌≤◌, ◌++◌, drop, length, vec_len, vec_capacity}
use Rattle.std.specs.List.{flat_map}
use Rattle.coset_base.specs.Structure.{byte_string}
use Rattle.coset_base.proofs.structure.write.Given as goal

abbrev pub invariant-loop-part : goal.invariant-loop-part
invariant-loop-part g l = record {
  left : l.out.items ++ flat_map byte_string (drop l.part-index l.parts) ≡ l.fn.out.items ++ (l.prefix ++ flat_map byte_string l.parts);
  room : vec_len l.out + length (flat_map byte_string (drop l.part-index l.parts)) ≤ vec_capacity l.out;
}
