use Rattle.std.proofs.Common.{◌≡◌, flat_map, map, take}
use Rattle.coset_keys.specs.View.{key_view}
use Rattle.cose_gate_c.specs.KeyParts.{key_text}
use Rattle.cose_gate_c.proofs.key_parts.parts_of.Given as goal

abbrev pub invariant-loop-key : goal.invariant-loop-key
invariant-loop-key l = l.parts.items ≡ flat_map key_text (map key_view (take l.key-index l.keys))
