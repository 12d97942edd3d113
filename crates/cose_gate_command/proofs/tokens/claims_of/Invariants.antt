use Rattle.std.proofs.Common.{◌≡◌, map, take}
use Rattle.std.specs.Prelude.{string_bytes}
use Rattle.coset_labels.specs.View.{label_view}
use Rattle.cose_gate_command.specs.TokenArguments.{claim_of}
use Rattle.cose_gate_command.proofs.tokens.claims_of.Given as goal

abbrev pub invariant-loop-name : goal.invariant-loop-name
invariant-loop-name l = map label_view l.labels.items ≡ map claim_of (map string_bytes (take l.name-index l.names))
