use Rattle.std.proofs.Common.{◌≡◌, ◌++◌, map, take}
use Rattle.coset_labels.specs.Fields.{number}
use Rattle.coset_labels.specs.View.{label_view}
use Rattle.cose_gate_c.proofs.tokens.append_numbers.Given as goal

abbrev pub invariant-loop-number : goal.invariant-loop-number
invariant-loop-number l = map label_view l.labels.items ≡ map label_view l.initial.labels.items ++ map number (take l.number-index l.numbers)
