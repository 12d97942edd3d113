use Rattle.std.proofs.Common.{◌≡◌, ◌++◌, map, take}
use Rattle.std.specs.List.{All}
use Rattle.std.specs.Prelude.{IsUtf8}
use Rattle.coset_labels.specs.View.{label_view}
use Rattle.cose_gate_c.specs.Tokens.{name_of}
use Rattle.cose_gate_c.proofs.tokens.append_names.Given as goal

abbrev pub invariant-loop-name : goal.invariant-loop-name
invariant-loop-name l = record {
  texts : All (λ n. IsUtf8 n.bytes.now) (take l.name-index l.names);
  appended : map label_view l.labels.items ≡ map label_view l.initial.labels.items ++ map name_of (take l.name-index l.names);
}
