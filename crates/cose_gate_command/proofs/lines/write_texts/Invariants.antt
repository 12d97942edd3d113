use Rattle.std.proofs.Common.{◌≡◌, take, flat_map}
use Rattle.cose_gate_command.specs.Lines.{next_field}
use Rattle.cose_gate_command.proofs.Sending.{Wrote}
use Rattle.cose_gate_command.proofs.lines.write_texts.Given as goal

-- the fields of the texts so far
abbrev pub invariant-loop-text : goal.invariant-loop-text
invariant-loop-text g l = record {
  kept : g.W.Write.handle l.out ≡ g.W.Write.handle l.fn.out;
  sent : Wrote g.W.Write l.fn.out l.out (flat_map (λ t. next_field t.now) (take l.text-index l.texts));
}
