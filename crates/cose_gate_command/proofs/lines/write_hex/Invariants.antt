use Rattle.std.proofs.Common.{◌≡◌, take, flat_map}
use Rattle.cose_gate_command.proofs.HexDigits.{hex_of}
use Rattle.cose_gate_command.proofs.Sending.{Wrote}
use Rattle.cose_gate_command.proofs.lines.write_hex.Given as goal

-- the digits of the bytes so far
abbrev pub invariant-loop-byte : goal.invariant-loop-byte
invariant-loop-byte g l = record {
  kept : g.W.Write.handle l.out ≡ g.W.Write.handle l.fn.out;
  sent : Wrote g.W.Write l.fn.out l.out (flat_map hex_of (take l.byte-index l.bytes));
}
