use Rattle.std.proofs.Common.{List, ℕ, refl, subst, ◌∙◌, arith}
use Rattle.cose_gate_command.proofs.HexDigits.{hex_of, by_bytes}
use Rattle.cose_gate_command.proofs.Sending as sending
use Rattle.cose_gate_command.proofs.Sending.{Wrote, Torn}
use Rattle.cose_gate_command.proofs.lines.write_hex.Goals as goal

pub loop-byte-init : goal.loop-byte-init
loop-byte-init g c = record { kept = refl; sent = sending.wrote_none g.W.Write c.args.out.now }

pub returns-in_err-write_all-clause-sent : goal.returns-in_err-write_all-clause-sent
returns-in_err-write_all-clause-sent g c =
    let e = c.in_err-write_all.ensures in
    sending.sent_torn g.W.Write c.args.out.now c.write_all.new.self c.from_residual.result _ c.from_residual.ensures.0
    (subst (λ (z : List ℕ). Torn g.W.Write c.args.out.now c.write_all.new.self z) (by_bytes c.args.bytes.now)
    (sending.torn_next g.W.Write hex_of c.args.bytes.now c.loop-byte.byte-index 0 c.args.out.now c.loop-byte.out c.write_all.new.self (omega arith) c.loop-byte.invariant.sent
    (subst (λ (z : List ℕ). Torn g.W.Write c.loop-byte.out c.write_all.new.self z) c.digits.ensures (e.failed, e.err))))

pub returns-clause-sent : goal.returns-clause-sent
returns-clause-sent g c =
    subst (λ (z : List ℕ). Wrote g.W.Write c.args.out.now c.loop-byte.out z) (by_bytes c.args.bytes.now)
    (sending.wrote_all g.W.Write hex_of c.args.bytes.now c.loop-byte.byte-index c.args.out.now c.loop-byte.out c.loop-byte-test.false c.loop-byte.invariant.sent)

pub loop-byte-preserved : goal.loop-byte-preserved
loop-byte-preserved g c =
    let e = c.in_ok-write_all.ensures in
    record {
      kept = e.kept ∙ c.loop-byte.invariant.kept;
      sent = sending.wrote_next g.W.Write hex_of c.args.bytes.now c.loop-byte.byte-index 0 c.args.out.now c.loop-byte.out c.write_all.new.self (omega arith) c.loop-byte.invariant.sent
          (subst (λ (z : List ℕ). Wrote g.W.Write c.loop-byte.out c.write_all.new.self z) c.digits.ensures (e.failed, e.ok));
    }
