use Rattle.std.proofs.Common.{◌≤◌, length, decimal, arith, rules}
use Rattle.std.proofs.lemmas.Fmt.{length-decimal-le}
use Rattle.cose_gate_program.proofs.lines.write_number.Goals as goal

pub write_digits-from-requires : goal.write_digits-from-requires
write_digits-from-requires g c =
    let number : length (decimal c.args.number) ≤ 20 = search (rules, length-decimal-le 20) in
    (number, omega arith)
