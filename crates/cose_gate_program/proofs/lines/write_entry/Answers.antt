use Rattle.std.proofs.Common.{◌≤◌, length, decimal, arith, rules}
use Rattle.std.proofs.lemmas.Fmt.{length-decimal-le}
use Rattle.std.proofs.lemmas.Grind.{common_steps}
use Rattle.cose_gate_program.proofs.lines.write_entry.Goals as goal

pub write_digits-offset-requires : goal.write_digits-offset-requires
write_digits-offset-requires g c =
    let offset : length (decimal c.args.entry.offset) ≤ 20 = search (rules, length-decimal-le 20) in
    (omega (arith, c.ending_of.ensures.short.0, c.ending_of.ensures.short.1, c.as_bytes.ensures.len, c.as_bytes-2.ensures.len), grind (arith, common_steps))

pub overflow_sub-line : goal.overflow_sub-line
overflow_sub-line g c =
    let offset : length (decimal c.args.entry.offset) ≤ 20 = search (rules, length-decimal-le 20) in
    omega arith

pub copy_from_slice-requires-3 : goal.copy_from_slice-requires-3
copy_from_slice-requires-3 g c =
    let offset : length (decimal c.args.entry.offset) ≤ 20 = search (rules, length-decimal-le 20) in
    grind (arith, common_steps)

pub write_digits-number-requires : goal.write_digits-number-requires
write_digits-number-requires g c =
    let offset : length (decimal c.args.entry.offset) ≤ 20 = search (rules, length-decimal-le 20) in
    let number : length (decimal c.args.entry.number) ≤ 20 = search (rules, length-decimal-le 20) in
    (omega arith, grind (arith, common_steps))

pub overflow_sub-line-2 : goal.overflow_sub-line-2
overflow_sub-line-2 g c =
    let offset : length (decimal c.args.entry.offset) ≤ 20 = search (rules, length-decimal-le 20) in
    let number : length (decimal c.args.entry.number) ≤ 20 = search (rules, length-decimal-le 20) in
    omega arith

pub copy_from_slice-requires-4 : goal.copy_from_slice-requires-4
copy_from_slice-requires-4 g c =
    let offset : length (decimal c.args.entry.offset) ≤ 20 = search (rules, length-decimal-le 20) in
    let number : length (decimal c.args.entry.number) ≤ 20 = search (rules, length-decimal-le 20) in
    grind (arith, common_steps)
