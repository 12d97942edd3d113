use Rattle.std.proofs.Common.{Some, None, pos, rules, w64, ◌∙◌}
use Rattle.std.proofs.lemmas.Int.{to_z-of_z}
use Rattle.cose_gate_c.proofs.Keys.{curve_by}
use Rattle.cose_gate_c.proofs.key_parts.curve_in.Goals as goal

pub returns-in-Some : goal.returns-in-Some
returns-in-Some c = to_z-of_z w64 c.number_of.result (search rules) ∙ curve_by c.args.params.now (Some c.in-Some.entry.now) c.number_of.result (search rules) (search rules)

pub returns-in-None : goal.returns-in-None
returns-in-None c = curve_by c.args.params.now None (pos 0) (search rules) (search rules)
