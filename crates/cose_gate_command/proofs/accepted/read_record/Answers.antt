use Rattle.std.proofs.Common.{rules, refl, sym, ◌∙◌}
use Rattle.cose_gate_command.specs.Read.{texts_read}
use Rattle.cose_gate_command.proofs.accepted.read_record.Goals as goal

pub returns-in-Some-clause-ok : goal.returns-in-Some-clause-ok
returns-in-Some-clause-ok c =
    let q = c.in-Some.field-0 in
    (search rules, (q.kind, texts_read q, refl, sym c.deref.ensures.value ∙ c.in-Some.ensures))
