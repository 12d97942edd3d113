use Rattle.ciborium_value.specs.View.{view}
use Rattle.cose_gate_core.specs.Terms.{limits_of}
use Rattle.cose_gate_core.proofs.Exactly.{told_if}
use Rattle.cose_gate_core.proofs.passing.pass_as.Goals as goal

pub pass_read-requires : goal.pass_read-requires
pass_read-requires g c = (view c.args.content, c.read-read.ensures)

pub returns-clause-handled : goal.returns-clause-handled
returns-clause-handled g c = λ b h.
    let u = view c.args.content in
    let m = g.M.Message.message c.read-read.new.self in
    let told = told_if c.args.item.terms m g.M.Message.kind u b c.args.exact c.is_shortest-shortest.result c.read-read.result c.read-read.ensures h (c.is_shortest-shortest.ensures (limits_of c.args.item.terms) c.read-read.new.self) in
    c.pass_read.ensures.handled b u c.read-read.ensures told
