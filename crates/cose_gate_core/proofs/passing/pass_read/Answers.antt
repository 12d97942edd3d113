use Rattle.std.proofs.Common.{refl}
use Rattle.cose_gate_core.specs.Misshapen.{WrongMessage}
use Rattle.cose_gate_core.specs.Terms.{limits_of}
use Rattle.cose_gate_core.specs.declared.report.Refusal.TheVariants.{Shape}
use Rattle.cose_gate_core.proofs.Exactly.{found_as}
use Rattle.cose_gate_core.proofs.Items.{not_memory, taken_barred}
use Rattle.cose_gate_core.proofs.Written.{as_received, message_received}
use Rattle.cose_gate_core.proofs.passing.pass_read.Goals as goal

pub returns-in-Err-clause-handled : goal.returns-in-Err-clause-handled
returns-in-Err-clause-handled g c = λ b u h told.
    let is = c.in_ok-shape_refusal-in-Err.ensures.ok in
    let wrong = not_memory (WrongMessage (limits_of c.args.item.terms) g.M.Message.kind u) c.in-Err.error (rw c.in-Err.is at h) is.1 in
    rw is.0 (taken_barred _ b _ _ _ (Shape c.in-Err.error) (g.M.Message.kind, u, refl, wrong))

pub pass_message-requires-clause-received : goal.pass_message-requires-clause-received
pass_message-requires-clause-received g c =
    let read = rw c.in-Ok.is at c.requires.1 in
    message_received (limits_of c.args.item.terms) c.requires.0 (g.M.Message.message c.args.message.now) read.1

pub pass_message-requires-clause-put : goal.pass_message-requires-clause-put
pass_message-requires-clause-put g c =
    let read = rw c.in-Ok.is at c.requires.1 in
    as_received (limits_of c.args.item.terms) c.requires.0 (g.M.Message.message c.args.message.now) read.1

pub returns-in-Some-clause-handled : goal.returns-in-Some-clause-handled
returns-in-Some-clause-handled g c = λ b u h told.
    let l = limits_of c.args.item.terms in
    let read = rw c.in-Ok.is at h in
    let found = found_as l (g.M.Message.message c.args.message.now) g.M.Message.kind u b c.bar_of.result read.0 (c.bar_of.ensures l b u read.1 (rw c.in-Ok.is at told)) in
    taken_barred _ b _ _ _ c.in-Some.refusal (rw c.in-Some.is at found)

pub returns-in-None-clause-handled : goal.returns-in-None-clause-handled
returns-in-None-clause-handled g c = λ b u h told.
    let l = limits_of c.args.item.terms in
    let read = rw c.in-Ok.is at h in
    let found = found_as l (g.M.Message.message c.args.message.now) g.M.Message.kind u b c.bar_of.result read.0 (c.bar_of.ensures l b u read.1 (rw c.in-Ok.is at told)) in
    c.pass_message.ensures.handled b _ (rw c.in-None.is at found)
