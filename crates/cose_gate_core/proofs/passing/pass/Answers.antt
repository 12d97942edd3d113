use Rattle.std.proofs.Common.{◌≡◌, ◌≢◌, true, false, sym, ap, ◌∙◌, rules}
use Rattle.ciborium_value.specs.Kinds.{is_tag}
use Rattle.ciborium_value.specs.View.{view}
use Rattle.cose_gate_core.specs.declared.report.Refusal.TheVariants.{NotTagged, Encrypted, OtherTag}
use Rattle.cose_gate_core.proofs.Items.{taken_barred}
use Rattle.cose_gate_core.proofs.TagNumbers.{no_message_tag}
use Rattle.cose_gate_core.proofs.passing.pass.Goals as goal

pub returns-in_default-clause-handled : goal.returns-in_default-clause-handled
returns-in_default-clause-handled g c = λ b h.
    taken_barred _ b _ _ _ NotTagged (λ n u is. (let no : false ≡ true = sym c.in_default.ensures.1 ∙ ap is_tag is in cc))

pub returns-in_default-number-clause-handled : goal.returns-in_default-number-clause-handled
returns-in_default-number-clause-handled g c = λ b h.
    taken_barred _ b _ _ _ Encrypted (c.in-Ok.number, view c.in-Ok.content.value, c.in-Ok.ensures, c.if-is_encrypted.ensures)

pub returns-clause-handled : goal.returns-clause-handled
returns-clause-handled g c = λ b h.
    let n = c.in-Ok.number in
    let a : n ≢ 18 = search rules in
    let d : n ≢ 17 = search rules in
    let e : n ≢ 98 = search rules in
    let f : n ≢ 97 = search rules in
    taken_barred _ b _ _ _ (OtherTag n) (view c.in-Ok.content.value, c.in-Ok.ensures, c.if-is_encrypted.ensures, no_message_tag n a d e f)
