use Rattle.std.proofs.Common.{◌∙◌, Some, None, rules}
use Rattle.cose_rules.proofs.Entries.{fault_by}
use Rattle.cose_rules.proofs.deciding.first_fault.Goals as goal

pub returns-in-Some : goal.returns-in-Some
returns-in-Some c = c.key_fault.ensures ∙ fault_by c.args.scheme c.args.id.now c.args.keys.now (Some c.in-Some.key.now) (search rules)

pub returns-in-None : goal.returns-in-None
returns-in-None c = fault_by c.args.scheme c.args.id.now c.args.keys.now None (search rules)
