use Rattle.std.proofs.Common.{rules}
use Rattle.cose_rules.proofs.Entries.{parts_by}
use Rattle.cose_rules.proofs.keys.parts_fault.Goals as goal

pub returns : goal.returns
returns c = parts_by c.args.kty c.deref.result.now c.args.key.now.params.items c.part_fault.result (search rules) c.deref.ensures.value
