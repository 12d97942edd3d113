use Rattle.std.proofs.Common.{rules}
use Rattle.std.specs.Prelude.{option_copied}
use Rattle.cose_rules.proofs.Entries.{part_by}
use Rattle.cose_rules.proofs.keys.part_of.Goals as goal

pub returns : goal.returns
returns c = part_by c.args.label c.deref.result.now c.args.key.now.params.items (option_copied c.bytes_at.result) (search rules) c.deref.ensures.value
