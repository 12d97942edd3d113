use Rattle.std.proofs.Common.{Some, None, rules}
use Rattle.coset_labels.specs.Fields.{number}
use Rattle.cose_rules.proofs.Entries.{value_by}
use Rattle.cose_rules.proofs.labels.value_of.Goals as goal

pub returns-in-Some : goal.returns-in-Some
returns-in-Some c = value_by c.args.entries.now (number c.args.number) (Some c.in-Some.entry.now) (search rules)

pub returns-in-None : goal.returns-in-None
returns-in-None c = value_by c.args.entries.now (number c.args.number) None (search rules)
