use Rattle.std.proofs.Common.{map, Some, None, rules}
use Rattle.std.specs.Prelude.{option_copied}
use Rattle.ciborium_value.specs.View.{view}
use Rattle.coset_headers.specs.View.{entry_view}
use Rattle.cose_rules.proofs.Entries.{bytes_by}
use Rattle.cose_rules.proofs.keys.bytes_at.Goals as goal

pub returns-in-Some : goal.returns-in-Some
returns-in-Some c = bytes_by c.args.label (map entry_view c.args.params.now) (Some (view c.in-Some.value.now)) (option_copied c.bytes_of.result) (search rules) (search rules)

pub returns-in-None : goal.returns-in-None
returns-in-None c = bytes_by c.args.label (map entry_view c.args.params.now) None None (search rules) (search rules)
