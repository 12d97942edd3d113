use Rattle.std.proofs.Common.{map, Some, None, option_map, rules}
use Rattle.ciborium_value.specs.View.{view, number_of}
use Rattle.coset_headers.specs.View.{entry_view}
use Rattle.cose_rules.proofs.Entries.{curve_by}
use Rattle.cose_rules.proofs.keys.curve_in.Goals as goal

pub returns-in-Some : goal.returns-in-Some
returns-in-Some c = curve_by (map entry_view c.args.params.now) (Some (view c.in-Some.value.now)) (option_map number_of c.integer_of.result) (search rules) (search rules)

pub returns-in-None : goal.returns-in-None
returns-in-None c = curve_by (map entry_view c.args.params.now) None None (search rules) (search rules)
