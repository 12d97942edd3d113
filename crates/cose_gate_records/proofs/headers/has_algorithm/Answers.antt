use Rattle.std.proofs.Common.{◌≡◌, ℤ, Bool, Option, ap, ◌∙◌, rules}
use Rattle.coset_headers.specs.declared.header.Header.{out-Header}
use Rattle.coset_headers.specs.declared.header.ProtectedHeader.{out-ProtectedHeader}
use Rattle.coset_labels.specs.Fields.{Named}
use Rattle.cose_rules.proofs.Seen.{algorithm_is}
use Rattle.cose_rules.specs.Rule.{algorithm_in}
use Rattle.cose_rules.specs.Ruled.{algorithm_view}
use Rattle.cose_gate_records.specs.KeyHeaders.{has_number}
use Rattle.cose_gate_records.proofs.headers.has_algorithm.Goals as goal

numbered : (b : Bool) (i : ℤ) (a o : Option Named) → b ≡ has_number i a → a ≡ o → b ≡ has_number i o
numbered b i a o e f = e ∙ ap (has_number i) f

pub returns : goal.returns
returns c = numbered c.has_number.result c.args.number (algorithm_view (out-Header (out-ProtectedHeader c.key_layer.result.protected.now).header).alg) _ (search rules)
    (algorithm_is c.key_layer.result.protected.now ∙ ap algorithm_in c.key_layer.ensures)
