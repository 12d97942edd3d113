use Rattle.std.proofs.Common.{◌∙◌}
use Rattle.coset_labels.specs.Fields.{assigned}
use Rattle.coset_keys.proofs.Numbers.{okp_number}
use Rattle.coset_keys.proofs.builder.CoseKeyBuilder.new_okp_key.Goals as goal

pub returns : goal.returns
returns c = c.key_type.ensures ∙ (λ i. record (c.new.ensures i) { kty = assigned (okp_number i) })
