use Rattle.std.proofs.Common.{negsuc, ◌∙◌}
use Rattle.ciborium_value.proofs.Views.{view_bytes}
use Rattle.coset_labels.specs.Fields.{number, assigned}
use Rattle.coset_keys.specs.Builders.{with_param}
use Rattle.coset_keys.proofs.Numbers.{symmetric_number}
use Rattle.coset_keys.proofs.builder.CoseKeyBuilder.new_symmetric_key.Goals as goal

pub returns : goal.returns
returns c =
    let typed = c.key_type-builder.ensures ∙ (λ i. record (c.new.ensures i) { kty = assigned (symmetric_number i) }) in
    c.in_ok-push.ensures ∙ (λ i. with_param (number (negsuc 0)) (view_bytes c.args.k i) (typed i))
