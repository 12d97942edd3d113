use Rattle.std.proofs.Common.{negsuc, Some, ◌∙◌}
use Rattle.cose_iana.specs.Algorithms.{algorithm_number}
use Rattle.ciborium_value.proofs.Views.{view_bytes}
use Rattle.coset_labels.specs.Fields.{number, assigned}
use Rattle.coset_keys.specs.Builders.{with_param}
use Rattle.coset_keys.proofs.Numbers.{akp_number}
use Rattle.coset_keys.proofs.builder.CoseKeyBuilder.new_mldsa_pub_key.Goals as goal

pub returns : goal.returns
returns c =
    let typed = c.key_type.ensures ∙ (λ i. record (c.new.ensures i) { kty = assigned (akp_number i) }) in
    let named = c.algorithm-builder.ensures ∙ (λ i. record (typed i) { alg = Some (assigned (algorithm_number (c.into.ensures i))) }) in
    c.in_ok-push.ensures ∙ (λ i. with_param (number (negsuc 0)) (view_bytes c.args.k i) (named i))
