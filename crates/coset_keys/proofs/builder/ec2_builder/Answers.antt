use Rattle.std.proofs.Common.{rules, negsuc, w64, ap, ◌∙◌}
use Rattle.std.proofs.lemmas.Int.{to_z-of_z}
use Rattle.ciborium_value.specs.Tree.{integer}
use Rattle.ciborium_value.specs.View.{view}
use Rattle.ciborium_value.proofs.Views.{view_bytes, view_integer}
use Rattle.coset_labels.specs.Fields.{number, assigned}
use Rattle.coset_keys.specs.Builders.{with_param}
use Rattle.coset_keys.proofs.Numbers.{ec2_number}
use Rattle.coset_keys.proofs.builder.ec2_builder.Goals as goal

pub returns : goal.returns
returns c =
    let typed = c.key_type-builder.ensures ∙ (λ i. record (c.new.ensures i) { kty = assigned (ec2_number i) }) in
    let curve = view_integer c.from.result ∙ ap integer (c.from.ensures ∙ to_z-of_z w64 c.to_i64.result (search rules) ∙ c.to_i64.ensures.number) in
    let one = c.in_ok-push.ensures ∙ (λ i. with_param (number (negsuc 0)) (curve i) (typed i)) in
    let two = c.in_ok-push-2.ensures ∙ (λ i. with_param (number (negsuc 1)) (view_bytes c.args.x i) (one i)) in
    c.in_ok-push-3.ensures ∙ (λ i. with_param (number (negsuc 2)) (view c.args.y) (two i))
