use Rattle.std.proofs.Common.{◌≡◌, Some, sym, subst, ap, ◌∙◌}
use Rattle.coset_headers.specs.View.{signature_view}
use Rattle.coset_signed.specs.Added.{AddsWhere}
use Rattle.coset_signed.specs.Fields.{signed_by, also_signed}
use Rattle.coset_signed.specs.Builders.{sign_so_far}
use Rattle.coset_signed.proofs.sign_builder.CoseSignBuilder.add_detached_signature.Goals as goal

pub returns : goal.returns
returns g c =
    subst (λ o. AddsWhere g.S.FnOnce c.args.signer o (λ v b. sign_so_far b ≡ also_signed (sign_so_far c.args.self) (signed_by (signature_view c.args.signature) v.items)) c.add_made.result)
    (ap Some c.as_slice.ensures.value ∙ sym c.in_ok-data.ensures) c.add_made.ensures
