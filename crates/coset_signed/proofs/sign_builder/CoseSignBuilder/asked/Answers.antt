use Rattle.std.proofs.Common.{refl, ap, ◌∙◌}
use Rattle.coset_signed.specs.Fields.{also_signed}
use Rattle.coset_signed.specs.Builders.{sign_so_far}
use Rattle.coset_signed.proofs.sign_builder.CoseSignBuilder.asked.Goals as goal

pub returns : goal.returns
returns g c = (
  c.signer-made.result,
  (c.args.covered, c.signer-made.ensures, refl),
  c.with_signature.ensures ∙ ap (also_signed (sign_so_far c.args.self)) c.signed_by.ensures,
)
