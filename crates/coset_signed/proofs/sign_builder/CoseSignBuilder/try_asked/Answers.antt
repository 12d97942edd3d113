use Rattle.std.proofs.Common.{refl, ap, ◌∙◌}
use Rattle.coset_signed.specs.Fields.{also_signed}
use Rattle.coset_signed.specs.Builders.{sign_so_far}
use Rattle.coset_signed.proofs.sign_builder.CoseSignBuilder.try_asked.Goals as goal

pub returns : goal.returns
returns g c = (
  c.in_ok-made.made,
  (c.args.covered, c.in_ok-made.ensures, refl),
  c.with_signature.ensures ∙ ap (also_signed (sign_so_far c.args.self)) c.signed_by.ensures,
)
