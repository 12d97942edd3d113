use Rattle.std.proofs.Common.{ap, ◌∙◌}
use Rattle.coset_headers.specs.View.{signature_view}
use Rattle.coset_signed.specs.Fields.{signed_by, also_signed}
use Rattle.coset_signed.proofs.sign_builder.CoseSignBuilder.add_made.Goals as goal

pub returns : goal.returns
returns g c =
    let a = c.asked.ensures in
    (a.0, a.1, a.2 ∙ ap (λ m. also_signed m (signed_by (signature_view c.args.signature) a.0.items)) c.in_ok-with_room.ensures.built)
