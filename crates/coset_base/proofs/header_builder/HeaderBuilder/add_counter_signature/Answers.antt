use Rattle.std.proofs.Common.{sym, ap, ◌∙◌}
use Rattle.coset_headers.specs.Fields.{HeaderFields, ProtectedFields, SignatureFields}
use Rattle.coset_headers.specs.View.{header_view, signature_view, signature_step, header_step, protected_step}
use Rattle.coset_headers.specs.declared.header.Header.{out-Header, roll-out-Header, fold-roll-Header}
use Rattle.coset_base.specs.Builders.{also_signed}
use Rattle.coset_base.proofs.Signed.{signed_last}
use Rattle.coset_base.proofs.header_builder.HeaderBuilder.add_counter_signature.Goals as goal

pub returns : goal.returns
returns c =
    let h = c.args.self.header in
    let view_of = fold-roll-Header SignatureFields HeaderFields ProtectedFields signature_step header_step protected_step in
    let was = ap header_view (sym (roll-out-Header h)) ∙ view_of (out-Header h) in
    view_of _ ∙ (signed_last _ _ _ c.args.signature c.in_ok-push.ensures.items ∙ ap (also_signed (signature_view c.args.signature)) (sym was))
