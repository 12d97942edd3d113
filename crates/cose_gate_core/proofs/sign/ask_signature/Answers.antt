use Rattle.std.proofs.Common.{codes, Some, refl, sym, ap, ◌∙◌}
use Rattle.ciborium_value.specs.Encoding.{enc}
use Rattle.ciborium_value.specs.Tree.{bytes}
use Rattle.coset_headers.specs.View.{signature_view}
use Rattle.coset_signed.specs.View.{sign_view}
use Rattle.cose_gate_core.specs.Received.{received_bytes}
use Rattle.cose_gate_core.proofs.Covering.{same_question, subject_is, same_structure, pieces_signed, ok_yes, ok_one_told, signature_asks, signer_is, headers_are, bytes_are}
use Rattle.cose_gate_core.proofs.sign.ask_signature.Goals as goal

pub returns-clause-answer : goal.returns-clause-answer
returns-clause-answer g c =
    let m = sign_view c.args.message.now in
    let s = signature_view c.args.signature.now in
    let a = c.with_signer-about.ensures in
    let aad = c.args.aad.now in
    let body = c.received-body.result.now in
    let signer = c.received-signer.result.now in
    let payload = c.content_bytes.result.now in
    let covered = pieces_signed c.prefix-prefix.result.now (enc (bytes body)) (enc (bytes signer)) (enc (bytes aad)) (enc (bytes payload)) _ (c.prefix-prefix.ensures body aad payload (Some signer) refl)
    ∙ same_structure (codes "Signature") _ _ _ _ aad _ _ c.received-body.ensures (c.received-signer.ensures ∙ ap received_bytes (signer_is c.args.signature.now)) c.content_bytes.ensures in
    ok_yes c.ask.result (g.J.Judge.yes (g.J.Judge.who c.args.judge.now)) _ _ (same_question _ _ _ _ _ _ (subject_is c.with_signer-about.result _ _ _ _ a.kind a.protected a.unprotected (a.signer ∙ ap Some (headers_are c.args.signature.now)) a.recipients) covered (c.deref.ensures.value ∙ bytes_are c.args.signature.now)
    ∙ sym (signature_asks m s aad c.requires.body c.requires.signer)) c.ask.ensures.answer

pub returns-clause-told : goal.returns-clause-told
returns-clause-told g c =
    let m = sign_view c.args.message.now in
    let s = signature_view c.args.signature.now in
    let a = c.with_signer-about.ensures in
    let aad = c.args.aad.now in
    let body = c.received-body.result.now in
    let signer = c.received-signer.result.now in
    let payload = c.content_bytes.result.now in
    let covered = pieces_signed c.prefix-prefix.result.now (enc (bytes body)) (enc (bytes signer)) (enc (bytes aad)) (enc (bytes payload)) _ (c.prefix-prefix.ensures body aad payload (Some signer) refl)
    ∙ same_structure (codes "Signature") _ _ _ _ aad _ _ c.received-body.ensures (c.received-signer.ensures ∙ ap received_bytes (signer_is c.args.signature.now)) c.content_bytes.ensures in
    ok_one_told c.ask.result g.J.Judge.decided _ _ _ _ (same_question _ _ _ _ _ _ (subject_is c.with_signer-about.result _ _ _ _ a.kind a.protected a.unprotected (a.signer ∙ ap Some (headers_are c.args.signature.now)) a.recipients) covered (c.deref.ensures.value ∙ bytes_are c.args.signature.now)
    ∙ sym (signature_asks m s aad c.requires.body c.requires.signer)) c.ask.ensures.told
