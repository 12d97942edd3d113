use Rattle.std.proofs.Common.{◌++◌, None, refl, sym, ap, ◌∙◌}
use Rattle.coset_headers.specs.View.{protected_view}
use Rattle.coset_maced.specs.PartsWritten.{content_bytes}
use Rattle.coset_signed.specs.View.{sign1_view}
use Rattle.coset_base.specs.Structure.{behind_prefix}
use Rattle.cose_gate_core.specs.Lent.{signer_of as lent_signer}
use Rattle.cose_gate_core.specs.Received.{received_bytes}
use Rattle.cose_gate_core.proofs.Covering.{same_question, subject_is, ok_first, ok_told, sign1_asks}
use Rattle.cose_gate_core.proofs.InOrder.{on_err, told_none}
use Rattle.cose_gate_core.proofs.sign1.CoseSign1Message.ask.Goals as goal

pub returns-clause-err : goal.returns-clause-err
returns-clause-err g c =
    on_err _ (told_none _ (g.J.Judge.yes (g.J.Judge.who c.args.judge.now)) _ _ _ _ (sign1_asks (sign1_view c.args.self.now) c.args.aad.now c.requires)) c.ask_alone.ensures.err

pub returns-clause-answer : goal.returns-clause-answer
returns-clause-answer g c =
    let m = sign1_view c.args.self.now in
    let a = c.alone-about.ensures in
    let body = received_bytes m.protected in
    let aad = c.args.aad.now in
    let payload = content_bytes m.payload in
    let covered = ap (λ z. c.prefix-prefix.result.now ++ behind_prefix (received_bytes (protected_view z)) None aad payload) a.protected ∙ sym (c.prefix-prefix.ensures body aad payload None refl) in
    ok_first c.ask_alone.result (g.J.Judge.yes (g.J.Judge.who c.args.judge.now)) _ _ _ (sign1_asks m aad c.requires)
    (same_question _ _ _ _ _ _ (subject_is c.alone-about.result _ _ _ None a.kind a.protected a.unprotected (ap lent_signer a.signer) a.recipients) covered c.deref.ensures.value) c.ask_alone.ensures.answer

pub returns-clause-told : goal.returns-clause-told
returns-clause-told g c =
    let m = sign1_view c.args.self.now in
    let a = c.alone-about.ensures in
    let body = received_bytes m.protected in
    let aad = c.args.aad.now in
    let payload = content_bytes m.payload in
    let covered = ap (λ z. c.prefix-prefix.result.now ++ behind_prefix (received_bytes (protected_view z)) None aad payload) a.protected ∙ sym (c.prefix-prefix.ensures body aad payload None refl) in
    ok_told c.ask_alone.result g.J.Judge.decided (g.J.Judge.yes (g.J.Judge.who c.args.judge.now)) _ _ _ _ _ (sign1_asks m aad c.requires)
    (same_question _ _ _ _ _ _ (subject_is c.alone-about.result _ _ _ None a.kind a.protected a.unprotected (ap lent_signer a.signer) a.recipients) covered c.deref.ensures.value) c.ask_alone.ensures.told
