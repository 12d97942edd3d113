use Rattle.std.proofs.Common.{◌≡◌, drop, map}
use Rattle.coset_headers.specs.View.{signature_view}
use Rattle.coset_signed.specs.View.{sign_view}
use Rattle.cose_gate_core.specs.Questions.{one_question}
use Rattle.cose_gate_core.specs.Received.{AreReceived}
use Rattle.cose_gate_core.proofs.InOrder.{Asking}
use Rattle.cose_gate_core.proofs.sign.CoseSignMessage.ask.Given as goal

abbrev pub invariant-loop-index : goal.invariant-loop-index
invariant-loop-index g l =
    let j = g.J.Judge in
    let m = sign_view l.self in
    record {
      who : j.who l.judge ≡ j.who l.fn.judge;
      received : AreReceived (map signature_view (drop l.index l.self.signatures.items));
      asking : Asking j.decided (j.yes (j.who l.fn.judge)) (j.told l.fn.judge) (j.told l.judge)
          (map (one_question m l.aad) m.signatures) (map (one_question m l.aad) (map signature_view (drop l.index l.self.signatures.items))) l.index;
    }
