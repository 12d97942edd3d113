use Rattle.coset_maced.specs.View.{mac_view}
use Rattle.cose_gate_core.proofs.Covering.{mac_asks}
use Rattle.cose_gate_core.proofs.InOrder.{on_err, told_none}
use Rattle.cose_gate_core.proofs.mac.CoseMacMessage.ask.Goals as goal

pub returns-clause-err : goal.returns-clause-err
returns-clause-err g c =
    on_err _ (told_none _ (g.J.Judge.yes (g.J.Judge.who c.args.judge.now)) _ _ _ _ (mac_asks (mac_view c.args.self.now) c.args.aad.now c.requires)) c.ask_alone.ensures.err
