use Rattle.cose_gate_c.proofs.Asked.{ran_within}
use Rattle.cose_gate_c.proofs.stream_asking.ask_message.Goals as goal

pub returns-in-Some : goal.returns-in-Some
returns-in-Some c = ran_within _ _ _ _ _ _ _ _ _ c.in-Some.ensures c.ask_front.ensures
