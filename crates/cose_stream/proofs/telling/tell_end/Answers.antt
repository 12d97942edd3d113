use Rattle.cose_gate_program.proofs.Written.{wrote_then}
use Rattle.cose_gate_command.proofs.RunLines.{adds_both}
use Rattle.cose_stream.proofs.telling.tell_end.Goals as goal

pub returns-then-teller : goal.returns-then-teller
returns-then-teller g c =
    let a = adds_both g.E.Write _ _ _ (adds_both g.E.Write _ _ _ c.say_why.ensures c.say_others.ensures) c.say_keys.ensures in
    rw c.if-teller.true (a.0, (a.1, wrote_then g.E.Write _ _ _ _ _ c.write_end.ensures a.2))
