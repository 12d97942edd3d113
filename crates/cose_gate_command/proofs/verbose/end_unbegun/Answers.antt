use Rattle.std.specs.Prelude.{option_copied}
use Rattle.cose_gate_command.proofs.KeyReasons.{with_more, with_reason}
use Rattle.cose_gate_command.proofs.verbose.end_unbegun.Goals as goal

pub returns-then-asked-clause-said : goal.returns-then-asked-clause-said
returns-then-asked-clause-said g c =
    with_more g.E.Write _ _ _ _ _ c.args.file.fault.now (option_copied c.args.file.bytes) c.args.why c.if-asked.true c.write_notice.ensures.wrote c.say_not_begun.ensures

pub returns-clause-said : goal.returns-clause-said
returns-clause-said g c =
    with_reason g.E.Write _ _ _ _ _ c.args.file.fault.now (option_copied c.args.file.bytes) c.args.why c.if-asked.false c.write_notice.ensures.wrote c.write_reason.ensures
