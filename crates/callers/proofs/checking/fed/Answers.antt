use Rattle.std.proofs.Common.{false}
use Rattle.cose_gate.specs.Findings.{within}
use Rattle.callers.proofs.Checked.{is_fed}
use Rattle.callers.proofs.checking.fed.Goals as goal

pub returns : goal.returns
returns g c =
    is_fed (within c.args.limits.nesting c.args.limits.layers false) c.stream_check_with.result _ _ _ _ _ _ _ _ _ _ _ c.requires
    c.pieces_fit.ensures.sum c.pieces_fit.ensures.few c.stream_check_with.ensures.ok
