use Rattle.std.proofs.Common.{◌-◌}
use Rattle.cose_iana.proofs.Halves.{Between}
use Rattle.cose_iana.proofs.number.entry_with.Given as goal

abbrev pub invariant-halves : goal.invariant-halves
invariant-halves g l = Between l.table l.fn.i l.low l.high

abbrev pub decreases-halves : goal.decreases-halves
decreases-halves g l = l.high - l.low
