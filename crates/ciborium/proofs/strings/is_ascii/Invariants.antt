use Rattle.std.proofs.Common.{IsAscii, take, length, ◌-◌}
use Rattle.ciborium.proofs.strings.is_ascii.Given as goal

abbrev pub invariant-bytes : goal.invariant-bytes
invariant-bytes l = IsAscii (take l.i l.bytes)

abbrev pub decreases-bytes : goal.decreases-bytes
decreases-bytes l = length l.bytes - l.i
