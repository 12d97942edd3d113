use Rattle.cose_iana.specs.Keys.{elliptic_curves}
use Rattle.cose_iana.proofs.Found.{entry, found}
use Rattle.cose_iana.proofs.keys.EllipticCurveEnumI64.from_i64.Goals as goal

pub returns : goal.returns
unfolding elliptic_curves
returns c = record { entry = entry elliptic_curves _ _ c.ranges.i c.entry_with.ensures; found = found elliptic_curves _ _ c.ranges.i c.entry_with.ensures }
