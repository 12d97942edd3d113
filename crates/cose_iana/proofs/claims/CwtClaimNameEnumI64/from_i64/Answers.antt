use Rattle.cose_iana.specs.Claims.{cwt_claim_names}
use Rattle.cose_iana.proofs.Found.{entry, found}
use Rattle.cose_iana.proofs.claims.CwtClaimNameEnumI64.from_i64.Goals as goal

pub returns : goal.returns
returns c = record { entry = entry cwt_claim_names _ _ c.ranges.i c.entry_with.ensures; found = found cwt_claim_names _ _ c.ranges.i c.entry_with.ensures }
