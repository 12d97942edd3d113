use Rattle.std.proofs.Common.{rules}
use Rattle.coset_signed.proofs.sign1.CoseSign1.verify_signature.Goals as goal

pub verifier-requires : goal.verifier-requires
verifier-requires g c = search rules
