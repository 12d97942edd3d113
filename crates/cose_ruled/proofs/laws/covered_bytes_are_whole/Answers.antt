use Rattle.std.proofs.Common.{refl}
use Rattle.cose_ruled.proofs.Shared.{whole}
use Rattle.cose_ruled.proofs.laws.covered_bytes_are_whole.Goals as goal

pub returns : goal.returns
returns c = λ base covered. whole base covered _ _ _ refl refl refl
