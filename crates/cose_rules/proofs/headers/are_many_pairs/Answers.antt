use Rattle.std.proofs.Common.{refl}
use Rattle.cose_rules.proofs.Seen.{many_by}
use Rattle.cose_rules.proofs.headers.are_many_pairs.Goals as goal

pub returns : goal.returns
returns c = many_by _ _ _ c.saturating_mul.ensures refl
