use Rattle.cose_mask.proofs.Masks.{nothing_said}
use Rattle.cose_mask.proofs.mask.says_nothing.Goals as goal

pub returns : goal.returns
returns c = λ blanks a b x y s p q. nothing_said blanks a b x y s p q
