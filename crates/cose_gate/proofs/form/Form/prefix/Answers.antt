use Rattle.std.proofs.Common.{None, refl}
use Rattle.cose_gate.proofs.form.Form.prefix.Goals as goal

pub returns-in-Sign1 : goal.returns-in-Sign1
returns-in-Sign1 c = rw c.in-Sign1.is (λ body aad payload. c.prefix.ensures body aad payload None refl)
