-- What the exit of a `?` returns.
use Rattle.std.specs.Prelude.{◌≡◌, Result, Ok, Err, IfErr, IsErrAnd}
use Rattle.std.proofs.Common.{sym, subst}

pub passed_on : {T E : Type 0} {e : E} (r : Result T E) (Q : E → Type 0) → IsErrAnd r (λ x. x ≡ e) → Q e → IfErr r Q
passed_on (Ok x) Q h q = absurd h
passed_on (Err y) Q h q = subst Q (sym h) q
