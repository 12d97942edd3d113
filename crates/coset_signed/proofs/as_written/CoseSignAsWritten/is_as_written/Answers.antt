use Rattle.std.proofs.Common.{◌≡◌, Some, sym, subst}
use Rattle.std.specs.Prelude.{MatchBool}
use Rattle.ciborium_value.specs.View.{view}
use Rattle.coset_headers.proofs.Canonical.{match_by}
use Rattle.coset_signed.specs.Written.{sign_tree}
use Rattle.coset_signed.proofs.Canonical.{sign_by}
use Rattle.coset_signed.proofs.as_written.CoseSignAsWritten.is_as_written.Goals as goal

pub returns : goal.returns
returns c = λ n k x a.
    let t = view c.args.value.now in
    subst (λ b. MatchBool b (sign_tree x ≡ Some t) (sign_tree x ≡ Some t → ⊥)) (sym c.is_canonical_sign.ensures) (match_by _ (sign_by n x t k a))
