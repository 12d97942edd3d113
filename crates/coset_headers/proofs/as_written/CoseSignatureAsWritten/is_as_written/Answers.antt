use Rattle.std.proofs.Common.{◌≡◌, Some, sym, subst}
use Rattle.std.specs.Prelude.{MatchBool}
use Rattle.ciborium_value.specs.View.{view}
use Rattle.coset_headers.specs.Written.{signature_tree}
use Rattle.coset_headers.proofs.Canonical.{match_by, sig_canonical}
use Rattle.coset_headers.proofs.as_written.CoseSignatureAsWritten.is_as_written.Goals as goal

pub returns : goal.returns
returns c = λ n k x a.
    let t = view c.args.value.now in
    subst (λ b. MatchBool b (signature_tree x ≡ Some t) (signature_tree x ≡ Some t → ⊥)) (sym c.is_canonical_signature.ensures) (match_by _ (sig_canonical n x t k a))
