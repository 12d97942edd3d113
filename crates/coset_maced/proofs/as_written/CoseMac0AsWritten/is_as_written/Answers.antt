use Rattle.std.proofs.Common.{◌≡◌, Some, sym, subst}
use Rattle.std.specs.Prelude.{MatchBool}
use Rattle.ciborium_value.specs.View.{view}
use Rattle.coset_headers.proofs.Canonical.{match_by}
use Rattle.coset_maced.specs.Written.{mac0_tree}
use Rattle.coset_maced.proofs.Canonical.{mac0_by}
use Rattle.coset_maced.proofs.as_written.CoseMac0AsWritten.is_as_written.Goals as goal

pub returns : goal.returns
returns c = λ n k x a.
    let t = view c.args.value.now in
    subst (λ b. MatchBool b (mac0_tree x ≡ Some t) (mac0_tree x ≡ Some t → ⊥)) (sym c.is_canonical_signature.ensures) (match_by _ (mac0_by n x t k a))
