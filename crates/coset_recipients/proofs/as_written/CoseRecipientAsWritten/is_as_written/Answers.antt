use Rattle.std.proofs.Common.{◌≡◌, Some, sym, subst}
use Rattle.std.specs.Prelude.{MatchBool}
use Rattle.ciborium_value.specs.View.{view}
use Rattle.coset_headers.proofs.Canonical.{match_by}
use Rattle.coset_recipients.specs.Written.{recipient_tree}
use Rattle.coset_recipients.proofs.Canonical.{recipient_by}
use Rattle.coset_recipients.proofs.as_written.CoseRecipientAsWritten.is_as_written.Goals as goal

pub returns : goal.returns
returns c = λ n k x a.
    let t = view c.args.value.now in
    subst (λ b. MatchBool b (recipient_tree x ≡ Some t) (recipient_tree x ≡ Some t → ⊥)) (sym c.is_canonical_recipient.ensures) (match_by _ (recipient_by n x t k a))
