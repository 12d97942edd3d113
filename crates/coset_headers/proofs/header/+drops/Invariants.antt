use Rattle.std.proofs.Common.{ℕ, ◌<◌, ◌≤◌, get_or}
use Rattle.coset_headers.specs.declared.header.CoseSignature.{CoseSignature}
use Rattle.coset_headers.specs.declared.header.CoseSignature.TheViews.{size-CoseSignature}
use Rattle.coset_headers.proofs.header.+drops.Given as goal

-- those that come later are as they were, those before have none in their headers
abbrev pub invariant-let_go-each : goal.invariant-let_go-each
invariant-let_go-each l = goal.unvisited-let_go-each l
    × ((k : ℕ) (d : CoseSignature) → k < l.signature-index → size-CoseSignature (get_or l.signature-items k d) ≤ 3)

abbrev pub invariant-drain-signatures : goal.invariant-drain-signatures
invariant-drain-signatures l = goal.no_deeper-drain-signatures l

abbrev pub decreases-drain-signatures : goal.decreases-drain-signatures
decreases-drain-signatures l = goal.left-drain-signatures l
