use Rattle.std.proofs.Common.{◌≡◌, drop}
use Rattle.coset_headers.specs.Received.{are_received_signatures}
use Rattle.coset_headers.specs.View.{signatures_view}
use Rattle.coset_headers.proofs.+received.Given as goal

-- the result for the whole list is the result for what is left of it
abbrev pub invariant-received::are_received-signatures : goal.invariant-received::are_received-signatures
invariant-received::are_received-signatures l = are_received_signatures (signatures_view l.signatures) ≡ are_received_signatures (signatures_view (drop l.signature-index l.signatures))
