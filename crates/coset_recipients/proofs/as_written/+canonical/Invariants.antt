use Rattle.std.proofs.Common.{◌≡◌, drop}
use Rattle.ciborium_value.specs.View.{views}
use Rattle.coset_recipients.specs.AsWritten.{are_canonical_recipients}
use Rattle.coset_recipients.proofs.as_written.+canonical.Given as goal

-- what is left decides
abbrev pub invariant-are_canonical_recipients-items : goal.invariant-are_canonical_recipients-items
invariant-are_canonical_recipients-items l = are_canonical_recipients (views l.items) ≡ are_canonical_recipients (views (drop l.item-index l.items))
