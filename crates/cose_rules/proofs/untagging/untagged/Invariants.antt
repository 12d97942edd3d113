use Rattle.std.proofs.Common.{◌≤◌, ◌+◌, ℕ, List, length}
use Rattle.cose_rules.specs.Untagging.{Unwraps}
use Rattle.cose_rules.proofs.untagging.untagged.Given as goal

abbrev pub invariant-tags : goal.invariant-tags
invariant-tags l = record {
  on : (x : List ℕ) → Unwraps l.rest x → Unwraps l.item x;
  left : l.done + length l.rest ≤ length l.item;
}
