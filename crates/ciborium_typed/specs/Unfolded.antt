-- Typed reading of an item whose bignums may not be folded yet.
use Rattle.std.specs.Prelude.{Option, Some, None}
use Rattle.ciborium_value.specs.declared.kind.Kind.{Kind}
use Rattle.ciborium_value.specs.declared.kind.Kind.TheVariants.{BigNegative, Length}
use Rattle.ciborium_value.specs.declared.value.Value.{Value}
use Rattle.ciborium_value.specs.Folding.{fold}
use Rattle.ciborium_value.specs.Tree.{Tree}
use Rattle.ciborium_value.specs.View.{view}

-- why a type takes no value of a folding: there is none, or why it refuses that one
abbrev pub unread : (Tree → Option Kind) → Option Tree → Option Kind
unread refusal None = Some BigNegative
unread refusal (Some u) = refusal u

-- why a source of what is left gives no item: nothing is left, or it has no folding
abbrev pub missing : Option Value → Option Kind
missing None = Some Length
missing (Some v) = unread (λ u. None) (fold (view v))
