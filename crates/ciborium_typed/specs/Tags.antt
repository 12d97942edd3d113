-- Items with a tag around them, and what is taken from them.
use Rattle.std.specs.Prelude.{◌≡◌, ℕ, Option, Some, None, if◌then◌else◌, nat_eq}
use Rattle.ciborium_value.specs.declared.kind.Kind.{Kind}
use Rattle.ciborium_value.specs.declared.kind.Kind.TheVariants as kind
use Rattle.ciborium_value.specs.Tree.{Tree, tag}

-- the item in the tag, if there is one
abbrev pub tagged_tree : Option ℕ → Tree → Tree
tagged_tree None t = t
tagged_tree (Some n) t = tag n t

-- the outermost tag
abbrev pub outer_tag : Tree → Option ℕ
outer_tag (tag n t) = Some n
outer_tag t = None

-- the item inside the outermost tag, or the item itself
abbrev pub inside : Tree → Tree
inside (tag n t) = t
inside t = t

-- the refusal of an item that must have the tag n
abbrev pub required_refusal : ℕ → (Tree → Option Kind) → Tree → Option Kind
required_refusal n refusal (tag m t) = if nat_eq m n then refusal t else Some kind.Tag
required_refusal n refusal t = Some kind.Tag

-- the refusal of an item that may have the tag n, and no other
abbrev pub accepted_refusal : ℕ → (Tree → Option Kind) → Tree → Option Kind
accepted_refusal n refusal (tag m t) = if nat_eq m n then refusal t else Some kind.Tag
accepted_refusal n refusal t = refusal t

-- a value is taken from an item inside the tag n, or from one with no tag
abbrev pub AcceptedTaken : {V : Type 0} → ℕ → (Tree → V → Type 0) → Tree → V → Type 0
AcceptedTaken n takes (tag m t) x = (m ≡ n) × takes t x
AcceptedTaken n takes t x = takes t x
