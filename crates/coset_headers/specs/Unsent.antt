-- A protected header as a header map, without received bytes (RFC 9052, section 3).
use Rattle.std.specs.Prelude.{◌≡◌, ℕ, Bool, Option, None}
use Rattle.ciborium_value.specs.Tree.{Tree}
use Rattle.coset_headers.specs.Fields.{ProtectedFields, protected}
use Rattle.coset_headers.specs.Headers.{HasHeader}
use Rattle.coset_headers.specs.Written.{header_tree, is_empty}

abbrev pub HasUnsent : ℕ → Tree → ProtectedFields → ℕ → Type 0
HasUnsent n t (protected o h) k = (o ≡ None) × HasHeader n t h k

abbrev pub unsent_tree : ProtectedFields → Option Tree
unsent_tree (protected o h) = header_tree h

-- no field of the header is set
abbrev pub is_unset : ProtectedFields → Bool
is_unset (protected o h) = is_empty h
