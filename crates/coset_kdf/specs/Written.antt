-- The value that stands for a KDF context or a part of one (RFC 9053, section 5.2). There is none
-- if the protected header can't be written.
use Rattle.std.specs.Prelude.{ℕ, pos, List, ◌∷◌, map, Option, Some, None, option_map}
use Rattle.ciborium_value.specs.Tree.{Tree, integer, bytes, array, simple}
use Rattle.ciborium_value.specs.View.{trees}
use Rattle.coset_labels.specs.Labels.{named_tree}
use Rattle.coset_headers.specs.Headers.{list_of_three}
use Rattle.coset_headers.specs.Written.{shown}
use Rattle.coset_kdf.specs.Contexts.{maybe_bytes, four_and}
use Rattle.coset_kdf.specs.Fields.{NonceFields, nonce_bytes, nonce_integer, PartyFields, PublicFields, ContextFields}

abbrev pub bytes_or_nil_tree : Option (List ℕ) → Tree
bytes_or_nil_tree None = simple 22
bytes_or_nil_tree (Some b) = bytes b

abbrev pub nonce_tree : Option NonceFields → Tree
nonce_tree None = simple 22
nonce_tree (Some (nonce_bytes b)) = bytes b
nonce_tree (Some (nonce_integer i)) = integer i

abbrev pub party_tree : PartyFields → Tree
party_tree p = array (list_of_three (bytes_or_nil_tree p.identity) (nonce_tree p.nonce) (bytes_or_nil_tree p.other))

abbrev pub public_tree : PublicFields → Option Tree
public_tree s = option_map (λ b. array (trees (integer (pos s.key_data_length) ∷ bytes b ∷ maybe_bytes s.other))) (shown s.protected_header)

abbrev pub context_tree : ContextFields → Option Tree
context_tree c = option_map (λ s. array (four_and (named_tree c.algorithm) (party_tree c.party_u) (party_tree c.party_v) s
    (trees (map bytes c.privates)))) (public_tree c.public)
