-- What a builder has so far, and the keys that its constructors make.
use Rattle.std.specs.Prelude.{ℕ, pos, negsuc, List, [], ◌∷◌, ◌++◌, Bool, ◌||◌, Some}
use Rattle.cose_iana.specs.Algorithms.{algorithm_number}
use Rattle.ciborium_value.specs.Tree.{Tree, bytes}
use Rattle.coset_labels.specs.Fields.{LabelFields, number, assigned}
use Rattle.coset_headers.specs.Headers.{is_at}
use Rattle.coset_keys.specs.Fields.{KeyFields, no_key}
use Rattle.coset_keys.specs.Keys.{is_own}
use Rattle.coset_keys.specs.MlDsa.{algorithm_of}
use Rattle.coset_keys.specs.View.{key_view}
use Rattle.coset_keys.specs.declared.builder.CoseKeyBuilder.{CoseKeyBuilder}
use Rattle.coset_keys.specs.declared.ml_dsa.MlDsaVariant.{MlDsaVariant}

abbrev pub so_far : CoseKeyBuilder → KeyFields
so_far b = key_view b.key

-- a label from 0 to 5
abbrev pub is_common : LabelFields → Bool
is_common l = is_at 0 l || is_own l

-- one more entry
abbrev pub with_param : LabelFields → Tree → KeyFields → KeyFields
with_param l v k = record k { params = k.params ++ (l, v) ∷ [] }

-- a symmetric key: the type 4, and the key at -1 (RFC 9053, section 7.3)
abbrev pub symmetric_key : List ℕ → KeyFields
symmetric_key k = record no_key { kty = assigned (pos 4); params = (number (negsuc 0), bytes k) ∷ [] }

-- a public key of ML-DSA: the type 7, the algorithm, and the key at -1 (registries "COSE Key Types"
-- and "COSE Key Type Parameters")
abbrev pub ml_dsa_key : MlDsaVariant → List ℕ → KeyFields
ml_dsa_key v k = record no_key {
  kty = assigned (pos 7);
  alg = Some (assigned (algorithm_number (algorithm_of v)));
  params = (number (negsuc 0), bytes k) ∷ [];
}

-- an octet key pair: the type 1 alone (RFC 9053, section 7.2)
abbrev pub okp_key : KeyFields
okp_key = record no_key { kty = assigned (pos 1) }
