-- Whether a question may be asked, and under which keys (RFC 9052, sections 3, 3.1, 7.1 and 8).
use Rattle.std.specs.Prelude.{ℕ, ℤ, List, [], ◌∷◌, Bool, false, ◌&&◌, Option, None, Some, option_map, option_and_then, if◌then◌else◌}
use Rattle.std.specs.List.{find, list_any}
use Rattle.coset_labels.specs.Fields.{Named}
use Rattle.coset_headers.specs.Fields.{HeaderFields, ProtectedFields, plain_part}
use Rattle.coset_keys.specs.Fields.{KeyFields}
use Rattle.cose_rules.specs.Algorithms.{scheme_for}
use Rattle.cose_rules.specs.Headers.{layer_fault}
use Rattle.cose_rules.specs.Keys.{key_fault, fits, has_id}
use Rattle.cose_rules.specs.Labels.{header_in}
use Rattle.cose_rules.specs.declared.algorithms.Scheme.{Scheme}
use Rattle.cose_rules.specs.declared.headers.HeaderFault.{HeaderFault}
use Rattle.cose_rules.specs.declared.keys.KeyFault.{KeyFault}
use Rattle.cose_rules.specs.declared.deciding.Refusal.{Refusal}
use Rattle.cose_rules.specs.declared.deciding.Refusal.TheVariants as refusal

-- the headers of a layer: the protected one, and the other
abbrev pub LayerFields : Type 0
LayerFields = ProtectedFields × HeaderFields

-- the answer: ask by this scheme and key id, or don't, for this reason
pub data RulingFields : Type 0 where
  ask : Scheme → List ℕ → RulingFields
  refuse : Refusal → RulingFields

-- the headers that name algorithm and key: those of the signer if there is one, else the message's
-- (section 4.1)
abbrev pub own_layer : LayerFields → Option LayerFields → LayerFields
own_layer message None = message
own_layer message (Some signer) = signer

-- the fault of the message's headers, or else of the signer's
abbrev pub of_signer : Option LayerFields → Option Refusal
of_signer None = None
of_signer (Some s) = option_map (λ f. refusal.Signer f) (layer_fault s.0 s.1)

abbrev pub fault_or : Option HeaderFault → Option Refusal → Option Refusal
fault_or None other = other
fault_or (Some f) other = Some (refusal.Message f)

abbrev pub header_refusal : LayerFields → Option LayerFields → Option Refusal
header_refusal message signer = fault_or (layer_fault message.0 message.1) (of_signer signer)

-- the key id: the protected one, or the unprotected one if that is empty (section 3.1)
abbrev pub id_or : List ℕ → List ℕ → List ℕ
id_or [] other = other
id_or (b ∷ bs) other = b ∷ bs

abbrev pub id_in : LayerFields → List ℕ
id_in l = id_or (plain_part (header_in l.0)).key_id (plain_part l.1).key_id

-- the algorithm is named by the protected header alone
abbrev pub algorithm_in : LayerFields → Option Named
algorithm_in l = (plain_part (header_in l.0)).alg

-- a candidate is needed
abbrev pub any_fits : Scheme → List ℕ → List KeyFields → Bool
any_fits s id keys = list_any (fits s id) keys

-- or else what is wrong with the first key with this id, if there is one
abbrev pub first_fault : Scheme → List ℕ → List KeyFields → Option KeyFault
first_fault s id keys = option_and_then (key_fault s) (find (has_id id) keys)

abbrev pub by_fault : Option KeyFault → RulingFields
by_fault None = refuse refusal.NoKey
by_fault (Some f) = refuse (refusal.UnfitKey f)

abbrev pub by_keys : List KeyFields → List ℕ → Scheme → RulingFields
by_keys keys id s = if any_fits s id keys then ask s id else by_fault (first_fault s id keys)

abbrev pub by_scheme : List KeyFields → List ℕ → Option Scheme → RulingFields
by_scheme keys id None = refuse refusal.UnknownAlgorithm
by_scheme keys id (Some s) = by_keys keys id s

abbrev pub by_algorithm : ℤ → List KeyFields → List ℕ → Option Named → RulingFields
by_algorithm operation keys id None = refuse refusal.NoAlgorithm
by_algorithm operation keys id (Some n) = by_scheme keys id (scheme_for operation n)

abbrev pub by_layer : ℤ → List KeyFields → LayerFields → RulingFields
by_layer operation keys l = by_algorithm operation keys (id_in l) (algorithm_in l)

abbrev pub refused_or : Option Refusal → RulingFields → RulingFields
refused_or None ruling = ruling
refused_or (Some r) ruling = refuse r

-- the ruling on a signature or MAC, which the operation 2 or 10 verifies, of a message with these
-- headers, and of a signer if there is one
abbrev pub ruling : ℤ → List KeyFields → LayerFields → Option LayerFields → RulingFields
ruling operation keys message signer =
    refused_or (header_refusal message signer) (by_layer operation keys (own_layer message signer))

-- a signature is good under one of the candidates, the keys that fit, of which `verifies` says whether
-- it verifies
abbrev pub is_good : (ℤ → KeyFields → Bool) → List KeyFields → RulingFields → Bool
is_good verifies keys (ask s id) = list_any (λ k. fits s id k && verifies s.number k) keys
is_good verifies keys (refuse r) = false
