-- Structures over what can be written are there.
use Rattle.std.proofs.Common.{◌≢◌, ℕ, List, Option, Some, None}
use Rattle.coset_headers.specs.Fields.{ProtectedFields}
use Rattle.coset_headers.specs.Written.{shown}
use Rattle.coset_headers.proofs.Writable.{some_is, map_some, and_some}
use Rattle.coset_base.specs.Structure.{shown_signer, sig_structure, mac_structure, encryption_structure}

pub sig_data_some : (context : List ℕ) (p : ProtectedFields) (o : Option ProtectedFields) (aad payload : List ℕ) → shown p ≢ None → shown_signer o ≢ None → sig_structure context p o aad payload ≢ None
sig_data_some context p o aad payload m n = and_some _ (shown p) m (λ b. map_some _ (shown_signer o) n)

pub mac_data_some : (context : List ℕ) (p : ProtectedFields) (aad payload : List ℕ) → shown p ≢ None → mac_structure context p aad payload ≢ None
mac_data_some context p aad payload m = map_some _ (shown p) m

pub enc_data_some : (context : List ℕ) (p : ProtectedFields) (aad : List ℕ) → shown p ≢ None → encryption_structure context p aad ≢ None
enc_data_some context p aad m = map_some _ (shown p) m

pub no_signer_some : shown_signer None ≢ None
no_signer_some = some_is None

pub signer_is_some : (p : ProtectedFields) → shown p ≢ None → shown_signer (Some p) ≢ None
signer_is_some p m = map_some Some (shown p) m
