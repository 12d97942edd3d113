-- Which fault a value has as a KDF context or a part of one (RFC 9053, section 5.2). A value may
-- have several. The nesting limit `n` and the layers left `k` are those of the fields.
use Rattle.std.specs.Prelude.{◌≡◌, ◌≢◌, ◌<◌, ℕ, List, ◌∷◌, ◌++◌, false}
use Rattle.cose_iana.specs.Algorithms.{is_algorithm}
use Rattle.cose_iana.specs.Registry.{is_private_use}
use Rattle.ciborium_value.specs.Tree.{Tree, integer, bytes, array, simple, Trees, one_more, tree_count, is_bytes}
use Rattle.ciborium_value.specs.View.{trees}
use Rattle.coset_labels.specs.Faults.{CoseFault, out_of_range, unexpected}
use Rattle.ciborium_value.specs.Kinds.{is_array}
use Rattle.coset_labels.specs.Labels.{is_i64, WrongNamed}
use Rattle.coset_headers.specs.Headers.{list_of_three}
use Rattle.coset_headers.specs.Wrong.{WrongProtected}
use Rattle.coset_kdf.specs.Contexts.{is_u64, four_and}

-- neither a byte string nor null
abbrev pub NoBytesOrNil : Tree → Type 0
NoBytesOrNil t = (is_bytes t ≡ false) × (t ≢ simple 22)

-- an integer outside 64 bits, or no byte string, integer or null
abbrev pub WrongNonce : Tree → CoseFault → Type 0
WrongNonce (integer i) e = (is_i64 i ≡ false) × (e ≡ out_of_range)
WrongNonce (bytes b) e = ⊥
WrongNonce (simple n) e = (n ≢ 22) × (e ≡ unexpected)
WrongNonce _ e = e ≡ unexpected

pub data WrongParty : Tree → CoseFault → Type 0 where
  no_array : (t : Tree) → is_array t ≡ false → WrongParty t unexpected
  not_three : (ts : Trees) → tree_count ts ≢ 3 → WrongParty (array ts) unexpected
  wrong_identity : (a b c : Tree) → NoBytesOrNil a → WrongParty (array (list_of_three a b c)) unexpected
  wrong_nonce : (a b c : Tree) (e : CoseFault) → WrongNonce b e → WrongParty (array (list_of_three a b c)) e
  wrong_other : (a b c : Tree) → NoBytesOrNil c → WrongParty (array (list_of_three a b c)) unexpected

-- an integer outside 0 to 2^64 - 1, or no integer
abbrev pub WrongLength : Tree → CoseFault → Type 0
WrongLength (integer i) e = (is_u64 i ≡ false) × (e ≡ out_of_range)
WrongLength _ e = e ≡ unexpected

pub data WrongPublic (n : ℕ) : Tree → ℕ → CoseFault → Type 0 where
  no_list : (t : Tree) (k : ℕ) → is_array t ≡ false → WrongPublic n t k unexpected
  not_two_or_three : (ts : Trees) (k : ℕ) → tree_count ts ≢ 2 → tree_count ts ≢ 3 → WrongPublic n (array ts) k unexpected
  wrong_length : (a b : Tree) (ts : Trees) (k : ℕ) (e : CoseFault) → tree_count ts < 2 → WrongLength a e
      → WrongPublic n (array (one_more a (one_more b ts))) k e
  in_protected : (a b : Tree) (ts : Trees) (k : ℕ) (e : CoseFault) → tree_count ts < 2 → WrongProtected n b k e
      → WrongPublic n (array (one_more a (one_more b ts))) k e
  no_bytes : (a b c : Tree) (k : ℕ) → is_bytes c ≡ false → WrongPublic n (array (list_of_three a b c)) k unexpected

pub data WrongContext (n : ℕ) : Tree → ℕ → CoseFault → Type 0 where
  not_list : (t : Tree) (k : ℕ) → is_array t ≡ false → WrongContext n t k unexpected
  too_few : (ts : Trees) (k : ℕ) → tree_count ts < 4 → WrongContext n (array ts) k unexpected
  wrong_algorithm : (a u v s : Tree) (ts : Trees) (k : ℕ) (e : CoseFault) → WrongNamed is_algorithm is_private_use a e
      → WrongContext n (array (four_and a u v s ts)) k e
  in_party_u : (a u v s : Tree) (ts : Trees) (k : ℕ) (e : CoseFault) → WrongParty u e → WrongContext n (array (four_and a u v s ts)) k e
  in_party_v : (a u v s : Tree) (ts : Trees) (k : ℕ) (e : CoseFault) → WrongParty v e → WrongContext n (array (four_and a u v s ts)) k e
  in_public : (a u v s : Tree) (ts : Trees) (k : ℕ) (e : CoseFault) → WrongPublic n s k e → WrongContext n (array (four_and a u v s ts)) k e
  in_private : (a u v s t : Tree) (before after : List Tree) (k : ℕ) → is_bytes t ≡ false
      → WrongContext n (array (four_and a u v s (trees (before ++ t ∷ after)))) k unexpected
