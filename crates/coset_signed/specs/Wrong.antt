-- Which fault a value has as a signed message (RFC 9052, sections 4.1 and 4.2). A value may have
-- several. The nesting limit `n` and the layers `k` are those of the fields.
use Rattle.std.specs.Prelude.{◌≡◌, ℕ, [], ◌∷◌, false}
use Rattle.ciborium_value.specs.Tree.{Tree, array, Trees}
use Rattle.coset_labels.specs.Faults.{CoseFault, fault_of, unexpected}
use Rattle.ciborium_value.specs.Kinds.{is_array}
use Rattle.coset_labels.specs.Walks.{WrongItems}
use Rattle.coset_labels.specs.declared.error.CoseError.{CoseError}
use Rattle.coset_labels.specs.declared.error.CoseError.TheVariants as code
use Rattle.coset_headers.specs.Wrong.{WrongSignature}
use Rattle.coset_recipients.specs.WrongParts.{WrongWhole}
pub use Rattle.coset_recipients.specs.WrongParts.{IsNoBytes}

-- a value that is wrong as a signature, whatever is wrong in it, is an unexpected item in a list of
-- signatures
pub data IsNoSignature (n : ℕ) (t : Tree) (k : ℕ) : CoseFault → Type 0 where
  whatever : (e : CoseFault) → WrongSignature n t k e → IsNoSignature n t k unexpected

-- being out of memory stays, and any other error becomes an unexpected item
abbrev pub Hides : CoseError → CoseError → Type 0
Hides code.Memory r = r ≡ code.Memory
Hides _ r = fault_of r ≡ unexpected

-- no list, or one with an item that is no signature
pub data WrongSignatureList (n : ℕ) (t : Tree) (k : ℕ) : CoseFault → Type 0 where
  no_list : is_array t ≡ false → WrongSignatureList n t k unexpected
  in_list : (ts : Trees) (e : CoseFault) → t ≡ array ts → WrongItems (λ d. IsNoSignature n d k) ts e → WrongSignatureList n t k e

-- no array, one of another length, one of its parts, or no signature
abbrev pub WrongSign1 : ℕ → Tree → ℕ → CoseFault → Type 0
WrongSign1 n t k e = WrongWhole n t (IsNoBytes ∷ []) k e

-- the same, or a fault of its list of signatures
abbrev pub WrongSign : ℕ → Tree → ℕ → CoseFault → Type 0
WrongSign n t k e = WrongWhole n t ((λ d f. WrongSignatureList n d k f) ∷ []) k e
