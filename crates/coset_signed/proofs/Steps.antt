-- What one step of reading a list of signatures shows, over plain variables.
use Rattle.std.proofs.Common.{◌≡◌, ◌≢◌, ℕ, inl, inr, false, sym, subst}
use Rattle.ciborium_value.specs.Tree.{Tree, array, Trees}
use Rattle.coset_labels.specs.Facts.Walks.{passed_on}
use Rattle.coset_labels.specs.Faults.{OrMemory, fault_of, unexpected}
use Rattle.ciborium_value.specs.Kinds.{is_array}
use Rattle.coset_labels.specs.Walks.{WrongItems}
use Rattle.coset_labels.specs.declared.error.CoseError.{CoseError}
use Rattle.coset_labels.specs.declared.error.CoseError.TheVariants as code
use Rattle.coset_headers.specs.Wrong.{WrongSignature}
use Rattle.coset_signed.specs.Wrong.{Hides, IsNoSignature, whatever, WrongSignatureList, no_list, in_list}

pub list_kind : (n : ℕ) (t : Tree) (k : ℕ) (e : CoseError) → (fault_of e ≡ unexpected) × (is_array t ≡ false) → OrMemory (WrongSignatureList n t k) e
list_kind n t k e p = inr (subst (WrongSignatureList n t k) (sym p.0) (no_list p.1))

pub list_inside : (n : ℕ) (t : Tree) (ts : Trees) (k : ℕ) (e : CoseError) → t ≡ array ts → OrMemory (WrongItems (λ d. IsNoSignature n d k) ts) e → OrMemory (WrongSignatureList n t k) e
list_inside n t ts k e q w = passed_on (WrongItems (λ d. IsNoSignature n d k) ts) (WrongSignatureList n t k) e (λ x. in_list ts (fault_of e) q x) w

-- a fault that isn't being out of memory
renamed : (n : ℕ) (t : Tree) (k : ℕ) (e r : CoseError) → e ≢ code.Memory → fault_of r ≡ unexpected → OrMemory (WrongSignature n t k) e → OrMemory (IsNoSignature n t k) r
renamed n t k e r m q (inl h) = absurd (m h)
renamed n t k e r m q (inr w) = inr (subst (IsNoSignature n t k) (sym q) (whatever (fault_of e) w))

pub hidden : (n : ℕ) (t : Tree) (k : ℕ) (e r : CoseError) → Hides e r → OrMemory (WrongSignature n t k) e → OrMemory (IsNoSignature n t k) r
hidden n t k code.Memory r h w = inl h
hidden n t k (code.DecodeFailed d) r h w = renamed n t k (code.DecodeFailed d) r (λ m. let q : code.DecodeFailed d ≡ code.Memory = m in cc) h w
hidden n t k (code.UnexpectedItem a b) r h w = renamed n t k (code.UnexpectedItem a b) r (λ m. let q : code.UnexpectedItem a b ≡ code.Memory = m in cc) h w
hidden n t k code.DuplicateMapKey r h w = renamed n t k code.DuplicateMapKey r (λ m. let q : code.DuplicateMapKey ≡ code.Memory = m in cc) h w
hidden n t k code.EncodeFailed r h w = renamed n t k code.EncodeFailed r (λ m. let q : code.EncodeFailed ≡ code.Memory = m in cc) h w
hidden n t k code.ExtraneousData r h w = renamed n t k code.ExtraneousData r (λ m. let q : code.ExtraneousData ≡ code.Memory = m in cc) h w
hidden n t k code.OutOfRangeIntegerValue r h w = renamed n t k code.OutOfRangeIntegerValue r (λ m. let q : code.OutOfRangeIntegerValue ≡ code.Memory = m in cc) h w
hidden n t k code.UnregisteredIanaValue r h w = renamed n t k code.UnregisteredIanaValue r (λ m. let q : code.UnregisteredIanaValue ≡ code.Memory = m in cc) h w
hidden n t k code.UnregisteredIanaNonPrivateValue r h w = renamed n t k code.UnregisteredIanaNonPrivateValue r (λ m. let q : code.UnregisteredIanaNonPrivateValue ≡ code.Memory = m in cc) h w
hidden n t k code.TooManyLayers r h w = renamed n t k code.TooManyLayers r (λ m. let q : code.TooManyLayers ≡ code.Memory = m in cc) h w
