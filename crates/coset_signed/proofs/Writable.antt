-- What was read can be written, and the bytes that its signatures cover are there.
use Rattle.std.proofs.Common.{◌≢◌, ℕ, List, Some, None}
use Rattle.std.specs.Prelude.{codes}
use Rattle.ciborium_value.specs.Tree.{Tree}
use Rattle.coset_headers.specs.Fields.{SignatureFields, signature}
use Rattle.coset_headers.specs.Headers.{HasSignature}
use Rattle.coset_headers.specs.Written.{shown}
use Rattle.coset_headers.proofs.Writable.{prot_some}
use Rattle.coset_base.proofs.Writable.{sig_data_some, no_signer_some, signer_is_some}
use Rattle.coset_signed.specs.Fields.{Sign1Fields, SignFields, signer_of}
use Rattle.coset_signed.specs.Shapes.{HasSign1, HasSign}
use Rattle.coset_signed.specs.Structure.{sign1_covered_with, sign_covered_with}
use Rattle.coset_signed.specs.Written.{sign1_tree, sign_tree}
use Rattle.coset_signed.proofs.Kept.{sign1_kept, sign_kept}

pub sign1_some : (n k : ℕ) (t : Tree) (m : Sign1Fields) → HasSign1 n t m k → sign1_tree m ≢ None
sign1_some n k t m h = (sign1_kept n m k).some t h

pub sign_some : (n k : ℕ) (t : Tree) (m : SignFields) → HasSign n t m k → sign_tree m ≢ None
sign_some n k t m h = (sign_kept n m k).some t h

pub sign1_covers : (n k : ℕ) (t : Tree) (m : Sign1Fields) (payload aad : List ℕ) → HasSign1 n t m k → sign1_covered_with m payload aad ≢ None
sign1_covers n k t m payload aad h = sig_data_some (codes "Signature1") m.protected None aad payload (prot_some n m.protected h.first k h.parts.protected) no_signer_some

signer_shown : (n : ℕ) (s : SignatureFields) (t : Tree) (k : ℕ) → HasSignature n t s k → shown (signer_of s) ≢ None
signer_shown n (signature p h c) t k a = prot_some n p a.0 k a.3

pub sign_covers : (n k : ℕ) (t u : Tree) (m : SignFields) (s : SignatureFields) (payload aad : List ℕ) → HasSign n t m k → HasSignature n u s k → sign_covered_with m s payload aad ≢ None
sign_covers n k t u m s payload aad h a =
    sig_data_some (codes "Signature") m.protected (Some (signer_of s)) aad payload (prot_some n m.protected h.first k h.parts.protected) (signer_is_some (signer_of s) (signer_shown n s u k a))
