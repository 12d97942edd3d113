-- One value has the fields of at most one message, and none if it has a fault.
use Rattle.std.proofs.Common.{◌≡◌, ℕ}
use Rattle.ciborium_value.specs.Tree.{Tree}
use Rattle.coset_labels.specs.Faults.{CoseFault}
use Rattle.coset_recipients.proofs.PartsOnce.{whole_once, whole_not}
use Rattle.coset_recipients.proofs.Excludes.{list_not}
use Rattle.coset_recipients.proofs.Unique.{list_once}
use Rattle.coset_encrypted.specs.Fields.{Encrypt0Fields, EncryptFields}
use Rattle.coset_encrypted.specs.Shapes.{HasEncrypt0, HasEncrypt}
use Rattle.coset_encrypted.specs.Wrong.{WrongEncrypt0, WrongEncrypt}

pub encrypt0_once : (n : ℕ) (m w : Encrypt0Fields) (t : Tree) (k : ℕ) → HasEncrypt0 n t m k → HasEncrypt0 n t w k → m ≡ w
encrypt0_once n m w t k a b =
    let s = whole_once n t m.protected w.protected m.unprotected w.unprotected m.ciphertext w.ciphertext _ _ k a b in
    λ i. record { protected = s.protected i; unprotected = s.unprotected i; ciphertext = s.content i }

pub encrypt0_not : (n : ℕ) (t : Tree) (k : ℕ) (e : CoseFault) → WrongEncrypt0 n t k e → (m : Encrypt0Fields) → HasEncrypt0 n t m k → ⊥
encrypt0_not n t k e w m h = whole_not n t m.protected m.unprotected m.ciphertext _ _ k e w h tt

pub encrypt_once : (n : ℕ) (m w : EncryptFields) (t : Tree) (k : ℕ) → HasEncrypt n t m k → HasEncrypt n t w k → m ≡ w
encrypt_once n m w t k a b =
    let s = whole_once n t m.protected w.protected m.unprotected w.unprotected m.ciphertext w.ciphertext _ _ k a b in
    let r = s.lasts.0 in
    let lists = list_once n m.recipients w.recipients r.0 k r.1 r.2 in
    λ i. record { protected = s.protected i; unprotected = s.unprotected i; ciphertext = s.content i; recipients = lists i }

pub encrypt_not : (n : ℕ) (t : Tree) (k : ℕ) (e : CoseFault) → WrongEncrypt n t k e → (m : EncryptFields) → HasEncrypt n t m k → ⊥
encrypt_not n t k e w m h = whole_not n t m.protected m.unprotected m.ciphertext _ _ k e w h (λ x f g. list_not n x k e f m.recipients g, tt)
