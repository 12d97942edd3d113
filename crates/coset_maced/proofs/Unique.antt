-- One value has the fields of at most one message, and none if it has a fault.
use Rattle.std.proofs.Common.{◌≡◌, ℕ}
use Rattle.ciborium_value.specs.Tree.{Tree}
use Rattle.coset_labels.specs.Faults.{CoseFault}
use Rattle.coset_recipients.proofs.PartsOnce.{bytes_not, bytes_once, whole_once, whole_not}
use Rattle.coset_recipients.proofs.Excludes.{list_not}
use Rattle.coset_recipients.proofs.Unique.{list_once}
use Rattle.coset_maced.specs.Fields.{Mac0Fields, MacFields}
use Rattle.coset_maced.specs.Shapes.{HasMac0, HasMac}
use Rattle.coset_maced.specs.Wrong.{WrongMac0, WrongMac}

pub mac0_once : (n : ℕ) (m w : Mac0Fields) (t : Tree) (k : ℕ) → HasMac0 n t m k → HasMac0 n t w k → m ≡ w
mac0_once n m w t k a b =
    let s = whole_once n t m.protected w.protected m.unprotected w.unprotected m.payload w.payload _ _ k a b in
    let d = s.lasts.0 in
    let tags = bytes_once m.tag w.tag d.0 d.1 d.2 in
    λ i. record { protected = s.protected i; unprotected = s.unprotected i; payload = s.content i; tag = tags i }

pub mac0_not : (n : ℕ) (t : Tree) (k : ℕ) (e : CoseFault) → WrongMac0 n t k e → (m : Mac0Fields) → HasMac0 n t m k → ⊥
mac0_not n t k e w m h = whole_not n t m.protected m.unprotected m.payload _ _ k e w h (bytes_not m.tag e, tt)

pub mac_once : (n : ℕ) (m w : MacFields) (t : Tree) (k : ℕ) → HasMac n t m k → HasMac n t w k → m ≡ w
mac_once n m w t k a b =
    let s = whole_once n t m.protected w.protected m.unprotected w.unprotected m.payload w.payload _ _ k a b in
    let d = s.lasts.0 in
    let r = s.lasts.1.0 in
    let tags = bytes_once m.tag w.tag d.0 d.1 d.2 in
    let lists = list_once n m.recipients w.recipients r.0 k r.1 r.2 in
    λ i. record { protected = s.protected i; unprotected = s.unprotected i; payload = s.content i; tag = tags i; recipients = lists i }

pub mac_not : (n : ℕ) (t : Tree) (k : ℕ) (e : CoseFault) → WrongMac n t k e → (m : MacFields) → HasMac n t m k → ⊥
mac_not n t k e w m h = whole_not n t m.protected m.unprotected m.payload _ _ k e w h (bytes_not m.tag e, (λ x f g. list_not n x k e f m.recipients g, tt))
