-- What was read can be written, and what its tag covers is there.
use Rattle.std.proofs.Common.{◌≢◌, ℕ, List, None}
use Rattle.ciborium_value.specs.Tree.{Tree}
use Rattle.coset_base.specs.Contexts.{mac_text}
use Rattle.coset_base.specs.declared.context.MacContext.TheVariants.{CoseMac, CoseMac0}
use Rattle.coset_base.proofs.Writable.{mac_data_some}
use Rattle.coset_headers.proofs.Writable.{prot_some}
use Rattle.coset_maced.specs.Fields.{Mac0Fields, MacFields}
use Rattle.coset_maced.specs.Shapes.{HasMac0, HasMac}
use Rattle.coset_maced.specs.Structure.{mac0_covered_with, mac_covered_with}
use Rattle.coset_maced.specs.Written.{mac0_tree, mac_tree}
use Rattle.coset_maced.proofs.Kept.{mac0_kept, mac_kept}

pub mac0_some : (n : ℕ) (m : Mac0Fields) (t : Tree) (k : ℕ) → HasMac0 n t m k → mac0_tree m ≢ None
mac0_some n m t k h = (mac0_kept n m k).some t h

pub mac_some : (n : ℕ) (m : MacFields) (t : Tree) (k : ℕ) → HasMac n t m k → mac_tree m ≢ None
mac_some n m t k h = (mac_kept n m k).some t h

pub mac0_covers : (n : ℕ) (m : Mac0Fields) (t : Tree) (k : ℕ) (payload aad : List ℕ) → HasMac0 n t m k → mac0_covered_with m payload aad ≢ None
mac0_covers n m t k payload aad h = mac_data_some (mac_text CoseMac0) m.protected aad payload (prot_some n m.protected h.first k h.parts.protected)

pub mac_covers : (n : ℕ) (m : MacFields) (t : Tree) (k : ℕ) (payload aad : List ℕ) → HasMac n t m k → mac_covered_with m payload aad ≢ None
mac_covers n m t k payload aad h = mac_data_some (mac_text CoseMac) m.protected aad payload (prot_some n m.protected h.first k h.parts.protected)
