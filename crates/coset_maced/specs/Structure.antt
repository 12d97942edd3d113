-- What the tag of an authenticated message covers (RFC 9052, section 6.3); none if the protected
-- header can't be written.
use Rattle.std.specs.Prelude.{ℕ, List, Option}
use Rattle.coset_recipients.specs.PartsWritten.{content_bytes}
use Rattle.coset_base.specs.Contexts.{mac_text}
use Rattle.coset_base.specs.Structure.{mac_structure}
use Rattle.coset_base.specs.declared.context.MacContext.TheVariants.{CoseMac, CoseMac0}
use Rattle.coset_maced.specs.Fields.{Mac0Fields, MacFields}

-- with this payload, and with the message's own; one that is carried elsewhere counts as empty
abbrev pub mac0_covered_with : Mac0Fields → List ℕ → List ℕ → Option (List ℕ)
mac0_covered_with m payload aad = mac_structure (mac_text CoseMac0) m.protected aad payload

abbrev pub mac0_covered : Mac0Fields → List ℕ → Option (List ℕ)
mac0_covered m aad = mac0_covered_with m (content_bytes m.payload) aad

-- what the tag of a COSE_Mac covers
abbrev pub mac_covered_with : MacFields → List ℕ → List ℕ → Option (List ℕ)
mac_covered_with m payload aad = mac_structure (mac_text CoseMac) m.protected aad payload

abbrev pub mac_covered : MacFields → List ℕ → Option (List ℕ)
mac_covered m aad = mac_covered_with m (content_bytes m.payload) aad
