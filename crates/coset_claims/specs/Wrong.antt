-- Which fault a value has as a time or as claims (RFC 8392, sections 2, 3 and 3.1). A value may
-- have several.
use Rattle.std.specs.Prelude.{◌≡◌, pos, List, false, Some}
use Rattle.cose_iana.specs.Claims.{cwt_claim_names}
use Rattle.cose_iana.specs.Registry.{is_private_use}
use Rattle.ciborium_value.specs.Tree.{Tree, integer, float, map as map_tree, Pairs, is_bytes}
use Rattle.coset_labels.specs.Entries.{IsIn}
use Rattle.coset_labels.specs.Faults.{CoseFault, duplicate_key, out_of_range, unexpected}
use Rattle.coset_labels.specs.Fields.{Named, assigned}
use Rattle.ciborium_value.specs.Kinds.{is_map, is_text}
use Rattle.coset_labels.specs.Labels.{is_i64, WrongNamed}
use Rattle.coset_labels.specs.Walks as walks
use Rattle.coset_claims.specs.Claims.{name_of}

-- an integer outside 64 bits, or neither integer nor float
abbrev pub WrongTime : Tree → CoseFault → Type 0
WrongTime (integer i) e = (is_i64 i ≡ false) × (e ≡ out_of_range)
WrongTime (float f) e = ⊥
WrongTime _ e = e ≡ unexpected

abbrev pub WrongName : Tree → CoseFault → Type 0
WrongName = WrongNamed cwt_claim_names.is_registered is_private_use

-- the value of a claim from 1 to 7
pub data WrongField (v : Tree) : Named → CoseFault → Type 0 where
  wrong_issuer : is_text v ≡ false → WrongField v (assigned (pos 1)) unexpected
  wrong_subject : is_text v ≡ false → WrongField v (assigned (pos 2)) unexpected
  wrong_audience : is_text v ≡ false → WrongField v (assigned (pos 3)) unexpected
  wrong_expiration_time : (e : CoseFault) → WrongTime v e → WrongField v (assigned (pos 4)) e
  wrong_not_before : (e : CoseFault) → WrongTime v e → WrongField v (assigned (pos 5)) e
  wrong_issued_at : (e : CoseFault) → WrongTime v e → WrongField v (assigned (pos 6)) e
  wrong_cwt_id : is_bytes v ≡ false → WrongField v (assigned (pos 7)) unexpected

-- the entry (l, v) after the entries `es`; of a name that comes again no other fault counts
pub data WrongEntry (es : List (Named × Tree)) (l v : Tree) : CoseFault → Type 0 where
  bad_name : (e : CoseFault) → WrongName l e → WrongEntry es l v e
  name_again : (m : Named) → name_of l ≡ Some m → IsIn m es → WrongEntry es l v duplicate_key
  bad_field : (m : Named) (e : CoseFault) → name_of l ≡ Some m → (IsIn m es → ⊥) → WrongField v m e → WrongEntry es l v e

-- one of the entries has a fault, and those before it have names
abbrev pub WrongEntries : Pairs → CoseFault → Type 0
WrongEntries = walks.WrongEntries name_of WrongEntry

pub data WrongClaims : Tree → CoseFault → Type 0 where
  no_map : (t : Tree) → is_map t ≡ false → WrongClaims t unexpected
  at_entry : (ps : Pairs) (e : CoseFault) → WrongEntries ps e → WrongClaims (map_tree ps) e
