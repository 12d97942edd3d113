-- The steps of the reader's loops.
use Rattle.std.proofs.Common.{ℕ, Bool, false, List, Option}
use Rattle.std.specs.Str.{IsUtf8}
use Rattle.ciborium_ll.specs.declared.hdr.Header.TheVariants.{Bytes, Text}
use Rattle.ciborium.specs.declared.de.Error.{Error}
use Rattle.ciborium.specs.Damage.{Damage, in_bytes, in_text, StringDamage}
use Rattle.ciborium.specs.Reading.{FailsAfterTitle, string_head, IsBody}
use Rattle.ciborium.proofs.ReadLemmas.{behind_as}

pub bytes_fail : {E : Type 0} (ends : E → Bool) (k : Option ℕ) (at limit : ℕ) (l : Option (List ℕ)) (o o' : ℕ) (e : Error E) → FailsAfterTitle ends (string_head false k) at o l o' (StringDamage (string_head false) (IsBody false)) e
    → FailsAfterTitle ends (Bytes k) at o l o' (λ stop b f. Damage stop b limit f) e
bytes_fail ends k at limit l o o' e w = behind_as ends (Bytes k) at l o o' (StringDamage (string_head false) (IsBody false)) (λ stop b f. Damage stop b limit f) e (λ stop b f d. in_bytes b limit f d) w

pub text_fail : {E : Type 0} (ends : E → Bool) (k : Option ℕ) (at limit : ℕ) (l : Option (List ℕ)) (o o' : ℕ) (e : Error E) → FailsAfterTitle ends (Text k) at o l o' (StringDamage Text IsUtf8) e
    → FailsAfterTitle ends (Text k) at o l o' (λ stop b f. Damage stop b limit f) e
text_fail ends k at limit l o o' e w = behind_as ends (Text k) at l o o' (StringDamage Text IsUtf8) (λ stop b f. Damage stop b limit f) e (λ stop b f d. in_text b limit f d) w
