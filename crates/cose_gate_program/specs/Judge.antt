-- What the judge by HMAC says to a question, and what it holds of one.
use Rattle.std.specs.Prelude.{ℕ, List, Bool, true, false, if◌then◌else◌, Option, Some, None}
use Rattle.cose_hmac.specs.View.{Holds}
use Rattle.cose_hmac.specs.declared.mac.HmacSha256.{HmacSha256}
use Rattle.coset_keys.specs.Fields.{KeyFields}
use Rattle.cose_gate_core.specs.Questions.{Subject, Question}
use Rattle.cose_gate_core.specs.declared.about.MessageKind.{MessageKind}
use Rattle.cose_gate_core.specs.declared.about.MessageKind.TheVariants as kind
use Rattle.cose_gate_program.specs.Judging.{secret_for, is_tag_under}

abbrev pub is_mac0 : MessageKind → Bool
is_mac0 kind.Mac0 = true
is_mac0 k = false

-- the secret that the tag of a COSE_Mac0 is made with; messages of other kinds have none
abbrev pub secret_about : List KeyFields → Subject → Option (List ℕ)
secret_about keys s = if is_mac0 s.kind then secret_for keys s.protected s.unprotected else None

-- yes exactly to the whole tag under that secret
abbrev pub says_yes : List KeyFields → Question → Bool
says_yes keys q = is_tag_under (secret_about keys q.subject) q.covered q.signature

-- a tag in the making has been fed the covered bytes under the secret; if there is no secret none
-- is made
abbrev pub MakesTag : Option HmacSha256 → Option (List ℕ) → List ℕ → Type 0
MakesTag None None covered = Unit {0}
MakesTag None (Some key) covered = ⊥
MakesTag (Some mac) None covered = ⊥
MakesTag (Some mac) (Some key) covered = Holds mac key covered
