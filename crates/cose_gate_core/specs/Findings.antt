-- What is found of an item before a judge is asked: a message that is judged, or why it is none
-- (RFC 9052, section 2, has the tags).
use Rattle.std.specs.Prelude.{◌≡◌, ◌≢◌, ℕ, ◌⊎◌, List, [], Some, None, Bool, true, false}
use Rattle.ciborium_value.specs.Tree.{Tree, tag}
use Rattle.coset_labels.specs.Limits.{nesting as usual_nesting, layers as usual_layers}
use Rattle.coset_signed.specs.Shapes.{HasSign1, HasSign}
use Rattle.coset_maced.specs.Shapes.{HasMac0, HasMac}
use Rattle.cose_gate_core.specs.Questions.{MessageFields, sign1, mac0, sign, mac, number_of, tag_of, payload_of, message_text}
use Rattle.cose_gate_core.specs.declared.about.MessageKind.{MessageKind}

-- why an item is not judged
pub data Reason : Type 0 where
  not_tagged encrypted shape detached no_signature not_shortest : Reason
  other_tag : ℕ → Reason

-- a message about which the judge is asked, or an item that is none
pub data Finding : Type 0 where
  judged : MessageFields → Finding
  barred : Reason → Finding

-- the tags of messages that are judged
abbrev pub IsMessageTag : ℕ → Type 0
IsMessageTag n = (k : MessageKind) × (n ≡ number_of k)

-- the tags of encrypted messages
abbrev pub IsEncryptedTag : ℕ → Type 0
IsEncryptedTag n = (n ≡ 16) ⊎ (n ≡ 96)

-- how many levels an item may open, and anew the one in a protected header; how many protected
-- headers may lie inside one another; and whether the gate is strict: it judges a message only if
-- its item already is what would be written
pub record Bounds : Type 0 where
  pub nesting : ℕ
  pub layers : ℕ
  pub strict : Bool

-- so many levels and layers, for the gate or for the strict gate
abbrev pub within : ℕ → ℕ → Bool → Bounds
within nesting layers strict = record { nesting = nesting; layers = layers; strict = strict }

-- the limits if none are chosen, for the gate and for the strict gate
abbrev pub usual : Bounds
usual = within usual_nesting usual_layers false

abbrev pub usual_exact : Bounds
usual_exact = within usual_nesting usual_layers true

-- which fields a value has as a message of their kind
abbrev pub HasMessage : Bounds → Tree → MessageFields → Type 0
HasMessage limits u (sign1 m) = HasSign1 limits.nesting u m limits.layers
HasMessage limits u (mac0 m) = HasMac0 limits.nesting u m limits.layers
HasMessage limits u (sign m) = HasSign limits.nesting u m limits.layers
HasMessage limits u (mac m) = HasMac limits.nesting u m limits.layers

-- a tagged message
abbrev pub IsMessage : Bounds → Tree → MessageFields → Type 0
IsMessage limits t m = (u : Tree) × (t ≡ tag (tag_of m) u) × HasMessage limits u m

-- a message that carries its payload
abbrev pub IsCarried : MessageFields → Type 0
IsCarried m = (p : List ℕ) × (payload_of m ≡ Some p)

-- a COSE_Sign without a signature; the other messages have one signature or tag always
abbrev pub IsUnsigned : MessageFields → Type 0
IsUnsigned (sign m) = m.signatures ≡ []
IsUnsigned m = ⊥

-- a tagged message that carries its payload, and has a signature or tag
abbrev pub IsJudged : Bounds → Tree → MessageFields → Type 0
IsJudged limits t m = IsMessage limits t m × IsCarried m × (IsUnsigned m → ⊥)

-- an item of these bytes and the value t isn't judged, for this reason
abbrev pub IsBarred : Bounds → List ℕ → Tree → Reason → Type 0
IsBarred limits b t not_tagged = (n : ℕ) (u : Tree) → t ≢ tag n u
IsBarred limits b t encrypted = (n : ℕ) × (u : Tree) × (t ≡ tag n u) × IsEncryptedTag n
IsBarred limits b t (other_tag n) =
    (u : Tree) × (t ≡ tag n u) × (IsEncryptedTag n → ⊥) × (IsMessageTag n → ⊥)
IsBarred limits b t shape = ((n : ℕ) × (u : Tree) × (t ≡ tag n u) × IsMessageTag n)
    × ((m : MessageFields) → IsMessage limits t m → ⊥)
IsBarred limits b t detached = (m : MessageFields) × IsMessage limits t m × (payload_of m ≡ None)
IsBarred limits b t no_signature =
    (m : MessageFields) × IsMessage limits t m × IsCarried m × IsUnsigned m
IsBarred limits b t not_shortest =
    (m : MessageFields) × IsJudged limits t m × (limits.strict ≡ true) × (b ≢ message_text m)

-- what is found of such an item
abbrev pub Finds : Bounds → List ℕ → Tree → Finding → Type 0
Finds limits b t (judged m) =
    IsJudged limits t m × (limits.strict ≡ true → b ≡ message_text m)
Finds limits b t (barred r) = IsBarred limits b t r
