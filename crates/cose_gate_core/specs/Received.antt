-- Protected headers with the bytes that were received, as those of each message that was read.
use Rattle.std.specs.Prelude.{◌≡◌, ℕ, List, [], ◌∷◌, Some}
use Rattle.coset_headers.specs.Fields.{ProtectedFields, protected, SignatureFields}
use Rattle.coset_headers.specs.Written.{shown}
use Rattle.coset_signed.specs.Fields.{signer_of}
use Rattle.cose_gate_core.specs.Questions.{MessageFields, sign1, mac0, sign, mac, or_nothing}

-- the bytes that were received
abbrev pub received_bytes : ProtectedFields → List ℕ
received_bytes (protected o h) = or_nothing o

-- structures show the bytes that were received
abbrev pub IsReceived : ProtectedFields → Type 0
IsReceived p = shown p ≡ Some (received_bytes p)

abbrev pub AreReceived : List SignatureFields → Type 0
AreReceived [] = Unit {0}
AreReceived (s ∷ ss) = IsReceived (signer_of s) × AreReceived ss

-- each protected header that the structures of a message show is shown as received
abbrev pub IsReceivedMessage : MessageFields → Type 0
IsReceivedMessage (sign1 m) = IsReceived m.protected
IsReceivedMessage (mac0 m) = IsReceived m.protected
IsReceivedMessage (sign m) = IsReceived m.protected × AreReceived m.signatures
IsReceivedMessage (mac m) = IsReceived m.protected
