-- A message that was read can be written, and its protected headers have the bytes that were
-- received.
use Rattle.std.proofs.Common.{◌≡◌, ◌≢◌, ℕ, List, [], ◌∷◌, true, Option, Some, None, option_map, refl, ap}
use Rattle.ciborium_value.specs.Encoding.{enc}
use Rattle.ciborium_value.specs.Tree.{Tree, tag, Trees}
use Rattle.coset_headers.specs.Fields.{ProtectedFields, protected, SignatureFields, signature, signatures}
use Rattle.coset_headers.specs.Headers.{HasProtected, HasSignatures}
use Rattle.coset_headers.proofs.Writable.{some_is, map_some, and_some}
use Rattle.coset_maced.specs.PartShapes.{one_held}
use Rattle.coset_maced.specs.PartsWritten.{content_bytes}
use Rattle.coset_maced.specs.Structure.{mac0_covered, mac_covered}
use Rattle.coset_signed.specs.Fields.{SignFields}
use Rattle.coset_signed.specs.Shapes.{HasSign}
use Rattle.coset_signed.specs.Structure.{sign1_covered, sign_covered}
use Rattle.coset_signed.proofs.Writable.{sign1_some, sign1_covers, sign_some, sign_covers}
use Rattle.coset_maced.proofs.Writable.{mac0_some, mac0_covers, mac_some, mac_covers}
use Rattle.cose_gate_core.specs.Findings.{Bounds, HasMessage, IsJudged}
use Rattle.coset_signed.proofs.Received.{sign1_received, sign_received}
use Rattle.coset_maced.proofs.Received.{mac0_received, mac_received}
use Rattle.coset_signed.proofs.PutWritten.{sign1_written, sign_written}
use Rattle.coset_maced.proofs.PutWritten.{mac0_written, mac_written}
use Rattle.cose_gate_core.specs.Put.{message_put, tagged_put, is_as_received}
use Rattle.cose_gate_core.specs.Questions.{MessageFields, sign1, mac0, sign, mac, sign1_question, mac0_question, mac_question, sign_questions, all_questions, questions, message_tree, tag_of, tagged_tree, message_text, or_nothing}
use Rattle.cose_gate_core.specs.Received.{IsReceived, AreReceived, IsReceivedMessage}

there : {A : Type 0} (o : Option (List A)) → o ≢ None → o ≡ Some (or_nothing o)
there None n = absurd (n refl)
there (Some xs) n = refl

has_all : (l : Bounds) (u : Tree) (m : SignFields) (aad : List ℕ) → HasSign l.nesting u m l.layers → (ts : Trees) (ss : List SignatureFields) → HasSignatures l.nesting ts (signatures ss) l.layers
    → sign_questions m aad ss ≢ None
has_all l u m aad h ts [] w = some_is []
has_all l u m aad h ts (s ∷ ss) w =
    and_some _ (sign_covered m s aad) (sign_covers l.nesting l.layers u w.0 m s (content_bytes m.payload) aad h w.3) (λ c. map_some _ (sign_questions m aad ss) (has_all l u m aad h w.1 ss w.4))

has_questions : (l : Bounds) (u : Tree) (m : MessageFields) (aad : List ℕ) → HasMessage l u m → all_questions m aad ≢ None
has_questions l u (sign1 m) aad h = map_some (λ c. sign1_question m c ∷ []) (sign1_covered m aad) (sign1_covers l.nesting l.layers u m (content_bytes m.payload) aad h)
has_questions l u (mac0 m) aad h = map_some (λ c. mac0_question m c ∷ []) (mac0_covered m aad) (mac0_covers l.nesting m u l.layers (content_bytes m.payload) aad h)
has_questions l u (sign m) aad h = let list = (one_held _ h.lasts h.hold).2 in has_all l u m aad h list.0 m.signatures list.2
has_questions l u (mac m) aad h = map_some (λ c. mac_question m c ∷ []) (mac_covered m aad) (mac_covers l.nesting m u l.layers (content_bytes m.payload) aad h)

pub has_tree : (l : Bounds) (u : Tree) (m : MessageFields) → HasMessage l u m → message_tree m ≢ None
has_tree l u (sign1 m) h = sign1_some l.nesting l.layers u m h
has_tree l u (mac0 m) h = mac0_some l.nesting m u l.layers h
has_tree l u (sign m) h = sign_some l.nesting l.layers u m h
has_tree l u (mac m) h = mac_some l.nesting m u l.layers h

pub judged_asked : (l : Bounds) (t : Tree) (m : MessageFields) (aad : List ℕ) → IsJudged l t m → all_questions m aad ≢ None
judged_asked l t m aad ((u, e, h), p, s) = has_questions l u m aad h

pub message_tagged : (l : Bounds) (u : Tree) (m : MessageFields) → HasMessage l u m → tagged_tree m ≢ None
message_tagged l u m h = map_some (λ t. tag (tag_of m) t) (message_tree m) (has_tree l u m h)

-- and is as received; so its encoding is the one that is written straight from its fields
pub as_received : (l : Bounds) (u : Tree) (m : MessageFields) → HasMessage l u m → is_as_received m ≡ true
as_received l u (sign1 m) h = sign1_received l.nesting m u l.layers h
as_received l u (mac0 m) h = mac0_received l.nesting m u l.layers h
as_received l u (sign m) h = sign_received l.nesting m u l.layers h
as_received l u (mac m) h = mac_received l.nesting m u l.layers h

tree_is_put : (m : MessageFields) → is_as_received m ≡ true → message_tree m ≡ Some (message_put m)
tree_is_put (sign1 m) r = sign1_written m r
tree_is_put (mac0 m) r = mac0_written m r
tree_is_put (sign m) r = sign_written m r
tree_is_put (mac m) r = mac_written m r

pub text_is_put : (m : MessageFields) → is_as_received m ≡ true → message_text m ≡ enc (tagged_put m)
text_is_put m r = ap (λ o. or_nothing (option_map enc (option_map (λ t. tag (tag_of m) t) o))) (tree_is_put m r)

pub judged_questions : (l : Bounds) (t : Tree) (m : MessageFields) (aad : List ℕ) → IsJudged l t m → all_questions m aad ≡ Some (questions m aad)
judged_questions l t m aad j = there (all_questions m aad) (judged_asked l t m aad j)

pub judged_text : (l : Bounds) (t : Tree) (m : MessageFields) → IsJudged l t m → option_map enc (tagged_tree m) ≡ Some (message_text m)
judged_text l t m ((u, e, h), p, s) = there (option_map enc (tagged_tree m)) (map_some enc (tagged_tree m) (message_tagged l u m h))

-- received bytes
has_received : (n k : ℕ) (t : Tree) (p : ProtectedFields) → HasProtected n t p k → IsReceived p
has_received n k t (protected None h) (b, e, o, l, w) = cc
has_received n k t (protected (Some r) h) w = refl

are_received : (n k : ℕ) (ts : Trees) (ss : List SignatureFields) → HasSignatures n ts (signatures ss) k → AreReceived ss
are_received n k ts [] w = tt
are_received n k ts (signature p h c ∷ ss) (u, us, e, (a, b, d, x, y), z) = (has_received n k a p x, are_received n k us ss z)

pub message_received : (l : Bounds) (u : Tree) (m : MessageFields) → HasMessage l u m → IsReceivedMessage m
message_received l u (sign1 m) h = has_received l.nesting l.layers h.first m.protected h.parts.protected
message_received l u (mac0 m) h = has_received l.nesting l.layers h.first m.protected h.parts.protected
message_received l u (sign m) h =
    let list = (one_held _ h.lasts h.hold).2 in
    (has_received l.nesting l.layers h.first m.protected h.parts.protected, are_received l.nesting l.layers list.0 m.signatures list.2)
message_received l u (mac m) h = has_received l.nesting l.layers h.first m.protected h.parts.protected
