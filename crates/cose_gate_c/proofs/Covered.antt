-- The covered bytes end with the payload.
use Rattle.std.proofs.Common.{◌≡◌, ℕ, List, [], ◌∷◌, ◌++◌, length, Option, None, Some, refl, sym, ap, ◌∙◌, append_assoc, append-nil}
use Rattle.std.specs.Prelude.{option_map, option_and_then, codes}
use Rattle.ciborium_ll.specs.declared.hdr.Header.TheVariants.{Bytes, Array}
use Rattle.ciborium_ll.specs.Title.{title_of}
use Rattle.ciborium_value.specs.Tree.{bytes, text}
use Rattle.ciborium_value.specs.Encoding.{enc}
use Rattle.cose_gate.specs.MacedStructure.{mac0_covered}
use Rattle.cose_gate.specs.PartsWritten.{content_bytes}
use Rattle.cose_gate.specs.Questions.{Question, MessageFields, sign1, mac0, sign, mac, sign1_question, mac0_question, all_questions, payload_of}
use Rattle.cose_gate.specs.SignedStructure.{sign1_covered}
use Rattle.cose_gate.specs.Stated.{IsSingle}
use Rattle.cose_gate.specs.Structure.{structure}
use Rattle.cose_gate.specs.Written.{shown}

the_same : (b c : List ℕ) → Some b ≡ Some c → b ≡ c
the_same b c e = cc

one_same : (q r : Question) → Some (q ∷ []) ≡ Some (r ∷ []) → q ≡ r
one_same q r e = cc

ends : (context body aad payload : List ℕ) → (head : List ℕ) × (structure context body None aad payload ≡ head ++ payload)
ends context body aad payload = (
  title_of (Array (Some 4)) ++ (enc (text context) ++ (enc (bytes body) ++ (enc (bytes aad) ++ title_of (Bytes (Some (length payload)))))),
  simp (append_assoc, append-nil),
)

signed : (context aad payload : List ℕ) (o : Option (List ℕ)) (c : List ℕ) → option_and_then (λ b. option_map (λ s. structure context b s aad payload) (Some None)) o ≡ Some c
    → (head : List ℕ) × (c ≡ head ++ payload)
signed context aad payload None c e = let h : None ≡ Some c = e in cc
signed context aad payload (Some b) c e =
    let r = ends context b aad payload in
    let same : structure context b None aad payload ≡ c = the_same _ _ e in
    (r.0, sym same ∙ r.1)

maced : (context aad payload : List ℕ) (o : Option (List ℕ)) (c : List ℕ) → option_map (λ b. structure context b None aad payload) o ≡ Some c
    → (head : List ℕ) × (c ≡ head ++ payload)
maced context aad payload None c e = let h : None ≡ Some c = e in cc
maced context aad payload (Some b) c e =
    let r = ends context b aad payload in
    let same : structure context b None aad payload ≡ c = the_same _ _ e in
    (r.0, sym same ∙ r.1)

-- if there is a question, over such bytes
one_of : (f : List ℕ → Question) → ((c : List ℕ) → (f c).covered ≡ c) → (o : Option (List ℕ)) (q : Question) (payload : List ℕ)
    → ((c : List ℕ) → o ≡ Some c → (head : List ℕ) × (c ≡ head ++ payload)) → option_map (λ c. f c ∷ []) o ≡ Some (q ∷ [])
    → (head : List ℕ) × (q.covered ≡ head ++ payload)
one_of f is None q payload h e = let x : None ≡ Some (q ∷ []) = e in cc
one_of f is (Some c) q payload h e =
    let r = h c refl in
    let same : f c ≡ q = one_same _ _ e in
    (r.0, sym (ap (λ (z : Question). z.covered) same) ∙ (is c ∙ r.1))

pub covered_ends : (m : MessageFields) (aad : List ℕ) (q : Question) (payload : List ℕ) → IsSingle m → all_questions m aad ≡ Some (q ∷ []) → payload_of m ≡ Some payload
    → (head : List ℕ) × (q.covered ≡ head ++ payload)
covered_ends (sign1 m) aad q payload s asked paid =
    let r = one_of (sign1_question m) (λ c. refl) (sign1_covered m aad) q (content_bytes m.payload) (λ c e. signed (codes "Signature1") aad (content_bytes m.payload) (shown m.protected) c e) asked in
    (r.0, r.1 ∙ ap (λ (o : Option (List ℕ)). r.0 ++ content_bytes o) paid)
covered_ends (mac0 m) aad q payload s asked paid =
    let r = one_of (mac0_question m) (λ c. refl) (mac0_covered m aad) q (content_bytes m.payload) (λ c e. maced (codes "MAC0") aad (content_bytes m.payload) (shown m.protected) c e) asked in
    (r.0, r.1 ∙ ap (λ (o : Option (List ℕ)). r.0 ++ content_bytes o) paid)
covered_ends (sign m) aad q payload s asked paid = absurd s
covered_ends (mac m) aad q payload s asked paid = absurd s
