-- What is asked about a signature or tag of a message that was received: over the structure with
-- the received bytes, piece by piece.
use Rattle.std.proofs.Common.{◌≡◌, ℕ, List, [], ◌∷◌, ◌++◌, codes, Option, Some, None, Bool, true, false, cond, refl, sym, ap, ◌∙◌, append-nil}
use Rattle.std.specs.Prelude.{option_map, option_and_then, Result, Ok, Err, IfOk, OnOk}
use Rattle.coset_headers.specs.Fields.{HeaderFields, ProtectedFields, SignatureFields, signature}
use Rattle.coset_headers.specs.View.{header_view, protected_view, signature_view, signature_step, header_step, protected_step}
use Rattle.coset_headers.specs.Written.{shown}
use Rattle.coset_headers.specs.declared.header.CoseSignature.{CoseSignature, out-CoseSignature, roll-out-CoseSignature, fold-roll-CoseSignature}
use Rattle.coset_headers.specs.declared.header.Header.{Header}
use Rattle.coset_headers.specs.declared.header.ProtectedHeader.{ProtectedHeader}
use Rattle.coset_base.specs.Contexts.{mac_text}
use Rattle.coset_base.specs.Structure.{structure, shown_signer}
use Rattle.coset_base.specs.declared.context.MacContext.TheVariants.{CoseMac, CoseMac0}
use Rattle.coset_maced.specs.Fields.{Mac0Fields, MacFields}
use Rattle.coset_maced.specs.PartsWritten.{content_bytes}
use Rattle.coset_signed.specs.Fields.{Sign1Fields, SignFields, signer_of, signature_bytes}
use Rattle.cose_gate_core.specs.Asked.{asked, first_no, folded_over}
use Rattle.cose_gate_core.specs.Questions.{Subject, Question, questions, one_question, sign1, mac0, mac, sign1_question, mac0_question, mac_question, sign_question, signer_headers, or_nothing}
use Rattle.coset_maced.specs.RecipientFields.{no_recipients}
use Rattle.coset_maced.specs.RecipientView.{recipients_view}
use Rattle.cose_gate_core.specs.Lent.{subject_of, signer_of as lent_signer}
use Rattle.cose_gate_core.specs.declared.about.About.{About}
use Rattle.cose_gate_core.specs.declared.about.MessageKind.{MessageKind}
use Rattle.cose_gate_core.specs.Received.{received_bytes, IsReceived}

-- how a structure begins, and its byte strings
pub pieces_signed : (prefix a b c d s : List ℕ) → s ≡ prefix ++ (a ++ (b ++ (c ++ d))) → prefix ++ (a ++ (b ++ (c ++ (d ++ [])))) ≡ s
pieces_signed prefix a b c d s e = ap (λ z. prefix ++ (a ++ (b ++ (c ++ z)))) (append-nil d) ∙ sym e

abbrev pub question : Subject → List ℕ → List ℕ → Question
question s b g = record { subject = s; covered = b; signature = g }

pub same_question : (s t : Subject) (b c g h : List ℕ) → s ≡ t → b ≡ c → g ≡ h → question s b g ≡ question t c h
same_question s t b c g h e f k = λ i. record { subject = e i; covered = f i; signature = k i }

-- one question alone
one_asked : (b : Bool) (q : Question) → q ∷ cond b [] [] ≡ q ∷ []
one_asked true q = refl
one_asked false q = refl

pub first_of : (allows : Question → Bool) (qs : List Question) (q p : Question) (first : Option ℕ) → qs ≡ q ∷ [] → p ≡ q → first ≡ first_no allows (p ∷ []) → first ≡ first_no allows qs
first_of allows qs q p first e f n = n ∙ ap (λ z. first_no allows (z ∷ [])) f ∙ sym (ap (first_no allows) e)

pub told_of : {T : Type 0} (decided : T → Question → T) (allows : Question → Bool) (told told' : T) (qs : List Question) (q p : Question) → qs ≡ q ∷ [] → p ≡ q → told' ≡ decided told p
    → told' ≡ folded_over decided told (asked allows qs)
told_of decided allows told told' qs q p e f t =
    t ∙ ap (decided told) f ∙ sym (ap (λ z. folded_over decided told (asked allows z)) e ∙ ap (folded_over decided told) (one_asked (allows q) q))

-- of a result
pub ok_first : {E : Type 0} (r : Result (Option ℕ) E) (allows : Question → Bool) (qs : List Question) (q p : Question) → qs ≡ q ∷ [] → p ≡ q
    → IfOk r (λ no. no ≡ first_no allows (p ∷ [])) → IfOk r (λ no. no ≡ first_no allows qs)
ok_first (Ok first) allows qs q p e f n = first_of allows qs q p first e f n
ok_first (Err x) allows qs q p e f n = n

pub ok_told : {T E X : Type 0} (r : Result X E) (decided : T → Question → T) (allows : Question → Bool) (told told' : T) (qs : List Question) (q p : Question) → qs ≡ q ∷ [] → p ≡ q
    → OnOk r (told' ≡ decided told p) → OnOk r (told' ≡ folded_over decided told (asked allows qs))
ok_told (Ok x) decided allows told told' qs q p e f t = told_of decided allows told told' qs q p e f t
ok_told (Err x) decided allows told told' qs q p e f t = t

-- what a question is about
pub subject_is : (a : About) (k : MessageKind) (p : ProtectedHeader) (u : Header) (o : Option (ProtectedFields × HeaderFields)) → a.kind ≡ k → a.protected.now ≡ p → a.unprotected.now ≡ u
    → lent_signer a.signer ≡ o → a.recipients.now ≡ [] → subject_of a ≡ record { kind = k; protected = protected_view p; unprotected = header_view u; signer = o; recipients = no_recipients }
subject_is a k p u o e f g h r =
    λ i. record { kind = e i; protected = protected_view (f i); unprotected = header_view (g i); signer = h i; recipients = recipients_view (r i) }

-- a structure of the same parts
pub same_structure : (text a b x y aad v w : List ℕ) → a ≡ b → x ≡ y → v ≡ w → structure text a (Some x) aad v ≡ structure text b (Some y) aad w
same_structure text a b x y aad v w e f g = λ i. structure text (e i) (Some (f i)) aad (g i)

-- a yes or no, and what was told, for a question that is the same
pub ok_yes : {E : Type 0} (r : Result Bool E) (allows : Question → Bool) (q p : Question) → p ≡ q → IfOk r (λ yes. yes ≡ allows p) → IfOk r (λ yes. yes ≡ allows q)
ok_yes (Ok b) allows q p f y = y ∙ ap allows f
ok_yes (Err x) allows q p f y = y

pub ok_one_told : {T E X : Type 0} (r : Result X E) (decided : T → Question → T) (told told' : T) (q p : Question) → p ≡ q → OnOk r (told' ≡ decided told p) → OnOk r (told' ≡ decided told q)
ok_one_told (Ok x) decided told told' q p f t = t ∙ ap (decided told) f
ok_one_told (Err x) decided told told' q p f t = t

-- the questions about messages that were received
pub sign1_asks : (m : Sign1Fields) (aad : List ℕ) → IsReceived m.protected
    → questions (sign1 m) aad ≡ sign1_question m (structure (codes "Signature1") (received_bytes m.protected) None aad (content_bytes m.payload)) ∷ []
sign1_asks m aad r =
    ap (λ o. or_nothing (option_map (λ covered. sign1_question m covered ∷ []) (option_and_then (λ b. option_map (λ s. structure (codes "Signature1") b s aad (content_bytes m.payload)) (shown_signer None)) o))) r

pub mac0_asks : (m : Mac0Fields) (aad : List ℕ) → IsReceived m.protected
    → questions (mac0 m) aad ≡ mac0_question m (structure (mac_text CoseMac0) (received_bytes m.protected) None aad (content_bytes m.payload)) ∷ []
mac0_asks m aad r =
    ap (λ o. or_nothing (option_map (λ covered. mac0_question m covered ∷ []) (option_map (λ b. structure (mac_text CoseMac0) b None aad (content_bytes m.payload)) o))) r

pub mac_asks : (m : MacFields) (aad : List ℕ) → IsReceived m.protected
    → questions (mac m) aad ≡ mac_question m (structure (mac_text CoseMac) (received_bytes m.protected) None aad (content_bytes m.payload)) ∷ []
mac_asks m aad r =
    ap (λ o. or_nothing (option_map (λ covered. mac_question m covered ∷ []) (option_map (λ b. structure (mac_text CoseMac) b None aad (content_bytes m.payload)) o))) r

pub signature_asks : (m : SignFields) (s : SignatureFields) (aad : List ℕ) → IsReceived m.protected → IsReceived (signer_of s)
    → one_question m aad s ≡ sign_question m s (structure (codes "Signature") (received_bytes m.protected) (Some (received_bytes (signer_of s))) aad (content_bytes m.payload))
signature_asks m s aad r q =
    ap (λ o. sign_question m s (or_nothing (option_and_then (λ b. option_map (λ x. structure (codes "Signature") b x aad (content_bytes m.payload)) (option_map Some (shown (signer_of s)))) o))) r
    ∙ ap (λ o. sign_question m s (or_nothing (option_map (λ x. structure (codes "Signature") (received_bytes m.protected) x aad (content_bytes m.payload)) (option_map Some o)))) q

-- the parts of a signature of the code
signature_is : (s : CoseSignature) → signature_view s ≡ signature (protected_view (out-CoseSignature s).protected) (header_view (out-CoseSignature s).unprotected) (out-CoseSignature s).signature.items
signature_is s = ap signature_view (sym (roll-out-CoseSignature s)) ∙ fold-roll-CoseSignature SignatureFields HeaderFields ProtectedFields signature_step header_step protected_step (out-CoseSignature s)

pub signer_is : (s : CoseSignature) → protected_view (out-CoseSignature s).protected ≡ signer_of (signature_view s)
signer_is s = sym (ap signer_of (signature_is s))

pub headers_are : (s : CoseSignature) → (protected_view (out-CoseSignature s).protected, header_view (out-CoseSignature s).unprotected) ≡ signer_headers (signature_view s)
headers_are s = sym (ap signer_headers (signature_is s))

pub bytes_are : (s : CoseSignature) → (out-CoseSignature s).signature.items ≡ signature_bytes (signature_view s)
bytes_are s = sym (ap signature_bytes (signature_is s))
