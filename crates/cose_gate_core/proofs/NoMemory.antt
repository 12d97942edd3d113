-- No value has a fault that is being out of memory.
use Rattle.std.proofs.Common.{◌≡◌, ℕ, ◌-◌, ℤ, inl, inr, List, [], ◌∷◌, Bool, sym, subst}
use Rattle.ciborium_value.specs.Tree.{Tree, integer, bytes, text, array, map as map_tree, tag, simple, float}
use Rattle.coset_labels.specs.Faults.{CoseFault, no_memory}
use Rattle.coset_labels.specs.Kinds.{WrongBytes}
use Rattle.coset_labels.specs.Labels.{WrongLabel, WrongRegistered, WrongNamed}
use Rattle.coset_labels.specs.Reading.{NotReadable, damaged, goes_on}
use Rattle.coset_labels.specs.Fields.{LabelFields}
use Rattle.coset_headers.specs.Wrong.{WrongCrit, no_crit_list, empty_crit, bad_crit, WrongContentType, no_content_type, empty_text, white_space, no_one_slash, WrongField, wrong_alg, wrong_crit, wrong_content_type, wrong_key_id, wrong_iv, wrong_partial_iv}
use Rattle.coset_headers.specs.Wrong.{WrongHeader, no_map, at_entry, WrongEntry, bad_label, label_again, bad_field, two_ivs, bad_signatures, WrongSigned, no_list, no_first, in_bare, in_list, WrongSignature, no_array, not_three, in_protected, in_unprotected, no_bytes, WrongProtected, no_string, too_deep, unreadable, inside}
use Rattle.cose_gate_core.specs.WrongParts.{WrongParts, IsNoBytes, AnyWrong, WrongWhole}
use Rattle.cose_gate_core.specs.WrongParts as parts
use Rattle.cose_gate_core.specs.WrongRecipients.{WrongRecipient, WrongList}
use Rattle.cose_gate_core.specs.WrongRecipients as recipients
use Rattle.cose_gate_core.specs.WrongSigned.{IsNoSignature, whatever, WrongSignatureList}
use Rattle.cose_gate_core.specs.WrongSigned as signed
use Rattle.cose_gate_core.specs.Findings.{Bounds}
use Rattle.cose_gate_core.specs.Misshapen.{WrongMessage, IsMisshapen}
use Rattle.cose_gate_core.specs.declared.about.MessageKind.{MessageKind}
use Rattle.cose_gate_core.specs.declared.about.MessageKind.TheVariants as kind

-- any fault but being out of memory
abbrev Named : CoseFault → Type 0
Named no_memory = ⊥
Named _ = Unit {0}

label : (t : Tree) (e : CoseFault) → WrongLabel t e → Named e
label (integer i) e w = subst Named (sym w.1) tt
label (text b) e w = absurd w
label (bytes b) e w = subst Named (sym w) tt
label (array ts) e w = subst Named (sym w) tt
label (map_tree ps) e w = subst Named (sym w) tt
label (tag n t) e w = subst Named (sym w) tt
label (simple n) e w = subst Named (sym w) tt
label (float f) e w = subst Named (sym w) tt

registered : (r : ℤ → Bool) (t : Tree) (e : CoseFault) → WrongRegistered r t e → Named e
registered r (integer i) e (inl w) = subst Named (sym w.1) tt
registered r (integer i) e (inr w) = subst Named (sym w.2) tt
registered r (text b) e w = absurd w
registered r (bytes b) e w = subst Named (sym w) tt
registered r (array ts) e w = subst Named (sym w) tt
registered r (map_tree ps) e w = subst Named (sym w) tt
registered r (tag n t) e w = subst Named (sym w) tt
registered r (simple n) e w = subst Named (sym w) tt
registered r (float f) e w = subst Named (sym w) tt

named : (r p : ℤ → Bool) (t : Tree) (e : CoseFault) → WrongNamed r p t e → Named e
named r p (integer i) e (inl w) = subst Named (sym w.1) tt
named r p (integer i) e (inr w) = subst Named (sym w.3) tt
named r p (text b) e w = absurd w
named r p (bytes b) e w = subst Named (sym w) tt
named r p (array ts) e w = subst Named (sym w) tt
named r p (map_tree ps) e w = subst Named (sym w) tt
named r p (tag n t) e w = subst Named (sym w) tt
named r p (simple n) e w = subst Named (sym w) tt
named r p (float f) e w = subst Named (sym w) tt

string : (t : Tree) (e : CoseFault) → WrongBytes t e → Named e
string (bytes b) e w = subst Named (sym w.1) tt
string (integer i) e w = subst Named (sym w) tt
string (text b) e w = subst Named (sym w) tt
string (array ts) e w = subst Named (sym w) tt
string (map_tree ps) e w = subst Named (sym w) tt
string (tag n t) e w = subst Named (sym w) tt
string (simple n) e w = subst Named (sym w) tt
string (float f) e w = subst Named (sym w) tt

crit : (t : Tree) (e : CoseFault) → WrongCrit t e → Named e
crit _ _ (no_crit_list t w) = tt
crit _ _ empty_crit = tt
crit _ _ (bad_crit before after t e w) = named _ _ t e w

content_type : (t : Tree) (e : CoseFault) → WrongContentType t e → Named e
content_type _ _ (no_content_type t e w) = registered _ t e w
content_type _ _ (empty_text) = tt
content_type _ _ (white_space b w) = tt
content_type _ _ (no_one_slash b w) = tt

field : (v : Tree) (l : LabelFields) (e : CoseFault) → WrongField v l e → Named e
field v _ _ (wrong_alg e w) = named _ _ v e w
field v _ _ (wrong_crit e w) = crit v e w
field v _ _ (wrong_content_type e w) = content_type v e w
field v _ _ (wrong_key_id e w) = string v e w
field v _ _ (wrong_iv e w) = string v e w
field v _ _ (wrong_partial_iv e w) = string v e w

unread : (b : List ℕ) (n : ℕ) (e : CoseFault) → NotReadable b n e → Named e
unread b n _ (damaged f w) = tt
unread b n _ (goes_on v rest f w) = tt

mutual
  header : (n : ℕ) (t : Tree) (k : ℕ) (e : CoseFault) → WrongHeader n t k e → Named e
  header n _ _ _ (no_map t k w) = tt
  header n _ _ _ (at_entry before after l v es k e p w) = entry n es l v k e w

  entry : (n : ℕ) (es : List (LabelFields × Tree)) (l v : Tree) (k : ℕ) (e : CoseFault) → WrongEntry n es l v k e → Named e
  entry n _ _ _ _ _ (bad_label es l v k e w) = label l e w
  entry n _ _ _ _ _ (label_again es l v k m p w) = tt
  entry n _ _ _ _ _ (bad_field es l v k m e p f w) = field v m e w
  entry n _ _ _ _ _ (two_ivs es l v b c k m p f q w) = tt
  entry n _ _ _ _ _ (bad_signatures es l v k m e p f q w) = counter n v k e w

  counter : (n : ℕ) (t : Tree) (k : ℕ) (e : CoseFault) → WrongSigned n t k e → Named e
  counter n _ _ _ (no_list t k w) = tt
  counter n _ _ _ (no_first ts k w) = tt
  counter n _ _ _ (in_bare ts k e p w) = signature n (array ts) k e w
  counter n _ _ _ (in_list before after t k e p w) = signature n t k e w

  signature : (n : ℕ) (t : Tree) (k : ℕ) (e : CoseFault) → WrongSignature n t k e → Named e
  signature n _ _ _ (no_array t k w) = tt
  signature n _ _ _ (not_three ts k w) = tt
  signature n _ _ _ (in_protected a b c k e w) = protected n a k e w
  signature n _ _ _ (in_unprotected a b c k e w) = header n b k e w
  signature n _ _ _ (no_bytes a b c k w) = tt

  protected : (n : ℕ) (t : Tree) (k : ℕ) (e : CoseFault) → WrongProtected n t k e → Named e
  protected n _ _ _ (no_string t k w) = tt
  protected n _ _ _ (too_deep b) = tt
  protected n _ _ _ (unreadable b k e p q w) = unread b n e w
  protected n _ _ _ (inside b t k e p q r w) = header n t (k - 1) e w

parts_of : (n : ℕ) (a b c : Tree) (k : ℕ) (e : CoseFault) → WrongParts n a b c k e → Named e
parts_of n a b c k _ (parts.in_protected e w) = protected n a k e w
parts_of n a b c k _ (parts.in_unprotected e w) = header n b k e w
parts_of n a b c k _ (parts.in_content p w) = tt

mutual
  recipient : (n : ℕ) (t : Tree) (k : ℕ) (e : CoseFault) → WrongRecipient n t k e → Named e
  recipient n _ _ _ (recipients.no_array t k w) = tt
  recipient n _ _ _ (recipients.not_three_or_four ts k p w) = tt
  recipient n _ _ _ (recipients.in_parts x y z o k e w) = parts_of n x y z k e w
  recipient n _ _ _ (recipients.in_fourth x y z t k e w) = recipient_list n t k e w

  recipient_list : (n : ℕ) (t : Tree) (k : ℕ) (e : CoseFault) → WrongList n t k e → Named e
  recipient_list n _ _ _ (recipients.no_list t k w) = tt
  recipient_list n _ _ _ (recipients.in_list before after t k e w) = recipient n t k e w

-- ---- messages: no array, one of another length, a fault in the parts or in one of the last items
abbrev AllNamed : List (Tree → CoseFault → Type 0) → Type 0
AllNamed [] = Unit {0}
AllNamed (Wrong ∷ more) = ((t : Tree) (e : CoseFault) → Wrong t e → Named e) × AllNamed more

any_fault : (Ws : List (Tree → CoseFault → Type 0)) (ts : List Tree) (e : CoseFault) → AllNamed Ws → AnyWrong Ws ts e → Named e
any_fault [] ts e f w = absurd w
any_fault (W ∷ Ws) [] e f w = absurd w
any_fault (W ∷ Ws) (t ∷ ts) e f (inl w) = f.0 t e w
any_fault (W ∷ Ws) (t ∷ ts) e f (inr w) = any_fault Ws ts e f.1 w

whole_fault : (n : ℕ) (t : Tree) (Ws : List (Tree → CoseFault → Type 0)) (k : ℕ) (e : CoseFault) → WrongWhole n t Ws k e → AllNamed Ws → Named e
whole_fault n t Ws k _ (parts.no_array w) f = tt
whole_fault n t Ws k _ (parts.not_as_many ts q w) f = tt
whole_fault n t Ws k _ (parts.in_parts x y z ls e q l w) f = parts_of n x y z k e w
whole_fault n t Ws k _ (parts.in_lasts x y z ls e q l w) f = any_fault Ws ls e f w

no_bytes_named : (t : Tree) (e : CoseFault) → IsNoBytes t e → Named e
no_bytes_named t e w = subst Named (sym w.1) tt

signature_list : (n : ℕ) (t : Tree) (k : ℕ) (e : CoseFault) → WrongSignatureList n t k e → Named e
signature_list n t k _ (signed.no_list w) = tt
signature_list n t k _ (signed.in_list ts e p w) = one e w.tree w.wrong
  where
    one : (e : CoseFault) (u : Tree) → IsNoSignature n u k e → Named e
    one _ u (whatever e w) = tt

message_fault : (l : Bounds) (k : MessageKind) (u : Tree) (e : CoseFault) → WrongMessage l k u e → Named e
message_fault l kind.Sign1 u e w = whole_fault l.nesting u _ l.layers e w (no_bytes_named, tt)
message_fault l kind.Mac0 u e w = whole_fault l.nesting u _ l.layers e w (no_bytes_named, tt)
message_fault l kind.Mac u e w = whole_fault l.nesting u _ l.layers e w (no_bytes_named, (λ t f x. recipient_list l.nesting t l.layers f x, tt))
message_fault l kind.Sign u e w = whole_fault l.nesting u _ l.layers e w (λ t f x. signature_list l.nesting t l.layers f x, tt)

-- a value that can't be read as a header, a protected header or a message has another fault than
-- being out of memory
pub header_is_named : (n : ℕ) (t : Tree) (k : ℕ) (e : CoseFault) → WrongHeader n t k e → e ≡ no_memory → ⊥
header_is_named n t k e w m = subst Named m (header n t k e w)

pub protected_is_named : (n : ℕ) (t : Tree) (k : ℕ) (e : CoseFault) → WrongProtected n t k e → e ≡ no_memory → ⊥
protected_is_named n t k e w m = subst Named m (protected n t k e w)

pub misshapen_is_named : (l : Bounds) (t : Tree) (e : CoseFault) → IsMisshapen l t e → e ≡ no_memory → ⊥
misshapen_is_named l t e (k, u, p, w) m = subst Named m (message_fault l k u e w)
