-- What has a message's fields within some levels and layers has them within more.
use Rattle.std.proofs.Common.{ℕ, ◌-◌, ◌≤◌, inl, inr, List, [], ◌∷◌, Option, ap, ◌∙◌, arith}
use Rattle.ciborium_value.specs.Tree.{Tree, array, Trees}
use Rattle.ciborium_value.specs.View.{trees}
use Rattle.ciborium.specs.Front.{Reads}
use Rattle.coset_headers.specs.Fields.{HeaderFields, header, ProtectedFields, protected, SignatureFields, signature, Signatures, no_signatures, signature_more, signatures}
use Rattle.coset_headers.specs.Headers.{at, HasHeader, HasProtected, HasSignature, HasSigned, HasSignatures}
use Rattle.coset_maced.specs.PartShapes.{parts, HasParts, one_held, two_held}
use Rattle.coset_maced.specs.RecipientFields.{RecipientFields, recipient, RecipientsFields, no_recipients, recipient_more}
use Rattle.coset_maced.specs.RecipientShapes.{HasRecipient, HasRecipients}
use Rattle.coset_signed.specs.Fields.{Sign1Fields, SignFields}
use Rattle.coset_signed.specs.Shapes.{HasSign1, HasSign}
use Rattle.coset_maced.specs.Fields.{Mac0Fields, MacFields}
use Rattle.coset_maced.specs.Shapes.{HasMac0, HasMac}
use Rattle.cose_gate_core.specs.Questions.{MessageFields, sign1, mac0, sign, mac}
use Rattle.cose_gate_core.specs.Findings.{Bounds, HasMessage, IsJudged}

module _ (n w : ℕ) (deep : n ≤ w) where
  pub reads_wider : (b : List ℕ) (v : Tree) → Reads b n v → Reads b w v
  reads_wider b v r = let s = r.shallow in record { tree = r.tree; spells = r.spells; shallow = omega (arith, s, deep); means = r.means }

  mutual
    header_wider : (h : HeaderFields) (t : Tree) (k l : ℕ) → k ≤ l → HasHeader n t h k → HasHeader w t h l
    header_wider (header p ss) t k l e (ps, es, is, made, distinct, plain, signed) =
        (ps, es, is, made, distinct, plain, signed_wider ss (at 7 es) k l e signed)

    protected_wider : (p : ProtectedFields) (t : Tree) (k l : ℕ) → k ≤ l → HasProtected n t p k → HasProtected w t p l
    protected_wider (protected o h) t k l e (b, is, kept, some, inl empty) = (b, is, kept, omega (arith, e, some), inl empty)
    protected_wider (protected o h) t k l e (b, is, kept, some, inr (not_empty, (v, r, has))) =
        (b, is, kept, omega (arith, e, some), inr (not_empty, (v, reads_wider b v r, header_wider h v (k - 1) (l - 1) (omega (arith, e)) has)))

    signature_wider : (s : SignatureFields) (t : Tree) (k l : ℕ) → k ≤ l → HasSignature n t s k → HasSignature w t s l
    signature_wider (signature p h c) t k l e (a, b, is, one, two) = (a, b, is, protected_wider p a k l e one, header_wider h b k l e two)

    signed_wider : (ss : Signatures) (o : Option Tree) (k l : ℕ) → k ≤ l → HasSigned n o ss k → HasSigned w o ss l
    signed_wider no_signatures o k l e h = h
    signed_wider (signature_more s ss) o k l e (ts, is, inl (bare, none, one)) = (ts, is, inl (bare, none, signature_wider s (array ts) k l e one))
    signed_wider (signature_more s ss) o k l e (ts, is, inr (list, (u, us, more, one, all))) =
        (ts, is, inr (list, (u, us, more, signature_wider s u k l e one, signatures_wider ss us k l e all)))

    signatures_wider : (ss : Signatures) (ts : Trees) (k l : ℕ) → k ≤ l → HasSignatures n ts ss k → HasSignatures w ts ss l
    signatures_wider no_signatures ts k l e h = h
    signatures_wider (signature_more s ss) ts k l e (u, us, more, one, all) = (u, us, more, signature_wider s u k l e one, signatures_wider ss us k l e all)

  parts_wider : (x y z : Tree) (p : ProtectedFields) (u : HeaderFields) (c : Option (List ℕ)) (k l : ℕ) → k ≤ l → HasParts n x y z (parts p u c) k → HasParts w x y z (parts p u c) l
  parts_wider x y z p u c k l e h = record { protected = protected_wider p x k l e h.protected; unprotected = header_wider u y k l e h.unprotected; content = h.content }

  mutual
    recipient_wider : (r : RecipientFields) (t : Tree) (k l : ℕ) → k ≤ l → HasRecipient n t r k → HasRecipient w t r l
    recipient_wider (recipient p u c rs) t k l e (x, y, z, o, is, parts, inl none) = (x, y, z, o, is, parts_wider x y z p u c k l e parts, inl none)
    recipient_wider (recipient p u c rs) t k l e (x, y, z, o, is, parts, inr (ts, there, all)) =
        (x, y, z, o, is, parts_wider x y z p u c k l e parts, inr (ts, there, recipients_wider rs ts k l e all))

    recipients_wider : (rs : RecipientsFields) (ts : Trees) (k l : ℕ) → k ≤ l → HasRecipients n ts rs k → HasRecipients w ts rs l
    recipients_wider no_recipients ts k l e h = h
    recipients_wider (recipient_more r rs) ts k l e (u, us, is, one, all) = (u, us, is, recipient_wider r u k l e one, recipients_wider rs us k l e all)

  sign1_wider : (m : Sign1Fields) (t : Tree) (k l : ℕ) → k ≤ l → HasSign1 n t m k → HasSign1 w t m l
  sign1_wider m t k l e h = record {
    first = h.first;
    second = h.second;
    third = h.third;
    lasts = h.lasts;
    is = h.is;
    parts = parts_wider h.first h.second h.third m.protected m.unprotected m.payload k l e h.parts;
    hold = h.hold;
  }

  sign_wider : (m : SignFields) (t : Tree) (k l : ℕ) → k ≤ l → HasSign n t m k → HasSign w t m l
  sign_wider m t k l e h =
      let q = one_held _ h.lasts h.hold in
      let list = q.2 in
      record {
        first = h.first;
        second = h.second;
        third = h.third;
        lasts = q.0 ∷ [];
        is = h.is ∙ ap (λ ls. array (trees (h.first ∷ h.second ∷ h.third ∷ ls))) q.1;
        parts = parts_wider h.first h.second h.third m.protected m.unprotected m.payload k l e h.parts;
        hold = ((list.0, list.1, signatures_wider (signatures m.signatures) list.0 k l e list.2), tt);
      }

  mac0_wider : (m : Mac0Fields) (t : Tree) (k l : ℕ) → k ≤ l → HasMac0 n t m k → HasMac0 w t m l
  mac0_wider m t k l e h = record {
    first = h.first;
    second = h.second;
    third = h.third;
    lasts = h.lasts;
    is = h.is;
    parts = parts_wider h.first h.second h.third m.protected m.unprotected m.payload k l e h.parts;
    hold = h.hold;
  }

  mac_wider : (m : MacFields) (t : Tree) (k l : ℕ) → k ≤ l → HasMac n t m k → HasMac w t m l
  mac_wider m t k l e h =
      let q = two_held _ _ h.lasts h.hold in
      let list = q.4 in
      record {
        first = h.first;
        second = h.second;
        third = h.third;
        lasts = q.0 ∷ q.1 ∷ [];
        is = h.is ∙ ap (λ ls. array (trees (h.first ∷ h.second ∷ h.third ∷ ls))) q.2;
        parts = parts_wider h.first h.second h.third m.protected m.unprotected m.payload k l e h.parts;
        hold = (q.3, ((list.0, list.1, recipients_wider m.recipients list.0 k l e list.2), tt));
      }

message_wider : (a b : Bounds) → a.nesting ≤ b.nesting → a.layers ≤ b.layers → (u : Tree) (m : MessageFields) → HasMessage a u m → HasMessage b u m
message_wider a b n k u (sign1 m) h = sign1_wider a.nesting b.nesting n m u a.layers b.layers k h
message_wider a b n k u (mac0 m) h = mac0_wider a.nesting b.nesting n m u a.layers b.layers k h
message_wider a b n k u (sign m) h = sign_wider a.nesting b.nesting n m u a.layers b.layers k h
message_wider a b n k u (mac m) h = mac_wider a.nesting b.nesting n m u a.layers b.layers k h

pub judged_wider : (a b : Bounds) → a.nesting ≤ b.nesting → a.layers ≤ b.layers → (t : Tree) (m : MessageFields) → IsJudged a t m → IsJudged b t m
judged_wider a b n k t m ((u, is, has), carried, signed) = ((u, is, message_wider a b n k u m has), carried, signed)
