-- The tags that the gate tells apart.
use Rattle.std.proofs.Common.{◌≡◌, ◌≢◌, inl, inr, ℕ, List, [], ◌∷◌, Option, Some, None, Bool, true, false, cond, pos, refl, sym, ap, ◌∙◌, nat_eq}
use Rattle.std.specs.Prelude.{MatchBool}
use Rattle.cose_iana.specs.Tags.{cbor_tags}
use Rattle.cose_iana.specs.declared.tags.CborTag.TheVariants.{CoseEncrypt0, CoseEncrypt}
use Rattle.cose_gate_core.specs.Questions.{number_of}
use Rattle.cose_gate_core.specs.Findings.{IsMessageTag, IsEncryptedTag}
use Rattle.cose_gate_core.specs.declared.about.MessageKind.{MessageKind}
use Rattle.cose_gate_core.specs.declared.about.MessageKind.TheVariants as kind

-- the first of these kinds that has the tag
kind_among : List MessageKind → ℕ → Option MessageKind
kind_among [] n = None
kind_among (k ∷ ks) n = cond (nat_eq (number_of k) n) (Some k) (kind_among ks n)

kind_at : ℕ → Option MessageKind
kind_at n = kind_among (kind.Sign1 ∷ kind.Mac0 ∷ kind.Sign ∷ kind.Mac ∷ []) n

-- the tags are distinct: each leads to its kind
kind_there : (k : MessageKind) → kind_at (number_of k) ≡ Some k
unfolding kind_at kind_among
kind_there kind.Sign1 = refl
kind_there kind.Mac0 = refl
kind_there kind.Sign = refl
kind_there kind.Mac = refl

-- so kinds with one tag are one
pub same_kind : (j k : MessageKind) → number_of j ≡ number_of k → j ≡ k
same_kind j k e =
    let there : Some j ≡ Some k = sym (kind_there j) ∙ ap kind_at e ∙ kind_there k in
    cc

-- and the tag of an encrypted message is that of no kind
none_encrypted : (n : ℕ) → IsEncryptedTag n → kind_at n ≡ None
unfolding kind_at kind_among
none_encrypted n (inl e) = ap kind_at e
none_encrypted n (inr e) = ap kind_at e

pub not_both : (n : ℕ) → IsEncryptedTag n → IsMessageTag n → ⊥
not_both n e (k, is) =
    let there : None ≡ Some k = sym (none_encrypted n e) ∙ ap kind_at is ∙ kind_there k in
    cc

-- the tags of encrypted messages in the registry
encrypt0_number : cbor_tags.number CoseEncrypt0 ≡ pos 16
unfolding cbor_tags
encrypt0_number = refl

encrypt_number : cbor_tags.number CoseEncrypt ≡ pos 96
unfolding cbor_tags
encrypt_number = refl

pub encrypt0_is : (n : ℕ) → pos n ≡ cbor_tags.number CoseEncrypt0 → IsEncryptedTag n
encrypt0_is n e = let q : pos n ≡ pos 16 = e ∙ encrypt0_number in inl cc

pub encrypt_is : (n : ℕ) → pos n ≡ cbor_tags.number CoseEncrypt → IsEncryptedTag n
encrypt_is n e = let q : pos n ≡ pos 96 = e ∙ encrypt_number in inr cc

pub not_encrypted : (n : ℕ) → pos n ≢ cbor_tags.number CoseEncrypt0 → pos n ≢ cbor_tags.number CoseEncrypt → IsEncryptedTag n → ⊥
not_encrypted n a b (inl e) = a (ap pos e ∙ sym encrypt0_number)
not_encrypted n a b (inr e) = b (ap pos e ∙ sym encrypt_number)

pub either_encrypted : (n : ℕ) (b : Bool) → pos n ≢ cbor_tags.number CoseEncrypt0 → MatchBool b (pos n ≡ cbor_tags.number CoseEncrypt) (pos n ≢ cbor_tags.number CoseEncrypt)
    → MatchBool b (IsEncryptedTag n) (IsEncryptedTag n → ⊥)
either_encrypted n true a e = encrypt_is n e
either_encrypted n false a e = not_encrypted n a e

-- a tag that is none of the four is that of no message
pub no_message_tag : (n : ℕ) → n ≢ number_of kind.Sign1 → n ≢ number_of kind.Mac0 → n ≢ number_of kind.Sign → n ≢ number_of kind.Mac → IsMessageTag n → ⊥
no_message_tag n a b c d (kind.Sign1, e) = a e
no_message_tag n a b c d (kind.Mac0, e) = b e
no_message_tag n a b c d (kind.Sign, e) = c e
no_message_tag n a b c d (kind.Mac, e) = d e
