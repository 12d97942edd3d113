-- What is written of a message that was read is there, has its fields again, nests no deeper than
-- it did, and is read again.
use Rattle.std.proofs.Common.{◌≡◌, ◌≢◌, ℕ, ◌-◌, List, [], ◌∷◌, None, Some, sym, ap, subst}
use Rattle.ciborium_value.specs.Tree.{Tree, bytes, array, Trees}
use Rattle.ciborium_value.specs.View.{trees}
use Rattle.coset_labels.specs.Arrays.{all_written, array_of}
use Rattle.coset_headers.specs.Fields.{SignatureFields, signatures}
use Rattle.coset_headers.specs.Headers.{HasSignatures}
use Rattle.coset_headers.specs.Written.{signature_tree}
use Rattle.coset_headers.proofs.Again.{sig_again}
use Rattle.coset_headers.proofs.Sound.{SoundAll, Sound, array_inside, array_sound, all_none, all_more, all_parts, sig_sound}
use Rattle.coset_headers.proofs.Writable.{some_is, map_some, and_some, sig_some}
use Rattle.coset_recipients.proofs.PartsAgain.{map_made}
use Rattle.coset_recipients.proofs.PartsKept.{Kept, bytes_kept, whole_kept, more_wrote, none_wrote}
use Rattle.coset_signed.specs.Fields.{Sign1Fields, SignFields}
use Rattle.coset_signed.specs.Shapes.{IsSignatureList, HasSign1, HasSign}
use Rattle.coset_signed.specs.Written.{sign1_tree, sign_tree}

-- ---- signatures
all_some : (n : ℕ) (ts : Trees) (ss : List SignatureFields) (k : ℕ) → HasSignatures n ts (signatures ss) k → all_written signature_tree ss ≢ None
all_some n ts [] k h = some_is []
all_some n ts (s ∷ ss) k h = and_some _ (signature_tree s) (sig_some n s h.0 k h.3) (λ t. map_some _ (all_written signature_tree ss) (all_some n h.1 ss k h.4))

all_again : (n : ℕ) (ts : Trees) (ss : List SignatureFields) (us : List Tree) (k : ℕ) → HasSignatures n ts (signatures ss) k → all_written signature_tree ss ≡ Some us → HasSignatures n (trees us) (signatures ss) k
all_again n ts [] us k h e = ap trees (sym (none_wrote signature_tree us e))
all_again n ts (s ∷ ss) us k h e =
    let w = more_wrote signature_tree s ss us e in
    (w.first, trees w.rest, ap trees (sym w.are), sig_again n s h.0 w.first k h.3 w.first_is, all_again n h.1 ss w.rest k h.4 w.rest_are)

all_sound : (n : ℕ) (ts : Trees) (ss : List SignatureFields) (us : List Tree) (k d : ℕ) → HasSignatures n ts (signatures ss) k → all_written signature_tree ss ≡ Some us → SoundAll d ts → SoundAll d (trees us)
all_sound n ts [] us k d h e s = subst (λ z. SoundAll d (trees z)) (none_wrote signature_tree us e) (all_none d)
all_sound n ts (g ∷ ss) us k d h e s =
    let w = more_wrote signature_tree g ss us e in
    let both = all_parts d h.0 h.1 (subst (SoundAll d) h.2 s) in
    subst (λ z. SoundAll d (trees z)) w.are
    (all_more d w.first (trees w.rest) (sig_sound n g h.0 w.first k d h.3 w.first_is both.0) (all_sound n h.1 ss w.rest k d h.4 w.rest_are both.1))

signatures_kept : (n : ℕ) (ss : List SignatureFields) (k : ℕ) → Kept (λ t. IsSignatureList n t ss k) (array_of signature_tree ss)
signatures_kept n ss k = record {
  some = λ t h. map_some _ (all_written signature_tree ss) (all_some n h.0 ss k h.2);
  again = λ t v h e.
      let w = map_made (λ ts. array (trees ts)) (all_written signature_tree ss) v e in
      (trees w.0, sym w.2, all_again n h.0 ss w.0 k h.2 w.1);
  sound = λ d t v h e s.
      let w = map_made (λ ts. array (trees ts)) (all_written signature_tree ss) v e in
      let l = array_inside d h.0 (subst (Sound d) h.1 s) in
      subst (Sound d) w.2 (array_sound d (trees w.0) l.0 (all_sound n h.0 ss w.0 k (d - 1) h.2 w.1 l.1));
}

-- ---- messages
pub sign1_kept : (n : ℕ) (m : Sign1Fields) (k : ℕ) → Kept (λ t. HasSign1 n t m k) (sign1_tree m)
sign1_kept n m k = whole_kept n m.protected m.unprotected m.payload _ (Some (bytes m.signature) ∷ []) k (bytes_kept m.signature, tt)

pub sign_kept : (n : ℕ) (m : SignFields) (k : ℕ) → Kept (λ t. HasSign n t m k) (sign_tree m)
sign_kept n m k = whole_kept n m.protected m.unprotected m.payload _ (array_of signature_tree m.signatures ∷ []) k (signatures_kept n m.signatures k, tt)
