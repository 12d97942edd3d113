-- What is written of a message fits heads if its parts do.
use Rattle.std.proofs.Common.{◌≡◌, ℕ, List, [], ◌∷◌, length, map, Some, subst, ◌∙◌, arith}
use Rattle.std.proofs.lemmas.List.{length-map}
use Rattle.ciborium_value.specs.Tree.{Tree, bytes, array, Trees, tree_count}
use Rattle.ciborium_value.specs.View.{trees}
use Rattle.ciborium_value.specs.Encoding.{Fits, FitAll}
use Rattle.coset_labels.specs.Arrays.{all_written, array_of}
use Rattle.coset_headers.specs.Fields.{SignatureFields, signatures}
use Rattle.coset_headers.specs.Headers.{HasSignatures}
use Rattle.coset_headers.specs.Short.{AllShort}
use Rattle.coset_headers.specs.View.{signature_view, signatures_view}
use Rattle.coset_headers.specs.Written.{signature_tree}
use Rattle.coset_headers.specs.declared.header.CoseSignature.{CoseSignature}
use Rattle.coset_headers.proofs.Fit.{Each, SignatureFits, sig_short}
use Rattle.coset_recipients.specs.PartsFields.{parts}
use Rattle.coset_recipients.specs.PartsShort.{PartsShort}
use Rattle.coset_recipients.specs.PartsWritten.{parts_trees}
use Rattle.coset_recipients.proofs.PartsAgain.{map_made}
use Rattle.coset_recipients.proofs.PartsFit.{parts_short}
use Rattle.coset_recipients.proofs.PartsKept.{more_wrote, none_wrote, some_fits, wrote_count, whole_fits}
use Rattle.coset_recipients.specs.PartShapes.{one_held}
use Rattle.coset_signed.specs.Fields.{Sign1Fields, SignFields}
use Rattle.coset_signed.specs.Shapes.{HasSign1, HasSign}
use Rattle.coset_signed.specs.Short.{Sign1Short, SignShort}
use Rattle.coset_signed.specs.Written.{sign1_tree, sign_tree}

pub sign1_fit : (m : Sign1Fields) (v : Tree) → ((ts : List Tree) → parts_trees (parts m.protected m.unprotected m.payload) ≡ Some ts → PartsShort m.protected m.unprotected → FitAll (trees ts)) → Fits (bytes m.signature)
    → sign1_tree m ≡ Some v → Sign1Short m → Fits v
sign1_fit m v f g e s = whole_fits m.protected m.unprotected m.payload (Some (bytes m.signature) ∷ []) v f s (λ y q. some_fits (bytes m.signature) y g q, tt) (omega arith) e

pub sign_fit : (m : SignFields) (v : Tree) → ((ts : List Tree) → parts_trees (parts m.protected m.unprotected m.payload) ≡ Some ts → PartsShort m.protected m.unprotected → FitAll (trees ts))
    → ((ts : List Tree) → all_written signature_tree m.signatures ≡ Some ts → AllShort (signatures m.signatures) → Fits (array (trees ts)))
    → sign_tree m ≡ Some v → SignShort m → Fits v
sign_fit m v f g e s =
    whole_fits m.protected m.unprotected m.payload (array_of signature_tree m.signatures ∷ []) v f s.0
    (λ y q. let w = map_made (λ ts. array (trees ts)) (all_written signature_tree m.signatures) y q in subst Fits w.2 (g w.0 w.1 s.1), tt) (omega arith) e

-- ---- signatures
pub list_fit : (xs : List CoseSignature) (ts : List Tree) → Each SignatureFits xs → all_written signature_tree (map signature_view xs) ≡ Some ts → AllShort (signatures_view xs) → FitAll (trees ts)
list_fit [] ts a e s = subst (λ z. FitAll (trees z)) (none_wrote signature_tree ts e) tt
list_fit (x ∷ xs) ts a e s =
    let w = more_wrote signature_tree (signature_view x) (map signature_view xs) ts e in
    subst (λ z. FitAll (trees z)) w.are (a.0 w.first w.first_is s.0, list_fit xs w.rest a.1 w.rest_are s.1)

pub list_count : (xs : List CoseSignature) (ts : List Tree) → all_written signature_tree (map signature_view xs) ≡ Some ts → tree_count (trees ts) ≡ length xs
list_count xs ts e = wrote_count signature_tree (map signature_view xs) ts e ∙ length-map xs signature_view

-- ---- what was read is short
pub sign1_short : (n k : ℕ) (t : Tree) (m : Sign1Fields) → HasSign1 n t m k → Sign1Short m
sign1_short n k t m h = parts_short n h.first h.second h.third m.protected m.unprotected m.payload k h.parts

signatures_short : (n : ℕ) (ts : Trees) (ss : List SignatureFields) (k : ℕ) → HasSignatures n ts (signatures ss) k → AllShort (signatures ss)
signatures_short n ts [] k h = tt
signatures_short n ts (s ∷ ss) k h = (sig_short n s h.0 k h.3, signatures_short n h.1 ss k h.4)

pub sign_short : (n k : ℕ) (t : Tree) (m : SignFields) → HasSign n t m k → SignShort m
sign_short n k t m h =
    let list = (one_held _ h.lasts h.hold).2 in
    (parts_short n h.first h.second h.third m.protected m.unprotected m.payload k h.parts, signatures_short n list.0 m.signatures k list.2)
