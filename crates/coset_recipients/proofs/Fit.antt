-- What is written of a recipient fits heads if its parts do.
use Rattle.std.proofs.Common.{◌≡◌, ℕ, ◌^◌, ◌<◌, ◌≤◌, inl, inr, List, [], ◌∷◌, length, Option, Some, sym, ap, subst, ◌∙◌, arith}
use Rattle.std.specs.Prelude.{option_map}
use Rattle.ciborium_value.specs.Tree.{Tree, array, Trees, no_trees, one_more, tree_count}
use Rattle.ciborium_value.specs.View.{trees}
use Rattle.ciborium_value.specs.Encoding.{Fits, FitAll}
use Rattle.coset_headers.specs.View.{header_view, protected_view}
use Rattle.coset_headers.proofs.Again.{trees_parts}
use Rattle.coset_headers.proofs.Fit.{Each}
use Rattle.coset_recipients.specs.PartsFields.{parts}
use Rattle.coset_recipients.specs.PartsShort.{PartsShort}
use Rattle.coset_recipients.specs.PartsWritten.{parts_trees}
use Rattle.coset_recipients.proofs.PartsAgain.{map_made}
use Rattle.coset_recipients.proofs.PartsFit.{whole_fit, parts_short}
use Rattle.coset_recipients.specs.Fields.{RecipientFields, recipient, RecipientsFields, no_recipients, recipient_more}
use Rattle.coset_recipients.specs.Shapes.{HasRecipient, HasRecipients, HasInner}
use Rattle.coset_recipients.specs.Short.{RecipientShort, RecipientsShort}
use Rattle.coset_recipients.specs.View.{recipient_view, recipients_view}
use Rattle.coset_recipients.specs.Written.{fourth, recipient_tree, recipients_trees, list_tree}
use Rattle.coset_recipients.specs.declared.recipient.CoseRecipient.{CoseRecipient, out-CoseRecipient}
use Rattle.coset_recipients.proofs.Again.{wrote_of}
use Rattle.coset_recipients.proofs.RecipientParts.{recipient_out}

-- ---- one recipient
fourth_fits : (ts : Trees) → FitAll ts → tree_count ts < 2 ^ 64 → FitAll (trees (fourth ts))
fourth_fits no_trees f l = tt
fourth_fits (one_more t ts) f l = ((l, f), tt)

fourth_short : (ts : Trees) → tree_count (trees (fourth ts)) ≤ 2
fourth_short no_trees = omega arith
fourth_short (one_more t ts) = omega arith

abbrev content_of : CoseRecipient → Option (List ℕ)
content_of r = option_map (λ v. v.items) (out-CoseRecipient r).ciphertext

pub recipient_fit : (r : CoseRecipient) (rs : List CoseRecipient) (u : Tree) → rs ≡ (out-CoseRecipient r).recipients.items
    → ((ts : List Tree) → parts_trees (parts (protected_view (out-CoseRecipient r).protected) (header_view (out-CoseRecipient r).unprotected) (content_of r)) ≡ Some ts
    → PartsShort (protected_view (out-CoseRecipient r).protected) (header_view (out-CoseRecipient r).unprotected) → FitAll (trees ts))
    → ((ts : Trees) → recipients_trees (recipients_view rs) ≡ Some ts → RecipientsShort (recipients_view rs) → FitAll ts)
    → ((ts : Trees) → recipients_trees (recipients_view rs) ≡ Some ts → tree_count ts < 2 ^ 64)
    → recipient_tree (recipient_view r) ≡ Some u → RecipientShort (recipient_view r) → Fits u
recipient_fit r rs u q f g l e s =
    let o = out-CoseRecipient r in
    let p = protected_view o.protected in
    let h = header_view o.unprotected in
    let c = content_of r in
    let inner = recipients_view o.recipients.items in
    let same = recipient_out r in
    let w = wrote_of (parts_trees (parts p h c)) inner u (sym (ap recipient_tree same) ∙ e) in
    let t = subst RecipientShort same s in
    let g' = subst (λ z. (ts : Trees) → recipients_trees (recipients_view z) ≡ Some ts → RecipientsShort (recipients_view z) → FitAll ts) q g in
    let l' = subst (λ z. (ts : Trees) → recipients_trees (recipients_view z) ≡ Some ts → tree_count ts < 2 ^ 64) q l in
    subst Fits w.is
    (whole_fit p h c w.parts (fourth w.inner) w.parts_are (f w.parts w.parts_are t.0) (fourth_short w.inner)
    (fourth_fits w.inner (g' w.inner w.inner_is t.1) (l' w.inner w.inner_is)))

-- ---- lists
abbrev pub RecipientFits : CoseRecipient → Type 0
RecipientFits r = (u : Tree) → recipient_tree (recipient_view r) ≡ Some u → RecipientShort (recipient_view r) → Fits u

pub all_fit : (xs : List CoseRecipient) (ts : Trees) → Each RecipientFits xs → recipients_trees (recipients_view xs) ≡ Some ts → RecipientsShort (recipients_view xs) → FitAll ts
all_fit [] ts a e s = let h : no_trees ≡ ts = (let k : Some no_trees ≡ Some ts = e in cc) in subst FitAll h tt
all_fit (x ∷ xs) ts a e s =
    let w = trees_parts (recipient_tree (recipient_view x)) (recipients_trees (recipients_view xs)) ts e in
    subst FitAll w.4 (a.0 w.0 w.2 s.0, all_fit xs w.1 a.1 w.3 s.1)

pub all_count : (xs : List CoseRecipient) (ts : Trees) → recipients_trees (recipients_view xs) ≡ Some ts → tree_count ts ≡ length xs
all_count [] ts e = let h : no_trees ≡ ts = (let k : Some no_trees ≡ Some ts = e in cc) in ap tree_count (sym h)
all_count (x ∷ xs) ts e =
    let w = trees_parts (recipient_tree (recipient_view x)) (recipients_trees (recipients_view xs)) ts e in
    let h = all_count xs w.1 w.3 in let g = ap tree_count w.4 in omega (arith, h, g)

pub list_fit : (rs : RecipientsFields) (u : Tree) → ((ts : Trees) → recipients_trees rs ≡ Some ts → RecipientsShort rs → FitAll ts) → ((ts : Trees) → recipients_trees rs ≡ Some ts → tree_count ts < 2 ^ 64)
    → list_tree rs ≡ Some u → RecipientsShort rs → Fits u
list_fit rs u f l e s =
    let w = map_made array (recipients_trees rs) u e in
    subst Fits w.2 (l w.0 w.1, f w.0 w.1 s)

-- ---- what was read is short
inner_short : (n : ℕ) (rs : RecipientsFields) (o : Option Tree) (k : ℕ) → ((ts : Trees) → HasRecipients n ts rs k → RecipientsShort rs) → HasInner n o rs k → RecipientsShort rs
inner_short n rs o k f (inl a) = subst RecipientsShort (sym a.1) tt
inner_short n rs o k f (inr a) = f a.0 a.2

mutual
  pub recipient_short : (n : ℕ) (r : RecipientFields) (t : Tree) (k : ℕ) → HasRecipient n t r k → RecipientShort r
  recipient_short n (recipient p u c rs) t k a = (parts_short n a.0 a.1 a.2 p u c k a.5, inner_short n rs a.3 k (λ ts b. recipients_short n rs ts k b) a.6)

  pub recipients_short : (n : ℕ) (rs : RecipientsFields) (ts : Trees) (k : ℕ) → HasRecipients n ts rs k → RecipientsShort rs
  recipients_short n no_recipients ts k a = tt
  recipients_short n (recipient_more r rs) ts k a = (recipient_short n r a.0 k a.3, recipients_short n rs a.1 k a.4)
