-- A recipient that was read is as written exactly when the test on its value says so.
use Rattle.std.proofs.Common.{◌≡◌, ℕ, inl, inr, List, [], ◌∷◌, Bool, true, false, Option, Some, None, option_map, option_and_then, refl, sym, ap, subst, ◌∙◌}
use Rattle.std.specs.Prelude.{◌&&◌, Decides}
use Rattle.ciborium_value.specs.Tree.{Tree, array, Trees, no_trees, one_more}
use Rattle.ciborium_value.specs.View.{trees}
use Rattle.coset_headers.specs.AsWritten.{is_canonical_header}
use Rattle.coset_headers.specs.Fields.{HeaderFields, ProtectedFields}
use Rattle.coset_headers.proofs.Again.{trees_parts}
use Rattle.coset_headers.proofs.Canonical.{and_left, and_right, both_true, first_same, not_none, some_same}
use Rattle.coset_recipients.specs.PartsFields.{parts}
use Rattle.coset_recipients.specs.PartsWritten.{parts_trees}
use Rattle.coset_recipients.proofs.PartsAgain.{map_made, and_made}
use Rattle.coset_recipients.proofs.PartsCanonical.{parts_canonical, parts_are}
use Rattle.coset_recipients.specs.AsWritten.{is_filled, is_canonical_recipient, is_canonical_fourth, is_canonical_list, are_canonical_recipients}
use Rattle.coset_recipients.specs.Fields.{RecipientFields, recipient, RecipientsFields, no_recipients, recipient_more}
use Rattle.coset_recipients.specs.Shapes.{optional_list, three_or_four, HasRecipient, HasRecipients, HasInner}
use Rattle.coset_recipients.specs.Written.{fourth, whole, recipient_tree, recipients_trees}
use Rattle.coset_recipients.proofs.Writable.{inner_some, recipients_some}

-- ---- the fourth element
abbrev inner_canonical : Option Tree → Bool
inner_canonical None = true
inner_canonical (Some t) = is_canonical_list t

fourth_is : (x y z : Tree) (o : Option Tree) → is_canonical_fourth (three_or_four x y z o) ≡ inner_canonical o
fourth_is x y z None = refl
fourth_is x y z (Some t) = refl

filled : (us : Trees) → is_filled us ≡ true → fourth us ≡ array us ∷ []
filled no_trees e = let h : false ≡ true = e in absurd (let f : ⊥ = cc in f)
filled (one_more t ts) e = refl

fourth_of : (ts us : Trees) → fourth ts ≡ array us ∷ [] → (ts ≡ us) × (is_filled us ≡ true)
fourth_of no_trees us e = let h : [] ≡ array us ∷ [] = e in absurd (let f : ⊥ = cc in f)
fourth_of (one_more t ts) us e =
    let h : array (one_more t ts) ∷ [] ≡ array us ∷ [] = e in
    let q : one_more t ts ≡ us = cc in
    (q, ap is_filled (sym q))

inner_none : (o : Option Tree) (rs : RecipientsFields) (ts : Trees) → o ≡ None → rs ≡ no_recipients → recipients_trees rs ≡ Some ts → Decides (inner_canonical o) (fourth ts ≡ optional_list o)
inner_none o rs ts e q f =
    let h : ts ≡ no_trees = some_same ts no_trees (sym f ∙ ap recipients_trees q) in
    subst (λ z. Decides (inner_canonical z) (fourth ts ≡ optional_list z)) (sym e) (λ _. ap fourth h, λ _. refl)

inner_list : (o : Option Tree) (rs : RecipientsFields) (ts us : Trees) → o ≡ Some (array us) → recipients_trees rs ≡ Some ts → Decides (are_canonical_recipients us) (recipients_trees rs ≡ Some us) → Decides (inner_canonical o) (fourth ts ≡ optional_list o)
inner_list o rs ts us e f d =
    subst (λ z. Decides (inner_canonical z) (fourth ts ≡ optional_list z)) (sym e) (
      λ h.
          ap fourth (some_same ts us (sym f ∙ d.0 (and_right (is_filled us) (are_canonical_recipients us) h))) ∙ filled us (and_left (is_filled us) (are_canonical_recipients us) h),
      λ h.
          let w = fourth_of ts us h in
          both_true (is_filled us) (are_canonical_recipients us) w.1 (d.1 (f ∙ ap Some w.0)),
    )

inner_by : (n : ℕ) (o : Option Tree) (rs : RecipientsFields) (ts : Trees) (k : ℕ) → ((us : Trees) → HasRecipients n us rs k → Decides (are_canonical_recipients us) (recipients_trees rs ≡ Some us)) → HasInner n o rs k
    → recipients_trees rs ≡ Some ts → Decides (inner_canonical o) (fourth ts ≡ optional_list o)
inner_by n o rs ts k g (inl (e, q)) f = inner_none o rs ts e q f
inner_by n o rs ts k g (inr (us, e, h)) f = inner_list o rs ts us e f (g us h)

-- ---- one recipient
stands_is : (x y z t : Tree) (o : Option Tree) → t ≡ array (three_or_four x y z o) → is_canonical_recipient t ≡ (is_canonical_header y && inner_canonical o)
stands_is x y z t o e = ap is_canonical_recipient e ∙ ap (λ b. is_canonical_header y && b) (fourth_is x y z o)

wrote_to : (p : ProtectedFields) (u : HeaderFields) (c : Option (List ℕ)) (rs : RecipientsFields) (ts : Trees) (x y z t : Tree) (o : Option Tree) → t ≡ array (three_or_four x y z o)
    → recipients_trees rs ≡ Some ts → parts_trees (parts p u c) ≡ Some (x ∷ y ∷ z ∷ []) → fourth ts ≡ optional_list o → recipient_tree (recipient p u c rs) ≡ Some t
wrote_to p u c rs ts x y z t o e f g h =
    ap (option_and_then (λ parts. option_map (λ ts. whole parts ts) (recipients_trees rs))) g ∙ ap (option_map (λ ts. whole (x ∷ y ∷ z ∷ []) ts)) f
    ∙ ap (λ w. Some (array (trees (x ∷ y ∷ z ∷ w)))) h ∙ ap Some (sym e)

wrote_from : (p : ProtectedFields) (u : HeaderFields) (c : Option (List ℕ)) (rs : RecipientsFields) (ts : Trees) (x y z t : Tree) (o : Option Tree) → t ≡ array (three_or_four x y z o)
    → recipients_trees rs ≡ Some ts → recipient_tree (recipient p u c rs) ≡ Some t → (parts_trees (parts p u c) ≡ Some (x ∷ y ∷ z ∷ [])) × (fourth ts ≡ optional_list o)
wrote_from p u c rs ts x y z t o e f h =
    let v = and_made (λ parts. option_map (λ ts. whole parts ts) (recipients_trees rs)) (parts_trees (parts p u c)) t h in
    let w = map_made (λ ts. whole v.0 ts) (recipients_trees rs) t v.2 in
    let q : whole v.0 ts ≡ array (three_or_four x y z o) = ap (λ us. whole v.0 us) (some_same ts w.0 (sym f ∙ w.1)) ∙ w.2 ∙ e in
    parts_are p u c v.0 (fourth ts) x y z (optional_list o) v.1 q

one_by : (n : ℕ) (p : ProtectedFields) (u : HeaderFields) (c : Option (List ℕ)) (rs : RecipientsFields) (t : Tree) (k : ℕ) → ((us : Trees) → HasRecipients n us rs k → Decides (are_canonical_recipients us) (recipients_trees rs ≡ Some us))
    → HasRecipient n t (recipient p u c rs) k → Decides (is_canonical_recipient t) (recipient_tree (recipient p u c rs) ≡ Some t)
one_by n p u c rs t k g (x, y, z, o, e, parts, inner) =
    let made = not_none (recipients_trees rs) (inner_some n rs o k (λ us h. recipients_some n rs us k h) inner) in
    let d = parts_canonical n x y z p u c k parts in
    let i = inner_by n o rs made.0 k g inner made.1 in
    let test = stands_is x y z t o e in (
      λ h.
          let b : (is_canonical_header y && inner_canonical o) ≡ true = sym test ∙ h in
          wrote_to p u c rs made.0 x y z t o e made.1 (d.0 (and_left (is_canonical_header y) (inner_canonical o) b)) (i.0 (and_right (is_canonical_header y) (inner_canonical o) b)),
      λ h.
          let w = wrote_from p u c rs made.0 x y z t o e made.1 h in
          test ∙ both_true (is_canonical_header y) (inner_canonical o) (d.1 w.0) (i.1 w.1),
    )

-- ---- recipients one after another
more_made : (r : RecipientFields) (rs : RecipientsFields) (u : Tree) (us : Trees) → recipient_tree r ≡ Some u → recipients_trees rs ≡ Some us → recipients_trees (recipient_more r rs) ≡ Some (one_more u us)
more_made r rs u us a b = ap (option_and_then (λ t. option_map (λ ts. one_more t ts) (recipients_trees rs))) a ∙ ap (option_map (λ ts. one_more u ts)) b

more_by : (r : RecipientFields) (rs : RecipientsFields) (u : Tree) (us : Trees) → Decides (is_canonical_recipient u) (recipient_tree r ≡ Some u) → Decides (are_canonical_recipients us) (recipients_trees rs ≡ Some us)
    → Decides (is_canonical_recipient u && are_canonical_recipients us) (recipients_trees (recipient_more r rs) ≡ Some (one_more u us))
more_by r rs u us d e = (
  λ h. more_made r rs u us (d.0 (and_left (is_canonical_recipient u) (are_canonical_recipients us) h)) (e.0 (and_right (is_canonical_recipient u) (are_canonical_recipients us) h)),
  λ h.
      let w = trees_parts (recipient_tree r) (recipients_trees rs) (one_more u us) h in
      let q = first_same w.0 u w.1 us w.4 in
      both_true (is_canonical_recipient u) (are_canonical_recipients us) (d.1 (w.2 ∙ ap Some q.0)) (e.1 (w.3 ∙ ap Some q.1)),
)

mutual
  pub recipient_by : (n : ℕ) (r : RecipientFields) (t : Tree) (k : ℕ) → HasRecipient n t r k → Decides (is_canonical_recipient t) (recipient_tree r ≡ Some t)
  recipient_by n (recipient p u c rs) t k a = one_by n p u c rs t k (λ us h. recipients_by n rs us k h) a

  pub recipients_by : (n : ℕ) (rs : RecipientsFields) (ts : Trees) (k : ℕ) → HasRecipients n ts rs k → Decides (are_canonical_recipients ts) (recipients_trees rs ≡ Some ts)
  recipients_by n no_recipients ts k a = subst (λ z. Decides (are_canonical_recipients z) (Some no_trees ≡ Some z)) (sym a) (λ _. refl, λ _. refl)
  recipients_by n (recipient_more r rs) ts k a =
      subst (λ z. Decides (are_canonical_recipients z) (recipients_trees (recipient_more r rs) ≡ Some z)) (sym a.2)
      (more_by r rs a.0 a.1 (recipient_by n r a.0 k a.3) (recipients_by n rs a.1 k a.4))
