-- A value with a fault has the fields of no recipient.
use Rattle.std.proofs.Common.{◌≡◌, ◌≢◌, ℕ, inl, inr, List, [], ◌∷◌, ◌++◌, true, false, Option, Some, None, sym, ap, subst, ◌∙◌}
use Rattle.ciborium_value.specs.Tree.{Tree, array, Trees, no_trees, one_more, tree_count}
use Rattle.ciborium_value.specs.View.{trees}
use Rattle.coset_labels.specs.Faults.{CoseFault}
use Rattle.ciborium_value.specs.Kinds.{is_array}
use Rattle.coset_recipients.proofs.PartsOnce.{in_array, parts_moved, parts_not}
use Rattle.coset_recipients.specs.Fields.{RecipientFields, recipient, RecipientsFields, no_recipients, recipient_more}
use Rattle.coset_recipients.specs.Shapes.{three_or_four, HasRecipient, HasRecipients, HasInner, HasList}
use Rattle.coset_recipients.specs.Wrong.{WrongRecipient, no_array, not_three_or_four, in_parts, in_fourth, WrongList, no_list, in_list}
use Rattle.coset_recipients.proofs.Unique.{four_same}

counts : (ts : Trees) (x y z : Tree) (o : Option Tree) → tree_count ts ≢ 3 → tree_count ts ≢ 4 → ts ≡ three_or_four x y z o → ⊥
counts ts x y z None n m e = n (ap tree_count e)
counts ts x y z (Some t) n m e = m (ap tree_count e)

recipients_at : (n k : ℕ) (before after : List Tree) (t : Tree) (rs : RecipientsFields) → HasRecipients n (trees (before ++ t ∷ after)) rs k → (r : RecipientFields) × HasRecipient n t r k
recipients_at n k [] after t no_recipients a = let e : one_more t (trees after) ≡ no_trees = a in cc
recipients_at n k [] after t (recipient_more r rs) a =
    let e : one_more t (trees after) ≡ one_more a.0 a.1 = a.2 in
    let s : a.0 ≡ t = cc in
    (r, subst (λ z. HasRecipient n z r k) s a.3)
recipients_at n k (x ∷ xs) after t no_recipients a = let e : one_more x (trees (xs ++ t ∷ after)) ≡ no_trees = a in cc
recipients_at n k (x ∷ xs) after t (recipient_more r rs) a =
    let e : one_more x (trees (xs ++ t ∷ after)) ≡ one_more a.0 a.1 = a.2 in
    let s : a.1 ≡ trees (xs ++ t ∷ after) = cc in
    recipients_at n k xs after t rs (subst (λ z. HasRecipients n z rs k) s a.4)

inner_list : (n : ℕ) (o : Option Tree) (t : Tree) (rs : RecipientsFields) (k : ℕ) → Some t ≡ o → HasInner n o rs k → HasList n t rs k
inner_list n o t rs k e (inl a) = let h : Some t ≡ None = e ∙ a.0 in cc
inner_list n o t rs k e (inr a) =
    let h : Some t ≡ Some (array a.0) = e ∙ a.1 in
    let s : t ≡ array a.0 = cc in
    (a.0, s, a.2)

mutual
  pub recipient_not : (n : ℕ) (t : Tree) (k : ℕ) (e : CoseFault) → WrongRecipient n t k e → (r : RecipientFields) → HasRecipient n t r k → ⊥
  recipient_not n t k e (no_array _ _ x) (recipient p u c rs) a = let d : true ≡ false = sym (ap is_array a.4) ∙ x in cc
  recipient_not n t k e (not_three_or_four ts _ x y) (recipient p u c rs) a = counts ts a.0 a.1 a.2 a.3 x y (in_array ts (three_or_four a.0 a.1 a.2 a.3) a.4)
  recipient_not n t k e (in_parts x y z o _ _ w) (recipient p u c rs) a =
      let s = four_same x y z o a.0 a.1 a.2 a.3 a.4 in
      parts_not n x y z k e w p u c (parts_moved n x y z a.0 a.1 a.2 p u c k s.first s.second s.third a.5)
  recipient_not n t k e (in_fourth x y z m _ _ w) (recipient p u c rs) a =
      let s = four_same x y z (Some m) a.0 a.1 a.2 a.3 a.4 in
      list_not n m k e w rs (inner_list n a.3 m rs k s.fourth a.6)

  pub list_not : (n : ℕ) (t : Tree) (k : ℕ) (e : CoseFault) → WrongList n t k e → (rs : RecipientsFields) → HasList n t rs k → ⊥
  list_not n t k e (no_list _ _ x) rs a = let d : true ≡ false = sym (ap is_array a.1) ∙ x in cc
  list_not n t k e (in_list before after u _ _ w) rs a =
      let q = in_array (trees (before ++ u ∷ after)) a.0 a.1 in
      let z = recipients_at n k before after u rs (subst (λ s. HasRecipients n s rs k) (sym q) a.2) in
      recipient_not n u k e w z.0 z.1
