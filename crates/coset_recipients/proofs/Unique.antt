-- One value has the fields of at most one recipient.
use Rattle.std.proofs.Common.{◌≡◌, ℕ, inl, inr, Option, Some, None, refl, sym, ap, subst, ◌∙◌}
use Rattle.ciborium_value.specs.Tree.{Tree, array, Trees, no_trees, one_more}
use Rattle.ciborium_value.specs.View.{trees}
use Rattle.coset_recipients.proofs.PartsOnce.{parts_once, parts_moved}
use Rattle.coset_recipients.specs.Fields.{RecipientFields, recipient, RecipientsFields, no_recipients, recipient_more}
use Rattle.coset_recipients.specs.Shapes.{optional_list, three_or_four, HasRecipient, HasRecipients, HasInner, HasList}

-- ---- arrays of three or four
optional_same : (o m : Option Tree) → trees (optional_list o) ≡ trees (optional_list m) → o ≡ m
optional_same None None e = refl
optional_same None (Some t) e = let h : no_trees ≡ one_more t no_trees = e in cc
optional_same (Some t) None e = let h : one_more t no_trees ≡ no_trees = e in cc
optional_same (Some t) (Some u) e =
    let h : one_more t no_trees ≡ one_more u no_trees = e in
    let s : t ≡ u = cc in
    ap Some s

pub record SameFour (x y z : Tree) (o : Option Tree) (a b c : Tree) (m : Option Tree) : Type 0 where
  pub first : x ≡ a
  pub second : y ≡ b
  pub third : z ≡ c
  pub fourth : o ≡ m

same_rest : (x y z a b c : Tree) (ts us : Trees) → array (one_more x (one_more y (one_more z ts))) ≡ array (one_more a (one_more b (one_more c us))) → (x ≡ a) × (y ≡ b) × (z ≡ c) × (ts ≡ us)
same_rest x y z a b c ts us e = (cc, cc, cc, cc)

pub four_same : (x y z : Tree) (o : Option Tree) (a b c : Tree) (m : Option Tree) → array (three_or_four x y z o) ≡ array (three_or_four a b c m) → SameFour x y z o a b c m
four_same x y z o a b c m e =
    let h = same_rest x y z a b c (trees (optional_list o)) (trees (optional_list m)) e in
    record { first = h.0; second = h.1; third = h.2; fourth = optional_same o m h.3 }

inner_once : (n : ℕ) (rs ss : RecipientsFields) (o : Option Tree) (k : ℕ) → ((ts : Trees) → HasRecipients n ts rs k → HasRecipients n ts ss k → rs ≡ ss) → HasInner n o rs k → HasInner n o ss k → rs ≡ ss
inner_once n rs ss o k once (inl a) (inl b) = a.1 ∙ sym b.1
inner_once n rs ss o k once (inl a) (inr b) = let h : None ≡ Some (array b.0) = sym a.0 ∙ b.1 in cc
inner_once n rs ss o k once (inr a) (inl b) = let h : Some (array a.0) ≡ None = sym a.1 ∙ b.0 in cc
inner_once n rs ss o k once (inr a) (inr b) =
    let h : Some (array a.0) ≡ Some (array b.0) = sym a.1 ∙ b.1 in
    let e : b.0 ≡ a.0 = cc in
    once a.0 a.2 (subst (λ z. HasRecipients n z ss k) e b.2)

mutual
  pub recipient_once : (n : ℕ) (r s : RecipientFields) (t : Tree) (k : ℕ) → HasRecipient n t r k → HasRecipient n t s k → r ≡ s
  recipient_once n (recipient p u c rs) (recipient q v d ss) t k a b =
      let w = four_same a.0 a.1 a.2 a.3 b.0 b.1 b.2 b.3 (sym a.4 ∙ b.4) in
      let parts = parts_once n a.0 a.1 a.2 p q u v c d k a.5 (parts_moved n a.0 a.1 a.2 b.0 b.1 b.2 q v d k w.first w.second w.third b.5) in
      let inner = inner_once n rs ss a.3 k (λ ts x y. recipients_once n rs ss ts k x y) a.6 (subst (λ z. HasInner n z ss k) (sym w.fourth) b.6) in
      λ i. recipient (parts.0 i) (parts.1 i) (parts.2 i) (inner i)

  pub recipients_once : (n : ℕ) (rs ss : RecipientsFields) (ts : Trees) (k : ℕ) → HasRecipients n ts rs k → HasRecipients n ts ss k → rs ≡ ss
  recipients_once n no_recipients no_recipients ts k a b = refl
  recipients_once n no_recipients (recipient_more s ss) ts k a b = let e : no_trees ≡ one_more b.0 b.1 = sym a ∙ b.2 in cc
  recipients_once n (recipient_more r rs) no_recipients ts k a b = let e : one_more a.0 a.1 ≡ no_trees = sym a.2 ∙ b in cc
  recipients_once n (recipient_more r rs) (recipient_more s ss) ts k a b =
      let f : one_more a.0 a.1 ≡ one_more b.0 b.1 = sym a.2 ∙ b.2 in
      let f0 : b.0 ≡ a.0 = cc in
      let f1 : b.1 ≡ a.1 = cc in
      let same = recipient_once n r s a.0 k a.3 (subst (λ z. HasRecipient n z s k) f0 b.3) in
      let tails = recipients_once n rs ss a.1 k a.4 (subst (λ z. HasRecipients n z ss k) f1 b.4) in
      λ i. recipient_more (same i) (tails i)

pub list_once : (n : ℕ) (rs ss : RecipientsFields) (t : Tree) (k : ℕ) → HasList n t rs k → HasList n t ss k → rs ≡ ss
list_once n rs ss t k a b =
    let h : array a.0 ≡ array b.0 = sym a.1 ∙ b.1 in
    let e : b.0 ≡ a.0 = cc in
    recipients_once n rs ss a.0 k a.2 (subst (λ z. HasRecipients n z ss k) e b.2)
