-- What writing recipients shows.
use Rattle.std.proofs.Common.{◌≡◌, ◌≢◌, ℕ, ◌+◌, ◌<◌, suc, inr, inl, List, [], ◌∷◌, ◌++◌, length, get_or, take, drop, map, Option, Some, None, option_map, option_and_then, refl, sym, ap, ◌∙◌, Vec, Global}
use Rattle.std.proofs.lemmas.List.{map-append, append-nil, take_more, take-append-drop}
use Rattle.std.proofs.Math.Seq.{drop-cons}
use Rattle.ciborium_value.specs.Tree.{Tree, array, Trees, one_more}
use Rattle.ciborium_value.specs.View.{trees, view, views}
use Rattle.ciborium_value.specs.declared.value.Value.{Value}
use Rattle.ciborium_value.specs.declared.value.Value.TheVariants as code
use Rattle.ciborium_value.proofs.Views.{view_array}
use Rattle.coset_labels.specs.Arrays.{all_written}
use Rattle.coset_labels.specs.Faults.{CantWrite}
use Rattle.coset_labels.specs.declared.error.CoseError.{CoseError}
use Rattle.coset_labels.proofs.Arrays.{written_none, written_pushed}
use Rattle.coset_headers.specs.View.{header_view, protected_view}
use Rattle.coset_recipients.specs.PartsFields.{parts}
use Rattle.coset_recipients.specs.PartsWritten.{parts_trees}
use Rattle.coset_recipients.specs.Fields.{RecipientFields, recipients}
use Rattle.coset_recipients.specs.View.{recipient_view, recipients_view}
use Rattle.coset_recipients.specs.Walks.{parts_of}
use Rattle.coset_recipients.specs.Written.{fourth, whole, recipient_tree, recipients_trees}
use Rattle.coset_recipients.specs.declared.recipient.CoseRecipient.{CoseRecipient, out-CoseRecipient, roll-CoseRecipient}
use Rattle.coset_recipients.specs.declared.recipient.CoseRecipient.TheViews.{out-roll-CoseRecipient}
use Rattle.coset_recipients.proofs.RecipientParts.{recipient_out}

-- ---- lists
pub recipient_list : (rs : List RecipientFields) → recipients_trees (recipients rs) ≡ option_map trees (all_written recipient_tree rs)
recipient_list [] = refl
recipient_list (r ∷ rs) = go (recipient_tree r) (recipients_trees (recipients rs)) (all_written recipient_tree rs) (recipient_list rs) where
  go : (o : Option Tree) (p : Option Trees) (q : Option (List Tree)) → p ≡ option_map trees q
      → option_and_then (λ t. option_map (λ ts. one_more t ts) p) o ≡ option_map trees (option_and_then (λ t. option_map (λ ts. t ∷ ts) q) o)
  go None p q e = refl
  go (Some t) p None e = ap (option_map (λ ts. one_more t ts)) e
  go (Some t) p (Some ts) e = ap (option_map (λ ts. one_more t ts)) e

pub recipients_done : (all : List CoseRecipient) (vs : List Value) → all_written recipient_tree (map recipient_view all) ≡ Some (map view vs) → recipients_trees (recipients_view all) ≡ Some (views vs)
recipients_done all vs e = recipient_list (map recipient_view all) ∙ ap (option_map trees) e

pub recipients_fault : (all xs ys : List CoseRecipient) (x : CoseRecipient) (e : CoseError) → all ≡ xs ++ x ∷ ys → CantWrite (recipient_tree (recipient_view x)) e → CantWrite (recipients_trees (recipients_view all)) e
recipients_fault all xs ys x e q (inl m) = inl m
recipients_fault all xs ys x e q (inr (d, n)) =
    inr (
      d,
      recipient_list (map recipient_view all)
          ∙ ap (option_map trees) (ap (all_written recipient_tree) (ap (map recipient_view) q ∙ map-append recipient_view xs (x ∷ ys)) ∙ written_none recipient_tree (map recipient_view xs) (map recipient_view ys) (recipient_view x) n),
    )

-- the item of a turn, between those before it and those after it
pub parted : (all : List CoseRecipient) (i : ℕ) (x d : CoseRecipient) → i < length all → x ≡ get_or all i d → all ≡ take i all ++ x ∷ drop (suc i) all
parted all i x d h e = sym (take-append-drop i all) ∙ ap (λ z. take i all ++ z) (drop-cons all i d h ∙ ap (λ z. z ∷ drop (suc i) all) (sym e))

pub recipients_more : (all : List CoseRecipient) (i : ℕ) (x d : CoseRecipient) (vs ws : List Value) (v : Value) → i < length all → x ≡ get_or all i d → ws ≡ vs ++ v ∷ [] → all_written recipient_tree (map recipient_view (take i all)) ≡ Some (map view vs)
    → recipient_tree (recipient_view x) ≡ Some (view v) → all_written recipient_tree (map recipient_view (take (i + 1) all)) ≡ Some (map view ws)
recipients_more all i x d vs ws v h e q a b =
    ap (λ z. all_written recipient_tree (map recipient_view z)) (take_more all i d h ∙ ap (λ z. take i all ++ z ∷ []) (sym e))
    ∙ written_pushed recipient_tree recipient_view (take i all) x vs ws v q a b

-- ---- one recipient
abbrev inner_of : CoseRecipient → Option Trees
inner_of r = recipients_trees (recipients_view (out-CoseRecipient r).recipients.items)

tree_out : (r : CoseRecipient) → recipient_tree (recipient_view r) ≡ option_and_then (λ parts. option_map (λ ts. whole parts ts) (inner_of r)) (parts_of r)
tree_out r = ap recipient_tree (recipient_out r)

pub parts_fault : (r : CoseRecipient) (e : CoseError) → CantWrite (parts_of r) e → CantWrite (recipient_tree (recipient_view r)) e
parts_fault r e (inl m) = inl m
parts_fault r e (inr (d, n)) = inr (d, tree_out r ∙ ap (option_and_then (λ parts. option_map (λ ts. whole parts ts) (inner_of r))) n)

some_inside : {A B : Type 0} (f : A → B) (o : Option A) → option_and_then (λ a. Some (f a)) o ≡ option_map f o
some_inside f None = refl
some_inside f (Some a) = refl

pub recipient_wrote : (r : CoseRecipient) (ts : Trees) (t : Tree) → inner_of r ≡ Some ts → option_map (λ parts. whole parts ts) (parts_of r) ≡ Some t → recipient_tree (recipient_view r) ≡ Some t
recipient_wrote r ts t q e =
    tree_out r ∙ ap (λ o. option_and_then (λ parts. option_map (λ us. whole parts us) o) (parts_of r)) q ∙ some_inside (λ parts. whole parts ts) (parts_of r) ∙ e

-- other recipients in it
pub parts_kept : (r : CoseRecipient) (rs : Vec CoseRecipient Global) → parts_of (roll-CoseRecipient (record (out-CoseRecipient r) { recipients = rs })) ≡ parts_of r
parts_kept r rs = ap (λ o. parts_trees (parts (protected_view o.protected) (header_view o.unprotected) (option_map (λ v. v.items) o.ciphertext))) (out-roll-CoseRecipient (record (out-CoseRecipient r) { recipients = rs }))

pub wrote_three : (p : Option (List Tree)) (v w : Vec Value Global) → p ≡ Some (map view v.items) → w.items ≡ [] → option_map (λ parts. whole parts (views w.items)) p ≡ Some (view (code.Array v))
wrote_three p v w q e =
    ap (option_map (λ parts. whole parts (views w.items))) q ∙ ap (λ z. Some (array (trees (map view v.items ++ fourth (views z))))) e
    ∙ ap (λ z. Some (array (trees z))) (append-nil (map view v.items)) ∙ ap Some (sym (view_array v))

some_fourth : (xs : List Value) (w : Vec Value Global) → xs ≡ w.items → xs ≢ [] → fourth (views xs) ≡ view (code.Array w) ∷ []
some_fourth [] w e n = absurd (n refl)
some_fourth (x ∷ xs) w e n = ap (λ z. array (views z) ∷ []) e ∙ ap (λ z. z ∷ []) (sym (view_array w))

pub wrote_four : (p : Option (List Tree)) (u v w : Vec Value Global) → p ≡ Some (map view u.items) → w.items ≢ [] → v.items ≡ u.items ++ code.Array w ∷ [] → option_map (λ parts. whole parts (views w.items)) p ≡ Some (view (code.Array v))
wrote_four p u v w q n e =
    ap (option_map (λ parts. whole parts (views w.items))) q ∙ ap (λ z. Some (array (trees (map view u.items ++ z)))) (some_fourth w.items w refl n)
    ∙ ap (λ z. Some (array (trees z))) (sym (map-append view u.items (code.Array w ∷ []))) ∙ ap (λ z. Some (array (views z))) (sym e) ∙ ap Some (sym (view_array v))
