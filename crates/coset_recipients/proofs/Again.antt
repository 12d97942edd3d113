-- What is written of a recipient that was read has its fields again.
use Rattle.std.proofs.Common.{◌≡◌, ℕ, inl, inr, List, ◌∷◌, Option, Some, None, option_map, option_and_then, refl, sym, ap, ◌∙◌}
use Rattle.ciborium_value.specs.Tree.{Tree, array, Trees, no_trees, one_more}
use Rattle.ciborium_value.specs.View.{trees}
use Rattle.coset_headers.proofs.Again.{trees_parts}
use Rattle.coset_recipients.specs.PartsFields.{parts}
use Rattle.coset_recipients.specs.PartsWritten.{optional_tree, parts_trees}
use Rattle.coset_recipients.proofs.PartsAgain.{map_made, and_made, parts_made}
use Rattle.coset_recipients.specs.Fields.{RecipientFields, recipient, RecipientsFields, no_recipients, recipient_more}
use Rattle.coset_recipients.specs.Shapes.{optional_list, HasRecipient, HasRecipients, HasInner, HasList}
use Rattle.coset_recipients.specs.Written.{fourth, whole, recipient_tree, recipients_trees, list_tree}

-- ---- what was written, by its parts
pub record Wrote (p : Option (List Tree)) (rs : RecipientsFields) (u : Tree) : Type 0 where
  pub parts : List Tree
  pub inner : Trees
  pub parts_are : p ≡ Some parts
  pub inner_is : recipients_trees rs ≡ Some inner
  pub is : whole parts inner ≡ u

pub wrote_of : (p : Option (List Tree)) (rs : RecipientsFields) (u : Tree) → option_and_then (λ ps. option_map (λ ts. whole ps ts) (recipients_trees rs)) p ≡ Some u → Wrote p rs u
wrote_of p rs u e =
    let w = and_made (λ ps. option_map (λ ts. whole ps ts) (recipients_trees rs)) p u e in
    let l = map_made (λ ts. whole w.0 ts) (recipients_trees rs) u w.2 in
    record { parts = w.0; inner = l.0; parts_are = w.1; inner_is = l.1; is = l.2 }

pub none_written : (rs : RecipientsFields) (ts : Trees) → rs ≡ no_recipients → recipients_trees rs ≡ Some ts → ts ≡ no_trees
none_written rs ts e f = let g : Some no_trees ≡ Some ts = sym (ap recipients_trees e) ∙ f in cc

-- ---- the fourth element
abbrev item_of : Trees → Option Tree
item_of no_trees = None
item_of (one_more t ts) = Some (array (one_more t ts))

item_listed : (ts : Trees) → optional_list (item_of ts) ≡ fourth ts
item_listed no_trees = refl
item_listed (one_more t ts) = refl

inner_made : (n : ℕ) (rs : RecipientsFields) (ts : Trees) (k : ℕ) → HasRecipients n ts rs k → HasInner n (item_of ts) rs k
inner_made n no_recipients no_trees k a = inl (refl, refl)
inner_made n no_recipients (one_more t ts) k a = let e : one_more t ts ≡ no_trees = a in absurd (let f : ⊥ = cc in f)
inner_made n (recipient_more r rs) no_trees k a = let e : no_trees ≡ one_more a.0 a.1 = a.2 in absurd (let f : ⊥ = cc in f)
inner_made n (recipient_more r rs) (one_more t ts) k a = inr (one_more t ts, refl, a)

inner_again : (n : ℕ) (rs : RecipientsFields) (o : Option Tree) (ts : Trees) (k : ℕ) → ((us : Trees) → HasRecipients n us rs k → HasRecipients n ts rs k) → recipients_trees rs ≡ Some ts → HasInner n o rs k
    → HasInner n (item_of ts) rs k
inner_again n rs o ts k f e (inl a) = inl (ap item_of (none_written rs ts a.1 e), a.1)
inner_again n rs o ts k f e (inr a) = inner_made n rs ts k (f a.0 a.2)

mutual
  pub recipient_again : (n : ℕ) (r : RecipientFields) (t u : Tree) (k : ℕ) → HasRecipient n t r k → recipient_tree r ≡ Some u → HasRecipient n u r k
  recipient_again n (recipient p h c rs) t u k a e =
      let w = wrote_of (parts_trees (parts p h c)) rs u e in
      let m = parts_made n a.0 a.1 a.2 p h c w.parts k a.5 w.parts_are in (
        m.first,
        m.second,
        optional_tree c,
        item_of w.inner,
        sym w.is ∙ ap (λ z. whole z w.inner) (sym m.is) ∙ ap (λ q. array (trees (m.first ∷ m.second ∷ optional_tree c ∷ q))) (sym (item_listed w.inner)),
        m.parts,
        inner_again n rs a.3 w.inner k (λ us b. recipients_again n rs us w.inner k b w.inner_is) w.inner_is a.6,
      )

  pub recipients_again : (n : ℕ) (rs : RecipientsFields) (ts us : Trees) (k : ℕ) → HasRecipients n ts rs k → recipients_trees rs ≡ Some us → HasRecipients n us rs k
  recipients_again n no_recipients ts us k a e = let h : no_trees ≡ us = (let f : Some no_trees ≡ Some us = e in cc) in sym h
  recipients_again n (recipient_more r rs) ts us k a e =
      let w = trees_parts (recipient_tree r) (recipients_trees rs) us e in
      (w.0, w.1, sym w.4, recipient_again n r a.0 w.0 k a.3 w.2, recipients_again n rs a.1 w.1 k a.4 w.3)

pub list_again : (n : ℕ) (rs : RecipientsFields) (t u : Tree) (k : ℕ) → HasList n t rs k → list_tree rs ≡ Some u → HasList n u rs k
list_again n rs t u k a e =
    let w = map_made array (recipients_trees rs) u e in
    (w.0, sym w.2, recipients_again n rs a.0 w.0 k a.2 w.1)
