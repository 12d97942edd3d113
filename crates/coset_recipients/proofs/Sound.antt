-- What is written of a recipient that was read nests no deeper than it did, and is read again.
use Rattle.std.proofs.Common.{◌≡◌, ℕ, ◌≤◌, ◌-◌, inl, inr, Option, Some, sym, subst}
use Rattle.ciborium_value.specs.Tree.{Tree, array, Trees, no_trees, one_more}
use Rattle.ciborium_value.specs.View.{trees}
use Rattle.coset_headers.proofs.Again.{trees_parts}
use Rattle.coset_headers.proofs.Sound.{Sound, SoundAll, array_inside, array_sound, all_none, all_more, all_parts}
use Rattle.coset_recipients.specs.PartsFields.{parts}
use Rattle.coset_recipients.specs.PartsWritten.{parts_trees}
use Rattle.coset_recipients.proofs.PartsAgain.{map_made}
use Rattle.coset_recipients.proofs.PartsSound.{whole_sound, one_sound, only}
use Rattle.coset_recipients.specs.Fields.{RecipientFields, recipient, RecipientsFields, no_recipients, recipient_more}
use Rattle.coset_recipients.specs.Shapes.{optional_list, HasRecipient, HasRecipients, HasInner, HasList}
use Rattle.coset_recipients.specs.Written.{fourth, recipient_tree, recipients_trees, list_tree}
use Rattle.coset_recipients.proofs.Again.{wrote_of, none_written}

-- an array of recipients is a fourth element only if it isn't empty
fourth_sound : (d : ℕ) (ts : Trees) → 1 ≤ d → SoundAll (d - 1) ts → SoundAll d (trees (fourth ts))
fourth_sound d no_trees l s = all_none d
fourth_sound d (one_more t ts) l s = one_sound d (array (one_more t ts)) (array_sound d (one_more t ts) l s)

inner_sound : (n : ℕ) (rs : RecipientsFields) (o : Option Tree) (ts : Trees) (k d : ℕ) → ((us : Trees) → HasRecipients n us rs k → SoundAll (d - 1) us → SoundAll (d - 1) ts) → recipients_trees rs ≡ Some ts
    → HasInner n o rs k → SoundAll d (trees (optional_list o)) → SoundAll d (trees (fourth ts))
inner_sound n rs o ts k d f e (inl a) s = subst (λ z. SoundAll d (trees (fourth z))) (sym (none_written rs ts a.1 e)) (all_none d)
inner_sound n rs o ts k d f e (inr a) s =
    let m = array_inside d a.0 (only d (array a.0) (subst (λ z. SoundAll d (trees (optional_list z))) a.1 s)) in
    fourth_sound d ts m.0 (f a.0 a.2 m.1)

mutual
  pub recipient_sound : (n : ℕ) (r : RecipientFields) (t u : Tree) (k d : ℕ) → HasRecipient n t r k → recipient_tree r ≡ Some u → Sound d t → Sound d u
  recipient_sound n (recipient p h c rs) t u k d a e s =
      let w = wrote_of (parts_trees (parts p h c)) rs u e in
      subst (Sound d) w.is
      (whole_sound n a.0 a.1 a.2 p h c (trees (optional_list a.3)) w.parts (fourth w.inner) k d a.5 w.parts_are (subst (Sound d) a.4 s)
      (λ r. inner_sound n rs a.3 w.inner k (d - 1) (λ us b q. recipients_sound n rs us w.inner k (d - 1 - 1) b w.inner_is q) w.inner_is a.6 r))

  pub recipients_sound : (n : ℕ) (rs : RecipientsFields) (ts us : Trees) (k d : ℕ) → HasRecipients n ts rs k → recipients_trees rs ≡ Some us → SoundAll d ts → SoundAll d us
  recipients_sound n no_recipients ts us k d a e s = let h : no_trees ≡ us = (let f : Some no_trees ≡ Some us = e in cc) in subst (SoundAll d) h (all_none d)
  recipients_sound n (recipient_more r rs) ts us k d a e s =
      let w = trees_parts (recipient_tree r) (recipients_trees rs) us e in
      let both = all_parts d a.0 a.1 (subst (SoundAll d) a.2 s) in
      subst (SoundAll d) w.4 (all_more d w.0 w.1 (recipient_sound n r a.0 w.0 k d a.3 w.2 both.0) (recipients_sound n rs a.1 w.1 k d a.4 w.3 both.1))

pub list_sound : (n : ℕ) (rs : RecipientsFields) (t u : Tree) (k d : ℕ) → HasList n t rs k → list_tree rs ≡ Some u → Sound d t → Sound d u
list_sound n rs t u k d a e s =
    let w = map_made array (recipients_trees rs) u e in
    let m = array_inside d a.0 (subst (Sound d) a.1 s) in
    subst (Sound d) w.2 (array_sound d w.0 m.0 (recipients_sound n rs a.0 w.0 k (d - 1) a.2 w.1 m.1))
