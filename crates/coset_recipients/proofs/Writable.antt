-- What was read can be written.
use Rattle.std.proofs.Common.{◌≢◌, ℕ, inl, inr, List, Option, None, sym, subst}
use Rattle.ciborium_value.specs.Tree.{Tree, array, Trees, no_trees, one_more}
use Rattle.coset_base.specs.Contexts.{encryption_text}
use Rattle.coset_base.specs.declared.context.EncryptionContext.{EncryptionContext}
use Rattle.coset_headers.proofs.Writable.{some_is, map_some, and_some, prot_some}
use Rattle.coset_base.proofs.Writable.{enc_data_some}
use Rattle.coset_recipients.specs.PartsFields.{parts}
use Rattle.coset_recipients.specs.PartsWritten.{parts_trees}
use Rattle.coset_recipients.proofs.PartsWritable.{parts_some}
use Rattle.coset_recipients.specs.Fields.{RecipientFields, recipient, RecipientsFields, no_recipients, recipient_more}
use Rattle.coset_recipients.specs.Shapes.{HasRecipient, HasRecipients, HasInner, HasList}
use Rattle.coset_recipients.specs.Structure.{recipient_structure}
use Rattle.coset_recipients.specs.Written.{whole, recipient_tree, recipients_trees, list_tree}

pub inner_some : (n : ℕ) (rs : RecipientsFields) (o : Option Tree) (k : ℕ) → ((ts : Trees) → HasRecipients n ts rs k → recipients_trees rs ≢ None) → HasInner n o rs k → recipients_trees rs ≢ None
inner_some n rs o k f (inl a) = subst (λ z. recipients_trees z ≢ None) (sym a.1) (some_is no_trees)
inner_some n rs o k f (inr a) = f a.0 a.2

mutual
  pub recipient_some : (n : ℕ) (r : RecipientFields) (t : Tree) (k : ℕ) → HasRecipient n t r k → recipient_tree r ≢ None
  recipient_some n (recipient p u c rs) t k a =
      and_some _ (parts_trees (parts p u c)) (parts_some n a.0 a.1 a.2 p u c k a.5)
      (λ ps. map_some (λ ts. whole ps ts) (recipients_trees rs) (inner_some n rs a.3 k (λ ts x. recipients_some n rs ts k x) a.6))

  pub recipients_some : (n : ℕ) (rs : RecipientsFields) (ts : Trees) (k : ℕ) → HasRecipients n ts rs k → recipients_trees rs ≢ None
  recipients_some n no_recipients ts k a = some_is no_trees
  recipients_some n (recipient_more r rs) ts k a =
      and_some _ (recipient_tree r) (recipient_some n r a.0 k a.3) (λ t. map_some (λ us. one_more t us) (recipients_trees rs) (recipients_some n rs a.1 k a.4))

pub list_some : (n : ℕ) (rs : RecipientsFields) (t : Tree) (k : ℕ) → HasList n t rs k → list_tree rs ≢ None
list_some n rs t k a = map_some array (recipients_trees rs) (recipients_some n rs a.0 k a.2)

pub structure_some : (x : EncryptionContext) (n : ℕ) (r : RecipientFields) (t : Tree) (k : ℕ) (aad : List ℕ) → HasRecipient n t r k → recipient_structure x r aad ≢ None
structure_some x n (recipient p u c rs) t k aad a = enc_data_some (encryption_text x) p aad (prot_some n p a.0 k a.5.protected)
