-- The value that stands for the fields of a recipient (RFC 9052, section 5.1). There is none if a
-- header can't be written.
use Rattle.std.specs.Prelude.{List, [], ◌∷◌, ◌++◌, Option, Some, option_map, option_and_then}
use Rattle.ciborium_value.specs.Tree.{Tree, array, Trees, no_trees, one_more}
use Rattle.ciborium_value.specs.View.{trees}
use Rattle.coset_recipients.specs.PartsFields.{parts}
use Rattle.coset_recipients.specs.PartsWritten.{parts_trees}
use Rattle.coset_recipients.specs.Fields.{RecipientFields, recipient, RecipientsFields, no_recipients, recipient_more}

-- the fourth element: none if there is no recipient
abbrev pub fourth : Trees → List Tree
fourth no_trees = []
fourth (one_more t ts) = array (one_more t ts) ∷ []

abbrev pub whole : List Tree → Trees → Tree
whole parts ts = array (trees (parts ++ fourth ts))

abbrev mutual
  pub recipient_tree : RecipientFields → Option Tree
  recipient_tree (recipient p u c rs) = option_and_then (λ parts. option_map (λ ts. whole parts ts) (recipients_trees rs)) (parts_trees (parts p u c))

  pub recipients_trees : RecipientsFields → Option Trees
  recipients_trees no_recipients = Some no_trees
  recipients_trees (recipient_more r rs) = option_and_then (λ t. option_map (λ ts. one_more t ts) (recipients_trees rs)) (recipient_tree r)

-- the array of recipients, which is in a message even if it is empty
abbrev pub list_tree : RecipientsFields → Option Tree
list_tree rs = option_map array (recipients_trees rs)
