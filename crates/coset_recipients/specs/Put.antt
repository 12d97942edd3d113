-- What parts and recipients are written as straight from their fields (RFC 9052, sections 4.2, 5.1
-- and 6.2), and the events of their parts. Only what is as received is written so.
use Rattle.std.specs.Prelude.{ℕ, List, [], ◌∷◌, ◌++◌, Bool, true, ◌&&◌}
use Rattle.ciborium_value.specs.Tree.{Tree, array, Trees, no_trees, one_more, tree_count}
use Rattle.ciborium_value.specs.View.{trees}
use Rattle.ciborium_traits.specs.Events as event
use Rattle.ciborium_traits.specs.Events.{Event, events_all}
use Rattle.coset_headers.specs.Received.{is_received_protected, is_received_header}
use Rattle.coset_base.specs.Put.{protected_put, header_put}
use Rattle.coset_recipients.specs.PartsFields.{PartsFields, parts}
use Rattle.coset_recipients.specs.PartsWritten.{optional_tree}
use Rattle.coset_recipients.specs.Fields.{RecipientFields, recipient, RecipientsFields, no_recipients, recipient_more}
use Rattle.coset_recipients.specs.Written.{whole}

-- the protected header, the unprotected one, and bytes or null
abbrev pub parts_put : PartsFields → List Tree
parts_put f = protected_put f.protected ∷ header_put f.unprotected ∷ optional_tree f.content ∷ []

-- the array of the parts and of the last items
abbrev pub whole_put : PartsFields → List Tree → Tree
whole_put f lasts = array (trees (parts_put f ++ lasts))

-- a recipient without recipients of its own has no fourth element
abbrev mutual
  pub recipient_put : RecipientFields → Tree
  recipient_put (recipient p u c rs) = whole (parts_put (parts p u c)) (recipients_put rs)

  pub recipients_put : RecipientsFields → Trees
  recipients_put no_recipients = no_trees
  recipients_put (recipient_more r rs) = one_more (recipient_put r) (recipients_put rs)

-- the headers are as received, and so are those of the recipients inside
abbrev pub are_received_parts : PartsFields → Bool
are_received_parts f = is_received_protected f.protected && is_received_header f.unprotected

abbrev mutual
  pub is_received_recipient : RecipientFields → Bool
  is_received_recipient (recipient p u c rs) = are_received_parts (parts p u c) && are_received_recipients rs

  pub are_received_recipients : RecipientsFields → Bool
  are_received_recipients no_recipients = true
  are_received_recipients (recipient_more r rs) = is_received_recipient r && are_received_recipients rs

-- the events of the beginning of an array of so many items, and of the parts that come first
abbrev pub begun : ℕ → PartsFields → List Event
begun n f = event.array n ∷ events_all (trees (parts_put f))

-- the event of the beginning of the list of recipients inside a recipient, if there are any
abbrev pub inner_begun : Trees → List Event
inner_begun no_trees = []
inner_begun (one_more t ts) = event.array (tree_count (one_more t ts)) ∷ []

-- how many items a recipient has
abbrev pub item_count : Trees → ℕ
item_count no_trees = 3
item_count (one_more t ts) = 4

-- the events of a recipient up to the recipients inside it
abbrev pub recipient_begun : RecipientFields → List Event
recipient_begun (recipient p u c rs) = begun (item_count (recipients_put rs)) (parts p u c) ++ inner_begun (recipients_put rs)
