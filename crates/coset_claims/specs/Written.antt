-- The value that stands for a time or for claims (RFC 8392, sections 2, 3 and 3.1). Claims are
-- written as they are: a repeated name is written twice.
use Rattle.std.specs.Prelude.{ℕ, pos, List, [], ◌∷◌, ◌++◌, map, Option, Some, None}
use Rattle.ciborium_value.specs.Tree.{Tree, integer, bytes, text, float, map as map_tree}
use Rattle.ciborium_value.specs.View.{pairs}
use Rattle.ciborium_value.specs.Encoding.{Fits}
use Rattle.coset_labels.specs.Fields.{Named, assigned}
use Rattle.coset_labels.specs.Labels.{named_tree}
use Rattle.coset_claims.specs.Fields.{TimeFields, whole_seconds, fractional_seconds, ClaimsFields}

abbrev pub time_tree : TimeFields → Tree
time_tree (whole_seconds i) = integer i
time_tree (fractional_seconds f) = float f

-- the claim n, if it is set
abbrev pub field_entry : {A : Type 0} → (A → Tree) → ℕ → Option A → List (Named × Tree)
field_entry f n None = []
field_entry f n (Some x) = (assigned (pos n), f x) ∷ []

-- the entries in their fixed order
abbrev pub written_entries : ClaimsFields → List (Named × Tree)
written_entries c = field_entry text 1 c.issuer ++ (field_entry text 2 c.subject ++ (field_entry text 3 c.audience
    ++ (field_entry time_tree 4 c.expiration_time ++ (field_entry time_tree 5 c.not_before ++ (field_entry time_tree 6 c.issued_at
    ++ (field_entry bytes 7 c.cwt_id ++ c.rest))))))

abbrev pub entry_tree : Named × Tree → Tree × Tree
entry_tree e = (named_tree e.0, e.1)

abbrev pub claims_tree : ClaimsFields → Tree
claims_tree c = map_tree (pairs (map entry_tree (written_entries c)))

-- a field that is set can be written
abbrev pub FieldFits : {A : Type 0} → (A → Tree) → Option A → Type 0
FieldFits f None = Unit {0}
FieldFits f (Some x) = Fits (f x)
