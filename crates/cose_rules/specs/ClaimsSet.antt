-- Which claims set a value is (RFC 8392, sections 1.1 and 3).
use Rattle.std.specs.Prelude.{◌≡◌, [], ◌∷◌, ◌++◌, Option, None, Some, Result, Ok, Err, if◌then◌else◌}
use Rattle.ciborium_value.specs.Tree.{Tree, map}
use Rattle.coset_headers.specs.Written.{twice}
use Rattle.coset_labels.specs.Entries.{entries}
use Rattle.coset_labels.specs.Fields.{LabelFields}
use Rattle.coset_labels.specs.Labels.{label_of}
use Rattle.cose_rules.specs.Claims.{ClaimEntries}
use Rattle.cose_rules.specs.declared.claims_set.NoClaims.{NoClaims}
use Rattle.cose_rules.specs.declared.claims_set.NoClaims.TheVariants as fault

-- a map whose keys are integers of 64 bits or texts, none twice
abbrev pub once : Option ClaimEntries → Result ClaimEntries NoClaims
once None = Err fault.NotLabels
once (Some es) = if twice es then Err fault.Repeated else Ok es

abbrev pub claims_of : Tree → Result ClaimEntries NoClaims
claims_of (map ps) = once (entries label_of ps)
claims_of _ = Err fault.NotMap

-- one more entry is read
pub record ReadsClaim (key value : Tree) (before after : ClaimEntries) : Type 0 where
  pub label : LabelFields
  pub is : label_of key ≡ Some label
  pub more : after ≡ before ++ (label, value) ∷ []
