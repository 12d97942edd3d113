-- Parts that were read can be written.
use Rattle.std.proofs.Common.{◌≢◌, ℕ, List, [], ◌∷◌, Option, None}
use Rattle.ciborium_value.specs.Tree.{Tree, bytes}
use Rattle.coset_headers.specs.Fields.{HeaderFields, ProtectedFields}
use Rattle.coset_headers.specs.Written.{header_tree, shown}
use Rattle.coset_headers.proofs.Writable.{map_some, and_some, hdr_some, prot_some}
use Rattle.coset_recipients.specs.PartsFields.{parts}
use Rattle.coset_recipients.specs.PartShapes.{HasParts}
use Rattle.coset_recipients.specs.PartsWritten.{optional_tree, parts_trees}

pub parts_some : (n : ℕ) (x y z : Tree) (p : ProtectedFields) (u : HeaderFields) (c : Option (List ℕ)) (k : ℕ) → HasParts n x y z (parts p u c) k → parts_trees (parts p u c) ≢ None
parts_some n x y z p u c k h =
    and_some _ (shown p) (prot_some n p x k h.protected) (λ b. map_some (λ t. bytes b ∷ t ∷ optional_tree c ∷ []) (header_tree u) (hdr_some n u y k h.unprotected))
