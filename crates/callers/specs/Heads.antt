-- What a walk over heads finds.
use Rattle.std.specs.Prelude.{◌≡◌, ℕ, List, Option, None}
use Rattle.ciborium_ll.specs.Title.{IsCut, StartsBad}
use Rattle.ciborium_ll.specs.declared.hdr.Header.{Header}
use Rattle.ciborium_ll.specs.declared.hdr.Header.TheVariants.{Array}
use Rattle.ciborium_ll.specs.declared.hdr.Error.{Error}
use Rattle.ciborium_ll.specs.declared.hdr.Error.TheVariants.{Io, Syntax, TooLong, Waiting}

-- why no head is at the front of the bytes
abbrev pub IsNoHead : {E : Type 0} → List ℕ → Error E → Type 0
IsNoHead b (Io e) = IsCut b
IsNoHead b (Syntax p) = StartsBad b × (p ≡ 0)
IsNoHead b TooLong = ⊥
IsNoHead b Waiting = ⊥

-- the length of an array
abbrev pub len_of : Header → Option ℕ
len_of (Array len) = len
len_of _ = None
