-- The secrets of a set of keys by their ids.
use Rattle.std.specs.Prelude.{◌≡◌, ℕ, List, [], ◌∷◌, if◌then◌else◌, Option, Some, None, option_map}
use Rattle.std.specs.Option.{option_or}
use denote.Ref.{Bor}
use Rattle.std.specs.BTreeMap.{BTreeMap, get_by}
use Rattle.std.specs.Cmp.Lexicographic.{slice_cmp}
use Rattle.std.specs.Ordering.{nat_cmp}
use Rattle.std.specs.Str.{bytes_eq}
use Rattle.coset_keys.specs.Fields.{KeyFields}
use Rattle.cose_gate_program.specs.Keys.{secret_under}
use Rattle.cose_gate_program.specs.declared.prepared.PreparedSecret.{PreparedSecret}

abbrev pub Secrets : Type 0
Secrets = BTreeMap (Bor (List ℕ)) PreparedSecret

abbrev pub secret_at : Secrets → List ℕ → Option (List ℕ)
secret_at m id = option_map (λ s. s.secret.now) (get_by (λ k. slice_cmp nat_cmp id k.now) m)

-- each id has the secret of the first key that fits it
abbrev pub IsIndexOf : Secrets → List KeyFields → Type 0
IsIndexOf m keys = (id : List ℕ) → secret_at m id ≡ secret_under id keys

-- the index n has what m has, and where m has nothing the secret of this key
abbrev pub AddsKey : Secrets → KeyFields → Secrets → Type 0
AddsKey m k n = (id : List ℕ) → secret_at n id ≡ option_or (secret_at m id) (secret_under id (k ∷ []))

-- n has what m has, and at this id, if m has nothing there, this secret
abbrev pub Enters : Secrets → List ℕ → List ℕ → Secrets → Type 0
Enters m id s n = (q : List ℕ) → secret_at n q ≡ option_or (secret_at m q) (if bytes_eq id q then Some s else None)
