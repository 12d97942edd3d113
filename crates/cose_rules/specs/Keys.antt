-- Which keys of a set are candidates (RFC 9052, sections 3.1 and 7.1; RFC 9053, section 7; RFC
-- 8230, section 4).
use Rattle.std.specs.Prelude.{ℕ, ℤ, pos, length, List, [], ◌∷◌, Bool, true, false, ◌&&◌, ◌||◌, not, nat_eq, nat_lt, nat_le, Option, None, Some, option_and_then, is_none, if◌then◌else◌}
use Rattle.std.specs.List.{list_any}
use Rattle.std.specs.Ordering.{int_eq}
use Rattle.std.specs.Str.{bytes_eq}
use Rattle.cose_iana.specs.Registry.{neg}
use Rattle.ciborium_value.specs.Folding.{without_zeros}
use Rattle.ciborium_value.specs.Kinds.{is_bool}
use Rattle.ciborium_value.specs.Tree.{Tree, integer, bytes}
use Rattle.coset_labels.specs.Fields.{LabelFields, Named, private_use, assigned, named}
use Rattle.coset_keys.specs.Fields.{KeyFields}
use Rattle.cose_rules.specs.Algorithms.{okp, ec2, rsa}
use Rattle.cose_rules.specs.Labels.{is_there, value_at}
use Rattle.cose_rules.specs.declared.algorithms.Curves.{Curves}
use Rattle.cose_rules.specs.declared.algorithms.Curves.TheVariants.{Any, One, Either}
use Rattle.cose_rules.specs.declared.algorithms.Scheme.{Scheme}
use Rattle.cose_rules.specs.declared.keys.KeyFault.{KeyFault}
use Rattle.cose_rules.specs.declared.keys.KeyFault.TheVariants as fault

-- the entries of a key beside those that all types of keys have
abbrev pub Params : Type 0
Params = List (LabelFields × Tree)

-- the entry of a registry with this number
abbrev pub is_entry : ℤ → Named → Bool
is_entry i (private_use j) = false
is_entry i (assigned j) = int_eq j i
is_entry i (named b) = false

-- the curve, if it is an integer (RFC 9053, sections 7.1.1 and 7.2)
abbrev pub integer_of : Tree → Option ℤ
integer_of (integer i) = Some i
integer_of _ = None

abbrev pub curve_in : Params → Option ℤ
curve_in es = option_and_then integer_of (value_at (neg 1) es)

abbrev pub is_curve : ℤ → Option ℤ → Bool
is_curve c None = false
is_curve c (Some i) = int_eq i c

abbrev pub are_curves : Curves → Option ℤ → Bool
are_curves Any found = true
are_curves (One c) found = is_curve c found
are_curves (Either c d) found = is_curve c found || is_curve d found

-- the key is for this algorithm or for any
abbrev pub allows : ℤ → Option Named → Bool
allows wanted None = true
allows wanted (Some n) = is_entry wanted n

-- it is for this operation or for any
abbrev pub permits : ℤ → List Named → Bool
permits operation [] = true
permits operation (n ∷ ns) = list_any (is_entry operation) (n ∷ ns)

-- HMAC 256/64, whose tags have 64 bits, is taken only under a key that names its algorithm
abbrev pub is_named : ℤ → Option Named → Bool
is_named wanted None = not (int_eq wanted (pos 4))
is_named wanted (Some n) = true

-- the byte string at a label
abbrev pub bytes_of : Tree → Option (List ℕ)
bytes_of (bytes b) = Some b
bytes_of _ = None

abbrev pub bytes_at : ℤ → Params → Option (List ℕ)
bytes_at i es = option_and_then bytes_of (value_at i es)

-- a part of the key: a byte string that isn't empty; y may be the sign of the point alone (RFC 9053,
-- section 7.1.1)
abbrev pub has_bytes : Tree → Bool
has_bytes (bytes b) = is_there b
has_bytes _ = false

abbrev pub is_part : Option Tree → Bool
is_part None = false
is_part (Some t) = has_bytes t

abbrev pub is_y : Option Tree → Bool
is_y None = false
is_y (Some t) = has_bytes t || is_bool t

-- a number of at least 2,048 bits (RFC 8230, section 2), the highest byte first: of its bytes
-- without zeros in front
abbrev pub is_long : List ℕ → Bool
is_long [] = false
is_long (b ∷ bs) = nat_lt 255 (length bs) || (nat_eq (length bs) 255 && nat_le 128 b)

abbrev pub has_long : Tree → Bool
has_long (bytes b) = is_long (without_zeros b)
has_long _ = false

abbrev pub is_modulus : Option Tree → Bool
is_modulus None = false
is_modulus (Some t) = has_long t

-- which part isn't there (RFC 9053, sections 7.1.1, 7.2 and 7.3; RFC 8230, section 4)
abbrev pub okp_fault : Params → Option KeyFault
okp_fault es = if is_part (value_at (neg 2) es) then None else Some fault.MissingX

abbrev pub ec2_fault : Params → Option KeyFault
ec2_fault es =
    if not (is_part (value_at (neg 2) es)) then Some fault.MissingX
    else if is_y (value_at (neg 3) es) then None else Some fault.MissingY

abbrev pub rsa_fault : Params → Option KeyFault
rsa_fault es =
    if not (is_part (value_at (neg 1) es)) then Some fault.MissingN
    else if not (is_part (value_at (neg 2) es)) then Some fault.MissingE
    else if is_modulus (value_at (neg 1) es) then None else Some fault.ShortModulus

abbrev pub symmetric_fault : Params → Option KeyFault
symmetric_fault es = if is_part (value_at (neg 1) es) then None else Some fault.MissingK

abbrev pub part_fault : ℤ → Params → Option KeyFault
part_fault kty es =
    if int_eq kty okp then okp_fault es
    else if int_eq kty ec2 then ec2_fault es
    else if int_eq kty rsa then rsa_fault es
    else symmetric_fault es

-- why a key isn't one for a scheme: the first of these that holds
abbrev pub use_fault : Scheme → KeyFields → Option KeyFault
use_fault s k =
    if not (allows s.number k.alg) then Some fault.OtherAlgorithm
    else if not (permits s.operation k.key_ops) then Some fault.OtherOperation
    else if not (is_named s.number k.alg) then Some fault.NoAlgorithm
    else part_fault s.kty k.params

abbrev pub key_fault : Scheme → KeyFields → Option KeyFault
key_fault s k =
    if not (is_entry s.kty k.kty) then Some fault.OtherType
    else if not (are_curves s.curves (curve_in k.params)) then Some fault.OtherCurve
    else use_fault s k

-- it has this id, which is empty if there is none
abbrev pub has_id : List ℕ → KeyFields → Bool
has_id id k = bytes_eq k.key_id id

-- it is a candidate
abbrev pub fits : Scheme → List ℕ → KeyFields → Bool
fits s id k = has_id id k && is_none (key_fault s k)
