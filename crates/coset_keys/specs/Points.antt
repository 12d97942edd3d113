-- Points of keys over elliptic curves, as octet strings (SEC 1, section 2.3.3) and in keys (RFC
-- 9053, section 7.1.1).
use Rattle.std.specs.Prelude.{◌≡◌, ◌≢◌, ◌⊎◌, ℕ, ℤ, pos, negsuc, List, [], ◌∷◌, ◌++◌, length, Bool, true, false, if◌then◌else◌, Option, Some, None}
use Rattle.std.specs.Ordering.{is_eq}
use Rattle.ciborium_value.specs.Tree.{Tree, integer, bytes, is_bytes}
use Rattle.ciborium_value.specs.Kinds.{is_bool}
use Rattle.ciborium_value.specs.View.{bool_tree}
use Rattle.coset_labels.specs.Fields.{LabelFields, number, assigned}
use Rattle.coset_labels.specs.Orders.{label_cmp}
use Rattle.coset_keys.specs.Fields.{KeyFields, no_key}
use Rattle.coset_keys.specs.declared.sec1.ToSec1OctetStringError.{ToSec1OctetStringError}
use Rattle.coset_keys.specs.declared.sec1.ToSec1OctetStringError.TheVariants as code

-- x with the sign of y, or x and y
pub data Point : Type 0 where
  signed : List ℕ → Bool → Point
  both : List ℕ → List ℕ → Point

abbrev pub sign_byte : Bool → ℕ
sign_byte false = 2
sign_byte true = 3

-- the octet string of a point; of two coordinates both have one length
abbrev pub IsSec1 : List ℕ → Point → Type 0
IsSec1 b (signed x s) = b ≡ sign_byte s ∷ x
IsSec1 b (both x y) = (b ≡ 4 ∷ (x ++ y)) × (length x ≡ length y)

-- the labels of the curve and of x, y and d
abbrev pub curve_label : LabelFields
curve_label = number (negsuc 0)

abbrev pub x_label : LabelFields
x_label = number (negsuc 1)

abbrev pub y_label : LabelFields
y_label = number (negsuc 2)

abbrev pub d_label : LabelFields
d_label = number (negsuc 3)

abbrev pub x_tree : Point → Tree
x_tree (signed x s) = bytes x
x_tree (both x y) = bytes x

abbrev pub y_tree : Point → Tree
y_tree (signed x s) = bool_tree s
y_tree (both x y) = bytes y

-- a public key of the type EC2, 2
abbrev pub ec2_params : ℤ → Tree → Tree → KeyFields
ec2_params curve x y = record no_key { kty = assigned (pos 2); params = (curve_label, integer curve) ∷ (x_label, x) ∷ (y_label, y) ∷ [] }

abbrev pub ec2_key : ℤ → Point → KeyFields
ec2_key curve p = ec2_params curve (x_tree p) (y_tree p)

-- the value of the first entry with this label
abbrev pub first_at : LabelFields → List (LabelFields × Tree) → Option Tree
first_at l [] = None
first_at l (e ∷ es) = if is_eq (label_cmp e.0 l) then Some e.1 else first_at l es

abbrev pub x_of : KeyFields → Option Tree
x_of k = first_at x_label k.params

abbrev pub y_of : KeyFields → Option Tree
y_of k = first_at y_label k.params

-- the point of a key
pub record HasPoint (k : KeyFields) (p : Point) : Type 0 where
  pub kty : k.kty ≡ assigned (pos 2)
  pub x : x_of k ≡ Some (x_tree p)
  pub y : y_of k ≡ Some (y_tree p)

-- why two values are no coordinates of a point: x first
pub data WrongCoordinates (x y : Tree) (e : ToSec1OctetStringError) : Type 0 where
  no_x : is_bytes x ≡ false → e ≡ code.InvalidCoordinateType → WrongCoordinates x y e
  no_y : is_bytes x ≡ true → is_bytes y ≡ false → is_bool y ≡ false → e ≡ code.InvalidCoordinateType → WrongCoordinates x y e
  unequal : (a b : List ℕ) → x ≡ bytes a → y ≡ bytes b → length a ≢ length b → e ≡ code.UnequalCoordinateLength → WrongCoordinates x y e

-- why a key has no octet string of a point: its type first, then what is missing, then the
-- coordinates
pub data WrongPoint (k : KeyFields) (e : ToSec1OctetStringError) : Type 0 where
  no_ec_key : k.kty ≢ assigned (pos 2) → e ≡ code.NotEcKey → WrongPoint k e
  missing : k.kty ≡ assigned (pos 2) → (x_of k ≡ None) ⊎ (y_of k ≡ None) → e ≡ code.MissingCoordinate → WrongPoint k e
  no_coordinates : (x y : Tree) → k.kty ≡ assigned (pos 2) → x_of k ≡ Some x → y_of k ≡ Some y → WrongCoordinates x y e → WrongPoint k e
