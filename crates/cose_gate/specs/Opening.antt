-- What the bytes of a message show from its tag on, whether or not an item is readable: how far
-- they are right, and which fault of shape comes then (RFC 9052, sections 2, 4.2 and 6.2).
use Rattle.std.specs.Prelude.{◌≡◌, ◌≢◌, ℕ, ◌-◌, ◌<◌, ◌≤◌, ◌⊎◌, List, ◌∷◌, ◌++◌, length, Option, None, Some, false, IsTrue}
use Rattle.ciborium_ll.specs.declared.hdr.Header.{Header}
use Rattle.ciborium_ll.specs.declared.hdr.Header.TheVariants.{Simple, Tag, Bytes, Array, Break}
use Rattle.ciborium_ll.specs.Title.{Begins}
use Rattle.ciborium_value.specs.Tree.{Tree, array, tag, Trees, no_trees, one_more, tree_count, is_bytes}
use Rattle.ciborium.specs.Front.{Front, Fronts}
use Rattle.coset_headers.specs.Fields.{HeaderFields, ProtectedFields}
use Rattle.coset_headers.specs.Headers.{HasProtected, HasHeader}
use Rattle.coset_headers.specs.Wrong.{WrongProtected, WrongHeader}
use Rattle.coset_labels.specs.Faults.{CoseFault, unexpected}
use Rattle.cose_gate_core.specs.Findings.{Bounds}
use Rattle.cose_gate_core.specs.Misshapen.{IsMisshapen}
use Rattle.cose_gate.specs.Stated.{IsSingleTag, IsFour}

-- the bytes begin with the tag of a message that is checked, and an array of four
pub record BeginsMessage (b : List ℕ) : Type 0 where
  pub number : ℕ
  pub inside : List ℕ
  pub count : Option ℕ
  pub items : List ℕ
  pub is_single : IsSingleTag number
  pub tag_first : Begins b (Tag number) inside
  pub array_next : Begins inside (Array count) items
  pub is_four : IsFour count

-- an element that is a protected header, or a header
abbrev pub IsProtected : Bounds → Tree → Type 0
IsProtected limits t = (p : ProtectedFields) × HasProtected limits.nesting t p limits.layers

abbrev pub IsHeaderItem : Bounds → Tree → Type 0
IsHeaderItem limits t = (h : HeaderFields) × HasHeader limits.nesting t h limits.layers

abbrev pub AreStrings : Trees → Type 0
AreStrings no_trees = Unit {0}
AreStrings (one_more t ts) = IsTrue (is_bytes t) × AreStrings ts

-- elements that are right in their places: a protected header, a header, and two byte strings, the
-- payload and the signature or tag
abbrev pub AreInPlace : Bounds → Trees → Type 0
AreInPlace limits no_trees = Unit {0}
AreInPlace limits (one_more a no_trees) = IsProtected limits a
AreInPlace limits (one_more a (one_more b ts)) =
    IsProtected limits a × IsHeaderItem limits b × AreStrings ts

-- such a message is begun, with these elements, each right in its place; tag and array are open
-- around them
pub record RightUpTo (limits : Bounds) (b : List ℕ) (elements : Trees) (rest : List ℕ)
    : Type 0 where
  pub begins : BeginsMessage b
  pub fronts : Fronts begins.items (limits.nesting - 2) elements rest
  pub in_place : AreInPlace limits elements

-- the bytes are right up to the payload, and a title of h is in its place
pub record MessageOpening (limits : Bounds) (b : List ℕ) (h : Header) : Type 0 where
  pub headers : Trees
  pub third : List ℕ
  pub behind : List ℕ
  pub right : RightUpTo limits b headers third
  pub are_two : tree_count headers ≡ 2
  pub title : Begins third h behind

-- the bytes are right up to a payload whose title states its length, and it begins with this text
pub record BeginsPayload (limits : Bounds) (b text : List ℕ) : Type 0 where
  pub size : ℕ
  pub opening : MessageOpening limits b (Bytes (Some size))
  pub rest : List ℕ
  pub follows : opening.behind ≡ text ++ rest
  pub fits : length text ≤ size

-- what shows that bytes with the tag of such a message begin none. In front of the fault all is
-- right; what is after it may be cut or damaged.
pub data ShowsFault (limits : Bounds) (b : List ℕ) : CoseFault → Type 0 where
  no_array_of_four : (number : ℕ) (inside items : List ℕ) (h : Header) → IsSingleTag number
      → Begins b (Tag number) inside → Begins inside h items
      → ((o : Option ℕ) → IsFour o → h ≢ Array o) → ShowsFault limits b unexpected
  break_too_early : (elements : Trees) (rest : List ℕ) → RightUpTo limits b elements (255 ∷ rest)
      → tree_count elements < 4 → ShowsFault limits b unexpected
  no_protected : (t : Tree) (items rest : List ℕ) (e : CoseFault)
      → RightUpTo limits b no_trees items → Front items (limits.nesting - 2) t rest
      → WrongProtected limits.nesting t limits.layers e → ShowsFault limits b e
  no_header : (first t : Tree) (items rest : List ℕ) (e : CoseFault)
      → RightUpTo limits b (one_more first no_trees) items
      → Front items (limits.nesting - 2) t rest
      → WrongHeader limits.nesting t limits.layers e → ShowsFault limits b e
  no_payload : (h : Header) → MessageOpening limits b h → ((o : Option ℕ) → h ≢ Bytes o)
      → h ≢ Simple 22 → h ≢ Simple 23 → ShowsFault limits b unexpected
  no_signature : (three : Trees) (t : Tree) (items rest : List ℕ) → RightUpTo limits b three items
      → tree_count three ≡ 3 → Front items (limits.nesting - 2) t rest → is_bytes t ≡ false
      → ShowsFault limits b unexpected
  not_closed : (four : Trees) (h : Header) (last rest : List ℕ)
      → (right : RightUpTo limits b four last) → right.begins.count ≡ None → tree_count four ≡ 4
      → Begins last h rest → h ≢ Break → ShowsFault limits b unexpected

-- the array of such a message is open, and there are other than four elements of it
pub record IsOtherCount (b : List ℕ) (t : Tree) (elements : Trees) : Type 0 where
  pub begins : BeginsMessage b
  pub open_array : begins.count ≡ None
  pub is : t ≡ tag begins.number (array elements)
  pub other : tree_count elements ≢ 4

-- a fault of the first element as a protected header, or of the second as a header
abbrev pub IsHeaderFault : Bounds → Trees → CoseFault → Type 0
IsHeaderFault limits no_trees e = ⊥
IsHeaderFault limits (one_more a no_trees) e = WrongProtected limits.nesting a limits.layers e
IsHeaderFault limits (one_more a (one_more b ts)) e =
    WrongProtected limits.nesting a limits.layers e ⊎ WrongHeader limits.nesting b limits.layers e

-- a fault that the item has as a message of its tag. If an open array ends at another length, that
-- is seen after its headers, and so a fault of one of these may be named in its place.
abbrev pub IsShapeFault : Bounds → List ℕ → Tree → CoseFault → Type 0
IsShapeFault limits b t e =
    IsMisshapen limits t e
    ⊎ ((elements : Trees) × IsOtherCount b t elements × IsHeaderFault limits elements e)
