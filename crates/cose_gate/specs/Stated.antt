-- Messages of which the payload's length is stated in front, over whole lists of bytes, and
-- payloads in pieces.
use Rattle.std.specs.Prelude.{◌≡◌, ℕ, ◌-◌, ◌<◌, min, ◌⊎◌, List, [], ◌∷◌, ◌++◌, length, Option, Some, None}
use Rattle.ciborium_ll.specs.declared.hdr.Header.TheVariants.{Tag, Bytes, Array}
use Rattle.ciborium_ll.specs.Title.{Title}
use Rattle.ciborium_value.specs.Tree.{Tree, Trees, tree_count}
use Rattle.ciborium.specs.Spelling.{Spells, SpellsAll}
use Rattle.cose_gate_core.specs.Questions.{MessageFields, sign1, mac0, number_of}
use Rattle.cose_gate_core.specs.declared.about.MessageKind.TheVariants as kind

-- the tags of a COSE_Mac0 and a COSE_Sign1 (RFC 9052, section 2)
abbrev pub IsSingleTag : ℕ → Type 0
IsSingleTag n = (n ≡ number_of kind.Mac0) ⊎ (n ≡ number_of kind.Sign1)

-- a message of one of these two
abbrev pub IsSingle : MessageFields → Type 0
IsSingle (sign1 m) = Unit {0}
IsSingle (mac0 m) = Unit {0}
IsSingle _ = ⊥

-- the length of an array of four elements: stated, or open up to a break
abbrev pub IsFour : Option ℕ → Type 0
IsFour None = Unit {0}
IsFour (Some n) = n ≡ 4

-- what ends such an array
abbrev pub closing : Option ℕ → List ℕ
closing None = 255 ∷ []
closing (Some n) = []

-- the list is a tag of such a message, the title of an array of four, the encodings of two items,
-- the title of a byte string of the length n, n bytes, the encoding of one item, and a break if the
-- array is open (RFC 8949, section 3)
pub record Stated (b : List ℕ) (n : ℕ) : Type 0 where
  pub number : ℕ
  pub is_single : IsSingleTag number
  pub tag_title : List ℕ
  pub array_title : List ℕ
  pub count : Option ℕ
  pub headers : List ℕ
  pub two : Trees
  pub length_title : List ℕ
  pub payload : List ℕ
  pub last : List ℕ
  pub signature : Tree
  pub is_tag : Title tag_title (Tag number)
  pub is_array : Title array_title (Array count)
  pub is_four : IsFour count
  pub are_two : tree_count two ≡ 2
  pub spells : SpellsAll headers two
  pub is_length : Title length_title (Bytes (Some n))
  pub is_payload : length payload ≡ n
  pub spells_last : Spells last signature
  pub whole : b ≡ tag_title
      ++ (array_title ++ (headers ++ (length_title ++ (payload ++ (last ++ closing count)))))

-- what is before the payload: the tag, and the titles and items of the array up to there
abbrev pub before_payload : {b : List ℕ} {n : ℕ} → Stated b n → List ℕ
before_payload s = s.tag_title ++ (s.array_title ++ (s.headers ++ s.length_title))

-- the lengths of n bytes that come in pieces: each piece is as long as the space and the bytes to
-- come allow, and none is empty
abbrev pub Cut : ℕ → ℕ → List ℕ → Type 0
Cut room n [] = n ≡ 0
Cut room n (p ∷ ps) = (p ≡ min n room) × (0 < n) × Cut room (n - p) ps

-- the lengths end with those of n bytes that were cut by the space
pub record InPieces (n room : ℕ) (lengths : List ℕ) : Type 0 where
  pub front : List ℕ
  pub pieces : List ℕ
  pub whole : lengths ≡ front ++ pieces
  pub cut : Cut room n pieces
