-- When the bytes of an item so far are a beginning of its encoding: each title is the shortest of
-- its header, no title is open, no simple value is undefined, and each tag stays over its content
-- as it is.
use Rattle.std.specs.Prelude.{◌≡◌, ◌≢◌, ℕ, ◌^◌, ◌<◌, List, [], ◌∷◌, ◌++◌, length, Some, None, Bool, true, not, nat_eq, is_some, MatchBool}
use Rattle.std.specs.Str.{IsUtf8}
use Rattle.ciborium_ll.specs.declared.hdr.Header.{Header}
use Rattle.ciborium_ll.specs.declared.hdr.Header.TheVariants.{Float, Simple, Tag, Bytes, Text, Array, Map}
use Rattle.ciborium_ll.specs.Title.{title_of, FitsHeader}
use Rattle.ciborium_value.specs.Tree.{Tree, integer, bytes, text, array, map, tag, simple, float, Trees, no_trees, one_more, Pairs, no_pairs, pair_more, tree_count, pair_count}
use Rattle.ciborium_value.specs.Encoding.{int_head, enc, enc_all, enc_pairs}
use Rattle.ciborium.specs.Levels.{Level}

-- Each number lies in its range, each text is UTF-8, and each length is one that a head can have; a
-- byte string may be of any numbers.
abbrev mutual
  pub Sound : Tree → Type 0
  Sound (integer i) = FitsHeader (int_head i)
  Sound (bytes b) = length b < 2 ^ 64
  Sound (text b) = (length b < 2 ^ 64) × IsUtf8 b
  Sound (array ts) = (tree_count ts < 2 ^ 64) × AllSound ts
  Sound (map ps) = (pair_count ps < 2 ^ 64) × PairsSound ps
  Sound (tag n t) = (n < 2 ^ 64) × Sound t
  Sound (simple n) = n < 2 ^ 8
  Sound (float f) = FitsHeader (Float f)

  pub AllSound : Trees → Type 0
  AllSound no_trees = Unit {0}
  AllSound (one_more t ts) = Sound t × AllSound ts

  pub PairsSound : Pairs → Type 0
  PairsSound no_pairs = Unit {0}
  PairsSound (pair_more k v ps) = Sound k × Sound v × PairsSound ps

-- the flag says whether P
abbrev pub Says : Bool → Type 0 → Type 0
Says answer P = MatchBool answer P (P → ⊥)

-- a header that an encoding may have: none of an open length, and not undefined
abbrev pub IsEncoded : Header → Type 0
IsEncoded (Simple n) = n ≢ 23
IsEncoded (Bytes None) = ⊥
IsEncoded (Text None) = ⊥
IsEncoded (Array None) = ⊥
IsEncoded (Map None) = ⊥
IsEncoded h = Unit {0}

-- the same as a flag
abbrev pub encoded : Header → Bool
encoded (Simple n) = not (nat_eq n 23)
encoded (Bytes o) = is_some o
encoded (Text o) = is_some o
encoded (Array o) = is_some o
encoded (Map o) = is_some o
encoded h = true

-- the bytes of a level so far, if it is encoded
abbrev pub level_enc : Header → Trees → List ℕ
level_enc h done = title_of h ++ enc_all done

-- the same of all open levels, the innermost first
abbrev pub levels_enc : List Level → List ℕ
levels_enc [] = []
levels_enc (f ∷ fs) = levels_enc fs ++ level_enc f.head f.done

abbrev pub AllEncoded : List Level → Type 0
AllEncoded [] = Unit {0}
AllEncoded (f ∷ fs) = AllEncoded fs × IsEncoded f.head

abbrev pub AllFit : List Level → Type 0
AllFit [] = Unit {0}
AllFit (f ∷ fs) = AllFit fs × FitsHeader f.head × AllSound f.done

abbrev pub LevelsExact : List Level → List ℕ → Type 0
LevelsExact fs b = AllEncoded fs × (b ≡ levels_enc fs)

-- a title in hand after open levels
abbrev pub TitleExact : List Level → Header → List ℕ → List ℕ → Type 0
TitleExact fs h before title = LevelsExact fs before × (title ≡ title_of h) × IsEncoded h

-- an item in hand after open levels
abbrev pub ItemExact : List Level → Tree → List ℕ → Type 0
ItemExact fs v b = AllEncoded fs × (b ≡ levels_enc fs ++ enc v)

-- the header of an encoding, and what follows its title
abbrev pub head_of : Tree → Header
head_of (integer i) = int_head i
head_of (bytes b) = Bytes (Some (length b))
head_of (text b) = Text (Some (length b))
head_of (array ts) = Array (Some (tree_count ts))
head_of (map ps) = Map (Some (pair_count ps))
head_of (tag n t) = Tag n
head_of (simple n) = Simple n
head_of (float f) = Float f

abbrev pub behind : Tree → List ℕ
behind (bytes b) = b
behind (text b) = b
behind (array ts) = enc_all ts
behind (map ps) = enc_pairs ps
behind (tag n t) = enc t
behind t = []
