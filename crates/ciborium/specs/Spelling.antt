-- Which bytes spell an item (RFC 8949, sections 3 and 3.2): any width of head, strings cut or
-- whole, arrays and maps with a length or up to their break.
use Rattle.std.specs.Prelude.{◌≡◌, ℕ, ◌⊎◌, List, [], ◌∷◌, ◌++◌, Option, Some, None}
use Rattle.std.specs.Str.{IsUtf8}
use Rattle.ciborium_ll.specs.declared.hdr.Header.{Header}
use Rattle.ciborium_ll.specs.declared.hdr.Header.TheVariants.{Simple, Tag, Bytes, Text, Array, Map}
use Rattle.ciborium_ll.specs.declared.hdr.Header.TheVariants as head
use Rattle.ciborium_ll.specs.Title.{Title}
use Rattle.ciborium_ll.specs.Framing.{Frame, Any, joined}
use Rattle.ciborium_value.specs.Tree.{Tree, integer, bytes, text, array, map, tag, simple, float, Trees, no_trees, one_more, Pairs, no_pairs, pair_more, tree_count, pair_count}
use Rattle.ciborium_value.specs.Encoding.{int_head}

-- a head with the length n around `inner`, or an open head and a break
abbrev pub Around : (Option ℕ → Header) → ℕ → List ℕ → (List ℕ → Type 0) → Type 0
Around k n b Inner =
    ((title inner : List ℕ) × Title title (k (Some n)) × Inner inner × (b ≡ title ++ inner))
    ⊎ ((title inner : List ℕ) × Title title (k None) × Inner inner × (b ≡ title ++ (inner ++ 255 ∷ [])))

-- `b` is the one item `t`; each body of a text is UTF-8 by itself
abbrev mutual
  pub Spells : List ℕ → Tree → Type 0
  Spells b (integer i) = Title b (int_head i)
  Spells b (bytes body) = (bodies : List (List ℕ)) × Frame Bytes Any b bodies × (body ≡ joined bodies)
  Spells b (text body) = (bodies : List (List ℕ)) × Frame Text IsUtf8 b bodies × (body ≡ joined bodies)
  Spells b (array ts) = Around Array (tree_count ts) b (λ inner. SpellsAll inner ts)
  Spells b (map ps) = Around Map (pair_count ps) b (λ inner. SpellsPairs inner ps)
  Spells b (tag n t) = (title inner : List ℕ) × Title title (Tag n) × Spells inner t × (b ≡ title ++ inner)
  Spells b (simple n) = Title b (Simple n)
  Spells b (float f) = Title b (head.Float f)

  pub SpellsAll : List ℕ → Trees → Type 0
  SpellsAll b no_trees = b ≡ []
  SpellsAll b (one_more t ts) = (front rest : List ℕ) × Spells front t × SpellsAll rest ts × (b ≡ front ++ rest)

  pub SpellsPairs : List ℕ → Pairs → Type 0
  SpellsPairs b no_pairs = b ≡ []
  SpellsPairs b (pair_more k v ps) = (one two rest : List ℕ) × Spells one k × Spells two v × SpellsPairs rest ps × (b ≡ one ++ (two ++ rest))
