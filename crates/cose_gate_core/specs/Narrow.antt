-- Items whose canonical encoding is no longer than they are (RFC 8949, sections 3.2 and 4.1): in
-- them no open array or map has more than 255 entries, no open string 2^32 bytes or more, and no
-- bignum is encoded in 5 or 6 bytes. An array of 256 entries has a head of three bytes, while an
-- open one needs two, its head and its break; a bignum of 5 or 6 bytes is an integer of nine, and
-- it is encoded in seven or eight.
use Rattle.std.specs.Prelude.{◌≡◌, ◌≢◌, ℕ, ◌^◌, ◌<◌, ◌≤◌, ◌⊎◌, List, [], ◌∷◌, ◌++◌, length, flat_map, Option, Some, None, Bool, true, if◌then◌else◌}
use Rattle.std.specs.Str.{IsUtf8}
use Rattle.ciborium_ll.specs.declared.hdr.Header.{Header}
use Rattle.ciborium_ll.specs.declared.hdr.Header.TheVariants.{Simple, Tag, Bytes, Text, Array, Map}
use Rattle.ciborium_ll.specs.declared.hdr.Header.TheVariants as head
use Rattle.ciborium_ll.specs.Title.{Title}
use Rattle.ciborium_ll.specs.Framing.{Frame, Any, joined}
use Rattle.ciborium_value.specs.Tree.{Tree, integer, bytes, text, array, map, tag, simple, float, Trees, no_trees, one_more, Pairs, no_pairs, pair_more, tree_count, pair_count}
use Rattle.ciborium_value.specs.Encoding.{int_head}
use Rattle.cose_gate_core.specs.Questions.{Question}
use Rattle.cose_gate_core.specs.Run.{Step, passes}

-- a head with the length n around `inner`, or an open head and a break, if there are few entries
abbrev pub AroundFew : (Option ℕ → Header) → ℕ → List ℕ → (List ℕ → Type 0) → Type 0
AroundFew k n b Inner =
    ((title inner : List ℕ) × Title title (k (Some n)) × Inner inner × (b ≡ title ++ inner))
    ⊎ ((n ≤ 255)
    × ((title inner : List ℕ) × Title title (k None) × Inner inner
    × (b ≡ title ++ (inner ++ 255 ∷ []))))

-- a string with its length in front, or one of fewer than 2^32 bytes
abbrev pub ShortString : (Option ℕ → Header) → (List ℕ → Type 0) → List ℕ → List ℕ → Type 0
ShortString k P b body =
    ((title : List ℕ) × Title title (k (Some (length body))) × P body × (b ≡ title ++ body))
    ⊎ ((length body < 2 ^ 32)
    × ((bodies : List (List ℕ)) × Frame k P b bodies × (body ≡ joined bodies)))

-- no bignum of 5 or 6 bytes
abbrev pub IsShortTag : ℕ → Tree → Type 0
IsShortTag n t = (c : List ℕ) → t ≡ bytes c → (n ≡ 2) ⊎ (n ≡ 3) → (length c ≢ 5) × (length c ≢ 6)

-- `b` is the item `t`, with none of what may be written longer than it came
abbrev mutual
  pub SpellsNarrow : List ℕ → Tree → Type 0
  SpellsNarrow b (integer i) = Title b (int_head i)
  SpellsNarrow b (bytes body) = ShortString Bytes Any b body
  SpellsNarrow b (text body) = ShortString Text IsUtf8 b body
  SpellsNarrow b (array ts) = AroundFew Array (tree_count ts) b (λ inner. SpellsAllNarrow inner ts)
  SpellsNarrow b (map ps) = AroundFew Map (pair_count ps) b (λ inner. SpellsPairsNarrow inner ps)
  SpellsNarrow b (tag n t) = (title inner : List ℕ) × Title title (Tag n) × SpellsNarrow inner t
      × (b ≡ title ++ inner) × IsShortTag n t
  SpellsNarrow b (simple n) = Title b (Simple n)
  SpellsNarrow b (float f) = Title b (head.Float f)

  pub SpellsAllNarrow : List ℕ → Trees → Type 0
  SpellsAllNarrow b no_trees = b ≡ []
  SpellsAllNarrow b (one_more t ts) = (front rest : List ℕ) × SpellsNarrow front t
      × SpellsAllNarrow rest ts × (b ≡ front ++ rest)

  pub SpellsPairsNarrow : List ℕ → Pairs → Type 0
  SpellsPairsNarrow b no_pairs = b ≡ []
  SpellsPairsNarrow b (pair_more k v ps) =
      (one two rest : List ℕ) × SpellsNarrow one k × SpellsNarrow two v × SpellsPairsNarrow rest ps
      × (b ≡ one ++ (two ++ rest))

abbrev pub IsNarrow : List ℕ → Type 0
IsNarrow b = (t : Tree) × SpellsNarrow b t

-- each item that passes is narrow
abbrev pub PassedAreNarrow : (Question → Bool) → List ℕ → List Step → Type 0
PassedAreNarrow allows aad [] = Unit {0}
PassedAreNarrow allows aad (s ∷ ss) =
    (passes allows aad s.finding ≡ true → IsNarrow s.item.bytes) × PassedAreNarrow allows aad ss

-- the bytes of the items that pass
abbrev pub passed_bytes : (Question → Bool) → List ℕ → List Step → List ℕ
passed_bytes allows aad ss =
    flat_map (λ s. if passes allows aad s.finding then s.item.bytes else []) ss
