-- How far the reader of headers is: the headers that are open inside one another, the outermost
-- first.
use Rattle.std.specs.Prelude.{◌≡◌, ◌≢◌, ℕ, ◌+◌, ◌-◌, ◌*◌, ◌<◌, List, [], ◌∷◌, ◌++◌, length, map, true, Some}
use Rattle.std.specs.Vec.Iter.{into_iter_items}
use Rattle.ciborium_value.specs.Tree.{Tree, bytes, array, map as map_tree, Trees}
use Rattle.ciborium_value.specs.View.{trees, pairs, view, views, view_pair, view_pairs}
use Rattle.ciborium.specs.Front.{Reads}
use Rattle.coset_labels.specs.Fields.{LabelFields}
use Rattle.coset_labels.specs.Labels.{label_of}
use Rattle.coset_headers.specs.Headers.{is_at, entries, IsIn, IsBare, IsList, list_of_three, HasHeader, HasSignatures}
use Rattle.coset_headers.specs.Parts.{plain_of, signs_of, Sees, Known, KnownIn}
use Rattle.coset_headers.specs.View.{header_view, signatures_view}
use Rattle.coset_headers.specs.Weight.{weight, weight_all, weight_pairs}
use Rattle.coset_headers.specs.declared.header.Header.{Header}
use Rattle.coset_headers.specs.declared.reader.Half.{Half}
use Rattle.coset_headers.specs.declared.reader.Half.TheVariants as half
use Rattle.coset_headers.specs.declared.reader.HeaderReader.{HeaderReader}
use Rattle.coset_headers.specs.declared.reader.Level.{Level}
use Rattle.coset_headers.specs.declared.reader.Open.{Open}
use Rattle.coset_headers.specs.declared.reader.SignatureList.{SignatureList}
use Rattle.coset_headers.specs.declared.reader.Signing.{Signing}

-- ---- one open header
-- of the header t some entries were read, and gave the fields of h; the others are still to come
pub record Going (n : ℕ) (t : Tree) (o : Open) (h : Header) : Type 0 where
  pub before : List (Tree × Tree)
  pub es : List (LabelFields × Tree)
  pub is : t ≡ map_tree (pairs (before ++ map view_pair (into_iter_items o.entries)))
  pub read_before : entries (pairs before) ≡ Some es
  pub known : KnownIn n es o.seen h o.layers

-- and so was the label of the next, which is that of counter signatures; v is their value
pub record Signed (n : ℕ) (t : Tree) (o : Open) (h : Header) (v : Tree) : Type 0 where
  pub before : List (Tree × Tree)
  pub es : List (LabelFields × Tree)
  pub key : Tree
  pub label : LabelFields
  pub is : t ≡ map_tree (pairs (before ++ (key, v) ∷ map view_pair (into_iter_items o.entries)))
  pub read_before : entries (pairs before) ≡ Some es
  pub label_is : label_of key ≡ Some label
  pub signs : is_at 7 label ≡ true
  pub fresh : IsIn label es → ⊥
  pub sees : (w : Tree) → Sees o.seen (es ++ (label, w) ∷ [])
  pub known : Known n es (plain_of h) (signs_of h) o.layers

-- ---- the header that one inside it belongs to
-- s is the one of the counter signatures v that comes after those that are done, and before those
-- that are left
pub data IsNext (n k : ℕ) (v s : Tree) (g : SignatureList) : Type 0 where
  alone : (ts : Trees) → v ≡ array ts → IsBare ts → s ≡ array ts → g.done.items ≡ [] → into_iter_items g.left ≡ [] → IsNext n k v s g
  listed : (before : List Tree) → v ≡ array (trees (before ++ s ∷ map view (into_iter_items g.left))) → IsList (trees (before ++ s ∷ map view (into_iter_items g.left)))
      → HasSignatures n (trees before) (signatures_view g.done.items) k → IsNext n k v s g

-- w, to be read with i layers, is the unprotected header of the signature s, or the one inside its
-- protected one; c is its signature
abbrev pub IsHalf : ℕ → ℕ → Tree → List ℕ → Half → Tree → ℕ → Type 0
IsHalf n k s c (half.Unprotected first) w i = (s ≡ array (list_of_three (view first) w (bytes c))) × (i ≡ k)
IsHalf n k s c (half.Protected h b) w i = (u : Tree) × (s ≡ array (list_of_three (bytes b.items) u (bytes c))) × HasHeader n u (header_view h) k
    × (0 < k) × (b.items ≢ []) × Reads b.items n w × (i ≡ k - 1)

-- w is a header of a counter signature of the header t
pub record Around (n : ℕ) (t : Tree) (o : Open) (h : Header) (g : Signing) (w : Tree) (i : ℕ) : Type 0 where
  pub value : Tree
  pub signature : Tree
  pub signed : Signed n t o h value
  pub next : IsNext n o.layers value signature g.list
  pub half : IsHalf n o.layers signature g.signature.items g.half w i

-- u, to be read with j layers, lies inside t as the levels say, and is t itself without any
abbrev pub Within : ℕ → Tree → ℕ → List Level → Tree → ℕ → Type 0
Within n t k [] u j = (u ≡ t) × (j ≡ k)
Within n t k (l ∷ ls) u j = (w : Tree) × (i : ℕ) × (l.left.layers ≡ k) × Around n t l.left l.header l.signing w i × Within n w i ls u j

-- ---- the whole
-- of the header t, to be read with k layers, the reader is in the innermost that is open, whose
-- fields so far are those of h
pub record Reading (n k : ℕ) (t : Tree) (r : HeaderReader) (h : Header) : Type 0 where
  pub nesting : r.nesting ≡ n
  pub inner : Tree
  pub within : Within n t k r.below.items inner r.top.layers
  pub going : Going n inner r.top h

-- the counter signatures of the innermost header are read next
pub record ReadingSigned (n k : ℕ) (t : Tree) (r : HeaderReader) (h : Header) (v : Tree) : Type 0 where
  pub nesting : r.nesting ≡ n
  pub inner : Tree
  pub within : Within n t k r.below.items inner r.top.layers
  pub signed : Signed n inner r.top h v

-- a header of a counter signature of the innermost header is read next
pub record ReadingInside (n k : ℕ) (t : Tree) (r : HeaderReader) (h : Header) (g : Signing) (w : Tree) (i : ℕ) : Type 0 where
  pub nesting : r.nesting ≡ n
  pub inner : Tree
  pub within : Within n t k r.below.items inner r.top.layers
  pub around : Around n inner r.top h g w i

-- ---- what is still to be read
abbrev pub open_left : Open → ℕ
open_left o = weight_pairs (view_pairs (into_iter_items o.entries))

abbrev pub half_left : Half → ℕ
half_left (half.Unprotected first) = weight (view first)
half_left (half.Protected h b) = 0

abbrev pub signatures_left : SignatureList → ℕ
signatures_left g = weight_all (views (into_iter_items g.left))

abbrev pub signing_left : Signing → ℕ
signing_left g = signatures_left g.list + half_left g.half

abbrev pub levels_left : List Level → ℕ
levels_left [] = 0
levels_left (l ∷ ls) = open_left l.left + signing_left l.signing + levels_left ls

abbrev pub work : HeaderReader → ℕ
work r = 2 * (levels_left r.below.items + open_left r.top) + length r.below.items
