-- What was sifted is items that a gate reads.
use Rattle.std.proofs.Common.{◌≡◌, ℕ, ◌+◌, ◌<◌, List, [], ◌∷◌, ◌++◌, length, false, refl, sym, ap, subst, ◌∙◌, append-nil, arith, length-append}
use Rattle.ciborium_value.specs.Tree.{Tree}
use Rattle.ciborium.specs.Front.{Reads}
use Rattle.ciborium.specs.Items.{item_at, nesting, IsUnreadableWithin, SequenceWithin, Item as Read}
use Rattle.ciborium.proofs.Sequence.{items_once}
use Rattle.cose_sift.specs.Sifting.{Sifted, nothing, kept, dropped, AsReceived, none_yet, written, left_out, IsReadThrough}
use Rattle.cose_sift.specs.declared.sifting.Options.{Options}
use Rattle.cose_sift.specs.Reading.{IsReadable}
use Rattle.cose_sift.specs.Untagging.{Content}
use Rattle.cbor_walk.proofs.Going.{regroup}
use Rattle.cose_sift.proofs.Readable.{spelled}
use Rattle.cose_sift.proofs.Untagged.{not_empty}

-- one item more
one_more : (at p : ℕ) (b y : List ℕ) (v : Tree) (is : List Read) → p ≡ at + length b → SequenceWithin nesting at b is [] → Reads y nesting v → SequenceWithin nesting at (b ++ y) (is ++ item_at p y v ∷ []) []
one_more at p b y v [] place none r = (place ∙ omega (arith, ap length none), r, ([], ap (λ z. z ++ y) none ∙ sym (append-nil y), refl))
one_more at p b y v (i ∷ is) place (o, ri, (behind, e, s)) r = (
  o,
  ri,
  (behind ++ y, regroup b i.bytes behind y e, one_more (at + length i.bytes) p behind y v is (omega (arith, place, ap length e, length-append i.bytes behind)) s r),
)

nothing_read : IsUnreadableWithin nesting []
nothing_read v rest f = let some : 0 < length f.spelling = not_empty f.spelling (spelled f.reads.tree f.spelling f.reads.spells) in absurd (omega (arith, ap length f.whole, length-append f.spelling rest))

record Read_all (b : List ℕ) (n : ℕ) : Type 0 where
  pub items : List Read
  pub sequence : SequenceWithin nesting 0 b items []
  pub count : length items ≡ n

read_all : (o : Options) (b out : List ℕ) (n k : ℕ) → Sifted o b out n k → Read_all out n
read_all o _ _ _ _ nothing = record { items = []; sequence = refl; count = refl }
read_all o _ _ _ _ (kept b out x y n k s one le c (v, r)) =
    let a = read_all o b out n k s in
    record {
      items = a.items ++ item_at (length out) y v ∷ [];
      sequence = one_more 0 (length out) out y v a.items (omega arith) a.sequence r;
      count = omega (arith, a.count, length-append a.items (item_at (length out) y v ∷ []));
    }
read_all o _ _ _ _ (dropped b out x n k s one un) = read_all o b out n k s

pub read_through : (o : Options) (b out : List ℕ) (n k : ℕ) → Sifted o b out n k → IsReadThrough out n
read_through o b out n k s =
    let a = read_all o b out n k s in
    record {
      items = a.items;
      whole = record { sequence = a.sequence; ends = nothing_read };
      count = a.count;
      none_left = λ is rest r. (items_once 0 out is a.items rest [] r (record { sequence = a.sequence; ends = nothing_read })).1;
    }

-- no tags are taken off
pub as_received : (o : Options) (b out : List ℕ) (n k : ℕ) → o.untag ≡ false → Sifted o b out n k → AsReceived o.max b out n k
as_received o _ _ _ _ off nothing = none_yet
as_received o _ _ _ _ off (kept b out x y n k s one le c r) =
    let e : y ≡ x = subst (λ z. Content z x y) off c in
    subst (λ (z : List ℕ). AsReceived o.max (b ++ x) (out ++ z) (n + 1) k) (sym e) (written b out x n k (as_received o b out n k off s) one le (subst IsReadable e r))
as_received o _ _ _ _ off (dropped b out x n k s one un) = left_out b out x n k (as_received o b out n k off s) one (λ le r. un le x (subst (λ z. Content z x x) (sym off) refl) r)
