-- The items of an input: there is one list of them, and it is there.
use Rattle.std.proofs.Common.{◌≡◌, ◌<◌, ℕ, zero, suc, ◌+◌, ◌≤◌, List, [], ◌∷◌, ◌++◌, length, Some, refl, sym, ap, subst, ◌∙◌, arith}
use Rattle.std.specs.List.{All}
use Rattle.std.proofs.lemmas.List.{append_cancel_left}
use Rattle.ciborium_value.specs.Encoding.{enc, Fits}
use Rattle.ciborium_value.specs.Folding.{fold}
use Rattle.ciborium_value.specs.Tree.{Tree, depth}
use Rattle.ciborium.specs.Damage.{end, in_title, cut_title}
use Rattle.ciborium.specs.Meaning.{meaning, Assigned}
use Rattle.ciborium.specs.Front.{Reads, Front}
use Rattle.ciborium.specs.Items.{Item, Items, ItemsWithin, SequenceWithin, IsUnreadableWithin, nesting, item_at}
use Rattle.ciborium.proofs.Agreeing.{encoding_means}
use Rattle.ciborium.proofs.Once.{once, append_nil}
use Rattle.ciborium.proofs.Excludes.{excludes}
use Rattle.ciborium.proofs.StringCases.{bytes_behind, shorter}
use Rattle.ciborium.proofs.ChildCases.{ItemCase, readable, damaged, front_some}
use Rattle.ciborium.proofs.ItemCases.{item_case}

-- two readable items in front of one list are one item
reads_once : (a b u w : List ℕ) (limit : ℕ) (x y : Tree) → Reads a limit x → Reads b limit y → a ++ u ≡ b ++ w → (x ≡ y) × (a ≡ b)
reads_once a b u w limit x y p q e =
    let o = once p.tree q.tree a b u w p.spells q.spells e in
    let m : meaning p.tree ≡ Some x = p.means in
    let n : meaning q.tree ≡ Some y = q.means in
    let t : p.tree ≡ q.tree = o.0 in
    (cc, o.1)

same_item : (i j : Item) → i.offset ≡ j.offset → i.bytes ≡ j.bytes → i.value ≡ j.value → i ≡ j
same_item i j o b v = ap (λ z. item_at z i.bytes i.value) o ∙ ap (λ z. item_at j.offset z i.value) b ∙ ap (item_at j.offset j.bytes) v

front_of : (n : ℕ) (b : List ℕ) (i : Item) (more : List ℕ) → Reads i.bytes n i.value → b ≡ i.bytes ++ more → Front b n i.value more
front_of n b i more r e = record { spelling = i.bytes; whole = e; reads = r }

once_by : (n at : ℕ) (b : List ℕ) (is js : List Item) (rest more : List ℕ) → IsUnreadableWithin n rest → IsUnreadableWithin n more
    → SequenceWithin n at b is rest → SequenceWithin n at b js more → (is ≡ js) × (rest ≡ more)
once_by n at b [] [] rest more x y p q = (refl, sym p ∙ q)
once_by n at b [] (j ∷ js) rest more x y p q = absurd (x j.value q.2.0 (front_of n rest j q.2.0 q.1 (sym p ∙ q.2.1)))
once_by n at b (i ∷ is) [] rest more x y p q = absurd (y i.value p.2.0 (front_of n more i p.2.0 p.1 (sym q ∙ p.2.1)))
once_by n at b (i ∷ is) (j ∷ js) rest more x y p q =
    let e : i.bytes ++ p.2.0 ≡ j.bytes ++ q.2.0 = sym p.2.1 ∙ q.2.1 in
    let o = reads_once i.bytes j.bytes p.2.0 q.2.0 n i.value j.value p.1 q.1 e in
    let tails : p.2.0 ≡ q.2.0 = append_cancel_left i.bytes p.2.0 q.2.0 (e ∙ ap (λ z. z ++ q.2.0) (sym o.1)) in
    let there : SequenceWithin n (at + length i.bytes) p.2.0 js more =
    subst (λ (z : List ℕ). SequenceWithin n (at + length i.bytes) z js more) (sym tails)
    (subst (λ (z : List ℕ). SequenceWithin n (at + length z) q.2.0 js more) (sym o.1) q.2.2) in
    let r = once_by n (at + length i.bytes) p.2.0 is js rest more x y p.2.2 there in
    let same : i ≡ j = same_item i j (p.0 ∙ sym q.0) o.1 o.0 in
    (ap (λ z. z ∷ is) same ∙ ap (λ z. j ∷ z) r.0, r.1)

-- the items of at most n levels are one list
pub items_once_within : (n at : ℕ) (b : List ℕ) (is js : List Item) (rest more : List ℕ) → ItemsWithin n at b is rest → ItemsWithin n at b js more
    → (is ≡ js) × (rest ≡ more)
items_once_within n at b is js rest more p q = once_by n at b is js rest more p.ends q.ends p.sequence q.sequence

pub items_once : (at : ℕ) (b : List ℕ) (is js : List Item) (rest more : List ℕ) → Items at b is rest → Items at b js more → (is ≡ js) × (rest ≡ more)
items_once at b is js rest more p q = items_once_within nesting at b is js rest more p q

items_below : (n m at : ℕ) (b : List ℕ) → length b < m → All (λ x. x < 256) b → (is : List Item) × (rest : List ℕ) × ItemsWithin n at b is rest
items_below n zero at b few low = absurd (omega arith)
items_below n (suc m) at b few low = by_item (item_case (length b) n b (omega arith) low) (λ o r l low'. items_below n m o r (omega arith) low')
  where
    by_item : ItemCase (length b) n b → ((o : ℕ) (r : List ℕ) → length r < length b → All (λ x. x < 256) r → (is : List Item) × (rest : List ℕ) × ItemsWithin n o r is rest)
        → (is : List Item) × (rest : List ℕ) × ItemsWithin n at b is rest
    by_item (damaged e d) again = ([], b, record { sequence = refl; ends = λ v rest f. excludes (length b) b n e d v rest f })
    by_item (readable v r f) again =
        let p = again (at + length f.spelling) r (shorter b f.spelling r f.whole (front_some b r n v f)) (bytes_behind b f.spelling r f.whole low) in
        (item_at at f.spelling v ∷ p.0, p.1, record { sequence = (refl, f.reads, (r, f.whole, p.2.sequence)); ends = p.2.ends })

-- and they are there
pub items_there_within : (n at : ℕ) (b : List ℕ) → All (λ x. x < 256) b → (is : List Item) × (rest : List ℕ) × ItemsWithin n at b is rest
items_there_within n at b low = items_below n (suc (length b)) at b (omega arith) low

-- an encoding is one item and nothing else
pub encoding_item_within : (n at : ℕ) (t u : Tree) → Fits t → Assigned t → depth t ≤ n → fold t ≡ Some u
    → ItemsWithin n at (enc t) (item_at at (enc t) u ∷ []) []
encoding_item_within n at t u fits assigned shallow e =
    let m = encoding_means t u fits assigned e in
    record {
      sequence = (refl, record { tree = t; spells = m.0; shallow = shallow; means = m.1 }, ([], append_nil (enc t), refl));
      ends = λ v rest f. excludes 0 [] n end (in_title [] n end (cut_title tt)) v rest f;
    }
