-- The derived order, equality and hash of values are those of their views.
use Rattle.std.proofs.Common.{◌≡◌, List, [], ◌∷◌, Bool, true, false, refl, sym, ap, subst, ◌∙◌, map, string_bytes}
use Rattle.std.proofs.lemmas.Cmp.{tied_itself}
use Rattle.std.specs.Prelude.{IsTrue, ◌↔◌}
use Rattle.std.specs.Cmp.Lexicographic.{slice_cmp}
use Rattle.std.specs.declared.cmp.Ordering.{Ordering}
use Rattle.std.specs.declared.cmp.Ordering.TheVariants.{Less, Equal, Greater}
use Rattle.std.specs.Ordering.{ordering_then, nat_cmp, int_cmp, bool_cmp, is_eq}
use Rattle.ciborium_ll.specs.declared.hdr.Float.{Float as FloatBits}
use Rattle.ciborium_ll.specs.declared.hdr.Float.TheVariants.{Half, Single, Double}
use Rattle.ciborium_ll.specs.contracts.hdr.FloatOrd.TheImpl as float_order
use Rattle.ciborium_value.specs.Tree as spec
use Rattle.ciborium_value.specs.Tree.{Tree}
use Rattle.ciborium_value.specs.Order.{tree_cmp, trees_cmp, pairs_cmp}
use Rattle.ciborium_value.specs.View.{view, view_step, view_pair, trees, pairs, bool_tree}
use Rattle.ciborium_value.specs.declared.value.Value.{Value}
use Rattle.ciborium_value.specs.declared.value.Value.TheOpen as open_value
use Rattle.ciborium_value.specs.declared.value.Value.TheBlock as block
use Rattle.ciborium_value.specs.declared.value.Value.TheViews.{out-Value, roll-Value, out-roll-Value, roll-out-Value}
use Rattle.ciborium_value.specs.declared.value.Value.TheFolds.{fold-roll-Value, map-Value, ind-Value}
use Rattle.ciborium_value.specs.contracts.value.Value as contract
use Rattle.ciborium_value.specs.contracts.value.ValueOrd.TheImpl as order
use Rattle.ciborium_value.specs.contracts.value.ValueOrd.TheImpl.Laws as order_laws
use Rattle.ciborium_value.specs.contracts.value.ValuePartialEq.TheImpl as equality
use Rattle.ciborium_value.specs.contracts.value.ValueHash.TheImpl as hashes
use Rattle.ciborium_value.specs.contracts.value.ValueHash.TheImpl.Laws as hash_laws
use Rattle.ciborium_value.specs.Facts.Orders.{equal_of}
use Rattle.ciborium_value.specs.Facts.TreeTotal.{tree_total}
use Rattle.ciborium_value.specs.Facts.Ties.{tied}
use denote.Enum.Compared.{Each, by}
use denote.Hole.Compared.{compared_is}
use denote.Hole.Carrier as carrier

abbrev pub derived : Value → Value → Ordering
derived = order.cmp-value.it

-- what the derive compares at each variant
abbrev each : (Value → Value → Ordering) → Each Ordering contract.the_parts
each r = (
  λ a b. int_cmp a.0.number b.0.number,
  (
    λ a b. slice_cmp nat_cmp a.0.items b.0.items,
    (
      λ a b. float_order.cmp-value.it a.0 b.0,
      (
        λ a b. slice_cmp nat_cmp (string_bytes a.0) (string_bytes b.0),
        (
          λ a b. bool_cmp a.0 b.0,
          (
            λ a b. Equal,
            (
              λ a b. ordering_then (nat_cmp a.0 b.0) (r a.1.0.value b.1.0.value),
              (
                λ a b. slice_cmp r a.0.items b.0.items,
                (λ a b. slice_cmp (λ p q. ordering_then (r p.0 q.0) (r p.1 q.1)) a.0.items b.0.items, tt),
              ),
            ),
          ),
        ),
      ),
    ),
  ),
)

abbrev split : open_value.Value-F Value → block.plain-Value.Of (carrier.Values block.the_members block.the_sigs block.the_carrier)
split = block.split-Value (carrier.Values block.the_members block.the_sigs block.the_carrier)

abbrev layer : open_value.Value-F Value → open_value.Value-F Value → Ordering
layer x y = by Less Greater contract.the_parts (each derived) (split x) (split y)

unrolled : (a b : Value) → derived a b ≡ layer (out-Value a) (out-Value b)
unrolled a b = compared_is block.the_members (carrier.Values block.the_members block.the_sigs block.the_carrier) block.the_depth Ordering Equal order.the_step order_laws.local block.member-Value a b

at_rolls : (x y : open_value.Value-F Value) → derived (roll-Value x) (roll-Value y) ≡ layer x y
at_rolls x y = unrolled (roll-Value x) (roll-Value y) ∙ (λ i. layer (out-roll-Value x i) (out-roll-Value y i))

abbrev Same : Value → Type 0
Same a = (b : Value) → derived a b ≡ tree_cmp (view a) (view b)

abbrev Such : Type 0
Such = (a : Value) × Same a

abbrev bare : open_value.Value-F Such → open_value.Value-F Value
bare = map-Value Such Value (λ e. e.0)

abbrev shown : open_value.Value-F Value → Tree
shown x = view_step (map-Value Value Tree view x)

floats : (f g : FloatBits) → float_order.cmp-value.it f g ≡ tree_cmp (spec.float f) (spec.float g)
floats (Half n) (Half m) = refl
floats (Half n) (Single m) = refl
floats (Half n) (Double m) = refl
floats (Single n) (Half m) = refl
floats (Single n) (Single m) = refl
floats (Single n) (Double m) = refl
floats (Double n) (Half m) = refl
floats (Double n) (Single m) = refl
floats (Double n) (Double m) = refl

bools : (b c : Bool) → bool_cmp b c ≡ tree_cmp (bool_tree b) (bool_tree c)
bools false false = refl
bools false true = refl
bools true false = refl
bools true true = refl

-- what holds of both simple values
at_bool : (P : Tree → Type 0) → P (spec.simple 20) → P (spec.simple 21) → (b : Bool) → P (bool_tree b)
at_bool P f t false = f
at_bool P f t true = t

bool_last : (b : Bool) → Greater ≡ tree_cmp (spec.simple 22) (bool_tree b)
bool_last = at_bool (λ t. Greater ≡ tree_cmp (spec.simple 22) t) refl refl

items : (xs : List Such) (ys : List Value) → slice_cmp derived (map (λ e. e.0) xs) ys ≡ trees_cmp (trees (map view (map (λ e. e.0) xs))) (trees (map view ys))
items [] [] = refl
items [] (y ∷ ys) = refl
items (x ∷ xs) [] = refl
items (x ∷ xs) (y ∷ ys) = λ i. ordering_then (x.1 y i) (items xs ys i)

abbrev bare_pair : Such × Such → Value × Value
bare_pair p = (p.0.0, p.1.0)

entries : (xs : List (Such × Such)) (ys : List (Value × Value)) → slice_cmp (λ p q. ordering_then (derived p.0 q.0) (derived p.1 q.1)) (map bare_pair xs) ys ≡ pairs_cmp (pairs (map view_pair (map bare_pair xs))) (pairs (map view_pair ys))
entries [] [] = refl
entries [] (y ∷ ys) = refl
entries (x ∷ xs) [] = refl
entries (x ∷ xs) (y ∷ ys) = λ i. ordering_then (ordering_then (x.0.1 y.0 i) (x.1.1 y.1 i)) (entries xs ys i)

cell : (y : open_value.Value-F Such) (z : open_value.Value-F Value) → layer (bare y) z ≡ tree_cmp (shown (bare y)) (shown z)
cell (open_value.Integer a) (open_value.Integer b) = refl
cell (open_value.Integer a) (open_value.Bytes b) = refl
cell (open_value.Integer a) (open_value.Float b) = refl
cell (open_value.Integer a) (open_value.Text b) = refl
cell (open_value.Integer a) (open_value.Bool b) = at_bool (λ z. Less ≡ tree_cmp (shown (bare (open_value.Integer a))) z) refl refl b
cell (open_value.Integer a) open_value.Null = refl
cell (open_value.Integer a) (open_value.Tag b s) = refl
cell (open_value.Integer a) (open_value.Array b) = refl
cell (open_value.Integer a) (open_value.Map b) = refl
cell (open_value.Bytes a) (open_value.Integer b) = refl
cell (open_value.Bytes a) (open_value.Bytes b) = refl
cell (open_value.Bytes a) (open_value.Float b) = refl
cell (open_value.Bytes a) (open_value.Text b) = refl
cell (open_value.Bytes a) (open_value.Bool b) = at_bool (λ z. Less ≡ tree_cmp (shown (bare (open_value.Bytes a))) z) refl refl b
cell (open_value.Bytes a) open_value.Null = refl
cell (open_value.Bytes a) (open_value.Tag b s) = refl
cell (open_value.Bytes a) (open_value.Array b) = refl
cell (open_value.Bytes a) (open_value.Map b) = refl
cell (open_value.Float a) (open_value.Integer b) = refl
cell (open_value.Float a) (open_value.Bytes b) = refl
cell (open_value.Float a) (open_value.Float b) = floats a b
cell (open_value.Float a) (open_value.Text b) = refl
cell (open_value.Float a) (open_value.Bool b) = at_bool (λ z. Less ≡ tree_cmp (shown (bare (open_value.Float a))) z) refl refl b
cell (open_value.Float a) open_value.Null = refl
cell (open_value.Float a) (open_value.Tag b s) = refl
cell (open_value.Float a) (open_value.Array b) = refl
cell (open_value.Float a) (open_value.Map b) = refl
cell (open_value.Text a) (open_value.Integer b) = refl
cell (open_value.Text a) (open_value.Bytes b) = refl
cell (open_value.Text a) (open_value.Float b) = refl
cell (open_value.Text a) (open_value.Text b) = refl
cell (open_value.Text a) (open_value.Bool b) = at_bool (λ z. Less ≡ tree_cmp (shown (bare (open_value.Text a))) z) refl refl b
cell (open_value.Text a) open_value.Null = refl
cell (open_value.Text a) (open_value.Tag b s) = refl
cell (open_value.Text a) (open_value.Array b) = refl
cell (open_value.Text a) (open_value.Map b) = refl
cell (open_value.Bool a) (open_value.Integer b) = at_bool (λ z. Greater ≡ tree_cmp z (shown (open_value.Integer b))) refl refl a
cell (open_value.Bool a) (open_value.Bytes b) = at_bool (λ z. Greater ≡ tree_cmp z (shown (open_value.Bytes b))) refl refl a
cell (open_value.Bool a) (open_value.Float b) = at_bool (λ z. Greater ≡ tree_cmp z (shown (open_value.Float b))) refl refl a
cell (open_value.Bool a) (open_value.Text b) = at_bool (λ z. Greater ≡ tree_cmp z (shown (open_value.Text b))) refl refl a
cell (open_value.Bool a) (open_value.Bool b) = bools a b
cell (open_value.Bool a) open_value.Null = at_bool (λ z. Less ≡ tree_cmp z (shown open_value.Null)) refl refl a
cell (open_value.Bool a) (open_value.Tag b s) = at_bool (λ z. Less ≡ tree_cmp z (shown (open_value.Tag b s))) refl refl a
cell (open_value.Bool a) (open_value.Array b) = at_bool (λ z. Less ≡ tree_cmp z (shown (open_value.Array b))) refl refl a
cell (open_value.Bool a) (open_value.Map b) = at_bool (λ z. Less ≡ tree_cmp z (shown (open_value.Map b))) refl refl a
cell open_value.Null (open_value.Integer b) = refl
cell open_value.Null (open_value.Bytes b) = refl
cell open_value.Null (open_value.Float b) = refl
cell open_value.Null (open_value.Text b) = refl
cell open_value.Null (open_value.Bool b) = bool_last b
cell open_value.Null open_value.Null = refl
cell open_value.Null (open_value.Tag b s) = refl
cell open_value.Null (open_value.Array b) = refl
cell open_value.Null (open_value.Map b) = refl
cell (open_value.Tag a t) (open_value.Integer b) = refl
cell (open_value.Tag a t) (open_value.Bytes b) = refl
cell (open_value.Tag a t) (open_value.Float b) = refl
cell (open_value.Tag a t) (open_value.Text b) = refl
cell (open_value.Tag a t) (open_value.Bool b) = at_bool (λ z. Greater ≡ tree_cmp (shown (bare (open_value.Tag a t))) z) refl refl b
cell (open_value.Tag a t) open_value.Null = refl
cell (open_value.Tag a t) (open_value.Tag b s) = ap (ordering_then (nat_cmp a b)) (t.value.1 s.value)
cell (open_value.Tag a t) (open_value.Array b) = refl
cell (open_value.Tag a t) (open_value.Map b) = refl
cell (open_value.Array a) (open_value.Integer b) = refl
cell (open_value.Array a) (open_value.Bytes b) = refl
cell (open_value.Array a) (open_value.Float b) = refl
cell (open_value.Array a) (open_value.Text b) = refl
cell (open_value.Array a) (open_value.Bool b) = at_bool (λ z. Greater ≡ tree_cmp (shown (bare (open_value.Array a))) z) refl refl b
cell (open_value.Array a) open_value.Null = refl
cell (open_value.Array a) (open_value.Tag b s) = refl
cell (open_value.Array a) (open_value.Array b) = items a.items b.items
cell (open_value.Array a) (open_value.Map b) = refl
cell (open_value.Map a) (open_value.Integer b) = refl
cell (open_value.Map a) (open_value.Bytes b) = refl
cell (open_value.Map a) (open_value.Float b) = refl
cell (open_value.Map a) (open_value.Text b) = refl
cell (open_value.Map a) (open_value.Bool b) = at_bool (λ z. Greater ≡ tree_cmp (shown (bare (open_value.Map a))) z) refl refl b
cell (open_value.Map a) open_value.Null = refl
cell (open_value.Map a) (open_value.Tag b s) = refl
cell (open_value.Map a) (open_value.Array b) = refl
cell (open_value.Map a) (open_value.Map b) = entries a.items b.items

at_bare : (y : open_value.Value-F Such) → Same (roll-Value (bare y))
at_bare y b =
    let r : derived (roll-Value (bare y)) b ≡ derived (roll-Value (bare y)) (roll-Value (out-Value b)) = ap (derived (roll-Value (bare y))) (sym (roll-out-Value b)) in
    let v : tree_cmp (shown (bare y)) (shown (out-Value b)) ≡ tree_cmp (view (roll-Value (bare y))) (view (roll-Value (out-Value b))) = (λ i. tree_cmp (sym (fold-roll-Value Tree view_step (bare y)) i) (sym (fold-roll-Value Tree view_step (out-Value b)) i)) in
    r ∙ at_rolls (bare y) (out-Value b) ∙ cell y (out-Value b) ∙ v ∙ ap (λ z. tree_cmp (view (roll-Value (bare y))) (view z)) (roll-out-Value b)

pub derived_is : (a b : Value) → derived a b ≡ tree_cmp (view a) (view b)
derived_is = ind-Value Same (λ x y is. subst (λ z. Same (roll-Value z)) is (at_bare y))

same_eq : (a b : Value) → equality.eq-value.it a b ≡ is_eq (tree_cmp (view a) (view b))
same_eq a b = order_laws.matches_eq-law a b ∙ ap is_eq (derived_is a b)

pub equal_is : (a b : Value) → IsTrue (equality.eq-value.it a b) ↔ (view a ≡ view b)
equal_is a b = (
  λ h. tied (view a) (view b) (equal_of (tree_cmp (view a) (view b)) (sym (same_eq a b) ∙ h)),
  λ h. same_eq a b ∙ (λ i. is_eq (tree_cmp (h i) (view b))) ∙ ap is_eq (tied_itself tree_total (view b)),
)

pub hashed_alike : (a b : Value) → view a ≡ view b → hashes.hash_input-value.it a ≡ hashes.hash_input-value.it b
hashed_alike a b e = hash_laws.respects_eq-law a b ((equal_is a b).1 e)
