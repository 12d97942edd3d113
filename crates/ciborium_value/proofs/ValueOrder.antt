-- The order of values by their encodings, at a value made of its parts.
use Rattle.std.proofs.Common.{◌≡◌, ℕ, pos, negsuc, ℤ, ◌<◌, ◌^◌, length, ap, sym, subst, ◌∙◌, Vec, Global, arith}
use Rattle.std.specs.declared.cmp.Ordering.{Ordering}
use Rattle.std.specs.declared.cmp.Ordering.TheVariants.{Equal}
use Rattle.std.specs.Ordering.{ordering_then, nat_cmp}
use Rattle.ciborium_ll.specs.Title.{title_of}
use Rattle.ciborium_value.specs.Tree.{Tree, integer}
use Rattle.ciborium_value.specs.Encoding.{int_head, enc}
use Rattle.ciborium_value.specs.View.{view, view_pairs}
use Rattle.ciborium_value.specs.Canonical.{counted, bytewise, length_first, canonical}
use Rattle.ciborium_value.specs.Facts.Heads.{int_place, int_number, number, head_cmp, heads_cmp, each_cmp, Sized}
use Rattle.ciborium_value.specs.declared.value.Value.{Value}
use Rattle.ciborium_value.specs.declared.value.Value.TheVariants as code
use Rattle.ciborium_value.proofs.Views.{view_array, view_map}
use Rattle.ciborium_value.proofs.Fitting.{count_items, count_entries}
use Rattle.ciborium_value.specs.Facts.Orders.{assoc}
use Rattle.ciborium_value.proofs.TextOrder.{heads_order}

pub array_number : (value : Value) (v : Vec Value Global) → value ≡ code.Array v → v.len ≡ number (view value)
array_number value v e = omega (arith, v.ok.0, count_items v.items) ∙ sym (ap (λ z. number (view z)) e ∙ ap number (view_array v))

pub map_number : (value : Value) (v : Vec (Value × Value) Global) → value ≡ code.Map v → v.len ≡ number (view value)
map_number value v e = omega (arith, v.ok.0, count_entries v.items) ∙ sym (ap (λ z. number (view z)) e ∙ ap number (view_map v))

-- two maps with one head
pub map_texts : (a b : Value) (x y : Vec (Value × Value) Global) (h o : Ordering) → h ≡ head_cmp (view a) (view b) → h ≡ Equal → a ≡ code.Map x → b ≡ code.Map y
    → o ≡ each_cmp (view_pairs x.items) (view_pairs y.items) → o ≡ heads_cmp (view a) (view b)
map_texts a b x y h o g t e f r =
    let p = ap view e ∙ view_map x in
    let q = ap view f ∙ view_map y in
    let k = (λ i. head_cmp (sym p i) (sym q i)) ∙ sym g ∙ t in
    r ∙ sym ((λ i. heads_cmp (p i) (q i)) ∙ ap (λ z. ordering_then z (each_cmp (view_pairs x.items) (view_pairs y.items))) k)

-- if the counted lengths are equal
pub equal_lengths : (t s : Tree) (o : Ordering) (k l : ℕ) → Equal ≡ nat_cmp k l → k ≡ counted (enc t) → l ≡ counted (enc s) → o ≡ heads_cmp t s → Sized t → Sized s → o ≡ canonical t s
equal_lengths t s o k l e x y r f g =
    r ∙ sym (heads_order t s f g) ∙ ap (λ z. ordering_then z (bytewise t s)) (e ∙ (λ i. nat_cmp (x i) (y i)))

int_sized : (i : ℤ) → int_number i < 2 ^ 64 → Sized (integer i)
int_sized (pos n) l = l
int_sized (negsuc n) l = l

-- the order of two integers from the places, numbers and lengths of their heads
pub int_canonical : (i j : ℤ) (a b n m k l : ℕ) → a ≡ int_place i → n ≡ int_number i → b ≡ int_place j → m ≡ int_number j → n < 2 ^ 64 → m < 2 ^ 64
    → k ≡ length (title_of (int_head i)) → l ≡ length (title_of (int_head j))
    → ordering_then (ordering_then (nat_cmp k l) (nat_cmp a b)) (nat_cmp n m) ≡ length_first (integer i) (integer j)
int_canonical i j a b n m k l e f g h p q s t =
    sym (assoc (nat_cmp k l) (nat_cmp a b) (nat_cmp n m))
    ∙ (λ z. ordering_then (nat_cmp (s z) (t z)) (ordering_then (nat_cmp (e z) (g z)) (nat_cmp (f z) (h z))))
    ∙ ap (ordering_then (nat_cmp (length (enc (integer i))) (length (enc (integer j))))) (sym (heads_order (integer i) (integer j) (int_sized i (subst (λ z. z < 2 ^ 64) f p)) (int_sized j (subst (λ z. z < 2 ^ 64) h q))))
