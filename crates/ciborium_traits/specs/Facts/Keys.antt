-- Characters and values that are written alike are equal as keys of a map.
use Rattle.std.proofs.Common.{◌≡◌, ℕ, ◌+◌, ◌-◌, ◌*◌, ◌/◌, ◌%◌, List, [], ◌∷◌, nat_lt, refl, sym, ap, ◌∙◌, arith}
use Rattle.std.specs.Char.{encode_utf8}
use Rattle.std.specs.Ordering.{nat_cmp}
use Rattle.std.specs.declared.cmp.Ordering.TheVariants.{Equal}
use Rattle.std.proofs.lemmas.Cmp.{tied_itself, nat_cmp_total}
use Rattle.std.proofs.lemmas.Bool.{cond_both}
use Rattle.ciborium_value.specs.Canonical.{canonical_cmp}
use Rattle.ciborium_value.specs.Order.{tree_cmp}
use Rattle.ciborium_value.specs.Tree.{text}
use Rattle.ciborium_value.specs.View.{view}
use Rattle.ciborium_value.specs.declared.canonical.CanonicalValue.{CanonicalValue}
use Rattle.ciborium_value.specs.declared.value.Value.{Value}
use Rattle.ciborium_value.specs.contracts.value.ValueOrd.TheImpl as order
use Rattle.ciborium_value.specs.Facts.Derived.{derived_is}
use Rattle.ciborium_value.specs.Facts.TextTotal.{canonical_total}
use Rattle.ciborium_value.specs.Facts.TreeTotal.{tree_total}

pub tied_value : (x y : Value) → view x ≡ view y → order.cmp-value.it x y ≡ Equal
tied_value x y e = derived_is x y ∙ ap (tree_cmp (view x)) (sym e) ∙ tied_itself tree_total (view x)

pub tied_canonical : (x y : CanonicalValue) → view x.0 ≡ view y.0 → canonical_cmp (view x.0) (view y.0) ≡ Equal
tied_canonical x y e = ap (canonical_cmp (view x.0)) (sym e) ∙ tied_itself canonical_total (view x.0)

-- the number of the character that these bytes are
abbrev read : List ℕ → ℕ
read [] = 0
read (a ∷ []) = a
read (a ∷ b ∷ []) = (a - 192) * 64 + (b - 128)
read (a ∷ b ∷ c ∷ []) = (a - 224) * 4096 + (b - 128) * 64 + (c - 128)
read (a ∷ b ∷ c ∷ d ∷ rest) = (a - 240) * 262144 + (b - 128) * 4096 + (c - 128) * 64 + (d - 128)

two : (c : ℕ) → read ((192 + c / 64) ∷ (128 + c % 64) ∷ []) ≡ c
two c = omega arith

three : (c : ℕ) → read ((224 + c / 4096) ∷ (128 + c / 64 % 64) ∷ (128 + c % 64) ∷ []) ≡ c
three c = omega arith

four : (c : ℕ) → read ((240 + c / 262144) ∷ (128 + c / 4096 % 64) ∷ (128 + c / 64 % 64) ∷ (128 + c % 64) ∷ []) ≡ c
four c = omega arith

read_back : (c : ℕ) → read (encode_utf8 c) ≡ c
unfolding encode_utf8
read_back c =
    let P : List ℕ → Type 0 = λ b. read b ≡ c in
    cond_both (nat_lt c 128) (c ∷ []) _ P (λ _. refl) (λ _.
    cond_both (nat_lt c 2048) _ _ P (λ _. two c) (λ _.
    cond_both (nat_lt c 65536) _ _ P (λ _. three c) (λ _. four c)))

pub tied_character : (x y : ℕ) → text (encode_utf8 x) ≡ text (encode_utf8 y) → nat_cmp x y ≡ Equal
tied_character x y e =
    let f : encode_utf8 x ≡ encode_utf8 y = cc in
    let g : x ≡ y = sym (read_back x) ∙ ap read f ∙ read_back y in
    ap (nat_cmp x) (sym g) ∙ tied_itself nat_cmp_total x
