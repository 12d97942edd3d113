-- Whether a field is set, by the code's test of it.
use Rattle.std.proofs.Common.{◌≡◌, ℕ, List, [], ◌∷◌, length, map, Bool, true, false, not, Option, Some, None, option_map, is_some, refl, sym, ap, ◌∙◌, arith, vec_len, Vec, Global}
use Rattle.std.specs.Prelude.{◌==◌, ◌&&◌}
use borrow.Author.Tests.{eqb-true}
use Rattle.coset_labels.specs.Fields.{Named}
use Rattle.coset_labels.specs.Labels.{named_tree}
use Rattle.coset_headers.specs.Parts.{plain_of, signs_of}
use Rattle.coset_headers.specs.View.{header_view, signatures_view}
use Rattle.coset_headers.specs.Written.{crit_value, bytes_value, is_nil, is_unsigned, is_empty}
use Rattle.coset_headers.specs.Values.{values_of, all_absent}
use Rattle.coset_headers.specs.declared.header.CoseSignature.{CoseSignature}
use Rattle.coset_headers.specs.declared.header.Header.{Header}
use Rattle.coset_headers.proofs.Alike.{header_is}
use Rattle.coset_headers.proofs.Written.{unsigned_by}

pub name_set : {A : Type 0} (f : A → Named) (o : Option A) → is_some (option_map named_tree (option_map f o)) ≡ is_some o
name_set f None = refl
name_set f (Some x) = refl

not_true : (b : Bool) → (b ≡ true → ⊥) → b ≡ false
not_true true h = absurd (h refl)
not_true false h = refl

nil_test : {A : Type 0} (xs : List A) → (length xs == 0) ≡ is_nil xs
nil_test [] = refl
nil_test (x ∷ xs) = not_true (length (x ∷ xs) == 0) (λ h. let e : length (x ∷ xs) ≡ 0 = eqb-true (length (x ∷ xs)) 0 h in absurd (omega (arith, e)))

nil_vec : {A : Type 0} (v : Vec A Global) (b : Bool) → b ≡ (vec_len v == 0) → is_nil v.items ≡ b
nil_vec v b e = sym (e ∙ ap (λ n. n == 0) v.ok.0 ∙ nil_test v.items)

crit_test : {A : Type 0} (f : A → Named) (xs : List A) → is_some (crit_value (map f xs)) ≡ not (is_nil xs)
crit_test f [] = refl
crit_test f (x ∷ xs) = refl

pub crit_set : {A : Type 0} (f : A → Named) (v : Vec A Global) (b : Bool) → b ≡ (vec_len v == 0) → is_some (crit_value (map f v.items)) ≡ not b
crit_set f v b e = crit_test f v.items ∙ ap not (nil_vec v b e)

bytes_test : (xs : List ℕ) → is_some (bytes_value xs) ≡ not (is_nil xs)
bytes_test [] = refl
bytes_test (x ∷ xs) = refl

pub bytes_set : (v : Vec ℕ Global) (b : Bool) → b ≡ (vec_len v == 0) → is_some (bytes_value v.items) ≡ not b
bytes_set v b e = bytes_test v.items ∙ ap not (nil_vec v b e)

pub none_signed : (v : Vec CoseSignature Global) (b : Bool) → b ≡ (vec_len v == 0) → b ≡ is_unsigned (signatures_view v.items)
none_signed v b e = e ∙ ap (λ n. n == 0) v.ok.0 ∙ unsigned_by v.items

rest_test : {A B : Type 0} (f : A → B) (xs : List A) → is_nil xs ≡ is_nil (map f xs)
rest_test f [] = refl
rest_test f (x ∷ xs) = refl

pub rest_by : {A B : Type 0} (f : A → B) (v : Vec A Global) (b : Bool) → b ≡ (vec_len v == 0) → b ≡ is_nil (map f v.items)
rest_by f v b e = sym (nil_vec v b e) ∙ rest_test f v.items

-- a field that isn't set, as `is_some` and `is_empty` tell
pub unset : {a b : Bool} → a ≡ not b → b ≡ true → not a ≡ true
unset {a} {b} e q = ap not (e ∙ ap not q)

pub absent : {a b : Bool} → a ≡ b → b ≡ false → not a ≡ true
absent {a} {b} e q = ap not (e ∙ q)

pub twice_not : (b : Bool) → b ≡ not (not b)
twice_not true = refl
twice_not false = refl

-- none of the fields but the counter signatures and the rest is set
pub empty_by : (h : Header) (b : Bool) → all_absent (values_of (plain_of h)) ≡ true → is_unsigned (signs_of h) ≡ b → is_empty (header_view h) ≡ (b && is_nil (plain_of h).rest)
empty_by h b n s = ap is_empty (header_is h) ∙ (λ i. n i && (s i && is_nil (plain_of h).rest))
