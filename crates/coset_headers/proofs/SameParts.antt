-- Equality by parts is that of what the parts say.
use Rattle.std.proofs.Common.{◌≡◌, ℕ, zero, suc, List, [], ◌∷◌, length, map, Bool, true, false, Option, Some, None, option_map, refl, sym, ap, ◌∙◌, arith}
use Rattle.std.specs.Prelude.{◌&&◌, nat_eq}
use Rattle.std.specs.Bool.{one_answer}
use Rattle.std.specs.Cmp.Lexicographic.{pointwise}
use Rattle.std.specs.Option.{option_eq}
use Rattle.std.specs.Ordering.{is_eq}
use Rattle.cose_iana.specs.Algorithms.{algorithm_number}
use Rattle.cose_iana.specs.Formats.{coap_content_formats}
use Rattle.cose_iana.specs.Headers.{header_parameters}
use Rattle.ciborium_value.specs.Facts.Derived.{equal_is}
use Rattle.ciborium_value.specs.View.{view}
use Rattle.ciborium_value.specs.contracts.value.ValuePartialEq.TheImpl as value_equality
use Rattle.ciborium_value.specs.declared.value.Value.{Value}
use Rattle.coset_labels.specs.Facts.Equal.{by_name}
use Rattle.coset_labels.specs.Orders.{label_cmp}
use Rattle.coset_labels.specs.View.{label_view, registered_view, named_view}
use Rattle.coset_labels.specs.declared.label.Label.{Label}
use Rattle.coset_headers.specs.Facts.Decided.{trees_decided}
use Rattle.coset_headers.specs.Copies.{unsigned}
use Rattle.coset_headers.specs.Fields.{plain_part, SignatureFields, signature, protected, header, Signatures}
use Rattle.coset_headers.specs.Same.{same_name, same_tree, same_entry, same_plain, same_signature, same_signatures}
use Rattle.coset_headers.specs.View.{header_view, signature_view, signatures_view, entry_view}
use Rattle.coset_headers.specs.declared.header.Header.{Header, out-Header}
use Rattle.coset_headers.specs.declared.header.CoseSignature.{CoseSignature}
use Rattle.coset_headers.proofs.Alike.{header_is, of_protected, of_unprotected, signature_seen}

options_on : {A B : Type 0} (E : B → B → Bool) (f : A → B) (x y : Option A) → option_eq (λ a b. E (f a) (f b)) x y ≡ option_eq E (option_map f x) (option_map f y)
options_on E f None None = refl
options_on E f None (Some y) = refl
options_on E f (Some x) None = refl
options_on E f (Some x) (Some y) = refl

lists_on : {A B : Type 0} (E : B → B → Bool) (f : A → B) (xs ys : List A) → pointwise (λ a b. E (f a) (f b)) xs ys ≡ pointwise E (map f xs) (map f ys)
lists_on E f [] [] = refl
lists_on E f [] (y ∷ ys) = refl
lists_on E f (x ∷ xs) [] = refl
lists_on E f (x ∷ xs) (y ∷ ys) = ap (λ z. E (f x) (f y) && z) (lists_on E f xs ys)

values_on : (v w : Value) → value_equality.eq-value.it v w ≡ same_tree (view v) (view w)
values_on v w = one_answer (value_equality.eq-value.it v w) (same_tree (view v) (view w)) (equal_is v w) (trees_decided (view v) (view w))

abbrev pub entry_eq : Label × Value → Label × Value → Bool
entry_eq x y = is_eq (label_cmp (label_view x.0) (label_view y.0)) && value_equality.eq-value.it x.1 y.1

entries_on : (xs ys : List (Label × Value)) → pointwise entry_eq xs ys ≡ pointwise same_entry (map entry_view xs) (map entry_view ys)
entries_on [] [] = refl
entries_on [] (y ∷ ys) = refl
entries_on (x ∷ xs) [] = refl
entries_on (x ∷ xs) (y ∷ ys) = λ i. (is_eq (label_cmp (label_view x.0) (label_view y.0)) && values_on x.1 y.1 i) && entries_on xs ys i

-- the tests of all fields, and their conjunction up to each
abbrev pub tests : Header → Header → List Bool
tests h g = option_eq (by_name (named_view algorithm_number)) (out-Header h).alg (out-Header g).alg
    ∷ pointwise (by_name (named_view header_parameters.number)) (out-Header h).crit.items (out-Header g).crit.items
    ∷ option_eq (by_name (registered_view coap_content_formats.number)) (out-Header h).content_type (out-Header g).content_type
    ∷ pointwise nat_eq (out-Header h).key_id.items (out-Header g).key_id.items
    ∷ pointwise nat_eq (out-Header h).iv.items (out-Header g).iv.items
    ∷ pointwise nat_eq (out-Header h).partial_iv.items (out-Header g).partial_iv.items
    ∷ pointwise entry_eq (out-Header h).rest.items (out-Header g).rest.items ∷ []

abbrev pub all_from : Bool → ℕ → List Bool → Bool
all_from b zero ts = b
all_from b (suc n) [] = b
all_from b (suc n) (t ∷ ts) = all_from (b && t) n ts

abbrev pub upto : ℕ → Header → Header → Bool
upto n h g = all_from true n (tests h g)

pub plain_by : (h g : Header) (r : Bool) → r ≡ upto 7 h g → r ≡ same_plain (plain_part (header_view h)) (plain_part (header_view g))
plain_by h g r e =
    e ∙ (λ i.
    options_on same_name (named_view algorithm_number) (out-Header h).alg (out-Header g).alg i
    && lists_on same_name (named_view header_parameters.number) (out-Header h).crit.items (out-Header g).crit.items i
    && options_on same_name (registered_view coap_content_formats.number) (out-Header h).content_type (out-Header g).content_type i
    && pointwise nat_eq (out-Header h).key_id.items (out-Header g).key_id.items
    && pointwise nat_eq (out-Header h).iv.items (out-Header g).iv.items
    && pointwise nat_eq (out-Header h).partial_iv.items (out-Header g).partial_iv.items
    && entries_on (out-Header h).rest.items (out-Header g).rest.items i)
    ∙ sym (λ i. same_plain (plain_part (header_is h i)) (plain_part (header_is g i)))

-- `r && x` as the code computes it
pub and_then : {r x v p q : Bool} → r ≡ p → r ≡ true → x ≡ q → v ≡ x → v ≡ (p && q)
and_then {r} {x} {v} {p} {q} e t k j = j ∙ k ∙ ap (λ z. z && q) (sym t ∙ e)

pub and_else : {r v p : Bool} (q : Bool) → r ≡ p → r ≡ false → v ≡ r → v ≡ (p && q)
and_else {r} {v} {p} q e f j = j ∙ f ∙ ap (λ z. z && q) (sym f ∙ e)

unlike_more : (p q : Bool) → false ≡ q → false ≡ (p && q)
unlike_more true q e = e
unlike_more false q e = refl

-- lists of two lengths
pub unlike_long : (xs ys : List CoseSignature) → (length xs ≡ length ys → ⊥) → false ≡ same_signatures (signatures_view xs) (signatures_view ys)
unlike_long [] [] h = absurd (h refl)
unlike_long [] (y ∷ ys) h = refl
unlike_long (x ∷ xs) [] h = refl
unlike_long (x ∷ xs) (y ∷ ys) h =
    unlike_more _ _ (unlike_long xs ys (λ e. h (omega (arith, e))))

-- two signatures by all but the counter signatures in their headers, and by these
regroup : (a b c d e f : Bool) → (a && (b && c) && (d && e) && f) ≡ ((a && (b && true) && (d && true) && f) && c && e)
regroup false b c d e f = refl
regroup true false c d e f = refl
regroup true true true true true true = refl
regroup true true true true true false = refl
regroup true true true true false true = refl
regroup true true true true false false = refl
regroup true true true false e f = refl
regroup true true false true e true = refl
regroup true true false true e false = refl
regroup true true false false e f = refl

abbrev in_protected : SignatureFields → Signatures
in_protected (signature (protected o (header p ss)) h c) = ss

abbrev in_unprotected : SignatureFields → Signatures
in_unprotected (signature q (header p ss) c) = ss

same_by : (s u : SignatureFields) → same_signature s u
    ≡ (same_signature (unsigned s) (unsigned u) && same_signatures (in_protected s) (in_protected u) && same_signatures (in_unprotected s) (in_unprotected u))
same_by (signature (protected o (header p ss)) (header q us) c) (signature (protected w (header x ys)) (header y zs) d) =
    regroup (option_eq (pointwise nat_eq) o w) (same_plain p x) (same_signatures ss ys) (same_plain q y) (same_signatures us zs) (pointwise nat_eq c d)

nested_protected : (s : CoseSignature) → in_protected (signature_view s) ≡ signatures_view (of_protected s).counter_signatures.items
nested_protected s = ap in_protected (signature_seen s)

nested_unprotected : (s : CoseSignature) → in_unprotected (signature_view s) ≡ signatures_view (of_unprotected s).counter_signatures.items
nested_unprotected s = ap in_unprotected (signature_seen s)

-- the first of two lists of signatures, by what was compared of them
module _ (xs ys xt yt : List CoseSignature) (x y : CoseSignature) (ps qs us vs : List CoseSignature) where
  abbrev first_same : Bool
  first_same = same_signatures (signatures_view ps) (signatures_view qs) && same_signatures (signatures_view us) (signatures_view vs)

  first_by : xs ≡ x ∷ xt → ys ≡ y ∷ yt → true ≡ same_signature (unsigned (signature_view x)) (unsigned (signature_view y))
      → ps ≡ (of_protected x).counter_signatures.items → qs ≡ (of_protected y).counter_signatures.items
      → us ≡ (of_unprotected x).counter_signatures.items → vs ≡ (of_unprotected y).counter_signatures.items
      → same_signatures (signatures_view xs) (signatures_view ys) ≡ (first_same && same_signatures (signatures_view xt) (signatures_view yt))
  first_by a b f p q u v =
      (λ i. same_signatures (signatures_view (a i)) (signatures_view (b i)))
      ∙ ap (λ z. z && same_signatures (signatures_view xt) (signatures_view yt)) (
      same_by (signature_view x) (signature_view y)
      ∙ (λ i. sym f i && same_signatures ((nested_protected x ∙ ap signatures_view (sym p)) i) ((nested_protected y ∙ ap signatures_view (sym q)) i)
      && same_signatures ((nested_unprotected x ∙ ap signatures_view (sym u)) i) ((nested_unprotected y ∙ ap signatures_view (sym v)) i))
      )

  pub unlike_protected : xs ≡ x ∷ xt → ys ≡ y ∷ yt → true ≡ same_signature (unsigned (signature_view x)) (unsigned (signature_view y))
      → ps ≡ (of_protected x).counter_signatures.items → qs ≡ (of_protected y).counter_signatures.items
      → us ≡ (of_unprotected x).counter_signatures.items → vs ≡ (of_unprotected y).counter_signatures.items
      → false ≡ same_signatures (signatures_view ps) (signatures_view qs) → false ≡ same_signatures (signatures_view xs) (signatures_view ys)
  unlike_protected a b f p q u v e = sym (first_by a b f p q u v
      ∙ (λ i. (sym e i && same_signatures (signatures_view us) (signatures_view vs)) && same_signatures (signatures_view xt) (signatures_view yt)))

  pub unlike_unprotected : xs ≡ x ∷ xt → ys ≡ y ∷ yt → true ≡ same_signature (unsigned (signature_view x)) (unsigned (signature_view y))
      → ps ≡ (of_protected x).counter_signatures.items → qs ≡ (of_protected y).counter_signatures.items
      → us ≡ (of_unprotected x).counter_signatures.items → vs ≡ (of_unprotected y).counter_signatures.items
      → true ≡ same_signatures (signatures_view ps) (signatures_view qs) → false ≡ same_signatures (signatures_view us) (signatures_view vs)
      → false ≡ same_signatures (signatures_view xs) (signatures_view ys)
  unlike_unprotected a b f p q u v d e = sym (first_by a b f p q u v
      ∙ (λ i. (sym d i && sym e i) && same_signatures (signatures_view xt) (signatures_view yt)))

  pub like_first : xs ≡ x ∷ xt → ys ≡ y ∷ yt → true ≡ same_signature (unsigned (signature_view x)) (unsigned (signature_view y))
      → ps ≡ (of_protected x).counter_signatures.items → qs ≡ (of_protected y).counter_signatures.items
      → us ≡ (of_unprotected x).counter_signatures.items → vs ≡ (of_unprotected y).counter_signatures.items
      → true ≡ same_signatures (signatures_view ps) (signatures_view qs) → true ≡ same_signatures (signatures_view us) (signatures_view vs)
      → same_signatures (signatures_view xs) (signatures_view ys) ≡ same_signatures (signatures_view xt) (signatures_view yt)
  like_first a b f p q u v d e = first_by a b f p q u v ∙ (λ i. (sym d i && sym e i) && same_signatures (signatures_view xt) (signatures_view yt))
