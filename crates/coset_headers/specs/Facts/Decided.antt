-- The code's equality of headers is that of their fields.
use Rattle.std.proofs.Common.{◌≡◌, true, false, refl, ap, ◌∙◌}
use Rattle.std.proofs.lemmas.Cmp.{tied_itself}
use Rattle.std.specs.Prelude.{IsTrue, ◌↔◌, ◌&&◌, nat_eq}
use Rattle.std.specs.Cmp.{IsEquivalence, decided}
use Rattle.std.specs.Cmp.Lexicographic.{pointwise, bytes_decides}
use Rattle.std.specs.Option.{option_eq}
use Rattle.std.specs.Ordering.{is_eq}
use Rattle.ciborium_value.specs.Tree.{Tree}
use Rattle.ciborium_value.specs.Order.{tree_cmp}
use Rattle.ciborium_value.specs.Facts.Orders.{equal_of}
use Rattle.ciborium_value.specs.Facts.Ties.{tied}
use Rattle.ciborium_value.specs.Facts.TreeTotal.{tree_total}
use Rattle.coset_labels.specs.Facts.Equal.{both, plain_options, plain_lists}
use Rattle.coset_labels.specs.Fields.{LabelFields}
use Rattle.coset_labels.specs.Orders.{label_cmp}
use Rattle.coset_labels.specs.Facts.Orders.{labels_same, names_same}
use Rattle.coset_headers.specs.Fields.{Plain, HeaderFields, header, ProtectedFields, protected, SignatureFields, signature, Signatures, no_signatures, signature_more}
use Rattle.coset_headers.specs.Same.{same_name, same_tree, same_entry, same_plain, same_header, same_protected, same_signature, same_signatures}

pub trees_decided : (t s : Tree) → IsTrue (same_tree t s) ↔ (t ≡ s)
trees_decided t s = (λ h. tied t s (equal_of (tree_cmp t s) h), λ h. ap (λ z. is_eq (tree_cmp z s)) h ∙ ap is_eq (tied_itself tree_total s))

entries_decided : (d e : LabelFields × Tree) → IsTrue (same_entry d e) ↔ (d ≡ e)
entries_decided d e =
    let w = both (is_eq (label_cmp d.0 e.0)) (same_tree d.1 e.1) (labels_same d.0 e.0) (trees_decided d.1 e.1) in
    (λ h. let p = w.0 h in λ i. (p.0 i, p.1 i), λ h. w.1 (ap (λ z. z.0) h, ap (λ z. z.1) h))

plains_decided : (p q : Plain) → IsTrue (same_plain p q) ↔ (p ≡ q)
plains_decided p q =
    let names = both _ _ (both _ _ (plain_options same_name names_same p.alg q.alg) (plain_lists same_name names_same p.crit q.crit))
    (plain_options same_name names_same p.content_type q.content_type) in
    let strings = both _ _ (both _ _ (both _ _ names (bytes_decides p.key_id q.key_id)) (bytes_decides p.iv q.iv))
    (bytes_decides p.partial_iv q.partial_iv) in
    let w = both _ _ strings (plain_lists same_entry entries_decided p.rest q.rest) in (
      λ h. let e = w.0 h in λ i. record {
        alg = e.0.0.0.0.0.0 i;
        crit = e.0.0.0.0.0.1 i;
        content_type = e.0.0.0.0.1 i;
        key_id = e.0.0.0.1 i;
        iv = e.0.0.1 i;
        partial_iv = e.0.1 i;
        rest = e.1 i;
      },
      λ h. w.1 (
        (
          (
            (((ap (λ z. z.alg) h, ap (λ z. z.crit) h), ap (λ z. z.content_type) h), ap (λ z. z.key_id) h),
            ap (λ z. z.iv) h,
          ),
          ap (λ z. z.partial_iv) h,
        ),
        ap (λ z. z.rest) h,
      ),
    )

mutual
  pub headers_decided : (h g : HeaderFields) → IsTrue (same_header h g) ↔ (h ≡ g)
  headers_decided (header p ss) (header q us) =
      let w = both (same_plain p q) (same_signatures ss us) (plains_decided p q) (signatures_decided ss us) in (
        λ t. let e = w.0 t in λ i. header (e.0 i) (e.1 i),
        λ t. let k : header p ss ≡ header q us = t in let a : p ≡ q = cc in let b : ss ≡ us = cc in w.1 (a, b),
      )

  pub protected_decided : (p q : ProtectedFields) → IsTrue (same_protected p q) ↔ (p ≡ q)
  protected_decided (protected o h) (protected u g) =
      let w = both (option_eq (pointwise nat_eq) o u) (same_header h g) (plain_options (pointwise nat_eq) bytes_decides o u)
      (headers_decided h g) in (
        λ t. let e = w.0 t in λ i. protected (e.0 i) (e.1 i),
        λ t. let k : protected o h ≡ protected u g = t in let a : o ≡ u = cc in let b : h ≡ g = cc in w.1 (a, b),
      )

  pub signature_decided : (s u : SignatureFields) → IsTrue (same_signature s u) ↔ (s ≡ u)
  signature_decided (signature p h c) (signature q g d) =
      let heads = both (same_protected p q) (same_header h g) (protected_decided p q) (headers_decided h g) in
      let w = both (same_protected p q && same_header h g) (pointwise nat_eq c d) heads (bytes_decides c d) in (
        λ t. let e = w.0 t in λ i. signature (e.0.0 i) (e.0.1 i) (e.1 i),
        λ t.
            let k : signature p h c ≡ signature q g d = t in
            let a : p ≡ q = cc in
            let b : h ≡ g = cc in
            let e : c ≡ d = cc in
            w.1 ((a, b), e),
      )

  signatures_decided : (ss us : Signatures) → IsTrue (same_signatures ss us) ↔ (ss ≡ us)
  signatures_decided no_signatures no_signatures = (λ t. refl, λ t. refl)
  signatures_decided no_signatures (signature_more u us) =
      (λ t. let k : false ≡ true = t in cc, λ t. let k : no_signatures ≡ signature_more u us = t in cc)
  signatures_decided (signature_more s ss) no_signatures =
      (λ t. let k : false ≡ true = t in cc, λ t. let k : signature_more s ss ≡ no_signatures = t in cc)
  signatures_decided (signature_more s ss) (signature_more u us) =
      let w = both (same_signature s u) (same_signatures ss us) (signature_decided s u) (signatures_decided ss us) in (
        λ t. let e = w.0 t in λ i. signature_more (e.0 i) (e.1 i),
        λ t.
            let k : signature_more s ss ≡ signature_more u us = t in
            let a : s ≡ u = cc in
            let b : ss ≡ us = cc in
            w.1 (a, b),
      )

-- so it is an equivalence
pub headers_equiv : IsEquivalence same_header
headers_equiv = decided same_header headers_decided

pub protected_equiv : IsEquivalence same_protected
protected_equiv = decided same_protected protected_decided

pub signature_equiv : IsEquivalence same_signature
signature_equiv = decided same_signature signature_decided
