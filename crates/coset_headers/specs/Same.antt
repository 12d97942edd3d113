-- Whether two headers, protected headers or signatures say the same, field by field: texts and byte
-- strings by their bytes, labels and names by their order, values as trees, so a float by its width
-- and bits.
use Rattle.std.specs.Prelude.{nat_eq, Bool, true, false, ◌&&◌}
use Rattle.std.specs.Cmp.Lexicographic.{pointwise}
use Rattle.std.specs.Option.{option_eq}
use Rattle.std.specs.Ordering.{is_eq}
use Rattle.ciborium_value.specs.Tree.{Tree}
use Rattle.ciborium_value.specs.Order.{tree_cmp}
use Rattle.coset_labels.specs.Fields.{LabelFields, Named}
use Rattle.coset_labels.specs.Orders.{label_cmp, named_cmp}
use Rattle.coset_headers.specs.Fields.{Plain, HeaderFields, header, ProtectedFields, protected, SignatureFields, signature, Signatures, no_signatures, signature_more}

abbrev pub same_name : Named → Named → Bool
same_name n m = is_eq (named_cmp n m)

abbrev pub same_tree : Tree → Tree → Bool
same_tree t s = is_eq (tree_cmp t s)

abbrev pub same_entry : LabelFields × Tree → LabelFields × Tree → Bool
same_entry d e = is_eq (label_cmp d.0 e.0) && same_tree d.1 e.1

-- two headers have the same fields, but for their counter signatures
abbrev pub same_plain : Plain → Plain → Bool
same_plain p q = option_eq same_name p.alg q.alg && pointwise same_name p.crit q.crit && option_eq same_name p.content_type q.content_type
    && pointwise nat_eq p.key_id q.key_id && pointwise nat_eq p.iv q.iv && pointwise nat_eq p.partial_iv q.partial_iv
    && pointwise same_entry p.rest q.rest

abbrev mutual
  pub same_header : HeaderFields → HeaderFields → Bool
  same_header (header p ss) (header q us) = same_plain p q && same_signatures ss us

  -- the same received bytes, and the same header
  pub same_protected : ProtectedFields → ProtectedFields → Bool
  same_protected (protected o h) (protected u g) = option_eq (pointwise nat_eq) o u && same_header h g

  pub same_signature : SignatureFields → SignatureFields → Bool
  same_signature (signature p h c) (signature q g d) = same_protected p q && same_header h g && pointwise nat_eq c d

  pub same_signatures : Signatures → Signatures → Bool
  same_signatures no_signatures no_signatures = true
  same_signatures no_signatures (signature_more u us) = false
  same_signatures (signature_more s ss) no_signatures = false
  same_signatures (signature_more s ss) (signature_more u us) = same_signature s u && same_signatures ss us
