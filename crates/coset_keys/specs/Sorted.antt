-- Keys whose `params` are in the order of their labels' encodings (RFC 8949, sections 4.2.1 and
-- 4.2.3).
use Rattle.std.specs.Prelude.{◌≡◌, List}
use Rattle.std.specs.List.{Contains, filter}
use Rattle.std.specs.List.Sorted.{IsPermutation, IsSorted, ties}
use Rattle.std.specs.Ordering.{is_lt}
use Rattle.std.specs.declared.cmp.Ordering.{Ordering}
use Rattle.ciborium_value.specs.Tree.{Tree}
use Rattle.ciborium_value.specs.Canonical.{bytewise, length_first}
use Rattle.coset_labels.specs.Fields.{LabelFields}
use Rattle.coset_labels.specs.Labels.{label_tree}
use Rattle.coset_labels.specs.declared.order.CborOrdering.{CborOrdering}
use Rattle.coset_labels.specs.declared.order.CborOrdering.TheVariants as ordering
use Rattle.coset_keys.specs.Fields.{KeyFields}

abbrev pub encoded_cmp : CborOrdering → LabelFields → LabelFields → Ordering
encoded_cmp ordering.Lexicographic l m = bytewise (label_tree l) (label_tree m)
encoded_cmp ordering.LengthFirstLexicographic l m = length_first (label_tree l) (label_tree m)

abbrev pub entry_cmp : CborOrdering → LabelFields × Tree → LabelFields × Tree → Ordering
entry_cmp o a b = encoded_cmp o a.0 b.0

-- the entries whose labels have the encoding of that of `e`, in order
abbrev pub tied_with : CborOrdering → LabelFields × Tree → List (LabelFields × Tree) → List (LabelFields × Tree)
tied_with o e es = filter (ties (λ a b. is_lt (entry_cmp o a b)) e) es

-- the same entries, sorted; those with one label keep their order
pub record Sorts (o : CborOrdering) (old new : List (LabelFields × Tree)) : Type 0 where
  pub pairs : IsPermutation old new
  pub sorted : IsSorted (entry_cmp o) new
  pub stable : (e : LabelFields × Tree) → Contains old e → tied_with o e new ≡ tied_with o e old

-- the entries of `params` are sorted, and the other fields stay
pub record Canonicalized (o : CborOrdering) (old new : KeyFields) : Type 0 where
  pub others : new ≡ record old { params = new.params }
  pub params : Sorts o old.params new.params

-- keys that differ at most in the order of `params`
pub record SameButOrder (k l : KeyFields) : Type 0 where
  pub others : l ≡ record k { params = l.params }
  pub pairs : IsPermutation k.params l.params
