-- What was read from a value is written as that value: a label, a registered name, a name.
use Rattle.std.proofs.Common.{◌≡◌, ℤ, Bool, true, false, cond, Some, None, ap}
use Rattle.ciborium_value.specs.Tree.{Tree, integer, text}
use Rattle.coset_labels.specs.Fields.{LabelFields, number, words, Named, private_use, assigned, named}
use Rattle.coset_labels.specs.Labels.{is_i64, label_of, label_tree, registered_of, named_of, named_tree}

label_if : (b : Bool) (i : ℤ) (l : LabelFields) → cond b (Some (number i)) None ≡ Some l → label_tree l ≡ integer i
label_if true i l e = let h : Some (number i) ≡ Some l = e in let s : l ≡ number i = cc in ap label_tree s
label_if false i l e = let h : None ≡ Some l = e in cc

pub label_back : (t : Tree) (l : LabelFields) → label_of t ≡ Some l → label_tree l ≡ t
label_back (integer i) l e = label_if (is_i64 i) i l e
label_back (text b) l e = let h : Some (words b) ≡ Some l = e in let s : l ≡ words b = cc in ap label_tree s
label_back t l e = let h : None ≡ Some l = e in cc

registered_if : (a b : Bool) (i : ℤ) (n : Named) → cond a (cond b (Some (assigned i)) None) None ≡ Some n → named_tree n ≡ integer i
registered_if true true i n e = let h : Some (assigned i) ≡ Some n = e in let s : n ≡ assigned i = cc in ap named_tree s
registered_if a b i n e = let h : None ≡ Some n = e in cc

pub registered_back : (r : ℤ → Bool) (t : Tree) (n : Named) → registered_of r t ≡ Some n → named_tree n ≡ t
registered_back r (integer i) n e = registered_if (is_i64 i) (r i) i n e
registered_back r (text b) n e = let h : Some (named b) ≡ Some n = e in let s : n ≡ named b = cc in ap named_tree s
registered_back r t n e = let h : None ≡ Some n = e in cc

named_if : (a b c : Bool) (i : ℤ) (n : Named) → cond a (cond b (Some (assigned i)) (cond c (Some (private_use i)) None)) None ≡ Some n → named_tree n ≡ integer i
named_if true true c i n e = let h : Some (assigned i) ≡ Some n = e in let s : n ≡ assigned i = cc in ap named_tree s
named_if true false true i n e = let h : Some (private_use i) ≡ Some n = e in let s : n ≡ private_use i = cc in ap named_tree s
named_if a b c i n e = let h : None ≡ Some n = e in cc

pub named_back : (r p : ℤ → Bool) (t : Tree) (n : Named) → named_of r p t ≡ Some n → named_tree n ≡ t
named_back r p (integer i) n e = named_if (is_i64 i) (r i) (p i) i n e
named_back r p (text b) n e = let h : Some (named b) ≡ Some n = e in let s : n ≡ named b = cc in ap named_tree s
named_back r p t n e = let h : None ≡ Some n = e in cc
