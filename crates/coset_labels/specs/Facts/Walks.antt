-- What a step shows in a walk through the items of a list or the entries of a map, and faults that
-- are passed on.
use Rattle.std.proofs.Common.{◌≡◌, inl, inr, List, [], ◌∷◌, ◌++◌, length, map, Option, Some, refl, sym, ap, subst, ◌∙◌, arith}
use Rattle.std.proofs.lemmas.List.{map-append}
use Rattle.ciborium_value.specs.Tree.{Tree, tree_count}
use Rattle.ciborium_value.specs.View.{trees, pairs, view, views, view_pair, view_pairs}
use Rattle.ciborium_value.specs.declared.value.Value.{Value}
use Rattle.coset_labels.specs.Entries.{entries}
use Rattle.coset_labels.specs.Facts.Entries.{entries_snoc}
use Rattle.coset_labels.specs.Faults.{CoseFault, OrMemory, fault_of}
use Rattle.coset_labels.specs.Walks.{WrongItems, WrongEntries}
use Rattle.coset_labels.specs.declared.error.CoseError.{CoseError}

-- the fault that is there
pub at_fault : (P : CoseFault → Type 0) (f : CoseFault) (e : CoseError) → fault_of e ≡ f → P f → OrMemory P e
at_fault P f e q p = inr (subst P (sym q) p)

-- a fault of a part is one of the whole
pub passed_on : (P Q : CoseFault → Type 0) (e : CoseError) → (P (fault_of e) → Q (fault_of e)) → OrMemory P e → OrMemory Q e
passed_on P Q e f (inl m) = inl m
passed_on P Q e f (inr p) = inr (f p)

-- ---- the items of a list
pub views_count : (vs : List Value) → tree_count (views vs) ≡ length vs
views_count [] = refl
views_count (v ∷ vs) = let h : tree_count (views vs) ≡ length vs = views_count vs in omega arith

pub items_at : (all xs ys : List Value) (x : Value) → all ≡ xs ++ x ∷ ys → views all ≡ trees (map view xs ++ view x ∷ map view ys)
items_at all xs ys x q = ap views q ∙ ap trees (map-append view xs (x ∷ ys))

pub item_at_fault : (Wrong : Tree → CoseFault → Type 0) (all xs ys : List Value) (x : Value) (e : CoseError) → all ≡ xs ++ x ∷ ys
    → OrMemory (Wrong (view x)) e → OrMemory (WrongItems Wrong (views all)) e
item_at_fault Wrong all xs ys x e q w = passed_on (Wrong (view x)) (WrongItems Wrong (views all)) e
    (λ z. record { before = map view xs; after = map view ys; tree = view x; are = items_at all xs ys x q; wrong = z }) w

-- ---- the entries of a map
module _ {K : Type 0} (read : Tree → Option K) where
  pub entry_at_fault : (Wrong : List (K × Tree) → Tree → Tree → CoseFault → Type 0) (all xs ys : List (Value × Value)) (x : Value × Value)
      (es : List (K × Tree)) (e : CoseError) → all ≡ xs ++ x ∷ ys → entries read (view_pairs xs) ≡ Some es
      → OrMemory (Wrong es (view x.0) (view x.1)) e → OrMemory (WrongEntries read Wrong (view_pairs all)) e
  entry_at_fault Wrong all xs ys x es e q r w = passed_on (Wrong es (view x.0) (view x.1)) (WrongEntries read Wrong (view_pairs all)) e
      (λ z. record {
        before = map view_pair xs;
        after = map view_pair ys;
        key = view x.0;
        value = view x.1;
        es = es;
        are = ap view_pairs q ∙ ap pairs (map-append view_pair xs (x ∷ ys));
        read_before = r;
        wrong = z;
      }) w

  pub entry_read : (xs : List (Value × Value)) (x : Value × Value) (es : List (K × Tree)) (m : K) → entries read (view_pairs xs) ≡ Some es
      → read (view x.0) ≡ Some m → entries read (view_pairs (xs ++ x ∷ [])) ≡ Some (es ++ (m, view x.1) ∷ [])
  entry_read xs x es m r q =
      ap (entries read) (ap pairs (map-append view_pair xs (x ∷ []))) ∙ entries_snoc read (map view_pair xs) es (view x.0) (view x.1) m r q
