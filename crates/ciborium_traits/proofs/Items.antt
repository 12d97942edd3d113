-- Items taken one after another.
use Rattle.std.proofs.Common.{◌≡◌, ◌≢◌, ℕ, Bool, ◌||◌, IsTrue, true, false, cond, nat_eq, List, [], ◌∷◌, ◌++◌, length, Option, Some, None, Result, Ok, Err, IfErr, refl, sym, ap, subst, ◌∙◌, append_assoc, append-nil, arith}
use Rattle.std.proofs.lemmas.Bool.Decides.{nat_tests}
use Rattle.std.specs.Option.{option_or}
use Rattle.std.specs.List.{fold}
use Rattle.std.specs.declared.cmp.Ordering.{Ordering}
use Rattle.std.specs.BTreeMap.{insert_entry}
use Rattle.ciborium_value.specs.declared.kind.Kind.{Kind}
use Rattle.ciborium_value.specs.declared.kind.Kind.TheVariants.{Length}
use Rattle.ciborium_value.specs.declared.value.Value.{Value}
use Rattle.ciborium_value.specs.Tree as spec
use Rattle.ciborium_value.specs.Tree.{Tree, Trees, one_more, tree_count}
use Rattle.ciborium_value.specs.View.{view, views, view_pairs}
use Rattle.ciborium_traits.specs.declared.error.Error.{Error}
use Rattle.ciborium_traits.specs.declared.error.Error.TheVariants as error
use Rattle.ciborium_traits.specs.Lists.{array_refusal, first_refusal, first_in_turn, other_length, tuple_refusal, first_refusal_of_pairs, EachTaken, EachPairTaken, inserted}
use Rattle.ciborium_traits.specs.Reading.{IsRefusal}
use Rattle.ciborium_traits.specs.Facts.Lists.{none_first}

pub none_length : {A : Type 0} (xs : List A) → length xs ≡ 0 → xs ≡ []
none_length [] e = refl
none_length (x ∷ xs) e = absurd (omega (arith, e))

-- the refusal of a part is one of the whole, which grows if the part does
pub refused_first : (g h : Bool) (p q : Option Kind) (e : Error) → (IsTrue g → IsTrue h) → IsRefusal g p e → IsRefusal h (option_or p q) e
refused_first g h p q (error.Kind k) w r = ap (λ z. option_or z q) r
refused_first g h p q error.Memory w r = w r

grown : (g : Bool) → IsTrue g → IsTrue true
grown g h = refl

pub grows_first : (g h : Bool) → IsTrue g → IsTrue (g || h)
grows_first g h e = ap (λ z. z || h) e

pub grows_then : (g h : Bool) → IsTrue h → IsTrue (g || h)
grows_then true h e = refl
grows_then false h e = e

module _ {T : Type 0} (refusal : Tree → Option Kind) (takes : Tree → T → Type 0) where
  -- the values xs are taken of the items all up to those that are left
  pub record TakenTo (all left : List Value) (xs : List T) : Type 0 where
    refusals : first_refusal refusal (views left) ≡ first_refusal refusal (views all)
    each : (zs : List T) → EachTaken takes (views left) zs → EachTaken takes (views all) (xs ++ zs)

  pub taken_none : (all left : List Value) → left ≡ all → TakenTo all left []
  taken_none all left e = record { refusals = ap (λ z. first_refusal refusal (views z)) e; each = λ zs h. subst (λ (z : List Value). EachTaken takes (views z) zs) e h }

  pub taken_one : (all left rest : List Value) (xs ys : List T) (v : Value) (x : T) → left ≡ v ∷ rest → ys ≡ xs ++ x ∷ [] → refusal (view v) ≡ None → takes (view v) x → TakenTo all left xs → TakenTo all rest ys
  taken_one all left rest xs ys v x e f n h t = record {
    refusals = sym (ap (λ z. first_refusal refusal (views z)) e ∙ none_first (refusal (view v)) (first_refusal refusal (views rest)) n) ∙ t.refusals;
    each = λ zs k. subst (λ (z : List T). EachTaken takes (views all) z) (sym (ap (λ (z : List T). z ++ zs) f ∙ append_assoc xs (x ∷ []) zs)) (t.each (x ∷ zs) (subst (λ (z : List Value). EachTaken takes (views z) (x ∷ zs)) (sym e) (h, k)));
  }

  pub taken_refused : (all left rest : List Value) (xs : List T) (v : Value) (g : Bool) (e : Error) → left ≡ v ∷ rest → IsRefusal g (refusal (view v)) e → TakenTo all left xs → IsRefusal true (first_refusal refusal (views all)) e
  taken_refused all left rest xs v g e f h t =
      subst (λ (z : Option Kind). IsRefusal true z e) (sym (ap (λ z. first_refusal refusal (views z)) f) ∙ t.refusals) (refused_first g true (refusal (view v)) (first_refusal refusal (views rest)) e (grown g) h)

  pub taken_all : (all left : List Value) (xs : List T) → length left ≡ 0 → TakenTo all left xs → (first_refusal refusal (views all) ≡ None) × EachTaken takes (views all) xs
  taken_all all left xs e t =
      let n = none_length left e in (
        sym t.refusals ∙ ap (λ z. first_refusal refusal (views z)) n,
        subst (λ (z : List T). EachTaken takes (views all) z) (append-nil xs) (t.each [] (subst (λ (z : List Value). EachTaken takes (views z) []) (sym n) tt)),
      )

module _ {K V : Type 0} (cmp : K → K → Ordering) (of_key of_value : Tree → Option Kind) (takes_key : Tree → K → Type 0) (takes_value : Tree → V → Type 0) where
  abbrev insert_all : List (K × V) → List (K × V) → List (K × V)
  insert_all m es = fold (λ m e. insert_entry cmp m e.0 e.1) m es

  -- the entries m are those taken of the entries all up to those that are left
  pub record InsertedTo (all left : List (Value × Value)) (m : List (K × V)) : Type 0 where
    refusals : first_refusal_of_pairs of_key of_value (view_pairs left) ≡ first_refusal_of_pairs of_key of_value (view_pairs all)
    each : (zs : List (K × V)) → EachPairTaken takes_key takes_value (view_pairs left) zs
        → (es : List (K × V)) × EachPairTaken takes_key takes_value (view_pairs all) es × (insert_all m zs ≡ inserted cmp es)

  pub inserted_none : (all left : List (Value × Value)) (m : List (K × V)) → left ≡ all → m ≡ [] → InsertedTo all left m
  inserted_none all left m e f = record {
    refusals = ap (λ z. first_refusal_of_pairs of_key of_value (view_pairs z)) e;
    each = λ zs h. (zs, subst (λ (z : List (Value × Value)). EachPairTaken takes_key takes_value (view_pairs z) zs) e h, ap (λ (z : List (K × V)). insert_all z zs) f);
  }

  pub inserted_one : (all left rest : List (Value × Value)) (m n : List (K × V)) (p : Value × Value) (k : K) (v : V) → left ≡ p ∷ rest → n ≡ insert_entry cmp m k v
      → of_key (view p.0) ≡ None → of_value (view p.1) ≡ None → takes_key (view p.0) k → takes_value (view p.1) v → InsertedTo all left m → InsertedTo all rest n
  inserted_one all left rest m n p k v e f a b h g t = record {
    refusals =
        sym (ap (λ z. first_refusal_of_pairs of_key of_value (view_pairs z)) e
        ∙ none_first (of_key (view p.0)) (option_or (of_value (view p.1)) (first_refusal_of_pairs of_key of_value (view_pairs rest))) a
        ∙ none_first (of_value (view p.1)) (first_refusal_of_pairs of_key of_value (view_pairs rest)) b)
        ∙ t.refusals;
    each = λ zs z.
        let w = t.each ((k, v) ∷ zs) (subst (λ (y : List (Value × Value)). EachPairTaken takes_key takes_value (view_pairs y) ((k, v) ∷ zs)) (sym e) (h, g, z)) in
        (w.0, w.1, ap (λ (y : List (K × V)). insert_all y zs) f ∙ w.2);
  }

  pub key_refused : (all left rest : List (Value × Value)) (m : List (K × V)) (p : Value × Value) (g : Bool) (e : Error) → left ≡ p ∷ rest → IsRefusal g (of_key (view p.0)) e → InsertedTo all left m
      → IsRefusal true (first_refusal_of_pairs of_key of_value (view_pairs all)) e
  key_refused all left rest m p g e f h t =
      subst (λ (z : Option Kind). IsRefusal true z e) (sym (ap (λ z. first_refusal_of_pairs of_key of_value (view_pairs z)) f) ∙ t.refusals)
      (refused_first g true (of_key (view p.0)) (option_or (of_value (view p.1)) (first_refusal_of_pairs of_key of_value (view_pairs rest))) e (grown g) h)

  pub value_refused : (all left rest : List (Value × Value)) (m : List (K × V)) (p : Value × Value) (g : Bool) (e : Error) → left ≡ p ∷ rest → of_key (view p.0) ≡ None → IsRefusal g (of_value (view p.1)) e → InsertedTo all left m
      → IsRefusal true (first_refusal_of_pairs of_key of_value (view_pairs all)) e
  value_refused all left rest m p g e f a h t =
      subst (λ (z : Option Kind). IsRefusal true z e)
      (sym (ap (λ z. first_refusal_of_pairs of_key of_value (view_pairs z)) f ∙ none_first (of_key (view p.0)) (option_or (of_value (view p.1)) (first_refusal_of_pairs of_key of_value (view_pairs rest))) a) ∙ t.refusals)
      (refused_first g true (of_value (view p.1)) (first_refusal_of_pairs of_key of_value (view_pairs rest)) e (grown g) h)

  pub inserted_all : (all left : List (Value × Value)) (m : List (K × V)) → length left ≡ 0 → InsertedTo all left m
      → (first_refusal_of_pairs of_key of_value (view_pairs all) ≡ None) × ((es : List (K × V)) × EachPairTaken takes_key takes_value (view_pairs all) es × (m ≡ inserted cmp es))
  inserted_all all left m e t =
      let n = none_length left e in (
        sym t.refusals ∙ ap (λ z. first_refusal_of_pairs of_key of_value (view_pairs z)) n,
        t.each [] (subst (λ (z : List (Value × Value)). EachPairTaken takes_key takes_value (view_pairs z) []) (sym n) tt),
      )

-- items that each have a type of their own
pub turn_taken : (r : Tree → Option Kind) (rs : List (Tree → Option Kind)) (ts us : Trees) (t : Tree) → ts ≡ one_more t us → r t ≡ None → first_in_turn (r ∷ rs) ts ≡ first_in_turn rs us
turn_taken r rs ts us t e n = ap (first_in_turn (r ∷ rs)) e ∙ none_first (r t) (first_in_turn rs us) n

pub turn_refused : (g h : Bool) (r : Tree → Option Kind) (rs : List (Tree → Option Kind)) (ts us : Trees) (t : Tree) (e : Error) → (IsTrue g → IsTrue h) → ts ≡ one_more t us → IsRefusal g (r t) e
    → IsRefusal h (first_in_turn (r ∷ rs) ts) e
turn_refused g h r rs ts us t e w f i = subst (λ (z : Trees). IsRefusal h (first_in_turn (r ∷ rs) z) e) (sym f) (refused_first g h (r t) (first_in_turn rs us) e w i)

pub same_refusal : (g : Bool) (p q : Option Kind) (e : Error) → p ≡ q → IsRefusal g q e → IsRefusal g p e
same_refusal g p q e f h = subst (λ (z : Option Kind). IsRefusal g z e) (sym f) h

views_counted : (vs : List Value) → tree_count (views vs) ≡ length vs
views_counted [] = refl
views_counted (v ∷ vs) = let h : tree_count (views vs) ≡ length vs = views_counted vs in omega arith

counts_same : (n m : ℕ) → n ≡ m → nat_eq n m ≡ true
counts_same n m e = grind (arith, nat_tests)

counts_differ : (n m : ℕ) → n ≢ m → nat_eq n m ≡ false
counts_differ n m e = grind (arith, nat_tests)

-- the items of an array, as many as the tuple has values
pub tuple_begun : (rs : List (Tree → Option Kind)) (t : Tree) (vs : List Value) → t ≡ spec.array (views vs) → length vs ≡ length rs
    → array_refusal (tuple_refusal rs) t ≡ first_in_turn rs (views vs)
tuple_begun rs t vs e n =
    ap (array_refusal (tuple_refusal rs)) e
    ∙ ap (λ z. cond z (first_in_turn rs (views vs)) (Some Length)) (counts_same (tree_count (views vs)) (length rs) (views_counted vs ∙ n))

-- an array of another length
pub not_so_many : (n : ℕ) (t : Tree) (vs : List Value) → t ≡ spec.array (views vs) → length vs ≢ n → array_refusal (other_length n) t ≡ Some Length
not_so_many n t vs e d =
    ap (array_refusal (other_length n)) e
    ∙ ap (λ z. cond z None (Some Length)) (counts_differ (tree_count (views vs)) n (λ h. d (sym (views_counted vs) ∙ h)))

pub if_err : {T E : Type 0} {P Q : E → Type 0} (r : Result T E) → ((e : E) → P e → Q e) → IfErr r P → IfErr r Q
if_err (Ok x) f h = tt
if_err (Err e) f h = f e h
