-- What is found among the entries and operations of keys, and among keys.
use Rattle.std.proofs.Common.{◌≡◌, ℕ, ℤ, List, [], ◌∷◌, map, length, Bool, true, false, cond, Option, Some, None, option_map, refl, sym, ap, ◌∙◌, arith}
use Rattle.std.specs.Prelude.{option_and_then, MatchOption}
use Rattle.std.specs.List.{find, list_any}
use Rattle.std.proofs.lemmas.Bool.{true≢false}
use Rattle.cose_iana.specs.Registry.{neg}
use Rattle.ciborium_value.specs.Kinds.{is_integer}
use Rattle.ciborium_value.specs.Tree.{Tree, integer, bytes, text, array, map as map_tree, tag, simple, float}
use Rattle.ciborium_value.specs.View.{view, number_of}
use Rattle.ciborium_value.specs.declared.integer.Integer.{Integer}
use Rattle.ciborium_value.specs.declared.value.Value.{Value}
use Rattle.coset_labels.specs.Fields.{LabelFields, Named}
use Rattle.coset_labels.specs.View.{label_view}
use Rattle.coset_labels.specs.declared.label.Label.{Label}
use Rattle.coset_headers.specs.View.{entry_view}
use Rattle.coset_keys.specs.View.{key_view}
use Rattle.coset_keys.specs.declared.key.CoseKey.{CoseKey}
use Rattle.cose_rules.specs.Labels.{same_label, value_under, value_at}
use Rattle.cose_rules.specs.Keys.{integer_of, curve_in, bytes_of, bytes_at, is_entry, permits, part_fault, has_id, key_fault}
use Rattle.cose_rules.specs.Rule.{first_fault}
use Rattle.cose_rules.specs.declared.algorithms.Scheme.{Scheme}
use Rattle.cose_rules.specs.declared.keys.KeyFault.{KeyFault}
use Rattle.cose_rules.proofs.Seen.{any_map}

found_or : {A B : Type 0} (f : A → B) (b : Bool) (x : A) (o : Option B) (q : Option A) → o ≡ option_map f q → cond b (Some (f x)) o ≡ option_map f (cond b (Some x) q)
found_or f true x o q e = refl
found_or f false x o q e = e

find_map : {A B : Type 0} (f : A → B) (p : B → Bool) (xs : List A) → find p (map f xs) ≡ option_map f (find (λ x. p (f x)) xs)
find_map f p [] = refl
find_map f p (x ∷ xs) = found_or f (p (f x)) x (find p (map f xs)) (find (λ y. p (f y)) xs) (find_map f p xs)

then_mapped : {A B C : Type 0} (f : A → B) (g : B → Option C) (o : Option A) → option_and_then (λ x. g (f x)) o ≡ option_and_then g (option_map f o)
then_mapped f g None = refl
then_mapped f g (Some x) = refl

abbrev entry_value : Label × Value → Tree
entry_value e = view e.1

value_or : (b : Bool) (x : Label × Value) (o : Option (Label × Value)) (q : Option Tree) → option_map entry_value o ≡ q → option_map entry_value (cond b (Some x) o) ≡ cond b (Some (entry_value x)) q
value_or true x o q e = refl
value_or false x o q e = e

found_value : (l : LabelFields) (es : List (Label × Value)) → option_map entry_value (find (λ e. same_label (label_view e.0) l) es) ≡ value_under l (map entry_view es)
found_value l [] = refl
found_value l (e ∷ es) = value_or (same_label (label_view e.0) l) e (find (λ (x : Label × Value). same_label (label_view x.0) l) es) (value_under l (map entry_view es)) (found_value l es)

pub value_by : (es : List (Label × Value)) (l : LabelFields) (r : Option (Label × Value)) → r ≡ find (λ e. same_label (label_view e.0) l) es
    → option_map (λ e. view e.1) r ≡ value_under l (map entry_view es)
value_by es l r e = ap (λ z. option_map entry_value z) e ∙ found_value l es

pub curve_by : (es : List (LabelFields × Tree)) (o : Option Tree) (r : Option ℤ) → r ≡ option_and_then integer_of o → o ≡ value_at (neg 1) es → r ≡ curve_in es
curve_by es o r e f = e ∙ ap (λ z. option_and_then integer_of z) f

pub bytes_by : (i : ℤ) (es : List (LabelFields × Tree)) (o : Option Tree) (r : Option (List ℕ)) → r ≡ option_and_then bytes_of o → o ≡ value_at i es → r ≡ bytes_at i es
bytes_by i es o r e f = e ∙ ap (λ z. option_and_then bytes_of z) f

integer_none : (t : Tree) → is_integer t ≡ false → None ≡ integer_of t
integer_none (integer i) e = absurd (true≢false e)
integer_none (bytes b) e = refl
integer_none (text b) e = refl
integer_none (array ts) e = refl
integer_none (map_tree ps) e = refl
integer_none (tag n t) e = refl
integer_none (simple n) e = refl
integer_none (float f) e = refl

pub integer_by : (t : Tree) (r : Option Integer) → MatchOption r (is_integer t ≡ false) (λ i. t ≡ integer (number_of i)) → option_map number_of r ≡ integer_of t
integer_by t None e = integer_none t e
integer_by t (Some i) e = sym (ap integer_of e)

pub permits_none : {E : Type 0} (i : ℤ) (f : E → Named) (ks : List E) → length ks ≡ 0 → true ≡ permits i (map f ks)
permits_none i f [] e = refl
permits_none i f (k ∷ ks) e = absurd (omega (arith, e))

pub permits_some : {E : Type 0} (i : ℤ) (f : E → Named) (ks : List E) (b : Bool) → (length ks ≡ 0 → ⊥) → b ≡ list_any (λ k. is_entry i (f k)) ks → b ≡ permits i (map f ks)
permits_some i f [] b other e = absurd (other refl)
permits_some i f (k ∷ ks) b other e = e ∙ any_map (is_entry i) f (k ∷ ks)

pub fault_by : (s : Scheme) (id : List ℕ) (ks : List CoseKey) (r : Option CoseKey) → r ≡ find (λ k. has_id id (key_view k)) ks
    → option_and_then (λ k. key_fault s (key_view k)) r ≡ first_fault s id (map key_view ks)
fault_by s id ks r e = ap (λ z. option_and_then (λ (k : CoseKey). key_fault s (key_view k)) z) e
    ∙ then_mapped key_view (key_fault s) (find (λ k. has_id id (key_view k)) ks)
    ∙ ap (λ z. option_and_then (key_fault s) z) (sym (find_map key_view (has_id id) ks))

pub parts_by : (kty : ℤ) (es fs : List (Label × Value)) (r : Option KeyFault) → r ≡ part_fault kty (map entry_view es) → es ≡ fs → r ≡ part_fault kty (map entry_view fs)
parts_by kty es fs r e same = e ∙ ap (λ z. part_fault kty (map entry_view z)) same

pub part_by : (i : ℤ) (es fs : List (Label × Value)) (r : Option (List ℕ)) → r ≡ bytes_at i (map entry_view es) → es ≡ fs → r ≡ bytes_at i (map entry_view fs)
part_by i es fs r e same = e ∙ ap (λ z. bytes_at i (map entry_view z)) same
