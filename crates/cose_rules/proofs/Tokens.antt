-- What is found among the claims of a token.
use Rattle.std.proofs.Common.{◌≡◌, ℕ, ◌-◌, ◌/◌, ◌%◌, ◌^◌, ℤ, List, [], ◌∷◌, map, Bool, true, false, not, cond, Option, Some, is_some, refl, sym, ap, ◌∙◌}
use Rattle.std.specs.Prelude.{◌||◌, ◌&&◌, nat_eq}
use Rattle.std.specs.List.{list_any, list_all}
use Rattle.std.proofs.lemmas.Bool.{true≢false}
use Rattle.ciborium_value.specs.Kinds.{is_array, is_text}
use Rattle.ciborium_value.specs.Tree.{Tree, integer, bytes, text, array, map as map_tree, tag, simple, float}
use Rattle.ciborium_value.specs.View.{view, views}
use Rattle.ciborium_value.specs.declared.value.Value.{Value}
use Rattle.coset_labels.specs.Fields.{LabelFields}
use Rattle.coset_labels.specs.View.{label_view}
use Rattle.coset_labels.specs.declared.label.Label.{Label}
use Rattle.coset_headers.specs.View.{entry_view}
use Rattle.coset_claims.specs.Seconds.{multiple, infinite, no_number, number_by}
use Rattle.cose_rules.specs.Labels.{same_label, value_under}
use Rattle.cose_rules.specs.Claims.{is_multiple, is_text_of, any_text_of, is_for, all_texts, is_audience}

there_case : (b : Bool) (t : Tree) (r : Bool) (o : Option Tree) → r ≡ is_some o → (b || r) ≡ is_some (cond b (Some t) o)
there_case true t r o e = refl
there_case false t r o e = e

pub there : (l : LabelFields) (es : List (Label × Value)) → list_any (λ e. same_label (label_view e.0) l) es ≡ is_some (value_under l (map entry_view es))
there l [] = refl
there l (e ∷ es) = there_case (same_label (label_view e.0) l) (view e.1) (list_any (λ (x : Label × Value). same_label (label_view x.0) l) es) (value_under l (map entry_view es)) (there l es)

any_texts : (a : List ℕ) (vs : List Value) → list_any (λ v. is_text_of a (view v)) vs ≡ any_text_of a (views vs)
any_texts a [] = refl
any_texts a (v ∷ vs) = ap (λ z. is_text_of a (view v) || z) (any_texts a vs)

every_text : (vs : List Value) → list_all (λ v. is_text (view v)) vs ≡ all_texts (views vs)
every_text [] = refl
every_text (v ∷ vs) = ap (λ z. is_text (view v) && z) (every_text vs)

pub for_by : (a : List ℕ) (t : Tree) (vs ws : List Value) (b : Bool) → t ≡ array (views vs) → ws ≡ vs → b ≡ list_any (λ v. is_text_of a (view v)) ws → b ≡ is_for a t
for_by a t vs ws b is same e = e ∙ ap (λ z. list_any (λ (v : Value). is_text_of a (view v)) z) same ∙ any_texts a vs ∙ sym (ap (is_for a) is)

pub texts_by : (t : Tree) (vs ws : List Value) (b : Bool) → t ≡ array (views vs) → ws ≡ vs → b ≡ list_all (λ v. is_text (view v)) ws → b ≡ is_audience t
texts_by t vs ws b is same e = e ∙ ap (λ z. list_all (λ (v : Value). is_text (view v)) z) same ∙ every_text vs ∙ sym (ap is_audience is)

pub for_other : (a : List ℕ) (t : Tree) (b : Bool) → is_array t ≡ false → b ≡ is_text_of a t → b ≡ is_for a t
for_other a (integer i) b e f = f
for_other a (bytes x) b e f = f
for_other a (text x) b e f = f
for_other a (array ts) b e f = absurd (true≢false e)
for_other a (map_tree ps) b e f = f
for_other a (tag n t) b e f = f
for_other a (simple n) b e f = f
for_other a (float x) b e f = f

pub text_other : (t : Tree) (b : Bool) → is_array t ≡ false → b ≡ is_text t → b ≡ is_audience t
text_other (integer i) b e f = f
text_other (bytes x) b e f = f
text_other (text x) b e f = f
text_other (array ts) b e f = absurd (true≢false e)
text_other (map_tree ps) b e f = f
text_other (tag n t) b e f = f
text_other (simple n) b e f = f
text_other (float x) b e f = f

finite_case : (a z n : Bool) (m : ℤ) (k : ℕ) → is_multiple (cond a (cond z (infinite n) no_number) (multiple m k)) ≡ not a
finite_case true true n m k = refl
finite_case true false n m k = refl
finite_case false z n m k = refl

pub finite_by : (width places bits : ℕ) → not (nat_eq (bits / 2 ^ places % 2 ^ width) (2 ^ width - 1)) ≡ is_multiple (number_by width places bits)
finite_by width places bits = sym (finite_case (nat_eq (bits / 2 ^ places % 2 ^ width) (2 ^ width - 1)) (nat_eq (bits % 2 ^ places) 0) _ _ _)
