-- The entries of a claims set with their labels.
use Rattle.std.proofs.Common.{◌≡◌, ◌⊎◌, inl, inr, List, [], ◌∷◌, ◌++◌, map, true, false, cond, Option, Some, None, option_map, Result, Ok, Err, refl, sym, ap, ◌∙◌}
use Rattle.std.specs.Prelude.{option_and_then}
use Rattle.std.proofs.lemmas.Bool.{true≢false}
use Rattle.std.proofs.lemmas.List.{map-append}
use Rattle.ciborium_value.specs.Kinds.{is_map}
use Rattle.ciborium_value.specs.Tree.{Tree, integer, bytes, text, array, map as map_tree, tag, simple, float, Pairs}
use Rattle.ciborium_value.specs.View.{view, view_pairs}
use Rattle.ciborium_value.specs.declared.value.Value.{Value}
use Rattle.coset_headers.specs.View.{entry_view}
use Rattle.coset_headers.specs.Written.{twice}
use Rattle.coset_labels.specs.Entries.{entries}
use Rattle.coset_labels.specs.Facts.Walks.{entry_read}
use Rattle.coset_labels.specs.Fields.{LabelFields}
use Rattle.coset_labels.specs.Labels.{label_of}
use Rattle.coset_labels.specs.View.{label_view}
use Rattle.coset_labels.specs.declared.label.Label.{Label}
use Rattle.cose_rules.specs.Claims.{ClaimEntries}
use Rattle.cose_rules.specs.ClaimsSet.{once, claims_of, ReadsClaim}
use Rattle.cose_rules.specs.declared.claims_set.NoClaims.{NoClaims}
use Rattle.cose_rules.specs.declared.claims_set.NoClaims.TheVariants as fault

pub claim_read : (l : Label) (key : Tree) (x : Value) (cs ds : List (Label × Value)) → Some (label_view l) ≡ label_of key → ds ≡ cs ++ (l, x) ∷ []
    → ReadsClaim key (view x) (map entry_view cs) (map entry_view ds)
claim_read l key x cs ds e f = record {
  label = label_view l;
  is = sym e;
  more = ap (λ z. map entry_view z) f ∙ map-append entry_view cs ((l, x) ∷ []);
}

pub labelled_more : (xs : List (Value × Value)) (x : Value × Value) (es fs : ClaimEntries) → entries label_of (view_pairs xs) ≡ Some es
    → ReadsClaim (view x.0) (view x.1) es fs → entries label_of (view_pairs (xs ++ x ∷ [])) ≡ Some fs
labelled_more xs x es fs e r = entry_read label_of xs x es r.label e r.is ∙ ap Some (sym r.more)

none_after : (o : Option LabelFields) (f : LabelFields → List (LabelFields × Tree) → List (LabelFields × Tree)) → option_and_then (λ m. option_map (f m) None) o ≡ None
none_after None f = refl
none_after (Some m) f = refl

abbrev in_front : Tree → LabelFields → List (LabelFields × Tree) → List (LabelFields × Tree)
in_front v m es = (m, v) ∷ es

abbrev with_front : Tree → Option LabelFields → Option (List (LabelFields × Tree)) → Option (List (LabelFields × Tree))
with_front v o p = option_and_then (λ m. option_map (in_front v m) p) o

pub unlabelled : (xs ys : List (Value × Value)) (x : Value × Value) → label_of (view x.0) ≡ None → entries label_of (view_pairs (xs ++ x ∷ ys)) ≡ None
unlabelled [] ys x e = ap (λ z. with_front (view x.1) z (entries label_of (view_pairs ys))) e
unlabelled (w ∷ ws) ys x e = ap (λ z. with_front (view w.1) (label_of (view w.0)) z) (unlabelled ws ys x e) ∙ none_after (label_of (view w.0)) (in_front (view w.1))

pub fault_at : (all xs ys : List (Value × Value)) (x : Value × Value) (f : NoClaims) → all ≡ xs ++ x ∷ ys
    → (f ≡ fault.Memory) ⊎ ((f ≡ fault.NotLabels) × (label_of (view x.0) ≡ None))
    → (f ≡ fault.Memory) ⊎ ((f ≡ fault.NotLabels) × (entries label_of (view_pairs all) ≡ None))
fault_at all xs ys x f e (inl m) = inl m
fault_at all xs ys x f e (inr n) = inr (n.0, ap (λ z. entries label_of (view_pairs z)) e ∙ unlabelled xs ys x n.1)

pub once_by : (o : Option ClaimEntries) (es : ClaimEntries) → o ≡ Some es → false ≡ twice es → once o ≡ Ok es
once_by o es e f = ap once e ∙ ap (λ z. cond z (Err fault.Repeated) (Ok es)) (sym f)

pub repeated_by : (o : Option ClaimEntries) (es : ClaimEntries) → o ≡ Some es → true ≡ twice es → once o ≡ Err fault.Repeated
repeated_by o es e f = ap once e ∙ ap (λ z. cond z (Err fault.Repeated) (Ok es)) (sym f)

pub set_by : (t : Tree) (ps : Pairs) (r : Result ClaimEntries NoClaims) → t ≡ map_tree ps → once (entries label_of ps) ≡ r → claims_of t ≡ r
set_by t ps r e f = ap claims_of e ∙ f

pub no_set : (t : Tree) → is_map t ≡ false → claims_of t ≡ Err fault.NotMap
no_set (integer i) e = refl
no_set (bytes b) e = refl
no_set (text b) e = refl
no_set (array ts) e = refl
no_set (map_tree ps) e = absurd (true≢false e)
no_set (tag n t) e = refl
no_set (simple n) e = refl
no_set (float f) e = refl
