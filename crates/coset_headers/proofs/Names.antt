-- Lists of labels that have to be understood.
use Rattle.std.proofs.Common.{◌≡◌, ◌≢◌, inr, List, [], ◌∷◌, ◌++◌, map, false, Some, option_map, option_and_then, refl, sym, ap, subst, ◌∙◌}
use Rattle.std.proofs.lemmas.List.{map-append}
use Rattle.cose_iana.specs.Headers.{header_parameters}
use Rattle.cose_iana.specs.Registry.{is_private_use}
use Rattle.ciborium_value.specs.Tree.{Tree, array}
use Rattle.ciborium_value.specs.View.{trees, view, views}
use Rattle.ciborium_value.specs.declared.value.Value.{Value}
use Rattle.coset_labels.specs.Faults.{OrMemory, fault_of, unexpected}
use Rattle.ciborium_value.specs.Kinds.{is_array}
use Rattle.coset_labels.specs.Facts.Entries.{snoc_step}
use Rattle.coset_labels.specs.Fields.{Named}
use Rattle.coset_labels.specs.Labels.{WrongNamed}
use Rattle.coset_labels.specs.declared.error.CoseError.{CoseError}
use Rattle.coset_headers.specs.Headers.{parameter_of, parameters_of, crit_of}
use Rattle.coset_headers.specs.Wrong.{WrongCrit, no_crit_list, empty_crit, bad_crit}
use Rattle.coset_headers.proofs.Steps.{passed_on}

names_snoc : (ts : List Tree) (t : Tree) (ns : List Named) (n : Named) → parameters_of (trees ts) ≡ Some ns → parameter_of t ≡ Some n → parameters_of (trees (ts ++ t ∷ [])) ≡ Some (ns ++ n ∷ [])
names_snoc [] t ns n e q =
    let h : Some [] ≡ Some ns = e in
    let s : [] ≡ ns = cc in
    ap (λ o. option_and_then (λ n. option_map (λ ns. n ∷ ns) (Some [])) o) q ∙ ap (λ z. Some (z ++ n ∷ [])) s
names_snoc (x ∷ xs) t ns n e q = snoc_step (λ m. m) (parameter_of x) (parameters_of (trees xs)) _ ns n (λ fs h. names_snoc xs t fs n h q) e

pub names_pushed : {T : Type 0} (xs : List Value) (x : Value) (ns ms : List T) (f : T → Named) (n : T) → ms ≡ ns ++ n ∷ [] → parameters_of (views xs) ≡ Some (map f ns) → parameter_of (view x) ≡ Some (f n)
    → parameters_of (views (xs ++ x ∷ [])) ≡ Some (map f ms)
names_pushed xs x ns ms f n e a q =
    ap (λ z. parameters_of (trees z)) (map-append view xs (x ∷ [])) ∙ names_snoc (map view xs) (view x) (map f ns) (f n) a q ∙ ap Some (sym (map-append f ns (n ∷ [])) ∙ ap (map f) (sym e))

pub crit_more : (all xs ys : List Value) (x : Value) (e : CoseError) → all ≡ xs ++ x ∷ ys → OrMemory (WrongNamed header_parameters.is_registered is_private_use (view x)) e → OrMemory (WrongCrit (array (views all))) e
crit_more all xs ys x e q w = passed_on (WrongNamed header_parameters.is_registered is_private_use (view x)) (WrongCrit (array (views all))) e
    (λ z. subst (λ y. WrongCrit (array y) (fault_of e)) (sym (ap views q ∙ ap trees (map-append view xs (x ∷ ys)))) (bad_crit (map view xs) (map view ys) (view x) (fault_of e) z)) w

pub crit_full : (vs : List Value) (ns : List Named) → vs ≢ [] → parameters_of (views vs) ≡ Some ns → crit_of (array (views vs)) ≡ Some ns
crit_full [] ns n e = absurd (n refl)
crit_full (v ∷ vs) ns n e = e

pub crit_kind : (t : Tree) (e : CoseError) → (fault_of e ≡ unexpected) × (is_array t ≡ false) → OrMemory (WrongCrit t) e
crit_kind t e p = inr (subst (WrongCrit t) (sym p.0) (no_crit_list t p.1))

pub crit_empty : (t : Tree) (vs : List Value) → t ≡ array (views vs) → vs ≡ [] → WrongCrit t unexpected
crit_empty t vs q r = subst (λ z. WrongCrit z unexpected) (sym (q ∙ ap (λ z. array (views z)) r)) empty_crit
