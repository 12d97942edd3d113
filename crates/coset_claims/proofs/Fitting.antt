-- Claims whose parts fit.
use Rattle.std.proofs.Common.{◌≡◌, ℕ, pos, ◌+◌, ◌<◌, ◌≤◌, ◌^◌, List, [], ◌∷◌, ◌++◌, map, length, take, get_or, Option, Some, None, sym, ap, subst, ◌∙◌, arith, refl}
use Rattle.std.proofs.lemmas.List.{take_more}
use Rattle.cose_iana.specs.declared.claims.CwtClaimName.{CwtClaimName}
use Rattle.ciborium_value.specs.Tree.{Tree, bytes, text, pair_count}
use Rattle.ciborium_value.specs.Encoding.{Fits, FitPairs}
use Rattle.ciborium_value.specs.View.{pairs, view}
use Rattle.ciborium_value.specs.declared.value.Value.{Value}
use Rattle.coset_labels.specs.Fields.{Named, assigned}
use Rattle.coset_labels.specs.Labels.{named_tree}
use Rattle.coset_labels.specs.declared.registered.RegisteredLabelWithPrivate.{RegisteredLabelWithPrivate}
use Rattle.coset_claims.specs.Fields.{ClaimsFields}
use Rattle.coset_claims.specs.View.{name_view, entry_view}
use Rattle.coset_claims.specs.Written.{time_tree, field_entry, written_entries, entry_tree, claims_tree, FieldFits}

abbrev AllFit : List (Named × Tree) → Type 0
AllFit es = FitPairs (pairs (map entry_tree es))

count : (es : List (Named × Tree)) → pair_count (pairs (map entry_tree es)) ≡ length es
count [] = omega arith
count (e ∷ es) = let h : pair_count (pairs (map entry_tree es)) ≡ length es = count es in omega arith

one_entry : (es : List (Named × Tree)) (e : Named × Tree) → AllFit es → Fits (named_tree e.0) → Fits e.1 → AllFit (es ++ e ∷ [])
one_entry [] e h k v = (k, v, tt)
one_entry (x ∷ es) e h k v = (h.0, h.1, one_entry es e h.2 k v)

seen_more : {A B : Type 0} (f : A → B) (xs : List A) (x : A) → map f (xs ++ x ∷ []) ≡ map f xs ++ f x ∷ []
seen_more f [] x = refl
seen_more f (y ∷ xs) x = ap (λ z. f y ∷ z) (seen_more f xs x)

pub entry_fits : (ps : List (RegisteredLabelWithPrivate CwtClaimName × Value)) (i : ℕ) (p : RegisteredLabelWithPrivate CwtClaimName × Value) → i < length ps → p ≡ get_or ps i p
    → FitPairs (pairs (map entry_tree (map entry_view (take i ps)))) → Fits (named_tree (name_view p.0)) → Fits (view p.1) → FitPairs (pairs (map entry_tree (map entry_view (take (i + 1) ps))))
entry_fits ps i p l e h k v =
    let P : List (RegisteredLabelWithPrivate CwtClaimName × Value) → Type 0 = λ z. AllFit (map entry_view z) in
    subst P (ap (λ z. take i ps ++ z ∷ []) e ∙ sym (take_more ps i p l))
    (subst AllFit (sym (seen_more entry_view (take i ps) p)) (one_entry (map entry_view (take i ps)) (entry_view p) h k v))

-- a field before entries that fit
before : {A : Type 0} (g : A → Tree) (n : ℕ) (x : Option A) (es : List (Named × Tree)) → Fits (named_tree (assigned (pos n))) → FieldFits g x → AllFit es → AllFit (field_entry g n x ++ es)
before g n None es q f h = h
before g n (Some a) es q f h = (q, f, h)

longer : {A : Type 0} (g : A → Tree) (n : ℕ) (x : Option A) (es : List (Named × Tree)) → length (field_entry g n x ++ es) ≤ length es + 1
longer g n None es = omega arith
longer g n (Some a) es = omega arith

small : (n : ℕ) → n < 2 ^ 64 → Fits (named_tree (assigned (pos n)))
small n h = h

pub all_fit : (c : ClaimsFields) → FieldFits text c.issuer → FieldFits text c.subject → FieldFits text c.audience → FieldFits time_tree c.expiration_time → FieldFits time_tree c.not_before → FieldFits time_tree c.issued_at → FieldFits bytes c.cwt_id → FitPairs (pairs (map entry_tree c.rest)) → length c.rest + 7 < 2 ^ 64 → Fits (claims_tree c)
all_fit c f1 f2 f3 f4 f5 f6 f7 h l =
    let t8 = c.rest in
    let t7 = field_entry bytes 7 c.cwt_id ++ t8 in
    let l7 : length t7 ≤ length t8 + 1 = longer bytes 7 c.cwt_id t8 in
    let t6 = field_entry time_tree 6 c.issued_at ++ t7 in
    let l6 : length t6 ≤ length t7 + 1 = longer time_tree 6 c.issued_at t7 in
    let t5 = field_entry time_tree 5 c.not_before ++ t6 in
    let l5 : length t5 ≤ length t6 + 1 = longer time_tree 5 c.not_before t6 in
    let t4 = field_entry time_tree 4 c.expiration_time ++ t5 in
    let l4 : length t4 ≤ length t5 + 1 = longer time_tree 4 c.expiration_time t5 in
    let t3 = field_entry text 3 c.audience ++ t4 in
    let l3 : length t3 ≤ length t4 + 1 = longer text 3 c.audience t4 in
    let t2 = field_entry text 2 c.subject ++ t3 in
    let l2 : length t2 ≤ length t3 + 1 = longer text 2 c.subject t3 in
    let t1 = field_entry text 1 c.issuer ++ t2 in
    let l1 : length t1 ≤ length t2 + 1 = longer text 1 c.issuer t2 in
    let n : pair_count (pairs (map entry_tree (written_entries c))) ≡ length t1 = count (written_entries c) in
    (omega (arith, n, l1, l2, l3, l4, l5, l6, l7, l), before text 1 c.issuer t2 (small 1 (omega arith)) f1 (before text 2 c.subject t3 (small 2 (omega arith)) f2 (before text 3 c.audience t4 (small 3 (omega arith)) f3 (before time_tree 4 c.expiration_time t5 (small 4 (omega arith)) f4 (before time_tree 5 c.not_before t6 (small 5 (omega arith)) f5 (before time_tree 6 c.issued_at t7 (small 6 (omega arith)) f6 (before bytes 7 c.cwt_id t8 (small 7 (omega arith)) f7 (h))))))))
