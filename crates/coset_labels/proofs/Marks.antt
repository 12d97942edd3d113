-- Keys that are marked as seen.
use Rattle.std.proofs.Common.{◌≡◌, ◌⊎◌, inl, inr, ⊎_elim, List, [], ◌∷◌, ◌++◌, Bool, true, false, sym, ap, subst, ◌∙◌}
use Rattle.std.specs.Prelude.{IsTrue, ◌↔◌, ◌||◌, MatchBool}
use Rattle.std.specs.Ordering.{is_eq}
use Rattle.std.specs.declared.cmp.Ordering.{Ordering}
use Rattle.ciborium_value.specs.Tree.{Tree}
use Rattle.coset_labels.specs.Entries.{IsIn}
use Rattle.coset_labels.specs.Facts.Entries.{bool_cases, in_front, in_last, in_snoc}
use Rattle.coset_labels.specs.SeenLabels.{has_seen, Sees, Grows, Keeps}
use Rattle.coset_labels.specs.declared.seen_labels.SeenLabels.{SeenLabels}

module _ {K L : Type 0} (cmp : K → K → Ordering) (fields : K → L) (same : (a b : K) → IsTrue (is_eq (cmp a b)) ↔ (fields a ≡ fields b)) where
  module _ (old new : SeenLabels K) (k : K) (l : L) (es : List (L × Tree)) (is : fields k ≡ l) (grows : Grows cmp old new k) (w : Sees cmp fields old es) where
    now_seen : (v : Tree) (q : K) → has_seen cmp new q ≡ true → (is_eq (cmp k q) ≡ true) ⊎ (is_eq (cmp k q) ≡ false) → IsIn (fields q) (es ++ (l, v) ∷ [])
    now_seen v q h (inl t) = in_last (fields q) l es v (sym ((same k q).0 t) ∙ is)
    now_seen v q h (inr f) = in_front (fields q) es ((l, v) ∷ []) (w.seen q (sym (grows q ∙ ap (λ b. b || has_seen cmp old q) f) ∙ h))

    still_unseen : (v : Tree) (q : K) → has_seen cmp new q ≡ false → (is_eq (cmp k q) ≡ true) ⊎ (is_eq (cmp k q) ≡ false) → IsIn (fields q) (es ++ (l, v) ∷ []) → ⊥
    still_unseen v q h (inl t) i = let c : true ≡ false = sym (grows q ∙ ap (λ b. b || has_seen cmp old q) t) ∙ h in cc
    still_unseen v q h (inr f) i = ⊎_elim (w.unseen q (sym (grows q ∙ ap (λ b. b || has_seen cmp old q) f) ∙ h))
        (λ e. let c : false ≡ true = sym f ∙ (same k q).1 (is ∙ sym e) in cc)
        (in_snoc (fields q) l es v i)

    sees_more : (v : Tree) → Sees cmp fields new (es ++ (l, v) ∷ [])
    sees_more v = record {
      seen = λ q h. now_seen v q h (bool_cases (is_eq (cmp k q)));
      unseen = λ q h. still_unseen v q h (bool_cases (is_eq (cmp k q)));
    }

  sees_same : (old new : SeenLabels K) (es : List (L × Tree)) → Keeps cmp old new → Sees cmp fields old es → Sees cmp fields new es
  sees_same old new es keeps w = record { seen = λ q h. w.seen q (sym (keeps q) ∙ h); unseen = λ q h. w.unseen q (sym (keeps q) ∙ h) }

  pub added_is : (old new : SeenLabels K) (k : K) (l : L) (es : List (L × Tree)) → fields k ≡ l → Sees cmp fields old es → (b : Bool)
      → MatchBool b ((has_seen cmp old k ≡ false) × Grows cmp old new k) ((has_seen cmp old k ≡ true) × Keeps cmp old new)
      → MatchBool b ((IsIn l es → ⊥) × ((v : Tree) → Sees cmp fields new (es ++ (l, v) ∷ []))) (IsIn l es × Sees cmp fields new es)
  added_is old new k l es is w true h = (subst (λ z. IsIn z es → ⊥) is (w.unseen k h.0), sees_more old new k l es is h.1 w)
  added_is old new k l es is w false h = (subst (λ z. IsIn z es) is (w.seen k h.0), sees_same old new es h.1 w)
