-- The places of candidates, key by key.
use Rattle.std.proofs.Common.{◌≡◌, ℕ, ◌+◌, List, [], ◌∷◌, ◌++◌, length, map, flat_map, Bool, true, false, cond, refl, sym, ap, ◌∙◌, arith}
use Rattle.std.specs.Prelude.{if◌then◌else◌, filter}
use Rattle.std.specs.List.{enumerate_from}
use Rattle.std.proofs.lemmas.List.{map-append}
use Rattle.std.proofs.lemmas.List.Elements.{filter-append}
use Rattle.std.proofs.lemmas.Grind.{flat_map-append}
use Rattle.coset_keys.specs.Fields.{KeyFields}
use Rattle.cose_rules.specs.Keys.{fits}
use Rattle.cose_rules.specs.declared.algorithms.Scheme.{Scheme}
use Rattle.cose_gate_records.specs.Framing.{eight}
use Rattle.cose_ruled.specs.Blocks.{places}

numbered_more : {X : Type 0} (n : ℕ) (xs : List X) (x : X) → enumerate_from n (xs ++ x ∷ []) ≡ enumerate_from n xs ++ (n + length xs, x) ∷ []
numbered_more {X} n [] x =
    let e : n ≡ n + 0 = omega arith in
    ap (λ (i : ℕ). let only : List (ℕ × X) = (i, x) ∷ [] in only) e
numbered_more {X} n (y ∷ ys) x =
    let e : n + 1 + length ys ≡ n + length (y ∷ ys) = omega arith in
    ap (λ (z : List (ℕ × X)). (n, y) ∷ z)
    (numbered_more (n + 1) ys x ∙ ap (λ (i : ℕ). enumerate_from (n + 1) ys ++ (i, x) ∷ []) e)

alone : (b : Bool) (i : ℕ) (k : KeyFields) → map (λ (p : ℕ × KeyFields). p.0) (cond b ((i, k) ∷ []) []) ≡ (if b then i ∷ [] else [])
alone true i k = refl
alone false i k = refl

places_more : (s : Scheme) (id : List ℕ) (ks : List KeyFields) (k : KeyFields)
    → places s id (ks ++ k ∷ []) ≡ places s id ks ++ (if fits s id k then length ks ∷ [] else [])
places_more s id ks k =
    let first = λ (p : ℕ × KeyFields). p.0 in
    let fit = λ (p : ℕ × KeyFields). fits s id p.1 in
    let e : 0 + length ks ≡ length ks = omega arith in
    let all : enumerate_from 0 (ks ++ k ∷ []) ≡ enumerate_from 0 ks ++ (length ks, k) ∷ []
    = numbered_more 0 ks k ∙ ap (λ (i : ℕ). enumerate_from 0 ks ++ (i, k) ∷ []) e in
    ap (λ (z : List (ℕ × KeyFields)). map first (filter fit z)) all
    ∙ (ap (λ (z : List (ℕ × KeyFields)). map first z) (filter-append fit (enumerate_from 0 ks) ((length ks, k) ∷ []))
    ∙ (map-append first (filter fit (enumerate_from 0 ks)) (filter fit ((length ks, k) ∷ []))
    ∙ ap (λ (z : List ℕ). places s id ks ++ z) (alone (fits s id k) (length ks) k)))

-- their text with that of one key more, at the next place
pub placed_more : (s : Scheme) (id : List ℕ) (ks all : List KeyFields) (k : KeyFields) (n : ℕ) (text text' : List ℕ)
    → n ≡ length ks → all ≡ ks ++ k ∷ [] → text ≡ flat_map eight (places s id ks)
    → text' ≡ text ++ flat_map eight (if fits s id k then n ∷ [] else []) → text' ≡ flat_map eight (places s id all)
placed_more s id ks all k n text text' at next is more =
    more ∙ (ap (λ (z : List ℕ). z ++ flat_map eight (if fits s id k then n ∷ [] else [])) is
    ∙ (ap (λ (i : ℕ). flat_map eight (places s id ks) ++ flat_map eight (if fits s id k then i ∷ [] else [])) at
    ∙ (sym (flat_map-append eight (places s id ks) (if fits s id k then length ks ∷ [] else []))
    ∙ (ap (λ (z : List ℕ). flat_map eight z) (sym (places_more s id ks k))
    ∙ ap (λ (z : List KeyFields). flat_map eight (places s id z)) (sym next)))))
