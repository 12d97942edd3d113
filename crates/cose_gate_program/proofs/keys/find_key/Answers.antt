use Rattle.std.proofs.Common.{◌≡◌, List, [], ◌∷◌, map, Bool, true, false, cond, Option, Some, option_map, refl, sym, ap, ◌∙◌}
use Rattle.std.specs.List.{find}
use Rattle.coset_keys.specs.View.{key_view}
use Rattle.coset_keys.specs.declared.key.CoseKey.{CoseKey}
use Rattle.cose_gate_program.specs.Keys.{fits}
use Rattle.cose_gate_program.proofs.keys.find_key.Goals as goal

found_or : {A B : Type 0} (f : A → B) (b : Bool) (x : A) (o : Option B) (q : Option A) → o ≡ option_map f q → cond b (Some (f x)) o ≡ option_map f (cond b (Some x) q)
found_or f true x o q e = refl
found_or f false x o q e = e

find_map : {A B : Type 0} (f : A → B) (p : B → Bool) (xs : List A) → find p (map f xs) ≡ option_map f (find (λ x. p (f x)) xs)
find_map f p [] = refl
find_map f p (x ∷ xs) = found_or f (p (f x)) x (find p (map f xs)) (find (λ y. p (f y)) xs) (find_map f p xs)

pub returns : goal.returns
returns c =
    let id = c.args.id.now in
    ap (λ z. option_map key_view z) (c.first_that_fits.ensures ∙ ap (λ (ks : List CoseKey). find (λ k. fits id (key_view k)) ks) c.deref.ensures.value)
    ∙ sym (find_map key_view (fits id) c.args.keys.now.0.items)
