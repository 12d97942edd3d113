-- An index, key by key.
use Rattle.std.proofs.Common.{◌≡◌, ℕ, List, [], ◌∷◌, ◌++◌, Bool, true, false, cond, Option, Some, None, option_map, is_some, refl, sym, ap, ◌∙◌}
use Rattle.std.specs.Prelude.{◌&&◌, if◌then◌else◌, option_and_then}
use Rattle.std.specs.Option.{option_or}
use Rattle.std.specs.List.{find}
use Rattle.std.specs.BTreeMap.{get_by, UpdatesBy}
use Rattle.std.specs.Cmp.Lexicographic.{slice_cmp}
use Rattle.std.specs.Ordering.{nat_cmp}
use Rattle.std.specs.Str.{bytes_eq}
use Rattle.std.proofs.lemmas.Bool.{true≢false}
use Rattle.std.proofs.lemmas.Map.Text.{btree_map_updates_str}
use Rattle.std.proofs.lemmas.Slice.Eq.{bytes_eq-Decides}
use Rattle.coset_keys.specs.Fields.{KeyFields}
use Rattle.cose_gate_program.specs.Indexed.{Secrets, secret_at, IsIndexOf, AddsKey, Enters}
use Rattle.cose_rules.specs.Algorithms.{symmetric, verify_mac}
use Rattle.cose_rules.specs.Keys.{allows, is_entry, permits}
use Rattle.cose_gate_program.specs.Keys.{hmac_256, secret, fits, serves, secret_under}
use Rattle.cose_gate_program.specs.declared.prepared.PreparedSecret.{PreparedSecret}

or_none : {A : Type 0} (o : Option A) → o ≡ option_or o None
or_none None = refl
or_none (Some x) = refl

or_some : {A : Type 0} (o p : Option A) → is_some o ≡ true → o ≡ option_or o p
or_some None p e = absurd (true≢false (sym e))
or_some (Some x) p e = refl

abbrev secret_of : PreparedSecret → List ℕ
secret_of p = p.secret.now

abbrev given : Option PreparedSecret → Option (List ℕ)
given o = option_map secret_of o

-- what is found after an id, by whether it is the one that was entered
found_by : (b : Bool) (o : Option PreparedSecret) (p : PreparedSecret) (s : List ℕ) → p.secret.now ≡ s → (b ≡ true → given o ≡ None)
    → given (cond b (Some p) o) ≡ option_or (given o) (if b then Some s else None)
found_by true o p s same none = ap (λ (z : List ℕ). Some z) same ∙ sym (ap (λ z. option_or z (Some s)) (none refl))
found_by false o p s same none = or_none (given o)

none_given : (o : Option PreparedSecret) (b : Bool) → b ≡ is_some o → b ≡ false → given o ≡ None
none_given None b e f = refl
none_given (Some p) b e f = absurd (true≢false (sym e ∙ f))

pub entered : (m n : Secrets) (id s : List ℕ) (p : PreparedSecret) (b : Bool) → p.secret.now ≡ s
    → b ≡ is_some (get_by (λ k. slice_cmp nat_cmp id k.now) m) → b ≡ false
    → UpdatesBy (λ x y. slice_cmp nat_cmp x.now y.now) (λ k. slice_cmp nat_cmp id k.now) m n (Some p) → Enters m id s n
entered m n id s p b same e absent u q =
    let none : secret_at m id ≡ None = none_given (get_by (λ k. slice_cmp nat_cmp id k.now) m) b e absent in
    ap (λ z. given z) (btree_map_updates_str id m n (Some p) u q)
    ∙ found_by (bytes_eq id q) (get_by (λ k. slice_cmp nat_cmp q k.now) m) p s same (λ t. ap (λ z. secret_at m z) (sym ((bytes_eq-Decides id q).0 t)) ∙ none)

-- what a key alone gives
alone : (b v : Bool) (k : KeyFields) (o : Option (List ℕ)) → o ≡ (if v then secret k else None)
    → (if b then o else None) ≡ option_and_then secret (cond (b && v) (Some k) None)
alone true true k o e = e
alone true false k o e = e
alone false v k o e = refl

pub added : (m n : Secrets) (k : KeyFields) (s : List ℕ) → Some s ≡ (if serves k then secret k else None) → Enters m k.key_id s n → AddsKey m k n
added m n k s e h id = h id ∙ ap (λ z. option_or (secret_at m id) z) (alone (bytes_eq k.key_id id) (serves k) k (Some s) e)

third : (a b c d : Bool) → (a && (b && (c && d))) ≡ true → c ≡ true
third a b true d e = refl
third true true false d e = e
third true false false d e = e
third false b false d e = e

first_or : (b : Bool) (k : KeyFields) (o p : Option KeyFields) (r : Option (List ℕ)) → (b ≡ true → is_some (secret k) ≡ true)
    → option_and_then secret p ≡ option_or (option_and_then secret o) r
    → option_and_then secret (cond b (Some k) p) ≡ option_or (option_and_then secret (cond b (Some k) o)) r
first_or true k o p r has h = or_some (secret k) r (has refl)
first_or false k o p r has h = h

-- the first of a list and of a key after it
behind : (id : List ℕ) (ks : List KeyFields) (k : KeyFields) → secret_under id (ks ++ k ∷ []) ≡ option_or (secret_under id ks) (secret_under id (k ∷ []))
behind id [] k = refl
behind id (j ∷ ks) k = first_or (fits id j) j (find (fits id) ks) (find (fits id) (ks ++ k ∷ [])) (secret_under id (k ∷ []))
    (third (bytes_eq j.key_id id) (is_entry symmetric j.kty) (is_some (secret j)) (allows hmac_256 j.alg && permits verify_mac j.key_ops)) (behind id ks k)

pub indexed : (m n : Secrets) (ks all : List KeyFields) (k : KeyFields) → IsIndexOf m ks → AddsKey m k n → all ≡ (ks ++ k ∷ []) → IsIndexOf n all
indexed m n ks all k is h e id = h id ∙ ap (λ z. option_or z (secret_under id (k ∷ []))) (is id) ∙ sym (behind id ks k) ∙ sym (ap (λ z. secret_under id z) e)
