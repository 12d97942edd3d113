-- The secret for a message, and the verdict on its tag.
use Rattle.std.proofs.Common.{◌≡◌, ℕ, List, Bool, true, false, Option, Some, None, ◌↔◌, IsTrue, refl, sym, ap, ◌∙◌}
use Rattle.std.specs.Prelude.{if◌then◌else◌, option_and_then}
use Rattle.std.specs.Str.{bytes_eq}
use Rattle.std.proofs.lemmas.Slice.Eq.{bytes_eq-Decides}
use Rattle.cose_hmac.specs.Hmac.{hmac}
use Rattle.cose_gate_core.specs.Fields.{HeaderFields, ProtectedFields}
use Rattle.coset_keys.specs.Fields.{KeyFields}
use Rattle.cose_rules.specs.Rule.{id_in}
use Rattle.cose_gate_program.specs.Judging.{may_judge, secret_for, is_tag_under}
use Rattle.cose_gate_program.specs.Keys.{secret, first_fit}

abbrev pub secret_if : List KeyFields → ProtectedFields → HeaderFields → Bool → Option (List ℕ)
secret_if keys p u b = if b then option_and_then secret (first_fit (id_in (p, u)) keys) else None

pub barred : (keys : List KeyFields) (p : ProtectedFields) (u : HeaderFields) → may_judge p u ≡ false → None ≡ secret_for keys p u
barred keys p u e = sym (ap (secret_if keys p u) e)

pub for_first : (keys : List KeyFields) (p : ProtectedFields) (u : HeaderFields) (id : List ℕ) (o : Option KeyFields)
    → may_judge p u ≡ true → id ≡ id_in (p, u) → o ≡ first_fit id keys → option_and_then secret o ≡ secret_for keys p u
for_first keys p u id o may same found = ap (λ z. option_and_then secret z) (found ∙ ap (λ z. first_fit z keys) same) ∙ sym (ap (secret_if keys p u) may)

same_bools : (r s : Bool) → (r ≡ true → s ≡ true) → (s ≡ true → r ≡ true) → r ≡ s
same_bools true s f g = sym (f refl)
same_bools false true f g = g refl
same_bools false false f g = refl

pub verdict_by : (o : Option (List ℕ)) (s covered tag made : List ℕ) (r : Bool) → Some s ≡ o → made ≡ hmac s covered → IsTrue r ↔ (made ≡ tag) → r ≡ is_tag_under o covered tag
verdict_by o s covered tag made r e m h =
    same_bools r (bytes_eq made tag) (λ t. (bytes_eq-Decides made tag).1 (h.0 t)) (λ t. h.1 ((bytes_eq-Decides made tag).0 t))
    ∙ ap (λ z. bytes_eq z tag) m ∙ ap (λ z. is_tag_under z covered tag) e
