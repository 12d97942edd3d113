-- The numbers of some entries of registries.
use Rattle.std.proofs.Common.{◌≡◌, ◌≢◌, pos, Bool, true, false, refl, sym, ap, ◌∙◌}
use Rattle.std.specs.Prelude.{MatchBool}
use Rattle.std.specs.Ordering.{eq_by_cmp}
use Rattle.cose_iana.specs.Keys.{key_types}
use Rattle.cose_iana.specs.declared.keys.KeyType.{KeyType}
use Rattle.cose_iana.specs.declared.keys.KeyType.TheVariants as key_type
use Rattle.coset_labels.specs.Fields.{assigned}
use Rattle.coset_labels.specs.Names.{reserved_key_type}
use Rattle.coset_labels.specs.Orders.{named_cmp}
use Rattle.coset_labels.specs.Facts.Orders.{names_same}
use Rattle.coset_labels.specs.View.{registered_view}
use Rattle.coset_labels.specs.declared.registered.RegisteredLabel.{RegisteredLabel}
use Rattle.coset_keys.specs.Fields.{reserved}

pub reserved_number : key_types.number key_type.Reserved ≡ pos 0
unfolding key_types
reserved_number = refl

pub okp_number : key_types.number key_type.OKP ≡ pos 1
unfolding key_types
okp_number = refl

pub ec2_number : key_types.number key_type.EC2 ≡ pos 2
unfolding key_types
ec2_number = refl

pub symmetric_number : key_types.number key_type.Symmetric ≡ pos 4
unfolding key_types
symmetric_number = refl

pub akp_number : key_types.number key_type.AKP ≡ pos 7
unfolding key_types
akp_number = refl

pub reserved_is : (t : RegisteredLabel KeyType) → t ≡ reserved_key_type → registered_view key_types.number t ≡ reserved
reserved_is t e = ap (registered_view key_types.number) e ∙ ap assigned reserved_number

pub is_reserved : (k t : RegisteredLabel KeyType) (b : Bool) → t ≡ reserved_key_type → b ≡ eq_by_cmp named_cmp (registered_view key_types.number k) (registered_view key_types.number t) → b ≡ true
    → registered_view key_types.number k ≡ reserved
is_reserved k t b d e q = (names_same (registered_view key_types.number k) (registered_view key_types.number t)).0 (sym e ∙ q) ∙ reserved_is t d

pub not_reserved : (k t : RegisteredLabel KeyType) (b : Bool) → t ≡ reserved_key_type → b ≡ eq_by_cmp named_cmp (registered_view key_types.number k) (registered_view key_types.number t) → b ≡ false
    → registered_view key_types.number k ≢ reserved
not_reserved k t b d e q h =
    let s : eq_by_cmp named_cmp (registered_view key_types.number k) (registered_view key_types.number t) ≡ true = (names_same (registered_view key_types.number k) (registered_view key_types.number t)).1 (h ∙ sym (reserved_is t d)) in
    let x : false ≡ true = sym q ∙ e ∙ s in cc

pub ec2_test : (k : RegisteredLabel KeyType) (b : Bool) → b ≡ eq_by_cmp named_cmp (registered_view key_types.number k) (assigned (key_types.number key_type.EC2))
    → MatchBool b (registered_view key_types.number k ≡ assigned (pos 2)) (registered_view key_types.number k ≢ assigned (pos 2))
ec2_test k true e = (names_same (registered_view key_types.number k) (assigned (key_types.number key_type.EC2))).0 (sym e) ∙ ap assigned ec2_number
ec2_test k false e = λ h.
    let s : eq_by_cmp named_cmp (registered_view key_types.number k) (assigned (key_types.number key_type.EC2)) ≡ true = (names_same (registered_view key_types.number k) (assigned (key_types.number key_type.EC2))).1 (h ∙ sym (ap assigned ec2_number)) in
    let x : false ≡ true = e ∙ s in cc
