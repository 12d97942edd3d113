-- Derived equality is that of what is said.
use Rattle.std.proofs.Common.{◌≡◌, ℕ, List, map, true, false, Option, option_map, ap, Vec, Global}
use Rattle.std.specs.Prelude.{IsTrue, ◌↔◌, nat_eq}
use Rattle.std.specs.Cmp.{signed_Decides, unsigned_Decides}
use Rattle.std.specs.Cmp.Lexicographic.{pointwise, bytes_decides}
use Rattle.std.specs.Option.{option_eq}
use Rattle.cose_iana.specs.Algorithms.{algorithm_number}
use Rattle.coset_labels.specs.Facts.Equal.{both, options, lists, bytes_options, by_names}
use Rattle.coset_labels.specs.View.{named_view}
use Rattle.coset_headers.specs.Facts.Decided.{protected_decided}
use Rattle.coset_headers.specs.View.{protected_view}
use Rattle.coset_kdf.specs.Fields.{nonce_bytes, nonce_integer}
use Rattle.coset_kdf.specs.View.{nonce_view, party_view, public_view, context_view}
use Rattle.coset_kdf.specs.declared.context.Nonce.{Nonce}
use Rattle.coset_kdf.specs.declared.context.Nonce.TheVariants.{Bytes, Integer}
use Rattle.coset_kdf.specs.declared.context.PartyInfo.{PartyInfo}
use Rattle.coset_kdf.specs.declared.context.SuppPubInfo.{SuppPubInfo}
use Rattle.coset_kdf.specs.declared.context.CoseKdfContext.{CoseKdfContext}
use Rattle.coset_kdf.specs.contracts.context.NoncePartialEq.TheImpl as nonce_equality
use Rattle.coset_kdf.specs.contracts.context.PartyInfoPartialEq.TheImpl as party_equality
use Rattle.coset_kdf.specs.contracts.context.SuppPubInfoPartialEq.TheImpl as public_equality
use Rattle.coset_kdf.specs.contracts.context.CoseKdfContextPartialEq.TheImpl as context_equality

strings : (x y : Option (Vec ℕ Global)) → IsTrue (option_eq (λ a b. pointwise nat_eq a.items b.items) x y) ↔ (option_map (λ v. v.items) x ≡ option_map (λ v. v.items) y)
strings = bytes_options (λ v. v.items)

pub nonces : (x y : Nonce) → IsTrue (nonce_equality.eq-value.it x y) ↔ (nonce_view x ≡ nonce_view y)
nonces (Bytes a) (Bytes b) = (λ h. ap nonce_bytes ((bytes_decides a.items b.items).0 h), λ h. let k : nonce_bytes a.items ≡ nonce_bytes b.items = h in let s : a.items ≡ b.items = cc in (bytes_decides a.items b.items).1 s)
nonces (Bytes a) (Integer j) = (λ h. let k : false ≡ true = h in cc, λ h. let k : nonce_bytes a.items ≡ nonce_integer j = h in cc)
nonces (Integer i) (Bytes b) = (λ h. let k : false ≡ true = h in cc, λ h. let k : nonce_integer i ≡ nonce_bytes b.items = h in cc)
nonces (Integer i) (Integer j) = (λ h. ap nonce_integer ((signed_Decides i j).0 h), λ h. let k : nonce_integer i ≡ nonce_integer j = h in let s : i ≡ j = cc in (signed_Decides i j).1 s)

maybe_nonces : (x y : Option Nonce) → IsTrue (option_eq nonce_equality.eq-value.it x y) ↔ (option_map nonce_view x ≡ option_map nonce_view y)
maybe_nonces x y = options nonce_equality.eq-value.it nonce_view nonces x y

pub parties : (a b : PartyInfo) → IsTrue (party_equality.eq-value.it a b) ↔ (party_view a ≡ party_view b)
parties a b =
    let w = both _ _ (strings a.identity b.identity) (both _ _ (maybe_nonces a.nonce b.nonce) (strings a.other b.other)) in
    (λ h. let p = w.0 h in λ i. record { identity = p.0 i; nonce = p.1.0 i; other = p.1.1 i }, λ h. w.1 (ap (λ c. c.identity) h, (ap (λ c. c.nonce) h, ap (λ c. c.other) h)))

pub publics : (a b : SuppPubInfo) → IsTrue (public_equality.eq-value.it a b) ↔ (public_view a ≡ public_view b)
publics a b =
    let w = both _ _ (unsigned_Decides a.key_data_length b.key_data_length)
    (both _ _ (protected_decided (protected_view a.protected) (protected_view b.protected)) (strings a.other b.other)) in (
      λ h. let p = w.0 h in λ i. record { key_data_length = p.0 i; protected_header = p.1.0 i; other = p.1.1 i },
      λ h. w.1 (ap (λ c. c.key_data_length) h, (ap (λ c. c.protected_header) h, ap (λ c. c.other) h)),
    )

privates : (xs ys : List (Vec ℕ Global)) → IsTrue (pointwise (λ a b. pointwise nat_eq a.items b.items) xs ys) ↔ (map (λ v. v.items) xs ≡ map (λ v. v.items) ys)
privates xs ys = lists (λ a b. pointwise nat_eq a.items b.items) (λ v. v.items) (λ a b. bytes_decides a.items b.items) xs ys

pub contexts : (a b : CoseKdfContext) → IsTrue (context_equality.eq-value.it a b) ↔ (context_view a ≡ context_view b)
contexts a b =
    let w = both _ _ (by_names (named_view algorithm_number) a.algorithm_id b.algorithm_id) (both _ _ (parties a.party_u_info b.party_u_info) (both _ _ (parties a.party_v_info b.party_v_info)
    (both _ _ (publics a.supp_pub_info b.supp_pub_info) (privates a.supp_priv_info.items b.supp_priv_info.items)))) in (
      λ h. let p = w.0 h in λ i. record {
        algorithm = p.0 i;
        party_u = p.1.0 i;
        party_v = p.1.1.0 i;
        public = p.1.1.1.0 i;
        privates = p.1.1.1.1 i;
      },
      λ h. w.1 (
        ap (λ c. c.algorithm) h,
        (ap (λ c. c.party_u) h, (ap (λ c. c.party_v) h, (ap (λ c. c.public) h, ap (λ c. c.privates) h))),
      ),
    )
