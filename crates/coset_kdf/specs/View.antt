-- The fields that KDF contexts of the code and their parts have.
use Rattle.std.specs.Prelude.{map, option_map}
use Rattle.cose_iana.specs.Algorithms.{algorithm_number}
use Rattle.coset_labels.specs.View.{named_view}
use Rattle.coset_headers.specs.View.{protected_view}
use Rattle.coset_kdf.specs.Fields.{NonceFields, nonce_bytes, nonce_integer, PartyFields, PublicFields, ContextFields}
use Rattle.coset_kdf.specs.declared.context.Nonce.{Nonce}
use Rattle.coset_kdf.specs.declared.context.Nonce.TheVariants as nonce
use Rattle.coset_kdf.specs.declared.context.PartyInfo.{PartyInfo}
use Rattle.coset_kdf.specs.declared.context.SuppPubInfo.{SuppPubInfo}
use Rattle.coset_kdf.specs.declared.context.CoseKdfContext.{CoseKdfContext}

abbrev pub nonce_view : Nonce → NonceFields
nonce_view (nonce.Bytes v) = nonce_bytes v.items
nonce_view (nonce.Integer i) = nonce_integer i

abbrev pub party_view : PartyInfo → PartyFields
party_view p = record {
  identity = option_map (λ v. v.items) p.identity;
  nonce = option_map nonce_view p.nonce;
  other = option_map (λ v. v.items) p.other;
}

abbrev pub public_view : SuppPubInfo → PublicFields
public_view s = record {
  key_data_length = s.key_data_length;
  protected_header = protected_view s.protected;
  other = option_map (λ v. v.items) s.other;
}

abbrev pub context_view : CoseKdfContext → ContextFields
context_view c = record {
  algorithm = named_view algorithm_number c.algorithm_id;
  party_u = party_view c.party_u_info;
  party_v = party_view c.party_v_info;
  public = public_view c.supp_pub_info;
  privates = map (λ v. v.items) c.supp_priv_info.items;
}
