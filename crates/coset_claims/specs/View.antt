-- What times and claims of the code say.
use Rattle.std.specs.Prelude.{map, option_map, string_bytes}
use Rattle.cose_iana.specs.Claims.{cwt_claim_names}
use Rattle.cose_iana.specs.declared.claims.CwtClaimName.{CwtClaimName}
use Rattle.ciborium_value.specs.Tree.{Tree}
use Rattle.ciborium_value.specs.declared.value.Value.{Value}
use Rattle.coset_labels.specs.Fields.{Named}
use Rattle.coset_labels.specs.View.{named_view}
use Rattle.coset_labels.specs.View as names
use Rattle.coset_labels.specs.declared.registered.RegisteredLabelWithPrivate.{RegisteredLabelWithPrivate}
use Rattle.coset_claims.specs.Fields.{TimeFields, whole_seconds, fractional_seconds, ClaimsFields}
use Rattle.coset_claims.specs.declared.cwt.ClaimsSet.{ClaimsSet}
use Rattle.coset_claims.specs.declared.cwt.Timestamp.{Timestamp}
use Rattle.coset_claims.specs.declared.cwt.Timestamp.TheVariants as time

abbrev pub time_view : Timestamp → TimeFields
time_view (time.WholeSeconds i) = whole_seconds i
time_view (time.FractionalSeconds f) = fractional_seconds f

abbrev pub name_view : RegisteredLabelWithPrivate CwtClaimName → Named
name_view = named_view cwt_claim_names.number

abbrev pub entry_view : RegisteredLabelWithPrivate CwtClaimName × Value → Named × Tree
entry_view = names.entry_view name_view

abbrev pub claims_view : ClaimsSet → ClaimsFields
claims_view c = record {
  issuer = option_map string_bytes c.issuer;
  subject = option_map string_bytes c.subject;
  audience = option_map string_bytes c.audience;
  expiration_time = option_map time_view c.expiration_time;
  not_before = option_map time_view c.not_before;
  issued_at = option_map time_view c.issued_at;
  cwt_id = option_map (λ v. v.items) c.cwt_id;
  rest = map entry_view c.rest.items;
}
