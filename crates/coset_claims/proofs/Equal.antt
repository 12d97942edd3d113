-- Derived equality of claims is that of what they say.
use Rattle.std.proofs.Common.{◌≡◌, true, false, Option, option_map, ap, string_bytes}
use Rattle.std.specs.Prelude.{IsTrue, ◌↔◌}
use Rattle.std.specs.Cmp.{signed_Decides, unsigned_Decides}
use Rattle.std.specs.Option.{option_eq}
use Rattle.std.specs.Ordering.{on}
use Rattle.ciborium_ll.specs.declared.hdr.Float.{Float as FloatBits}
use Rattle.ciborium_ll.specs.declared.hdr.Float.TheVariants.{Half, Single, Double}
use Rattle.ciborium_ll.specs.contracts.hdr.FloatPartialEq.TheImpl as float_equality
use Rattle.coset_labels.specs.Facts.Equal.{both, options, bytes_options, by_names, entry_lists}
use Rattle.coset_labels.specs.Orders.{named_cmp}
use Rattle.coset_claims.specs.Fields.{whole_seconds, fractional_seconds}
use Rattle.coset_claims.specs.View.{time_view, name_view, claims_view}
use Rattle.coset_claims.specs.declared.cwt.ClaimsSet.{ClaimsSet}
use Rattle.coset_claims.specs.declared.cwt.Timestamp.{Timestamp}
use Rattle.coset_claims.specs.declared.cwt.Timestamp.TheVariants.{WholeSeconds, FractionalSeconds}
use Rattle.coset_claims.specs.contracts.cwt.TimestampPartialEq.TheImpl as time_equality
use Rattle.coset_claims.specs.contracts.cwt.ClaimsSetPartialEq.TheImpl as equality

floats : (f g : FloatBits) → IsTrue (float_equality.eq-value.it f g) ↔ (f ≡ g)
floats (Half n) (Half m) = (λ h. ap Half ((unsigned_Decides n m).0 h), λ h. let k : Half n ≡ Half m = h in let s : n ≡ m = cc in (unsigned_Decides n m).1 s)
floats (Half n) (Single m) = (λ h. let k : false ≡ true = h in cc, λ h. let k : Half n ≡ Single m = h in cc)
floats (Half n) (Double m) = (λ h. let k : false ≡ true = h in cc, λ h. let k : Half n ≡ Double m = h in cc)
floats (Single n) (Half m) = (λ h. let k : false ≡ true = h in cc, λ h. let k : Single n ≡ Half m = h in cc)
floats (Single n) (Single m) = (λ h. ap Single ((unsigned_Decides n m).0 h), λ h. let k : Single n ≡ Single m = h in let s : n ≡ m = cc in (unsigned_Decides n m).1 s)
floats (Single n) (Double m) = (λ h. let k : false ≡ true = h in cc, λ h. let k : Single n ≡ Double m = h in cc)
floats (Double n) (Half m) = (λ h. let k : false ≡ true = h in cc, λ h. let k : Double n ≡ Half m = h in cc)
floats (Double n) (Single m) = (λ h. let k : false ≡ true = h in cc, λ h. let k : Double n ≡ Single m = h in cc)
floats (Double n) (Double m) = (λ h. ap Double ((unsigned_Decides n m).0 h), λ h. let k : Double n ≡ Double m = h in let s : n ≡ m = cc in (unsigned_Decides n m).1 s)

pub times : (x y : Timestamp) → IsTrue (time_equality.eq-value.it x y) ↔ (time_view x ≡ time_view y)
times (WholeSeconds i) (WholeSeconds j) = (λ h. ap whole_seconds ((signed_Decides i j).0 h), λ h. let k : whole_seconds i ≡ whole_seconds j = h in let s : i ≡ j = cc in (signed_Decides i j).1 s)
times (WholeSeconds i) (FractionalSeconds g) = (λ h. let k : false ≡ true = h in cc, λ h. let k : whole_seconds i ≡ fractional_seconds g = h in cc)
times (FractionalSeconds f) (WholeSeconds j) = (λ h. let k : false ≡ true = h in cc, λ h. let k : fractional_seconds f ≡ whole_seconds j = h in cc)
times (FractionalSeconds f) (FractionalSeconds g) = (λ h. ap fractional_seconds ((floats f g).0 h), λ h. let k : fractional_seconds f ≡ fractional_seconds g = h in let s : f ≡ g = cc in (floats f g).1 s)

maybe_times : (x y : Option Timestamp) → IsTrue (option_eq time_equality.eq-value.it x y) ↔ (option_map time_view x ≡ option_map time_view y)
maybe_times x y = options time_equality.eq-value.it time_view times x y

pub claims : (a b : ClaimsSet) → IsTrue (equality.eq-value.it a b) ↔ (claims_view a ≡ claims_view b)
claims a b =
    let w = both _ _ (bytes_options string_bytes a.issuer b.issuer) (both _ _ (bytes_options string_bytes a.subject b.subject) (both _ _ (bytes_options string_bytes a.audience b.audience)
    (both _ _ (maybe_times a.expiration_time b.expiration_time) (both _ _ (maybe_times a.not_before b.not_before) (both _ _ (maybe_times a.issued_at b.issued_at)
    (both _ _ (bytes_options (λ v. v.items) a.cwt_id b.cwt_id) (entry_lists (on name_view named_cmp) name_view (by_names name_view) a.rest.items b.rest.items))))))) in (
      λ h. let p = w.0 h in λ i. record { issuer = p.0 i; subject = p.1.0 i; audience = p.1.1.0 i; expiration_time = p.1.1.1.0 i; not_before = p.1.1.1.1.0 i; issued_at = p.1.1.1.1.1.0 i; cwt_id = p.1.1.1.1.1.1.0 i; rest = p.1.1.1.1.1.1.1 i },
      λ h. w.1 (ap (λ c. c.issuer) h, (ap (λ c. c.subject) h, (ap (λ c. c.audience) h, (ap (λ c. c.expiration_time) h, (ap (λ c. c.not_before) h, (ap (λ c. c.issued_at) h, (ap (λ c. c.cwt_id) h, ap (λ c. c.rest) h))))))),
    )
