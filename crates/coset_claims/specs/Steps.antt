-- What the parts of the reader show.
use Rattle.std.specs.Prelude.{◌≡◌, ℕ, pos, List, [], ◌∷◌, ◌++◌, true, false, MatchBool, nat_eq, Option, Some, option_map}
use Rattle.std.specs.Ordering.{on}
use Rattle.cose_iana.specs.declared.claims.CwtClaimName.{CwtClaimName}
use Rattle.ciborium_value.specs.Tree.{Tree, Pairs}
use Rattle.coset_labels.specs.Entries.{Distinct}
use Rattle.coset_labels.specs.Fields.{Named, assigned}
use Rattle.coset_labels.specs.Orders.{named_cmp}
use Rattle.coset_labels.specs.SeenLabels as keys
use Rattle.coset_labels.specs.Walks as walks
use Rattle.coset_labels.specs.declared.registered.RegisteredLabelWithPrivate.{RegisteredLabelWithPrivate}
use Rattle.coset_labels.specs.declared.seen_labels.SeenLabels.{SeenLabels}
use Rattle.coset_claims.specs.Claims.{is_core, text_of, time_of, bytes_of, name_of, IsClaims}
use Rattle.coset_claims.specs.Fields.{ClaimsFields}
use Rattle.coset_claims.specs.View.{name_view, claims_view}
use Rattle.coset_claims.specs.declared.cwt.ClaimsSet.{ClaimsSet}
use Rattle.coset_claims.specs.declared.reader.Place.{Place}
use Rattle.coset_claims.specs.declared.reader.Place.TheVariants as place

-- the place in claims that a name names
abbrev pub Names : Place → Named → Type 0
Names place.Issuer m = m ≡ assigned (pos 1)
Names place.Subject m = m ≡ assigned (pos 2)
Names place.Audience m = m ≡ assigned (pos 3)
Names place.ExpirationTime m = m ≡ assigned (pos 4)
Names place.NotBefore m = m ≡ assigned (pos 5)
Names place.IssuedAt m = m ≡ assigned (pos 6)
Names place.CwtId m = m ≡ assigned (pos 7)
Names place.Rest m = is_core m ≡ false

-- the value of the claim n gives the field of the claim k, if it is that one; else the field stays
abbrev pub Sets : {A : Type 0} → (Tree → Option A) → ℕ → ℕ → Tree → Option A → Option A → Type 0
Sets f k n v old new = MatchBool (nat_eq k n) (option_map Some (f v) ≡ Some new) (old ≡ new)

pub record SetsOne (n : ℕ) (v : Tree) (p q : ClaimsFields) : Type 0 where
  pub issuer : Sets text_of 1 n v p.issuer q.issuer
  pub subject : Sets text_of 2 n v p.subject q.subject
  pub audience : Sets text_of 3 n v p.audience q.audience
  pub expiration_time : Sets time_of 4 n v p.expiration_time q.expiration_time
  pub not_before : Sets time_of 5 n v p.not_before q.not_before
  pub issued_at : Sets time_of 6 n v p.issued_at q.issued_at
  pub cwt_id : Sets bytes_of 7 n v p.cwt_id q.cwt_id
  pub rest : p.rest ≡ q.rest

-- the entry gives one field, and the others stay
pub data Fills (m : Named) (v : Tree) (p q : ClaimsFields) : Type 0 where
  fills_field : (n : ℕ) → m ≡ assigned (pos n) → is_core (assigned (pos n)) ≡ true → SetsOne n v p q → Fills m v p q
  fills_rest : is_core m ≡ false → q ≡ record p { rest = p.rest ++ (m, v) ∷ [] } → Fills m v p q

abbrev pub ClaimName : Type 0
ClaimName = RegisteredLabelWithPrivate CwtClaimName

-- the names of these entries, and no others, were seen
abbrev pub Sees : SeenLabels ClaimName → List (Named × Tree) → Type 0
Sees = keys.Sees (on name_view named_cmp) name_view

-- the fields are those of these entries
pub record Known (es : List (Named × Tree)) (c : ClaimsFields) : Type 0 where
  pub distinct : Distinct es
  pub claims : IsClaims es c

-- the same, and the names that were seen are those of these entries
abbrev pub KnownIn : List (Named × Tree) → SeenLabels ClaimName → ClaimsSet → Type 0
KnownIn = walks.KnownIn Sees (λ fs c. Known fs (claims_view c))

-- one more entry is read
abbrev pub Added : List (Named × Tree) → Tree → Tree → SeenLabels ClaimName → ClaimsSet → Type 0
Added = walks.Added name_of Sees (λ fs c. Known fs (claims_view c))

-- the fields of all entries of a map
abbrev pub HasEntries : Pairs → ClaimsFields → Type 0
HasEntries ps c = walks.HasEntries name_of (λ es. Known es c) ps
