-- Whether an item whose signatures may be checked is a token that passes (RFC 8392, sections 3 and 7),
-- and what is said of one that isn't.
use Rattle.std.specs.Prelude.{◌≡◌, ℕ, List, codes, Option, None, Some, option_map, Result, Ok, Err}
use Rattle.ciborium.specs.Front.{Reads}
use Rattle.ciborium.specs.Items.{nesting}
use Rattle.ciborium_value.specs.Tree.{Tree, array, Trees, no_trees, one_more}
use Rattle.cose_gate_core.specs.declared.report.Verdict.{Verdict}
use Rattle.cose_gate_core.specs.declared.report.Verdict.TheVariants as verdict
use Rattle.cose_rules.specs.Claims.{ClaimEntries, TermsFields, claims_refusal}
use Rattle.cose_rules.specs.ClaimsSet.{claims_of}
use Rattle.cose_rules.specs.Keys.{bytes_of}
use Rattle.cose_rules.specs.declared.claims.ClaimRefusal.{ClaimRefusal}
use Rattle.cose_rules.specs.declared.claims.ClaimRefusal.TheVariants as claim
use Rattle.cose_rules.specs.declared.claims.TimeFault.{TimeFault}
use Rattle.cose_rules.specs.declared.claims.TimeFault.TheVariants.{NotNumber, NotFinite}
use Rattle.cose_rules.specs.declared.claims_set.NoClaims.{NoClaims as NoSet}
use Rattle.cose_rules.specs.declared.claims_set.NoClaims.TheVariants as set
use Rattle.cose_ruled.specs.declared.token.TokenRefusal.{TokenRefusal}
use Rattle.cose_ruled.specs.declared.token.TokenRefusal.TheVariants.{NoItem, NoClaims, Claim}
use Rattle.cose_ruled.specs.declared.token.Outcome.{Outcome}
use Rattle.cose_ruled.specs.declared.token.Outcome.TheVariants.{Passed, Refused, NoToken}

-- the payload is the last element of a structure that is covered (RFC 9052, sections 4.4 and 6.3)
abbrev pub last_bytes : Trees → Option (List ℕ)
last_bytes no_trees = None
last_bytes (one_more t no_trees) = bytes_of t
last_bytes (one_more t (one_more u us)) = last_bytes (one_more u us)

abbrev pub payload_in : Tree → Option (List ℕ)
payload_in (array ts) = last_bytes ts
payload_in t = None

-- these bytes are a structure whose payload is this item
pub record Covers (covered : List ℕ) (item : Tree) : Type 0 where
  pub structure : Tree
  pub reads : Reads covered nesting structure
  pub payload : List ℕ
  pub is_last : payload_in structure ≡ Some payload
  pub is_item : Reads payload nesting item

-- why a claims set, or what is none, isn't that of a token that passes
abbrev pub by_claims : TermsFields → Result ClaimEntries NoSet → Option TokenRefusal
by_claims terms (Ok es) = option_map (λ r. Claim r) (claims_refusal terms es)
by_claims terms (Err why) = Some (NoClaims why)

-- why an item whose signatures cover this isn't a token that passes: its payload is no item, no
-- claims set, or a claim forbids it; none if it is one
abbrev pub ByPayload : TermsFields → List ℕ → Option TokenRefusal → Type 0
ByPayload terms covered refusal =
    (item : Tree) × Covers covered item × (refusal ≡ by_claims terms (claims_of item))

abbrev pub IsTokenRuling : TermsFields → List ℕ → Option TokenRefusal → Type 0
IsTokenRuling terms covered (Some NoItem) = (item : Tree) → Covers covered item → ⊥
IsTokenRuling terms covered (Some (NoClaims why)) = ByPayload terms covered (Some (NoClaims why))
IsTokenRuling terms covered (Some (Claim why)) = ByPayload terms covered (Some (Claim why))
IsTokenRuling terms covered None = ByPayload terms covered None

-- what is said of an item: its verdict, or why it isn't a token that passes if it has to be one
abbrev pub by_token : Option TokenRefusal → Outcome
by_token None = Passed
by_token (Some why) = NoToken why

abbrev pub IsOutcome : Option TermsFields → Verdict → List ℕ → Outcome → Type 0
IsOutcome token (verdict.Refused r) covered outcome = outcome ≡ Refused r
IsOutcome None verdict.Passed covered outcome = outcome ≡ Passed
IsOutcome (Some terms) verdict.Passed covered outcome =
    (refusal : Option TokenRefusal) × IsTokenRuling terms covered refusal
    × (outcome ≡ by_token refusal)

-- the words of each reason
abbrev pub expiry_text : TimeFault → List ℕ
expiry_text NotNumber = codes "exp is not a number"
expiry_text NotFinite = codes "exp is not a finite time"

abbrev pub begin_text : TimeFault → List ℕ
begin_text NotNumber = codes "nbf is not a number"
begin_text NotFinite = codes "nbf is not a finite time"

abbrev pub claim_text : ClaimRefusal → List ℕ
claim_text claim.Missing = codes "a claim that is needed is not there"
claim_text (claim.Expiry f) = expiry_text f
claim_text claim.Expired = codes "expired"
claim_text (claim.NotBefore f) = begin_text f
claim_text claim.NotYet = codes "not valid yet"
claim_text claim.OtherIssuer = codes "of another issuer"
claim_text claim.AudienceNotText = codes "aud is neither a string nor an array of strings"
claim_text claim.SomeReceiver = codes "for a receiver, and none is named here"
claim_text claim.OtherReceiver = codes "for another receiver"

abbrev pub no_claims_text : NoSet → List ℕ
no_claims_text set.NotMap = codes "the payload is not a map"
no_claims_text set.NotLabels =
    codes "a key of the payload is neither an integer of 64 bits nor a string"
no_claims_text set.Repeated = codes "a claim is there twice"
no_claims_text set.Memory = codes "out of memory"

abbrev pub token_text : TokenRefusal → List ℕ
token_text NoItem = codes "the payload is not one item of CBOR"
token_text (NoClaims why) = no_claims_text why
token_text (Claim why) = claim_text why
