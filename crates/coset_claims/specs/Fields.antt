-- The claims of a token, as values that hold no memory (RFC 8392, section 3.1).
use Rattle.std.specs.Prelude.{ℕ, ℤ, List, [], Option, None}
use Rattle.ciborium_ll.specs.declared.hdr.Float.{Float as FloatBits}
use Rattle.ciborium_value.specs.Tree.{Tree}
use Rattle.coset_labels.specs.Fields.{Named}

-- seconds since the epoch: a number, or a float by its width and its bits (RFC 8392, section 2,
-- NumericDate)
pub data TimeFields : Type 0 where
  whole_seconds : ℤ → TimeFields
  fractional_seconds : FloatBits → TimeFields

pub record ClaimsFields : Type 0 where
  pub issuer : Option (List ℕ)
  pub subject : Option (List ℕ)
  pub audience : Option (List ℕ)
  pub expiration_time : Option TimeFields
  pub not_before : Option TimeFields
  pub issued_at : Option TimeFields
  pub cwt_id : Option (List ℕ)
  pub rest : List (Named × Tree)

abbrev pub no_claims : ClaimsFields
no_claims = record {
  issuer = None;
  subject = None;
  audience = None;
  expiration_time = None;
  not_before = None;
  issued_at = None;
  cwt_id = None;
  rest = [];
}
