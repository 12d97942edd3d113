-- Which claims let a token pass at a time (RFC 8392, sections 2 and 3; RFC 7519, section 4.1).
use Rattle.std.specs.Prelude.{ℕ, ℤ, pos, List, Bool, true, false, ◌&&◌, ◌||◌, Option, None, Some, is_some, Result, Ok, Err, if◌then◌else◌}
use Rattle.std.specs.List.{list_all}
use Rattle.std.specs.Str.{bytes_eq}
use Rattle.std.specs.declared.cmp.Ordering.{Ordering}
use Rattle.std.specs.declared.cmp.Ordering.TheVariants.{Less, Equal, Greater}
use Rattle.ciborium_value.specs.Kinds.{is_text}
use Rattle.ciborium_value.specs.Tree.{Tree, text, array, Trees, no_trees, one_more}
use Rattle.coset_labels.specs.Fields.{LabelFields}
use Rattle.coset_claims.specs.Claims.{time_of}
use Rattle.coset_claims.specs.Fields.{TimeFields, whole_seconds, fractional_seconds}
use Rattle.coset_claims.specs.Seconds.{Amount, multiple, infinite, no_number, number_of, time_against}
use Rattle.cose_rules.specs.Labels.{value_under, value_at}
use Rattle.cose_rules.specs.declared.claims.TimeFault.{TimeFault}
use Rattle.cose_rules.specs.declared.claims.TimeFault.TheVariants as time
use Rattle.cose_rules.specs.declared.claims.ClaimRefusal.{ClaimRefusal}
use Rattle.cose_rules.specs.declared.claims.ClaimRefusal.TheVariants as refusal

-- a claims set: its entries, no label twice
abbrev pub ClaimEntries : Type 0
ClaimEntries = List (LabelFields × Tree)

-- whom a token may be for: nobody in particular, somebody, or anyone
pub data Receiver : Type 0 where
  nobody : Receiver
  somebody : List ℕ → Receiver
  anyone : Receiver

-- what the receiver asks: the earliest and the latest second that it may be, by the leeway of
-- clocks; an issuer; a receiver; claims that have to be there
pub record TermsFields : Type 0 where
  pub earliest : ℤ
  pub latest : ℤ
  pub issuer : Option (List ℕ)
  pub receiver : Receiver
  pub needed : List LabelFields

-- a time is finite, as an infinity and a NaN are not
abbrev pub is_multiple : Amount → Bool
is_multiple (multiple i k) = true
is_multiple (infinite negative) = false
is_multiple no_number = false

abbrev pub is_finite : TimeFields → Bool
is_finite (whole_seconds i) = true
is_finite (fractional_seconds f) = is_multiple (number_of f)

abbrev pub is_greater : Ordering → Bool
is_greater Less = false
is_greater Equal = false
is_greater Greater = true

abbrev pub is_some_greater : Option Ordering → Bool
is_some_greater None = false
is_some_greater (Some o) = is_greater o

-- whether a time is after a second (section 2, NumericDate), or why it is none: an integer of 64
-- bits, or a finite float
abbrev pub later : TimeFields → ℤ → Result Bool TimeFault
later f n = if is_finite f then Ok (is_some_greater (time_against f n)) else Err time.NotFinite

abbrev pub later_or : Option TimeFields → ℤ → Result Bool TimeFault
later_or None n = Err time.NotNumber
later_or (Some f) n = later f n

abbrev pub is_after : Tree → ℤ → Result Bool TimeFault
is_after t n = later_or (time_of t) n

-- exp: the token passes only before it (section 3.1.4)
abbrev pub by_expiry : Result Bool TimeFault → Option ClaimRefusal
by_expiry (Ok true) = None
by_expiry (Ok false) = Some refusal.Expired
by_expiry (Err f) = Some (refusal.Expiry f)

abbrev pub expiry_refusal : ℤ → Option Tree → Option ClaimRefusal
expiry_refusal earliest None = None
expiry_refusal earliest (Some t) = by_expiry (is_after t earliest)

-- nbf: the token passes only at it or after it (section 3.1.5)
abbrev pub by_begin : Result Bool TimeFault → Option ClaimRefusal
by_begin (Ok true) = Some refusal.NotYet
by_begin (Ok false) = None
by_begin (Err f) = Some (refusal.NotBefore f)

abbrev pub begin_refusal : ℤ → Option Tree → Option ClaimRefusal
begin_refusal latest None = None
begin_refusal latest (Some t) = by_begin (is_after t latest)

-- iss is this text (section 3.1.1)
abbrev pub is_text_of : List ℕ → Tree → Bool
is_text_of a (text b) = bytes_eq b a
is_text_of a _ = false

abbrev pub is_issuer : Option (List ℕ) → Option Tree → Bool
is_issuer None t = true
is_issuer (Some a) None = false
is_issuer (Some a) (Some t) = is_text_of a t

-- aud is a text, or an array of texts (section 3.1.3; RFC 7519, section 4.1.3)
abbrev pub all_texts : Trees → Bool
all_texts no_trees = true
all_texts (one_more t ts) = is_text t && all_texts ts

abbrev pub is_audience : Tree → Bool
is_audience (array ts) = all_texts ts
is_audience t = is_text t

-- and it is the receiver, or has it among others
abbrev pub any_text_of : List ℕ → Trees → Bool
any_text_of a no_trees = false
any_text_of a (one_more t ts) = is_text_of a t || any_text_of a ts

abbrev pub is_for : List ℕ → Tree → Bool
is_for a (array ts) = any_text_of a ts
is_for a t = is_text_of a t

-- a token for others is refused, also if no receiver is named (RFC 7519, section 4.1.3)
abbrev pub for_one : List ℕ → Tree → Option ClaimRefusal
for_one a t =
    if is_audience t then (if is_for a t then None else Some refusal.OtherReceiver)
    else Some refusal.AudienceNotText

abbrev pub for_nobody : Tree → Option ClaimRefusal
for_nobody t = if is_audience t then Some refusal.SomeReceiver else Some refusal.AudienceNotText

abbrev pub audience_refusal : Receiver → Option Tree → Option ClaimRefusal
audience_refusal anyone t = None
audience_refusal nobody None = None
audience_refusal nobody (Some t) = for_nobody t
audience_refusal (somebody a) None = Some refusal.OtherReceiver
audience_refusal (somebody a) (Some t) = for_one a t

abbrev pub first_of : Option ClaimRefusal → Option ClaimRefusal → Option ClaimRefusal
first_of None other = other
first_of (Some r) other = Some r

abbrev pub has_all : List LabelFields → ClaimEntries → Bool
has_all ls es = list_all (λ l. is_some (value_under l es)) ls

-- why the claims don't let a token pass: a claim that isn't there, exp, nbf, iss, aud; the first of
-- these that holds
abbrev pub party_refusal : TermsFields → ClaimEntries → Option ClaimRefusal
party_refusal t es =
    if is_issuer t.issuer (value_at (pos 1) es) then audience_refusal t.receiver (value_at (pos 3) es)
    else Some refusal.OtherIssuer

abbrev pub begin_or : TermsFields → ClaimEntries → Option ClaimRefusal
begin_or t es = first_of (begin_refusal t.latest (value_at (pos 5) es)) (party_refusal t es)

abbrev pub expiry_or : TermsFields → ClaimEntries → Option ClaimRefusal
expiry_or t es = first_of (expiry_refusal t.earliest (value_at (pos 4) es)) (begin_or t es)

abbrev pub claims_refusal : TermsFields → ClaimEntries → Option ClaimRefusal
claims_refusal t es = if has_all t.needed es then expiry_or t es else Some refusal.Missing
