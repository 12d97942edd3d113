-- Which tokens pass, by the arguments of cose-ask: --cwt --at SECONDS [--leeway SECONDS]
-- [--iss ISS] [--aud AUD | --any-aud], anywhere, and at the end [--need CLAIM..].
use Rattle.std.specs.Prelude.{ℕ, ◌+◌, ◌-◌, ◌*◌, ◌^◌, ℤ, pos, ◌+ℤ◌, ◌-ℤ◌, List, [], ◌∷◌, map, Result, Ok, Err, Option, None, Some, is_some, unwrap_or, option_and_then, option_copied, Bool, true, false, ◌&&◌, ◌||◌, length, nat_eq, nat_le, nat_lt, bytes_eq, codes, string_bytes, if◌then◌else◌}
use Rattle.coset_labels.specs.Fields.{LabelFields, number, words}
use Rattle.cose_rules.specs.Claims.{TermsFields, Receiver, nobody, somebody, anyone}
use Rattle.cose_rules.specs.TokenView.{receiver_of}
use Rattle.cose_gate_command.specs.CommandLine.{Word, Wrong, says, has_alone, value_of, last_words, and_then, or_wrong}
use Rattle.cose_gate_command.specs.declared.tokens.TokenArguments.{TokenArguments}

-- a number below 10^16 in decimal digits
abbrev pub with_digit : ℕ → ℕ → Option ℕ
with_digit n c =
    if nat_le 48 c && (nat_le c 57 && nat_lt n (10 ^ 15)) then Some (n * 10 + (c - 48)) else None

abbrev pub digits_after : ℕ → List ℕ → Option ℕ
digits_after n [] = Some n
digits_after n (c ∷ cs) = option_and_then (λ m. digits_after m cs) (with_digit n c)

abbrev pub number_in : List ℕ → Option ℕ
number_in w = if nat_eq (length w) 0 then None else digits_after 0 w

-- now, which has to be there
abbrev pub now_in : Option (List ℕ) → Result ℕ Wrong
now_in None = Err (says (codes "--at is missing: now, in seconds since 1970"))
now_in (Some w) = or_wrong (says (codes "--at: not in digits, or not below 10^16")) (number_in w)

-- by how much clocks may differ, 0 without it
abbrev pub leeway_in : Option (List ℕ) → Result ℕ Wrong
leeway_in None = Ok 0
leeway_in (Some w) =
    or_wrong (says (codes "--leeway: not in digits, or not below 10^16")) (number_in w)

-- whom a token may be for
abbrev pub receiver_in : Bool → Option (List ℕ) → Result Receiver Wrong
receiver_in false None = Ok nobody
receiver_in true None = Ok anyone
receiver_in false (Some name) = Ok (somebody name)
receiver_in true (Some name) = Err (says (codes "--aud is given, and --any-aud too"))

-- a claim by its name (RFC 8392, section 3.1)
abbrev pub claim_of : List ℕ → LabelFields
claim_of w =
    if bytes_eq w (codes "iss") then number (pos 1)
    else if bytes_eq w (codes "sub") then number (pos 2)
    else if bytes_eq w (codes "aud") then number (pos 3)
    else if bytes_eq w (codes "exp") then number (pos 4)
    else if bytes_eq w (codes "nbf") then number (pos 5)
    else if bytes_eq w (codes "iat") then number (pos 6)
    else if bytes_eq w (codes "cti") then number (pos 7)
    else words w

-- the terms of these times, issuer and receiver, and of these words after --need
abbrev pub terms : List Word → ℕ → ℕ → Receiver → TermsFields
terms l now leeway receiver = record {
  earliest = pos now -ℤ pos leeway;
  latest = pos now +ℤ pos leeway;
  issuer = value_of (codes "--iss") l;
  receiver = receiver;
  needed = map claim_of (unwrap_or (last_words l) []);
}

abbrev pub terms_in : List Word → Result TermsFields Wrong
terms_in l = and_then (λ now. and_then (λ leeway. and_then (λ receiver.
    Ok (terms l now leeway receiver))
    (receiver_in (has_alone (codes "--any-aud") l) (value_of (codes "--aud") l)))
    (leeway_in (value_of (codes "--leeway") l)))
    (now_in (value_of (codes "--at") l))

-- one of them is there
abbrev pub has_terms : List Word → Bool
has_terms l = is_some (value_of (codes "--at") l) || (is_some (value_of (codes "--leeway") l)
    || (is_some (value_of (codes "--iss") l) || (is_some (value_of (codes "--aud") l)
    || (has_alone (codes "--any-aud") l || is_some (last_words l)))))

-- which tokens pass, if items have to be tokens
abbrev pub token_in : List Word → Result (Option TermsFields) Wrong
token_in l =
    if has_alone (codes "--cwt") l then and_then (λ t. Ok (Some t)) (terms_in l)
    else if has_terms l
    then Err (says (codes "--cwt is missing: what is asked of tokens is for it"))
    else Ok None

-- the same, as the code has them
abbrev pub token_view : TokenArguments → TermsFields
token_view t = record {
  earliest = t.earliest;
  latest = t.latest;
  issuer = option_copied t.issuer;
  receiver = receiver_of t.audience;
  needed = map claim_of (map string_bytes t.needed.now);
}

-- the labels of the claims that are needed
abbrev pub needed_by : Option TokenArguments → List LabelFields
needed_by None = []
needed_by (Some t) = (token_view t).needed
