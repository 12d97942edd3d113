-- What the terms of the code say.
use Rattle.std.specs.Prelude.{map, option_copied}
use Rattle.coset_labels.specs.View.{label_view}
use Rattle.cose_rules.specs.Claims.{Receiver, nobody, somebody, anyone, TermsFields}
use Rattle.cose_rules.specs.declared.claims.TokenTerms.{TokenTerms}
use Rattle.cose_rules.specs.declared.claims.Audience.{Audience}
use Rattle.cose_rules.specs.declared.claims.Audience.TheVariants as code

abbrev pub receiver_of : Audience → Receiver
receiver_of code.Nobody = nobody
receiver_of (code.Named a) = somebody a.now
receiver_of code.Anyone = anyone

abbrev pub terms_view : TokenTerms → TermsFields
terms_view t = record {
  earliest = t.earliest;
  latest = t.latest;
  issuer = option_copied t.issuer;
  receiver = receiver_of t.audience;
  needed = map label_view t.needed.now;
}
