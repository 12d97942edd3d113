use Rattle.std.proofs.Common.{sym, ap, ◌∙◌}
use Rattle.coset_claims.specs.Seconds.{number_of}
use Rattle.cose_rules.specs.Claims.{is_multiple}
use Rattle.cose_rules.proofs.Tokens.{finite_by}
use Rattle.cose_rules.proofs.claims.is_multiple.Goals as goal

pub returns-in-Half : goal.returns-in-Half
returns-in-Half c = finite_by 5 10 c.in-Half.bits ∙ sym (ap (λ z. is_multiple (number_of z)) c.in-Half.is)

pub returns-in-Single : goal.returns-in-Single
returns-in-Single c = finite_by 8 23 c.in-Single.bits ∙ sym (ap (λ z. is_multiple (number_of z)) c.in-Single.is)

pub returns-in-Double : goal.returns-in-Double
returns-in-Double c = finite_by 11 52 c.in-Double.bits ∙ sym (ap (λ z. is_multiple (number_of z)) c.in-Double.is)
