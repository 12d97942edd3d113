-- Which questions are answered by yes under the rules, if a signature is good that is the covered
-- bytes.
use Rattle.std.specs.Prelude.{List, Bool}
use Rattle.std.specs.Str.{bytes_eq}
use Rattle.cose_gate.specs.KeyFields.{KeyFields}
use Rattle.cose_gate.specs.Questions.{Question}
use Rattle.cose_rules.specs.Rule.{is_good}
use Rattle.cose_ruled.specs.Judging.{ruled}

-- one of these keys is a candidate by the ruling on the question, and the signature is good under it
abbrev pub grants : List KeyFields → Question → Bool
grants keys q = is_good (λ _ _. bytes_eq q.covered q.signature) keys (ruled keys q.subject)
