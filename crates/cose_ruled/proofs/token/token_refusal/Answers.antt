use Rattle.std.proofs.Common.{◌≡◌}
use Rattle.std.proofs.lemmas.Result.{IfOk-weaker}
use Rattle.cose_rules.specs.ClaimsSet.{claims_of}
use Rattle.cose_rules.specs.TokenView.{terms_view}
use Rattle.ciborium_value.specs.View.{view}
use Rattle.cose_ruled.specs.Tokens.{by_claims, IsTokenRuling}
use Rattle.cose_ruled.proofs.Tokens.{ruling_by}
use Rattle.cose_ruled.proofs.token.token_refusal.Goals as goal

pub returns-in-Some : goal.returns-in-Some
returns-in-Some c =
    let terms = terms_view c.args.terms in
    let covered = c.args.covered.now in
    let item = view c.in-Some.payload in
    IfOk-weaker c.by_claims.result (λ refusal. refusal ≡ by_claims terms (claims_of item)) (λ refusal. IsTokenRuling terms covered refusal)
    (ruling_by terms covered item (rw c.in-Some.is at c.in_ok-payload.ensures)) c.by_claims.ensures
