use Rattle.std.proofs.Common.{ap}
use Rattle.cose_gate_core.specs.HeaderView.{header_view, protected_view}
use Rattle.coset_keys.specs.View.{key_set_view}
use Rattle.cose_gate_program.specs.Judging.{secret_for, is_tag_under}
use Rattle.cose_gate_program.proofs.Verdicts.{verdict_by}
use Rattle.cose_gate_program.proofs.verdict.is_good_tag.Goals as goal

pub returns-in-Some : goal.returns-in-Some
returns-in-Some c = verdict_by (secret_for (key_set_view c.args.keys.now) (protected_view c.args.protected.now) (header_view c.args.unprotected.now)) c.in-Some.secret.now c.args.covered.now c.args.tag.now _ _
    c.in-Some.ensures c.hmac_sha256.ensures c.same_tag.ensures

pub returns-in-None : goal.returns-in-None
returns-in-None c = ap (λ o. is_tag_under o c.args.covered.now c.args.tag.now) c.in-None.ensures
