use Rattle.std.proofs.Common.{◌∙◌, sym, Some, None}
use Rattle.cose_gate_core.specs.HeaderView.{header_view, protected_view}
use Rattle.coset_keys.specs.View.{key_view, key_set_view}
use Rattle.cose_gate_program.proofs.Verdicts.{barred, for_first}
use Rattle.cose_gate_program.proofs.verdict.secret_for.Goals as goal

pub returns-then-not-may_judge : goal.returns-then-not-may_judge
returns-then-not-may_judge c = barred (key_set_view c.args.keys.now) (protected_view c.args.protected.now) (header_view c.args.unprotected.now) (sym c.may_judge.ensures ∙ c.if-not-may_judge.true)

pub returns-in-Some : goal.returns-in-Some
returns-in-Some c = c.secret_of.ensures ∙ for_first (key_set_view c.args.keys.now) (protected_view c.args.protected.now) (header_view c.args.unprotected.now) c.id_in.result.now (Some (key_view c.in-Some.key.now))
    (sym c.may_judge.ensures ∙ c.if-not-may_judge.false) c.id_in.ensures c.in-Some.ensures

pub returns-in-None : goal.returns-in-None
returns-in-None c = for_first (key_set_view c.args.keys.now) (protected_view c.args.protected.now) (header_view c.args.unprotected.now) c.id_in.result.now None
    (sym c.may_judge.ensures ∙ c.if-not-may_judge.false) c.id_in.ensures c.in-None.ensures
