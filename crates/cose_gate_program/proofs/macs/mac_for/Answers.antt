use Rattle.std.proofs.Common.{Option, List, ℕ, [], Some, None, refl, sym, subst, ◌∙◌}
use Rattle.cose_gate_core.specs.HeaderView.{header_view, protected_view}
use Rattle.coset_keys.specs.View.{key_set_view}
use Rattle.cose_gate_program.specs.Judge.{MakesTag}
use Rattle.cose_gate_program.specs.Keys.{first_fit}
use Rattle.cose_gate_program.proofs.Verdicts.{for_first}
use Rattle.cose_gate_program.proofs.macs.mac_for.Goals as goal

pub returns-in-Some : goal.returns-in-Some
returns-in-Some c =
    let keys = key_set_view c.args.index.now.set.now in
    subst (λ (o : Option (List ℕ)). MakesTag (Some c.mac.result) o [])
    (c.in-Some.ensures ∙ for_first keys (protected_view c.args.protected.now) (header_view c.args.unprotected.now) c.id_in.result.now (first_fit c.id_in.result.now keys)
    (sym c.may_judge.ensures ∙ c.if-not-may_judge.false) c.id_in.ensures refl)
    c.mac.ensures

pub returns-in-None : goal.returns-in-None
returns-in-None c =
    let keys = key_set_view c.args.index.now.set.now in
    subst (λ (o : Option (List ℕ)). MakesTag None o [])
    (c.in-None.ensures ∙ for_first keys (protected_view c.args.protected.now) (header_view c.args.unprotected.now) c.id_in.result.now (first_fit c.id_in.result.now keys)
    (sym c.may_judge.ensures ∙ c.if-not-may_judge.false) c.id_in.ensures refl)
    tt
