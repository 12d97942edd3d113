use Rattle.std.proofs.Common.{◌≡◌, List, ℕ, Bool, Option, ap, ◌∙◌}
use Rattle.std.proofs.lemmas.Result.{IfOk-weaker}
use Rattle.coset_labels.specs.Fields.{Named}
use Rattle.cose_rules.proofs.Seen.{algorithm_is}
use Rattle.cose_rules.specs.Rule.{algorithm_in}
use Rattle.cose_gate_command.specs.Fields.{fields_by}
use Rattle.cose_gate_command.proofs.fields.key_fields.Goals as goal

same : (a b : Option Named) (i j : List ℕ) (k l : Bool) → a ≡ b → i ≡ j → k ≡ l → fields_by a i k ≡ fields_by b j l
same a b i j k l e f g = ap (λ (z : Option Named). fields_by z i k) e ∙ ap (λ (z : List ℕ). fields_by b z k) f ∙ ap (λ (z : Bool). fields_by b j z) g

pub returns : goal.returns
returns c =
    IfOk-weaker c.fields_by.result _ _
    (λ fields e. e ∙ same _ _ _ _ _ _ (algorithm_is c.key_layer.result.protected.now ∙ ap algorithm_in c.key_layer.ensures) c.key_id.ensures c.has_known_crit.ensures) c.fields_by.ensures
