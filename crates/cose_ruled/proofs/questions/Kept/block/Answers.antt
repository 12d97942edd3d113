use Rattle.std.proofs.Common.{◌≡◌, ◌∙◌, ℕ, List, ap, subst}
use Rattle.std.specs.Global.{Vec}
use Rattle.std.specs.Prelude.{option_map}
use Rattle.std.proofs.lemmas.Result.{IfOk-weaker}
use Rattle.cose_gate_records.specs.Framing.{framed}
use Rattle.cose_rules.specs.TokenView.{terms_view}
use Rattle.cose_ruled.specs.Blocks.{base_of, IsBlock}
use Rattle.cose_ruled.specs.Told.{parts_in}
use Rattle.cose_ruled.specs.Tokens.{IsOutcome}
use Rattle.cose_ruled.proofs.questions.Kept.block.Goals as goal

pub returns : goal.returns
returns c =
    let ps = parts_in c.args.self.now.told in
    let entry = c.args.entry.now in
    let token = option_map terms_view c.args.token in
    let outcome = c.in_ok-outcome.outcome in
    let is_outcome : IsOutcome token entry.verdict (base_of ps) outcome
    = subst (λ (z : List ℕ). IsOutcome token entry.verdict z outcome) c.base.ensures c.in_ok-outcome.ensures in
    IfOk-weaker c.after_length.result (λ (text : Vec ℕ). text.items ≡ framed c.deref.result.now) (λ (text : Vec ℕ). IsBlock token entry c.args.end ps text.items)
    (λ text is. (outcome, is_outcome, is ∙ ap framed (c.deref.ensures.value ∙ c.in_ok-text.ensures))) c.after_length.ensures
