use Rattle.std.proofs.Common.{subst, ap, ◌≡◌, ◌∙◌, ◌-◌, IfOk, ℤ, negsuc}
use Rattle.std.proofs.lemmas.Int.{to_z-of_z}
use Rattle.std.specs.Int.{w128}
use Rattle.ciborium_value.specs.Numbers.{number_tree}
use Rattle.ciborium_value.specs.View.{view}
use Rattle.ciborium_value.proofs.Signs.{below_zero}
use Rattle.ciborium_value.proofs.value.Value.from_i128.Goals as goal

pub returns-then-n-lt0 : goal.returns-then-n-lt0
returns-then-n-lt0 c =
    let P : ℤ → Type 0 = λ z. IfOk c.below_zero.result (λ v. view v ≡ number_tree z) in
    let e = ap (λ m. negsuc (m - 1)) c.unsigned_abs.ensures.value ∙ below_zero _ c.if-n-lt0.true in
    subst P (e ∙ to_z-of_z w128 c.args.n c.ranges.n) c.below_zero.ensures
