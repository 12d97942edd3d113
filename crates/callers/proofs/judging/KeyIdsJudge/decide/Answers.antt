use Rattle.std.proofs.Common.{◌≡◌, List, ℕ, ap, ◌∙◌}
use Rattle.callers.specs.Judging.{key_id_of, knows}
use Rattle.callers.specs.Sides.{known_of}
use Rattle.callers.proofs.judging.KeyIdsJudge.decide.Goals as goal

pub returns-clause-answer : goal.returns-clause-answer
returns-clause-answer c = λ subject bytes holds.
    let id : c.deref.result.now ≡ key_id_of subject = c.deref.ensures.value ∙ (ap (λ v. v.items) c.replace-id.ensures.value ∙ holds.0) in
    c.is_known-known.ensures ∙ ap (λ (id : List ℕ). knows (known_of c.args.self.now) id) id
