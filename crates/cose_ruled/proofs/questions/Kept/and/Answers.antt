use Rattle.std.proofs.Common.{◌≡◌, ◌∷◌, ◌++◌, List, ℕ, [], ap, ◌∙◌, arith}
use Rattle.std.specs.Option.{unwrap_or}
use Rattle.std.proofs.lemmas.Grind.{common_steps}
use Rattle.cose_ruled.specs.Blocks.{question_text}
use Rattle.cose_ruled.specs.Told.{bytes_in, part_view}
use Rattle.cose_ruled.proofs.Keeping.{kept_more}
use Rattle.cose_ruled.proofs.questions.Kept.and.Goals as goal

pub invariant_of-result : goal.invariant_of-result
invariant_of-result c =
    let question = part_view c.args.question in
    let pushed : c.push.new.self.items ≡ c.args.self.texts.items ++ c.in_ok-text.text ∷ [] = grind (arith, common_steps, c.in_ok-push.ensures.items) in
    record {
      kept = kept_more (bytes_in c.args.self.base) c.args.self.why.items c.append_why.new.why.items c.args.self.texts.items c.push.new.self.items
          c.args.self.told.items c.and.result.items question c.new.result c.in_ok-base.base.items c.in_ok-text.text c.args.self.kept
          (c.in_ok-base.ensures ∙ ap (λ (z : List ℕ). unwrap_or (bytes_in c.args.self.base) z) c.shown.ensures)
          c.in_ok-append_why.ensures
          (c.in_ok-text.ensures ∙ ap (λ (z : List ℕ). question_text z question) c.deref.ensures.value)
          pushed c.new.ensures c.and.ensures;
    }
