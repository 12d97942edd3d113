use Rattle.std.proofs.Common.{◌≡◌, ◌∷◌, ◌++◌, [], map, ap, ◌∙◌}
use Rattle.coset_keys.specs.View.{key_view}
use Rattle.cose_ruled.specs.Asking.{about_item, before, log_of}
use Rattle.cose_gate_records.specs.Framing.{framed}
use Rattle.cose_ruled.specs.Blocks.{Part, part_by}
use Rattle.cose_ruled.specs.Judging.{ruled}
use Rattle.cose_ruled.specs.declared.questions.Questions.{Questions}
use Rattle.cose_ruled.specs.Told.{about_in, parts_in}
use Rattle.cose_ruled.proofs.Asks.{yes_if, told_part, told_on}
use Rattle.cose_ruled.proofs.asker.RuledAskerJudge.decide.Goals as goal

pub returns-clause-answer : goal.returns-clause-answer
returns-clause-answer c = λ subject covered held.
    let keys = map key_view c.args.self.now.keys.now in
    yes_if c.args.self.now.about keys subject.kind (ruled keys subject) _ c.is_ok.ensures.value held.0

pub returns-clause-told : goal.returns-clause-told
returns-clause-told c = λ subject covered held.
    let self = c.args.self.now in
    let keys = map key_view self.keys.now in
    let lent : Part = part_by (about_in self.about) c.covered.result.now (framed c.args.signature.now ++ c.digest.result) in
    let same = told_part (about_in self.about) keys subject self.held.front.items self.held.covered.items c.covered.result.now covered
    c.args.signature.now c.digest.result c.covered.ensures c.digest.ensures held.0 held.1.0 held.1.1 in
    let more : parts_in (log_of c.and.result) ≡ about_item self ++ lent ∷ []
    = c.and.ensures ∙ ap (λ (z : Questions). parts_in (log_of z) ++ lent ∷ []) c.replace-questions.ensures.value in
    told_on keys (before self) (about_item self) (parts_in (log_of c.and.result)) lent _ more same
