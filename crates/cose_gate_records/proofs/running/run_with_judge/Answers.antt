use Rattle.std.proofs.Common.{rules, ◌≡◌, ◌++◌, ◌∷◌, [], subst, ap, ◌∙◌}
use Rattle.cose_gate_program.specs.Lines.{lines_of}
use Rattle.cose_gate_program.proofs.Tellings.{ran_as}
use Rattle.cose_gate_records.specs.Lines.{IsShown, counted}
use Rattle.cose_gate_records.specs.Views.{said}
use Rattle.cose_gate_records.proofs.Told.{same_buffer, all_told, last_told}
use Rattle.cose_gate_records.proofs.running.run_with_judge.Goals as goal

pub returns : goal.returns
returns g c = ran_as c.run_told-status.ensures.ran (λ qs asked. asked) (λ ns last told.
    let all = ns ++ last ∷ [] in
    let lines = c.run_told-status.new.teller in
    let name : lines.buffer.ghost_name ≡ _ = same_buffer _ _ all told ∙ c.new-told.ensures.kept in
    let text : said lines ≡ lines_of all = all_told _ _ all told c.new-told.ensures.said in
    let there : IsShown (lines_of all) lines.buffer.now = subst (λ z. IsShown z lines.buffer.now) text lines.shown in (
      (search rules, c.end.ensures ∙ ap counted text),
      λ done notice parts. c.last.ensures ∙ last_told _ _ all told c.new-told.ensures.said done notice parts,
    ))
