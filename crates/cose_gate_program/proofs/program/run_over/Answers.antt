use Rattle.std.proofs.Common.{rules, ◌≡◌, ◌∷◌, ◌++◌, [], ◌∙◌}
use Rattle.cose_gate_program.specs.Lines.{lines_of}
use Rattle.cose_gate_program.specs.Writing.{Wrote}
use Rattle.cose_gate_program.proofs.LentLines.{spoke, same_writer}
use Rattle.cose_gate_program.proofs.Handed.{ends_handed, ends_name}
use Rattle.cose_gate_program.proofs.Tellings.{ends_as}
use Rattle.cose_gate_program.proofs.program.run_over.Goals as goal

pub returns-clause-ran : goal.returns-clause-ran
returns-clause-ran g c = ends_as c.run_over_told.ensures.ran (λ ns last told.
    let all = ns ++ last ∷ [] in
    let lines = c.run_over_told.new.teller in
    let name : lines.out.ghost_name ≡ _ = same_writer _ _ all told ∙ c.new-lines.ensures.kept in
    let wrote : Wrote g.E.Write c.args.err.now lines.out.now (lines_of all) = spoke g.E.Write _ _ all _ _ told c.new-lines.ensures.begun c.new-lines.ensures.told lines.wrote in
    search rules)

pub returns-clause-lines : goal.returns-clause-lines
returns-clause-lines g c =
    let ran = c.run_over_told.ensures.ran in
    let lines = c.run_over_told.new.teller in
    let name : lines.out.ghost_name ≡ _ = ends_name _ _ ran ∙ c.new-lines.ensures.kept in
    ends_handed g.E.Write _ _ _ _ ran c.new-lines.ensures.begun c.new-lines.ensures.told (search (rules, lines.handed))
