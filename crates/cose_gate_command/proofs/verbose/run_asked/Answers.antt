use Rattle.std.proofs.Common.{refl, rules, ap, ◌≡◌, ◌∷◌, ◌++◌, [], ◌∙◌}
use Rattle.std.specs.Prelude.{option_copied}
use Rattle.cose_gate_program.specs.Telling.{not_begun}
use Rattle.cose_gate_program.proofs.Tellings.{began, not_ended, ran_as}
use Rattle.cose_gate_command.specs.RunLines.{SaysSince, items_by}
use Rattle.cose_gate_command.specs.declared.line_writer.Manner.{Manner}
use Rattle.cose_gate_command.proofs.RunLines.{said_all, same_writer, ran_on, handed_said}
use Rattle.cose_gate_command.proofs.Ends.{lent_on}
use Rattle.cose_gate_command.proofs.KeyReasons.{plain_run}
use Rattle.cose_gate_command.proofs.verbose.run_asked.Goals as goal

pub returns-in-Ok-clause-ran : goal.returns-in-Ok-clause-ran
returns-in-Ok-clause-ran g c =
    let b = c.in-Ok.ensures in
    lent_on _ _ _ _ _ _ _ _ _ _ _ _ _ _ _ (search rules) (search rules) (search rules) (search rules)
    (began _ _ _ _ _ b.1 b.2 b.3 (c.run_terms.ensures.aad ∙ c.as_slice.ensures.value) c.prepared-judge.ensures
    (plain_run g.E.Write _ _ c.args.asked.verbose (items_by c.args.asked.quiet c.args.asked.summary) _ (option_copied c.args.file.bytes) (ran_as (rw c.run_terms.ensures.terms at c.run_told.ensures.ran) (λ qs asked. asked) (λ ns last told.
    let all = ns ++ last ∷ [] in
    let said = c.run_told.new.teller in
    let name : said.out.ghost_name ≡ _ = same_writer _ _ all told ∙ c.new-teller.ensures.kept in
    let says : SaysSince g.E.Write c.args.asked.verbose (items_by c.args.asked.quiet c.args.asked.summary) (c.args.err.now ∷ []) said.out.now all
    = said_all g.E.Write _ _ all _ _ _ _ told c.new-teller.ensures.was c.new-teller.ensures.told (search rules) (ap (λ (m : Manner). m.kept) c.new-teller.ensures.manner ∙ c.kept_by.ensures) said.is in
    search rules))))

pub returns-clause-ran : goal.returns-clause-ran
returns-clause-ran g c = not_begun c.in-Err.why c.in-Err.ensures c.end_unbegun.ensures.status refl c.end_unbegun.ensures.said

pub returns-clause-handed : goal.returns-clause-handed
returns-clause-handed g c = not_ended _ c.in-Err.why _ c.end_unbegun.ensures.status

pub returns-in-Ok-clause-lines : goal.returns-in-Ok-clause-lines
returns-in-Ok-clause-lines g c = λ less.
    let ran = c.run_told.ensures.ran in
    let said = c.run_told.new.teller in
    let name : said.out.ghost_name ≡ _ = ran_on _ _ ran ∙ c.new-teller.ensures.kept in
    handed_said g.E.Write _ _ _ _ ran c.new-teller.ensures.was c.new-teller.ensures.told (search (rules, said.handed))

pub returns-clause-lines : goal.returns-clause-lines
returns-clause-lines g c = not_ended _ c.in-Err.why _ c.end_unbegun.ensures.status
