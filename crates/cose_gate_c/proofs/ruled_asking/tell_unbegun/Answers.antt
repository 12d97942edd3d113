use Rattle.std.proofs.Common.{rules, ◌≡◌, ◌∷◌, [], subst, ap, ◌∙◌}
use Rattle.cose_gate_program.specs.Lines.{lines_of}
use Rattle.cose_gate_program.specs.declared.telling.Notice.TheVariants.{NotBegun}
use Rattle.cose_gate_records.specs.Lines.{IsShown, LineLog, counted}
use Rattle.cose_gate_records.specs.Views.{said}
use Rattle.cose_gate_records.specs.declared.lines.Lines.{Lines}
use Rattle.cose_gate_records.proofs.Told.{same_buffer, all_told}
use Rattle.cose_gate_c.proofs.ruled_asking.tell_unbegun.Goals as goal

abbrev log_of : Lines → LineLog
log_of l = record { name = l.buffer.ghost_name; text = said l; last = l.last }

pub returns : goal.returns
returns c =
    let all = NotBegun c.args.why ∷ [] in
    let old = c.new-told.result in
    let lines = c.tell.new.self in
    let name : lines.buffer.ghost_name ≡ _ = same_buffer (log_of old) (log_of lines) all c.tell.ensures ∙ c.new-told.ensures.kept in
    let text : said lines ≡ lines_of all = all_told (log_of old) (log_of lines) all c.tell.ensures c.new-told.ensures.said in
    let there : IsShown (lines_of all) lines.buffer.now = subst (λ z. IsShown z lines.buffer.now) text lines.shown in
    (search rules, c.end.ensures ∙ ap counted text)
