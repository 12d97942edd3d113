use Rattle.std.proofs.Common.{rules, ◌≡◌, refl, true, ◌∙◌}
use Rattle.std.specs.Prelude.{Ok}
use Rattle.cose_gate_command.proofs.Endings.{held_by, held_lines, last_written, waited, writer_kept}
use Rattle.cose_gate_command.proofs.asking.ask_blocks.Goals as goal

pub returns-clause-ran : goal.returns-clause-ran
returns-clause-ran g c =
    let ending = c.ask_ruled-status.new.teller in
    let r = rw c.as_slice.ensures.value at c.ask_ruled-status.ensures.ran in
    let kept = writer_kept _ _ r.0 in
    let name : ending.out.ghost_name ≡ _ = kept.0 ∙ c.new-ending.ensures.kept in
    let place : ending.last.ghost_name ≡ _ = kept.1 ∙ c.new-ending.ensures.place in (
      record {
        run = r.0.run;
        flushed = r.0.flushed;
        shows = r.0.shows;
        asked = r.0.asked;
        told = last_written g.E.Write _ _ _ true (Ok c.ask_ruled-status.result) _ _ refl
            (held_by g.E.Write _ _ r.0.run r.0.flushed _ _ _ _ _ r.0.told c.new-ending.ensures.begun c.new-ending.ensures.said (search (rules, ending.spoke)) (search rules))
            c.end.ensures.wrote;
        status_is = r.0.status_is;
      },
      r.1,
      r.2,
      r.3,
    )

pub returns-clause-lines : goal.returns-clause-lines
returns-clause-lines g c =
    let ending = c.ask_ruled-status.new.teller in
    let r = c.ask_ruled-status.ensures.ran in
    let kept = writer_kept _ _ r.0 in
    let name : ending.out.ghost_name ≡ _ = kept.0 ∙ c.new-ending.ensures.kept in
    let place : ending.last.ghost_name ≡ _ = kept.1 ∙ c.new-ending.ensures.place in
    held_lines g.E.Write _ _ _ true _ c.end.ensures.wrote c.end.ensures.handed
    (waited g.E.Write _ _ _ _ _ r.0 c.new-ending.ensures.begun c.new-ending.ensures.said (search (rules, ending.spoke)) (search rules))
