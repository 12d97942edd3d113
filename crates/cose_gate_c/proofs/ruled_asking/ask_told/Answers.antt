use Rattle.std.proofs.Common.{rules, ◌≡◌, map, subst, ap, ◌∙◌}
use Rattle.coset_keys.specs.View.{key_view}
use Rattle.cose_gate_program.specs.Lines.{lines_of}
use Rattle.cose_gate_program.specs.Telling.{told_in}
use Rattle.cose_gate_records.specs.Lines.{IsShown, counted}
use Rattle.cose_gate_records.specs.Views.{said}
use Rattle.cose_gate_records.proofs.Told.{same_buffer, all_told, last_told}
use Rattle.cose_ruled.specs.Blocks.{asks}
use Rattle.cose_gate_c.proofs.RuledAsked.{handed_whole}
use Rattle.cose_gate_c.proofs.ruled_asking.ask_told.Goals as goal

pub returns : goal.returns
returns g c =
    let r = c.ask_ruled-status.ensures.ran in
    let ks = map key_view c.args.rules.keys.now in
    let all = told_in (asks ks) c.args.run.aad.now r.0.run r.0.flushed in
    let lines = c.ask_ruled-status.new.teller in
    let name : lines.buffer.ghost_name ≡ _ = same_buffer _ _ all r.0.told ∙ c.new-told.ensures.kept in
    let text : said lines ≡ lines_of all = all_told _ _ all r.0.told c.new-told.ensures.said in
    let there : IsShown (lines_of all) lines.buffer.now = subst (λ z. IsShown z lines.buffer.now) text lines.shown in (
      record {
        run = r.0.run;
        flushed = r.0.flushed;
        shows = r.0.shows;
        asked = r.0.asked;
        told = (
          (search rules, c.end.ensures ∙ ap counted text),
          λ done notice parts. c.last.ensures ∙ last_told _ _ all r.0.told c.new-told.ensures.said done notice parts,
        );
        status_is = r.0.status_is;
      },
      r.1,
      r.2,
      λ same. handed_whole g.W.Write c.args.out.now c.ask_ruled-status.new.out r.1 _ r.0.run.ending _ _ _ r.3 same r.0.shows.writes,
    )
