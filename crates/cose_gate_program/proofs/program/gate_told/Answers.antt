use Rattle.std.proofs.Common.{rules, refl, sym, ◌∙◌}
use Rattle.cose_gate_core.specs.Run.{entries_of}
use Rattle.cose_gate_program.proofs.Runs.{gated, same_devices, no_title}
use Rattle.cose_gate_program.proofs.Tellings.{heard_by, heard_state}
use Rattle.cose_gate_program.proofs.program.gate_told.Goals as goal

pub returns-clause-ran : goal.returns-clause-ran
returns-clause-ran g c =
    gated _ _ _ _ _ _ _ _ _ _ _ _ c.from-decoder.ensures.1
    (same_devices _ _ _ _ _ _ _ _ (sym (no_title _ _ _ refl c.from-decoder.ensures.2)) refl refl refl)
    (same_devices _ _ _ _ _ _ _ _ (search rules ∙ sym (no_title _ _ _ refl c.gate_by.ensures.fresh)) (search rules) (search rules) (search rules))
    (rw c.from-decoder.ensures.0 at c.gate_by.ensures.ran) (rw c.from-decoder.ensures.0 at c.gate_by.ensures.reader)
    c.gate_by.ensures.writer
    (λ qs e. e)
    (λ ss e. search (rules, heard_by g.T.Teller.folded _ _ (entries_of ss) e, heard_state g.T.Teller.folded _ _ (entries_of ss) e))
