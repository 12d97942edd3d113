use Rattle.std.proofs.Common.{length, ◌++◌, ◌∙◌, append_assoc}
use Rattle.cose_gate_records.specs.Framing.{eight}
use Rattle.cose_gate_records.proofs.Frames as frames
use Rattle.cose_gate_records.proofs.framing.split_first.Goals as goal

pub returns-in_err-length : goal.returns-in_err-length
returns-in_err-length c = rw c.from_residual.ensures (λ p r e. c.in_err-length.ensures (length p) (p ++ r) (e ∙ append_assoc (eight (length p)) p r))

pub returns-in_err-piece : goal.returns-in_err-piece
returns-in_err-piece c =
    let d = c.in_ok-length.ensures in
    rw c.from_residual-in_err-piece.ensures (λ p r e. frames.cut_short c.args.bytes.now c.in_ok-length.rest.now p r c.in_ok-length.length c.well_formed.0.0 d.0 d.1 c.in_err-piece.ensures.cases e)

pub returns : goal.returns
returns c =
    let a = c.in_ok-piece.ensures.cases in
    frames.frame_is c.args.bytes.now c.in_ok-length.rest.now c.in_ok-piece.piece.now c.in_ok-piece.rest.now c.in_ok-length.length c.in_ok-length.ensures.1 a.3 a.1 a.2
