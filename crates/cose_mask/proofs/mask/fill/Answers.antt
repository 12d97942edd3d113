use Rattle.std.proofs.Common.{arith}
use Rattle.cose_mask.proofs.Masks.{filled}
use Rattle.cose_mask.proofs.mask.fill.Goals as goal

pub returns : goal.returns
returns c =
    filled c.args.blank c.args.bytes.now c.loop-i.bytes c.loop-i.i c.end_within-end.result c.end_within-end.ensures.in_bytes c.end_within-end.ensures.in_blank
    c.end_within-end.ensures.most
    (omega arith)
    c.loop-i.invariant.3
    c.loop-i.invariant.0
    c.loop-i.invariant.1
    c.loop-i.invariant.2
