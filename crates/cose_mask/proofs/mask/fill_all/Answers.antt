use Rattle.std.proofs.Common.{arith}
use Rattle.std.proofs.lemmas.Option.{slice_get-get_or}
use Rattle.cose_mask.specs.Mask.{none, more}
use Rattle.cose_mask.proofs.mask.fill_all.Goals as goal

pub loop-blank-init : goal.loop-blank-init
loop-blank-init c = none c.args.bytes.now

pub loop-blank-preserved : goal.loop-blank-preserved
loop-blank-preserved c =
    let i = c.loop-blank.blank-index in
    more i _ c.args.bytes.now c.loop-blank.bytes c.fill.new.bytes
    (slice_get-get_or c.args.blanks.now i _ (omega arith))
    c.loop-blank.invariant c.fill.ensures
