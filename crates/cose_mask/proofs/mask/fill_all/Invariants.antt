use Rattle.cose_mask.specs.Mask.{IsMaskedBy}
use Rattle.cose_mask.proofs.mask.fill_all.Given as goal

abbrev pub invariant-loop-blank : goal.invariant-loop-blank
invariant-loop-blank l = IsMaskedBy l.blanks l.blank-index l.initial.bytes l.bytes
