use Rattle.cose_stream.specs.Folder.{Does}
use Rattle.cose_stream.specs.Putting.{are_there}
use Rattle.cose_stream.proofs.putting.make.Given as goal

abbrev pub invariant-loop-number : goal.invariant-loop-number
invariant-loop-number g l = Does (g.F.Folder.done l.fn.folder) (g.F.Folder.done l.folder) (are_there l.fn.name l.number)
