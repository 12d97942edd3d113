-- How far a run is that is watched.
use Rattle.std.specs.Prelude.{Some, true}
use Rattle.cose_gate.specs.Notice.{Notice}
use Rattle.cose_gate.specs.Notice.TheVariants.{Item, Counts, Stopped, NotBegun}
use Rattle.callers.specs.declared.watched.Progress.{Progress}

abbrev pub progressed : Progress → Notice → Progress
progressed p (Item e) = record p { offset = e.offset }
progressed p (Counts c) = record p { counts = Some c }
progressed p (Stopped fault) = record p { stopped = true }
progressed p (NotBegun why) = record p { stopped = true }
