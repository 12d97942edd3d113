use Rattle.std.proofs.Common.{refl}
use Rattle.ciborium_ll.specs.Views.{seen}
use Rattle.cose_sift.specs.declared.taking.Stop.TheVariants as stop
use Rattle.cose_sift.specs.Taking.{HeadFails}
use Rattle.cose_sift.proofs.Takes.{read_fails, read_failed, short_first}
use Rattle.cose_sift.proofs.taking.take_head.Goals as goal

pub returns-in-Err-clause-err : goal.returns-in-Err-clause-err
returns-in-Err-clause-err g c =
    read_fails (HeadFails (seen g.R.Read c.args.decoder.now) (seen g.R.Read c.read_exact.new.self)) tt tt g.R.Read.ends 1 (seen g.R.Read c.args.decoder.now) (seen g.R.Read c.read_exact.new.self)
    stop.End (λ short. (c.in-Err.ensures.place, short_first _ 1 refl short)) c.in-Err.error c.read_fault.result c.read_fault.ensures.fault c.in-Err.ensures.fault

pub returns-in-Err-clause-failed : goal.returns-in-Err-clause-failed
returns-in-Err-clause-failed g c =
    read_failed g.R.Read.ends 1 (seen g.R.Read c.args.decoder.now).failed (seen g.R.Read c.read_exact.new.self).failed (seen g.R.Read c.args.decoder.now) (seen g.R.Read c.read_exact.new.self)
    stop.End c.in-Err.error c.read_fault.result c.requires.fresh refl c.in-Err.ensures.fault c.read_fault.ensures.fault c.in-Err.ensures.steady.failed
