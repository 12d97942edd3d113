use Rattle.std.proofs.Common.{◌≡◌, ◌+◌, ◌-◌, ◌≤◌, ◌^◌, List, true, None}
use Rattle.ciborium_ll.specs.Views.{left_of, offset_of, reader_of, waiting_of}
use Rattle.cose_gate_core.specs.Terms.{limits_of}
use Rattle.cose_gate_core.specs.Next.{Reached}
use Rattle.cose_gate_core.specs.Run.{Step}
use Rattle.cose_gate_core.proofs.gating.gate_by.Given as goal

abbrev pub invariant-items : goal.invariant-items
invariant-items g l =
    let r = g.R.Read in
    let w = g.W.Write in
    let p = g.P.Report in
    let j = g.J.Judge in
    record {
      who : j.who l.judge ≡ j.who l.fn.judge;
      reader : r.failed (reader_of l.decoder) ≡ r.failed (reader_of l.fn.decoder);
      writer : w.failed l.out ≡ w.failed l.fn.out;
      kept : r.handle (reader_of l.decoder) ≡ r.handle (reader_of l.fn.decoder);
      lent : w.handle l.out ≡ w.handle l.fn.out;
      fresh : l.terms.strict ≡ true → waiting_of l.decoder ≡ None;
      room : l.counts.passed + l.counts.refused + offset_of l.fn.decoder ≤ offset_of l.decoder;
      reached : (done : List Step) × Reached
          (record { limits = limits_of l.terms; decided = j.decided; folded = p.folded; allows = j.yes (j.who l.fn.judge); aad = l.aad })
          (record { told = j.told l.fn.judge; state = p.state l.fn.report; written = w.written l.fn.out; offset = offset_of l.fn.decoder; left = left_of r.left l.fn.decoder })
          (record { told = j.told l.judge; state = p.state l.report; written = w.written l.out; offset = offset_of l.decoder; left = left_of r.left l.decoder })
          l.counts.passed l.counts.refused done;
    }

abbrev pub decreases-items : goal.decreases-items
decreases-items g l = 2 ^ 64 - offset_of l.decoder
