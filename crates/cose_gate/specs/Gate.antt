-- The contract of `gate`: facts about one run over one call.
use Rattle.std.specs.Prelude.{◌≡◌, ℕ, ◌+◌, ◌^◌, ◌<◌, List, Option, None, Bool, Result, IfErr}
use Rattle.ciborium_ll.specs.Views.{waiting_of, reader_of}
use Rattle.ciborium_ll.specs.declared.dec.Decoder.{Decoder}
use Rattle.ciborium_ll.specs.declared.hdr.Header.{Header}
use Rattle.ciborium_ll.specs.declared.read.Read.{Ghosts as Reads}
use Rattle.ciborium_ll.specs.declared.write.Write.{Ghosts as Writes}
use Rattle.ciborium.specs.Reading.{IsFar}
use Rattle.cose_gate_core.specs.Calls.{rules_by, sight_of}
use Rattle.cose_gate_core.specs.Findings.{Bounds}
use Rattle.cose_gate_core.specs.GateRun.{Ran}
use Rattle.cose_gate_core.specs.Outcome.{Rules, GateState, IfTooLong}
use Rattle.cose_gate_core.specs.Outcome.{reader_failures, writer_failures}
use Rattle.cose_gate_core.specs.declared.gating.Counts.{Counts}
use Rattle.cose_gate_core.specs.declared.gating.GateFault.{GateFault}
use Rattle.cose_gate_core.specs.declared.report.Report.{Ghosts as Reports}
use Rattle.cose_gate_core.specs.declared.judge.Judge.{Ghosts as Judges}

-- what is seen of a gate's decoder, writer, report and judge: what judge and report were told, what
-- was written and is to come, which header waits, how often reader and writer have failed, and what
-- stays of each
pub record GateSeen (T S Who : Type 0) : Type 0 where
  pub at : GateState T S
  pub waiting : Option Header
  pub read_failures : ℕ
  pub write_failures : ℕ
  pub who : Who
  pub reader : List ℕ
  pub writer : List ℕ

abbrev pub seen_of : {R E W F P J : Type 0}
    (r : Reads R E) (w : Writes W F) (p : Reports P) (j : Judges J)
    → Decoder R → W → P → J → GateSeen j.Told p.State j.Who
seen_of r w p j decoder out report judge = record {
  at = sight_of r w p j decoder out report judge;
  waiting = waiting_of decoder;
  read_failures = r.failed (reader_of decoder);
  write_failures = w.failed out;
  who = j.who judge;
  reader = r.handle (reader_of decoder);
  writer = w.handle out;
}

-- a call of the gate: which faults are an end, whether what passed is handed on after each item,
-- what it goes by, and what is seen as it begins and as it returns
pub record Call (T S Who E : Type 0) : Type 0 where
  pub ends : E → Bool
  pub live : Bool
  pub rules : Rules T S
  pub old : GateSeen T S Who
  pub new : GateSeen T S Who

-- by what the bounds of its reader, writer, report and judge bring, within these limits and over
-- this external data
abbrev pub call_of : {R E W F P J : Type 0} (r : Reads R E) (w : Writes W F) (p : Reports P)
    (j : Judges J) → Bool → Bounds → List ℕ
    → Decoder R → W → P → J → Decoder R → W → P → J → Call j.Told p.State j.Who E
call_of r w p j live limits aad decoder out report judge decoder' out' report' judge' = record {
  ends = r.ends;
  live = live;
  rules = rules_by limits p j judge aad;
  old = seen_of r w p j decoder out report judge;
  new = seen_of r w p j decoder' out' report' judge';
}

-- what a call of the gate promises: what was asked, noted, written and returned, and where the
-- reader stands, is one run's; how often reader and writer have failed; that offsets grow too long
-- only near what they can be; and what stays
pub record Gates {T S Who E : Type 0} (c : Call T S Who E) (result : Result Counts (GateFault E))
    : Type 0 where
  pub ran : Ran c.ends c.live c.rules c.old.at c.new.at result
  pub reader : c.new.read_failures ≡ c.old.read_failures + reader_failures c.ends result
  pub writer : c.new.write_failures ≡ c.old.write_failures + writer_failures result
  pub far : IfErr result (IfTooLong (IsFar c.new.at.offset))
  pub fits : c.new.at.offset < 2 ^ 64
  pub fresh : c.new.waiting ≡ None
  pub who : c.new.who ≡ c.old.who
  pub kept : c.new.reader ≡ c.old.reader
  pub lent : c.new.writer ≡ c.old.writer
