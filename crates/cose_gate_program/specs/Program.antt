-- What reader and writer show of a run of the gate over a whole input.
use Rattle.std.specs.Prelude.{◌≡◌, ◌+◌, ℕ, List, [], ◌++◌, Option, Some, Bool, true, IsOk, if◌then◌else◌}
use Rattle.std.specs.Io.KnownBytes.{Appends}
use Rattle.ciborium_ll.specs.declared.read.Read.{Ghosts as Reads}
use Rattle.ciborium_ll.specs.declared.write.Write.{Ghosts as Writes}
use Rattle.ciborium.specs.Reading.{IfKnown}
use Rattle.cose_gate_core.specs.Questions.{Question}
use Rattle.cose_gate_core.specs.Asked.{folded_over}
use Rattle.cose_gate_core.specs.Findings.{Bounds}
use Rattle.cose_gate_core.specs.GateRun.{GateRun, at_hand, taken_at, written_in, result_of, EndsAt, FaultAt, Leaves}
use Rattle.cose_gate_core.specs.Misshapen.{NamesShapes}
use Rattle.cose_gate_core.specs.Outcome.{reader_failures, writer_failures}
use Rattle.cose_gate_core.specs.Run.{Course}
use Rattle.cose_gate_core.specs.declared.judge.Judge.{Ghosts as Judges}
use Rattle.cose_gate_program.specs.Faults.{is_end}
use Rattle.cose_gate_program.specs.declared.devices.InputFault.{InputFault}

-- what the reader and the writer have given and taken: the bytes to come and those written, if
-- they are known, and how often each has failed
pub record Devices : Type 0 where
  pub left : Option (List ℕ)
  pub written : Option (List ℕ)
  pub read_failures : ℕ
  pub write_failures : ℕ

-- what is seen of a reader and a writer; `R.Read` and `W.Write` are what their bounds bring
abbrev pub devices_of : {R E W F : Type 0} (r : Reads R E) (w : Writes W F) → R → W → Devices
devices_of r w input out = record {
  left = r.left input;
  written = w.written out;
  read_failures = r.failed input;
  write_failures = w.failed out;
}

-- a judge was told these questions, in order; `J.Judge` is what its bound brings
abbrev pub hears : {J : Type 0} (j : Judges J) → J → J → List Question → Type 0
hears j old new asked = j.told new ≡ folded_over j.decided (j.told old) asked

-- some bytes were there, those to come if these are known; this is a run over them of a gate that
-- is live, and reader and writer show it, and whether the output was flushed. Of nothing the gate
-- makes a whole run, if the reader doesn't fail.
pub record Shows (limits : Bounds) (allows : Question → Bool) (aad : List ℕ) (old new : Devices)
    (run : GateRun InputFault) (flushed : Bool) : Type 0 where
  pub input : List ℕ
  pub is : IfKnown old.left (λ b. b ≡ input)
  pub course : Course limits allows aad 0 input (run.done ++ at_hand run.ending)
      (taken_at run.ending ++ run.rest)
  pub ends : EndsAt is_end true limits allows aad old.left run.done run.rest run.ending
  pub fault : FaultAt is_end limits 0 old.left run.rest run.ending
  pub shapes : NamesShapes limits (run.done ++ at_hand run.ending)
  pub left : Leaves run.ending old.left new.left run.rest
  pub written : Appends old.written new.written (written_in allows aad run)
  pub reads : new.read_failures
      ≡ old.read_failures + reader_failures is_end (result_of allows aad run)
  pub writes : new.write_failures ≡ old.write_failures
      + writer_failures (result_of allows aad run) + (if flushed then 0 else 1)
  pub nothing : old.left ≡ Some [] → new.read_failures ≡ old.read_failures
      → IsOk (result_of allows aad run)
