-- The program's run, from the gate's result and a flush.
use Rattle.std.proofs.Common.{◌≡◌, ℕ, ◌+◌, List, ◌++◌, Option, None, Some, Bool, cond, true, refl, sym, ap, subst, ◌∙◌, arith}
use Rattle.std.specs.Prelude.{Result, Ok, Err, IsOk, is_ok}
use Rattle.std.specs.Io.KnownBytes.{Keeps}
use Rattle.ciborium_ll.specs.Device.{write_failures}
use Rattle.ciborium_ll.specs.Reading.{due}
use Rattle.ciborium_ll.specs.declared.hdr.Header.{Header}
use Rattle.cose_gate_core.specs.Questions.{Question}
use Rattle.cose_gate_core.specs.Asked.{folded_over}
use Rattle.cose_gate_core.specs.Findings.{Bounds}
use Rattle.cose_gate_core.specs.GateRun.{GateRun, at_hand, taken_at, asked_in, written_in, result_of, FaultAt, Leaves, Ran}
use Rattle.cose_gate_core.specs.Run.{Step, Course, entries_of}
use Rattle.cose_gate_core.specs.Outcome.{Rules, GateState, reader_failures, writer_failures}
use Rattle.cose_gate_core.specs.declared.gating.Counts.{Counts}
use Rattle.cose_gate_core.specs.declared.gating.GateFault.{GateFault}
use Rattle.cose_gate_core.proofs.OfNothing.{nothing}
use Rattle.cose_gate_core.proofs.Outcomes.{flushed}
use Rattle.cose_gate_program.specs.Faults.{is_end}
use Rattle.cose_gate_program.specs.Program.{Devices, Shows}
use Rattle.cose_gate_program.specs.Telling.{items_of, Gated}
use Rattle.cose_gate_program.specs.declared.devices.InputFault.{InputFault}
use Rattle.cose_gate_program.specs.declared.telling.Notice.{Notice}

-- what readers and writers have given and taken
abbrev devices : Option (List ℕ) → Option (List ℕ) → ℕ → ℕ → Devices
devices left written n f = record { left = left; written = written; read_failures = n; write_failures = f }

pub same_devices : (l l' w w' : Option (List ℕ)) (n n' f f' : ℕ) → l ≡ l' → w ≡ w' → n ≡ n' → f ≡ f'
    → devices l w n f ≡ devices l' w' n' f'
same_devices l l' w w' n n' f f' a b c d =
    ap (λ (z : Option (List ℕ)). devices z w n f) a ∙ ap (λ (z : Option (List ℕ)). devices l' z n f) b
    ∙ ap (λ (z : ℕ). devices l' w' z f) c ∙ ap (λ (z : ℕ). devices l' w' n' z) d

due_none : (l : Option (List ℕ)) → due l None ≡ l
due_none None = refl
due_none (Some b) = refl

-- if no header waits, what is to come is what the reader has left
pub no_title : (l k : Option (List ℕ)) (waiting : Option Header) → k ≡ due l waiting → waiting ≡ None → k ≡ l
no_title l k waiting is none = is ∙ ap (due l) none ∙ due_none l

-- the run of the gate is shown by the input and the output that it was lent
pub shown : {T S : Type 0} (by : Rules T S) (old new : GateState T S) (n n' f f' : ℕ) (r : Result Counts (GateFault InputFault)) (before after : Devices)
    → old.offset ≡ 0 → before ≡ devices old.left old.written n f → after ≡ devices new.left new.written n' f'
    → (a : Ran is_end true by old new r) → n' ≡ n + reader_failures is_end r → f' ≡ f + writer_failures r
    → Shows by.limits by.allows by.aad before after a.run true
shown by old new n n' f f' r before after start first last a reads writes =
    let run = a.run in
    subst (λ (d : Devices). Shows by.limits by.allows by.aad d after run true) (sym first)
    (subst (λ (d : Devices). Shows by.limits by.allows by.aad (devices old.left old.written n f) d run true) (sym last)
    (record {
      input = a.input;
      is = a.is;
      course = subst (λ (k : ℕ). Course by.limits by.allows by.aad k a.input (run.done ++ at_hand run.ending) (taken_at run.ending ++ run.rest)) start a.course;
      ends = a.ends_at;
      fault = subst (λ (k : ℕ). FaultAt is_end by.limits k old.left run.rest run.ending) start a.fault;
      shapes = a.shapes;
      left = a.left;
      written = a.written;
      reads = reads ∙ ap (λ z. n + reader_failures is_end z) a.returned;
      writes = let e : f' ≡ f + writer_failures (result_of by.allows by.aad run) = writes ∙ ap (λ z. f + writer_failures z) a.returned in omega (arith, e);
      nothing = λ empty steady.
          let none : reader_failures is_end r ≡ 0 = omega (arith, reads, steady) in
          subst (λ (z : Result Counts (GateFault InputFault)). IsOk z) a.returned (nothing is_end true by old new r a empty none (omega (arith, start)));
    }))

-- and by what judge and report were told
pub gated : {T S : Type 0} (by : Rules T S) (old new : GateState T S) (n n' f f' : ℕ) (r : Result Counts (GateFault InputFault)) (before after : Devices)
    (Asked : List Question → Type 0) (Told : List Notice → Type 0)
    → old.offset ≡ 0 → before ≡ devices old.left old.written n f → after ≡ devices new.left new.written n' f'
    → Ran is_end true by old new r → n' ≡ n + reader_failures is_end r → f' ≡ f + writer_failures r
    → ((qs : List Question) → new.told ≡ folded_over by.decided old.told qs → Asked qs)
    → ((ss : List Step) → new.state ≡ folded_over by.folded old.state (entries_of ss) → Told (items_of ss))
    → Gated by.limits by.allows by.aad before after r Asked Told
gated by old new n n' f f' r before after Asked Told start first last a reads writes asked told = record {
  run = a.run;
  shows = shown by old new n n' f f' r before after start first last a reads writes;
  asked = asked (asked_in by.allows by.aad a.run) a.asked;
  told = told a.run.done a.noted;
  result_is = a.returned;
}

-- a flush that failed counts
once_more : {X F : Type 0} (answer : Result X F) (m k n : ℕ) → m ≡ k + 0 → n ≡ write_failures answer m → n ≡ k + cond (is_ok answer) 0 1
once_more (Ok x) m k n e w = let h : n ≡ m = w in omega (arith, e, h)
once_more (Err x) m k n e w = let h : n ≡ m + 1 = w in omega (arith, e, h)

-- what the run shows once the output was flushed, or not
pub then_flushed : {X F : Type 0} (answer : Result X F) (limits : Bounds) (allows : Question → Bool) (aad : List ℕ) (old mid new : Devices) (run : GateRun InputFault)
    → Shows limits allows aad old mid run true → new.left ≡ mid.left → Keeps mid.written new.written → new.read_failures ≡ mid.read_failures
    → new.write_failures ≡ write_failures answer mid.write_failures → Shows limits allows aad old new run (is_ok answer)
then_flushed answer limits allows aad old mid new run s left kept reads failed = record {
  input = s.input;
  is = s.is;
  course = s.course;
  ends = s.ends;
  fault = s.fault;
  shapes = s.shapes;
  left = subst (λ (l : Option (List ℕ)). Leaves run.ending old.left l run.rest) (sym left) s.left;
  written = flushed old.written mid.written new.written (written_in allows aad run) kept s.written;
  reads = reads ∙ s.reads;
  writes = once_more answer mid.write_failures (old.write_failures + writer_failures (result_of allows aad run)) new.write_failures s.writes failed;
  nothing = λ empty steady. s.nothing empty (sym reads ∙ steady);
}
