use Rattle.std.proofs.Common.{ℕ, length, Some, Err, Bor, List, ◌<◌, ◌^◌, true, inr, refl, subst, arith, false}
use Rattle.ciborium_ll.specs.declared.read.End.{End}
use Rattle.cose_gate.proofs.Exactly.{answered}
use Rattle.cose_gate.specs.Findings.{within}
use Rattle.cose_gate.specs.Questions.{Question}
use Rattle.cose_gate.specs.Views.{left_of, offset_of}
use Rattle.cose_gate_c.specs.StreamAsking.{IsUnasked}
use Rattle.cose_gate_c.proofs.Asked.{asks}
use Rattle.cose_gate_c.proofs.Streamed.{takes, begins, stops}
use Rattle.cose_gate_c.proofs.stream_asking.ask_front.Goals as goal

pub returns-in-Ok : goal.returns-in-Ok
returns-in-Ok c =
    let taken = takes (within c.args.limits.nesting c.args.limits.layers false) (λ (q : Question). true) _ _ _ _ _ _ _ _ (left_of (λ (s : Bor (List ℕ)). Some s.now) c.from-decoder.result) _ (offset_of c.from-decoder.result) _ c.in-Ok.read.yes
    (c.judged_can_be_written.ensures.questions (within c.args.limits.nesting c.args.limits.layers false)) (rw (c.from-decoder.ensures.0, c.from-decoder.ensures.2) refl) c.from-decoder.ensures.1
    refl c.in-Ok.ensures.ok c.in-Ok.read.payload c.in-Ok.ensures.place in
    let begun = begins (within c.args.limits.nesting c.args.limits.layers false) (λ (q : Question). true) _ _ _ _ _ _ _ _ (left_of (λ (s : Bor (List ℕ)). Some s.now) c.from-decoder.result) _ (offset_of c.from-decoder.result) _ c.in-Ok.read.yes
    (c.judged_can_be_written.ensures.questions (within c.args.limits.nesting c.args.limits.layers false)) (rw (c.from-decoder.ensures.0, c.from-decoder.ensures.2) refl) c.from-decoder.ensures.1
    refl c.in-Ok.ensures.ok in
    asks _ _ _ _ _ _ _ _ _ _ _ _ _ taken begun c.offset.ensures c.new-judge.ensures c.write_question.ensures

pub returns : goal.returns
returns c =
    let u = subst (λ (n : ℕ). IsUnasked 4 n c.unasked.result) c.fault_number.ensures c.unasked.ensures in
    let s = stops (within c.args.limits.nesting c.args.limits.layers false) _ (let h : length c.args.input.now < 2 ^ 63 = omega arith in h) (λ n. IsUnasked 4 n c.unasked.result) _ c.in-Err.fault
    (left_of (λ (s : Bor (List ℕ)). Some s.now) c.from-decoder.result) (offset_of c.from-decoder.result)
    (rw (c.from-decoder.ensures.0, c.from-decoder.ensures.2) refl) c.from-decoder.ensures.1 c.in-Err.ensures.err
    (answered c.args.limits.nesting c.args.limits.layers (λ (e : End). true) (left_of (λ (s : Bor (List ℕ)). Some s.now) c.from-decoder.result) (offset_of c.from-decoder.result) 4096
    (Err c.in-Err.fault) c.in-Err.ensures.err) u u.fault_is in
    record { ended = inr (refl, s.0); stated = s.1 }
