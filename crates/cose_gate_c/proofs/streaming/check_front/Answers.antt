use Rattle.std.proofs.Common.{ℕ, length, Some, Err, Bor, List, ◌<◌, ◌^◌, true, inr, refl, ap, subst, ◌∙◌, arith, false}
use Rattle.ciborium_ll.specs.declared.read.End.{End}
use Rattle.cose_gate.proofs.Exactly.{answered}
use Rattle.cose_gate.specs.Findings.{within}
use Rattle.cose_gate.specs.HmacJudges.{says_yes}
use Rattle.cose_gate.specs.Views.{left_of, offset_of}
use Rattle.cose_gate_c.specs.Streaming.{IsUnchecked}
use Rattle.cose_gate_c.proofs.Streamed.{takes, checks, stops}
use Rattle.cose_gate_c.proofs.streaming.check_front.Goals as goal

pub returns-in-Ok : goal.returns-in-Ok
returns-in-Ok c =
    let taken = takes (within c.args.limits.nesting c.args.limits.layers false) _ _ _ _ _ _ _ _ _ (left_of (λ (s : Bor (List ℕ)). Some s.now) c.from-decoder.result) _ (offset_of c.from-decoder.result) _ c.in-Ok.streamed.yes
    (c.judged_can_be_written.ensures.questions (within c.args.limits.nesting c.args.limits.layers false)) (rw (c.from-decoder.ensures.0, c.from-decoder.ensures.2) refl) c.from-decoder.ensures.1
    (ap says_yes c.new-judge.ensures) c.in-Ok.ensures.ok c.in-Ok.streamed.payload c.in-Ok.ensures.place in
    checks _ _ _ _ _ _ _ _ _ _ _ taken c.checked.ensures.status c.checked.ensures.fault (c.checked.ensures.length ∙ c.offset.ensures) c.checked.ensures.payload c.checked.ensures.payload_length

pub returns : goal.returns
returns c =
    let u = subst (λ (n : ℕ). IsUnchecked 4 n c.unchecked.result) c.fault_number.ensures c.unchecked.ensures in
    let s = stops (within c.args.limits.nesting c.args.limits.layers false) _ (let h : length c.args.input.now < 2 ^ 63 = omega arith in h) (λ n. IsUnchecked 4 n c.unchecked.result) _ c.in-Err.fault
    (left_of (λ (s : Bor (List ℕ)). Some s.now) c.from-decoder.result) (offset_of c.from-decoder.result)
    (rw (c.from-decoder.ensures.0, c.from-decoder.ensures.2) refl) c.from-decoder.ensures.1 c.in-Err.ensures.err
    (answered c.args.limits.nesting c.args.limits.layers (λ (e : End). true) (left_of (λ (s : Bor (List ℕ)). Some s.now) c.from-decoder.result) (offset_of c.from-decoder.result) 4096
    (Err c.in-Err.fault) c.in-Err.ensures.err) u u.fault_is in
    record { ended = inr s.0; stated = s.1 }
