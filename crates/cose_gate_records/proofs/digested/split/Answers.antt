use Rattle.std.proofs.Common.{◌≡◌, ◌++◌, sym, ◌∙◌, arith}
use Rattle.std.proofs.lemmas.List.{take-append-drop}
use Rattle.cose_gate_records.proofs.Hashed.{no_digests, cut_more}
use Rattle.cose_gate_records.proofs.digested.split.Goals as goal

pub returns-in_default : goal.returns-in_default
returns-in_default c = no_digests c.args.bytes.now c.loop-rest.rest.now c.loop-rest.digests.items c.loop-rest.invariant c.loop-rest-test.true
    (grind (arith, c.in_default.ensures.cases))

pub loop-rest-preserved : goal.loop-rest-preserved
loop-rest-preserved c =
    let cut = c.in-Some.ensures.cases in
    let rest = c.loop-rest.rest.now in
    let parts : rest ≡ c.in-Some.digest.now ++ c.in-Some.more.now
    = sym (take-append-drop 32 rest) ∙ (λ i. sym cut.1 i ++ sym cut.2 i) in
    cut_more c.args.bytes.now rest c.in-Some.more.now c.loop-rest.digests.items c.push.new.self.items c.in-Some.digest
    c.loop-rest.invariant c.in_ok-push.ensures.items parts cut.3
