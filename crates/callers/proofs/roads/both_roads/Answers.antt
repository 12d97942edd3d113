use Rattle.std.proofs.Common.{◌≡◌, ℕ, List, sym, subst}
use Rattle.cose_gate.specs.Findings.{usual}
use Rattle.cose_gate.specs.Run.{Run, passed_count, refused_count}
use Rattle.callers.specs.Judging.{allows}
use Rattle.callers.specs.Sides.{known_of}
use Rattle.callers.proofs.Agreed.{agreed}
use Rattle.callers.proofs.roads.both_roads.Goals as goal

pub returns : goal.returns
returns c =
    let r = c.every_input_run.ensures.there usual (allows (known_of c.args.judge.now)) c.args.aad.now 0 c.args.input.now c.bytes_below.ensures.low in
    let then = subst (λ (ids : List (List ℕ)). Run usual (allows ids) c.args.aad.now 0 c.args.input.now r.0 r.1) (sym c.in-Ok.ensures.known) r.2 in
    let n = subst (λ (ids : List (List ℕ)). (c.in_ok-counts.counts.passed ≡ passed_count (allows ids) c.args.aad.now r.0) × (c.in_ok-counts.counts.refused ≡ refused_count (allows ids) c.args.aad.now r.0))
    c.in-Ok.ensures.known (c.in_ok-counts.ensures r.0 r.1 then) in
    agreed (allows (known_of c.args.judge.now)) c.args.aad.now r.0 _ _ _ (c.in-Ok.ensures.first r.0 r.1 r.2) n.0 n.1
