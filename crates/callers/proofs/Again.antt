-- What a relay wrote, relayed again.
use Rattle.std.proofs.Common.{◌≡◌, ℕ, List, [], ap, sym, subst, ◌∙◌}
use Rattle.cose_gate.specs.Counts.{Counts}
use Rattle.cose_gate.specs.Findings.{Bounds}
use Rattle.cose_gate.specs.Fixed.{FixedPoint}
use Rattle.cose_gate.specs.Misshapen.{NamesShapes}
use Rattle.cose_gate.specs.Run.{Step, Run, output_of, passed_count, refused_count}
use Rattle.callers.specs.Judging.{allows, RelayedRun, Unchanged}

-- the first relay goes by the limits `one`, the second by `two`, over what the first wrote
pub unchanged : (one two : Bounds) (ids kept : List (List ℕ)) (aad input once lent again : List ℕ) (first second : Counts) → kept ≡ ids → lent ≡ once
    → (ss : List Step) × (rest : List ℕ) × Run one (allows ids) aad 0 input ss rest × NamesShapes one ss
    → ((ss : List Step) (rest : List ℕ) → Run one (allows ids) aad 0 input ss rest → RelayedRun ids aad ss rest once first)
    → ((ss : List Step) (rest : List ℕ) → Run two (allows kept) aad 0 lent ss rest → RelayedRun kept aad ss rest again second)
    → ((ss : List Step) (rest : List ℕ) → Run one (allows ids) aad 0 input ss rest → (rs : List Step) × Run two (allows ids) aad 0 (output_of (allows ids) aad ss) rs [])
    → ((ss rs : List Step) (rest more : List ℕ) → Run one (allows ids) aad 0 input ss rest → Run two (allows ids) aad 0 (output_of (allows ids) aad ss) rs more
    → FixedPoint two (allows ids) aad ss rs more)
    → Unchanged once again first second
unchanged one two ids kept aad input once lent again first second same is (ss, rest, run, named) relays relays_again there fixed =
    let a = relays ss rest run in
    let t = there ss rest run in
    let f = fixed ss t.0 rest [] run t.1 in
    let here : Run two (allows ids) aad 0 lent t.0 [] = subst (λ (z : List ℕ). Run two (allows ids) aad 0 z t.0 []) (sym (is ∙ a.output_is)) t.1 in
    let b = relays_again t.0 [] (subst (λ (k : List (List ℕ)). Run two (allows k) aad 0 lent t.0 []) (sym same) here) in
    record {
      output = b.output_is ∙ ap (λ (k : List (List ℕ)). output_of (allows k) aad t.0) same ∙ f.output ∙ sym a.output_is;
      passed = b.passed ∙ ap (λ (k : List (List ℕ)). passed_count (allows k) aad t.0) same ∙ f.passed ∙ sym a.passed;
      refused = b.refused ∙ ap (λ (k : List (List ℕ)). refused_count (allows k) aad t.0) same ∙ f.refused;
    }
