use Rattle.std.proofs.Common.{◌≡◌, ℕ, List, Bool, false, map}
use Rattle.cose_gate_core.specs.Questions.{Question}
use Rattle.cose_gate_core.specs.Findings.{Bounds}
use Rattle.cose_gate_core.specs.Run.{Step, Run}
use Rattle.cose_gate_core.proofs.Placed.{run_told}
use Rattle.cose_gate_core.proofs.Fronts.{Alike, alike}
use Rattle.cose_gate_core.proofs.runs.same_trees.Goals as goal

same : (limits : Bounds) (allows : Question → Bool) (aad : List ℕ) (at to : ℕ) (a b : List ℕ) (ss rs : List Step) (rest more : List ℕ)
    → limits.strict ≡ false → Run limits allows aad at a ss rest → Run limits allows aad to b rs more → map (λ s. s.item.value) ss ≡ map (λ s. s.item.value) rs → Alike limits allows aad ss rs
same limits allows aad at to a b ss rs rest more i p q e =
    alike limits allows aad i ss rs e (run_told limits allows aad at a ss rest p).all (run_told limits allows aad to b rs more q).all

pub returns : goal.returns
returns c = record {
  same = λ limits allows aad at to a b ss rs rest more i p q e. let all = same limits allows aad at to a b ss rs rest more i p q e in record {
    questions = all.asks;
    output = all.writes;
    verdicts = all.verdicts;
  };
}
