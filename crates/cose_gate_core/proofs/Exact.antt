-- Of a strict gate, what passes is written as it was received.
use Rattle.std.proofs.Common.{◌≡◌, ℕ, List, [], ◌∷◌, ◌++◌, Bool, true, cond, refl, sym, ap, ◌∙◌}
use Rattle.cose_gate_core.specs.Questions.{Question}
use Rattle.cose_gate_core.specs.Findings.{Finding, judged, barred, Bounds, Finds}
use Rattle.cose_gate_core.specs.Run.{Step, Run, passes, written_of, output_of}
use Rattle.cose_gate_core.specs.Narrow.{passed_bytes}
use Rattle.cose_gate_core.proofs.Placed.{AllSteps, run_told}

module _ (l : Bounds) (allows : Question → Bool) (aad : List ℕ) (strict : l.strict ≡ true) where
  as_received : (s : Step) (f : Finding) → Finds l s.item.bytes s.item.value f → written_of allows aad f ≡ cond (passes allows aad f) s.item.bytes []
  as_received s (judged m) h = ap (λ z. cond (passes allows aad (judged m)) z []) (sym (h.1 strict))
  as_received s (barred q) h = refl

  received : (ss : List Step) → AllSteps l allows aad ss → output_of allows aad ss ≡ passed_bytes allows aad ss
  received [] a = refl
  received (s ∷ ss) a =
      ap (λ z. z ++ output_of allows aad ss) (as_received s s.finding a.0.1)
      ∙ ap (λ z. cond (passes allows aad s.finding) s.item.bytes [] ++ z) (received ss a.1)

  -- the output is the received bytes of the messages that pass
  pub output_received : (at : ℕ) (b : List ℕ) (ss : List Step) (rest : List ℕ) → Run l allows aad at b ss rest → output_of allows aad ss ≡ passed_bytes allows aad ss
  output_received at b ss rest r = received ss (run_told l allows aad at b ss rest r).all
