-- The output is no longer than the items that pass, if these are narrow.
use Rattle.std.proofs.Common.{◌≡◌, ℕ, ◌≤◌, ◌⊎◌, inl, inr, List, [], ◌∷◌, ◌++◌, length, Bool, true, false, cond, refl, sym, ap, subst, arith, length-append}
use Rattle.std.specs.Prelude.{All}
use Rattle.ciborium_value.specs.Tree.{Tree}
use Rattle.ciborium.specs.Front.{Reads}
use Rattle.coset_headers.proofs.Entered.{bool_cases}
use Rattle.cose_gate_core.specs.Questions.{Question, MessageFields, message_text}
use Rattle.cose_gate_core.specs.Findings.{Finding, judged, barred, Bounds, IsJudged, Finds}
use Rattle.cose_gate_core.specs.Run.{Step, Run, passes, written_of, output_of}
use Rattle.cose_gate_core.specs.Anew.{bytes_of}
use Rattle.cose_gate_core.specs.Narrow.{IsNarrow, PassedAreNarrow, passed_bytes}
use Rattle.cose_gate_core.proofs.Placed.{AllSteps, run_told}
use Rattle.cose_gate_core.proofs.Lows.{IsByte, before, behind}
use Rattle.cose_gate_core.proofs.Narrowed.{narrow_reads}
use Rattle.cose_gate_core.proofs.Rewritten.{rewritten}

module _ (l : Bounds) (allows : Question → Bool) (aad : List ℕ) where
  abbrev IsLess : List ℕ → Finding → Type 0
  IsLess b f = length (written_of allows aad f) ≤ length (cond (passes allows aad f) b [])

  judged_less : (b : List ℕ) (t : Tree) (m : MessageFields) → IsJudged l t m → Reads b l.nesting t → All IsByte b → (passes allows aad (judged m) ≡ true → IsNarrow b)
      → (passes allows aad (judged m) ≡ true) ⊎ (passes allows aad (judged m) ≡ false) → IsLess b (judged m)
  judged_less b t m j r low narrow (inr out) =
      subst (λ c. length (cond c (message_text m) []) ≤ length (cond c b [])) (sym out) (omega arith)
  judged_less b t m j r low narrow (inl through) =
      let w = rewritten l t m j in
      let n = narrow through in
      let size = w.rewrite.kept.size in
      let less = narrow_reads b l.nesting t n.0 r n.1 low in
      let text = ap length w.text in
      let both : length (message_text m) ≤ length b = omega (arith, size, less, text) in
      subst (λ c. length (cond c (message_text m) []) ≤ length (cond c b [])) (sym through) both

  step_less : (b : List ℕ) (t : Tree) (f : Finding) → Finds l b t f → Reads b l.nesting t → All IsByte b → (passes allows aad f ≡ true → IsNarrow b) → IsLess b f
  step_less b t (judged m) h r low narrow = judged_less b t m h.0 r low narrow (bool_cases (passes allows aad (judged m)))
  step_less b t (barred q) h r low narrow = omega arith

  steps_less : (ss : List Step) → AllSteps l allows aad ss → All IsByte (bytes_of ss) → PassedAreNarrow allows aad ss → length (output_of allows aad ss) ≤ length (passed_bytes allows aad ss)
  steps_less [] a low n = omega arith
  steps_less (s ∷ ss) a low n =
      let first = before (s.item.bytes ++ bytes_of ss) s.item.bytes (bytes_of ss) refl low in
      let rest = behind (s.item.bytes ++ bytes_of ss) s.item.bytes (bytes_of ss) refl low in
      let one = step_less s.item.bytes s.item.value s.finding a.0.1 a.0.0 first n.0 in
      let more = steps_less ss a.1 rest n.1 in
      omega (arith, one, more, length-append (written_of allows aad s.finding) (output_of allows aad ss), length-append (cond (passes allows aad s.finding) s.item.bytes []) (passed_bytes allows aad ss))

  pub output_less : (at : ℕ) (b : List ℕ) (ss : List Step) (rest : List ℕ) → Run l allows aad at b ss rest → All IsByte b → PassedAreNarrow allows aad ss
      → length (output_of allows aad ss) ≤ length (passed_bytes allows aad ss)
  output_less at b ss rest r low n =
      let t = run_told l allows aad at b ss rest r in
      steps_less ss t.all (before b (bytes_of ss) rest t.whole low) n
