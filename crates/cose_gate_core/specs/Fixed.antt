-- A run over what a run wrote.
use Rattle.std.specs.Prelude.{◌≡◌, ℕ, List, [], flat_map, All, Bool, if◌then◌else◌}
use Rattle.cose_gate_core.specs.declared.report.Entry.{Entry}
use Rattle.cose_gate_core.specs.declared.report.Verdict.TheVariants.{Passed}
use Rattle.cose_gate_core.specs.Questions.{Question}
use Rattle.cose_gate_core.specs.Findings.{Bounds}
use Rattle.cose_gate_core.specs.Run.{Step, asked_of, passes, questions_of, output_of, entries_of, passed_count, refused_count}
use Rattle.cose_gate_core.specs.Anew.{AreEntries}
use Rattle.cose_gate_core.specs.Output.{passed_messages}

-- the questions that were asked of the messages that passed, in order
abbrev pub passed_questions : (Question → Bool) → List ℕ → List Step → List Question
passed_questions allows aad ss =
    flat_map (λ s. if passes allows aad s.finding then asked_of allows aad s.finding else []) ss

-- The steps `again`, over what the steps ss wrote and up to `more`, change nothing: nothing is
-- left, and the same is written. Each entry says Passed, also if it was noted elsewhere; as many
-- pass as passed, and none is refused. What is asked is what was asked of the messages that passed.
-- These have the same fields: headers, recipients and received protected bytes among them.
pub record FixedPoint (limits : Bounds) (allows : Question → Bool) (aad : List ℕ)
    (ss again : List Step) (more : List ℕ) : Type 0 where
  pub rest : more ≡ []
  pub output : output_of allows aad again ≡ output_of allows aad ss
  pub entries : All (λ e. e.verdict ≡ Passed) (entries_of again)
  pub noted : (es : List Entry) → AreEntries allows aad again es
      → All (λ e. e.verdict ≡ Passed) es
  pub passed : passed_count allows aad again ≡ passed_count allows aad ss
  pub refused : refused_count allows aad again ≡ 0
  pub questions : questions_of allows aad again ≡ passed_questions allows aad ss
  pub messages : passed_messages allows aad again ≡ passed_messages allows aad ss
