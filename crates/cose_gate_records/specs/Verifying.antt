-- What a judge by a verifier says, and what it holds of a question.
use Rattle.std.specs.Prelude.{◌≡◌, ℕ, List, Option, None, Some, Bool, false}
use Rattle.cose_gate_core.specs.Questions.{Subject, Question}
use Rattle.cose_gate_records.specs.declared.verifier.Verifier.{Ghosts as Verifies}
use Rattle.cose_gate_records.specs.declared.verifying.VerifierJudge.{VerifierJudge}

-- yes if a key was chosen and it verifies, else no
abbrev pub if_chosen : Option ℕ → (ℕ → Bool) → Bool
if_chosen None verifies = false
if_chosen (Some key) verifies = verifies key

-- the answer to a question by a verifier, of what the bound of the verifier brings
abbrev pub accepts : {V : Type 0} → Verifies V → V → Question → Bool
accepts v verifier q =
    if_chosen (v.chosen verifier q.subject) (λ key. v.verifies verifier key q.covered q.signature)

-- the covered bytes were gathered, if a key was chosen
abbrev pub IsGathered : Option ℕ → List ℕ → List ℕ → Type 0
IsGathered None gathered covered = Unit {0}
IsGathered (Some key) gathered covered = gathered ≡ covered

-- the verifier that a judge goes by
abbrev pub verifier_of : {V : Type 0} → VerifierJudge V → V
verifier_of judge = judge.verifier

-- a judge holds a question: its key is the one for the subject, and these covered bytes were fed
abbrev pub IsHeld : {V : Type 0} → Verifies V → VerifierJudge V → Subject → List ℕ → Type 0
IsHeld v judge subject covered = (judge.key ≡ v.chosen judge.verifier subject)
    × IsGathered judge.key judge.covered.items covered
