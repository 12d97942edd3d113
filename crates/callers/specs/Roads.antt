-- What the result of the streaming check says of a run of the gate.
use Rattle.std.specs.Prelude.{◌≡◌, ℕ, List, ◌∷◌, Bool}
use Rattle.cose_gate.specs.Questions.{Question}
use Rattle.cose_gate.specs.Run.{Step, passes}

-- there is a first step, and its message passes exactly if the check says yes
abbrev pub FirstPasses : (Question → Bool) → List ℕ → List Step → Bool → Type 0
FirstPasses allows aad ss answer =
    (first : Step) × (more : List Step) × (ss ≡ first ∷ more)
    × (passes allows aad first.finding ≡ answer)
