-- The messages that pass, and a sequence of them.
use Rattle.std.specs.Prelude.{◌≡◌, ℕ, List, [], ◌∷◌, flat_map, Some, Bool, if◌then◌else◌}
use Rattle.ciborium_value.specs.Tree.{Tree}
use Rattle.cose_gate_core.specs.Questions.{Question, MessageFields, tagged_tree}
use Rattle.cose_gate_core.specs.Findings.{Bounds, Finding, judged, barred, IsJudged}
use Rattle.cose_gate_core.specs.Run.{Step, passes}

-- the message of a finding, if it passes
abbrev pub passed_of : (Question → Bool) → List ℕ → Finding → List MessageFields
passed_of allows aad (judged m) = if passes allows aad (judged m) then m ∷ [] else []
passed_of allows aad (barred r) = []

-- the messages that pass, in order
abbrev pub passed_messages : (Question → Bool) → List ℕ → List Step → List MessageFields
passed_messages allows aad ss = flat_map (λ s. passed_of allows aad s.finding) ss

-- the trees are what these messages are written as, in order, and each has the fields of its
-- message again
abbrev pub AreMessages : Bounds → List Tree → List MessageFields → Type 0
AreMessages limits [] [] = Unit {0}
AreMessages limits [] (m ∷ ms) = ⊥
AreMessages limits (t ∷ ts) [] = ⊥
AreMessages limits (t ∷ ts) (m ∷ ms) =
    (tagged_tree m ≡ Some t) × IsJudged limits t m × AreMessages limits ts ms
