-- Which fault a `Shape` names: apart from the run, since nothing else rests on it.
use Rattle.std.specs.Prelude.{◌≡◌, List, [], ◌∷◌, Result, MatchResult}
use Rattle.ciborium_value.specs.Tree.{Tree, tag}
use Rattle.coset_labels.specs.Faults.{CoseFault, OrMemory, fault_of}
use Rattle.coset_labels.specs.declared.error.CoseError.{CoseError}
use Rattle.coset_signed.specs.Wrong.{WrongSign1, WrongSign}
use Rattle.coset_maced.specs.Wrong.{WrongMac0, WrongMac}
use Rattle.cose_gate_core.specs.Questions.{MessageFields, number_of, kind_of}
use Rattle.cose_gate_core.specs.Findings.{Bounds, HasMessage}
use Rattle.cose_gate_core.specs.Run.{Step}
use Rattle.cose_gate_core.specs.declared.about.MessageKind.{MessageKind}
use Rattle.cose_gate_core.specs.declared.about.MessageKind.TheVariants as kind
use Rattle.cose_gate_core.specs.declared.report.Verdict.{Verdict}
use Rattle.cose_gate_core.specs.declared.report.Verdict.TheVariants.{Refused}
use Rattle.cose_gate_core.specs.declared.report.Refusal.TheVariants as refusal

-- which fault a value has as a message of a kind
abbrev pub WrongMessage : Bounds → MessageKind → Tree → CoseFault → Type 0
WrongMessage limits kind.Sign1 u f = WrongSign1 limits.nesting u limits.layers f
WrongMessage limits kind.Mac0 u f = WrongMac0 limits.nesting u limits.layers f
WrongMessage limits kind.Sign u f = WrongSign limits.nesting u limits.layers f
WrongMessage limits kind.Mac u f = WrongMac limits.nesting u limits.layers f

-- what reading a value as a message of a kind gives: its fields are those of m, or it has a fault
abbrev pub IsReadAs : Bounds → MessageKind → MessageFields → Tree → Result Unit CoseError → Type 0
IsReadAs limits k m u r =
    MatchResult r (λ _. (kind_of m ≡ k) × HasMessage limits u m) (λ e. OrMemory (WrongMessage limits k u) e)

-- a value under the tag of a message that has this fault as one
abbrev pub IsMisshapen : Bounds → Tree → CoseFault → Type 0
IsMisshapen limits t f =
    (k : MessageKind) × (u : Tree) × (t ≡ tag (number_of k) u) × WrongMessage limits k u f

-- the fault that a verdict names is one that the value has; of its faults it isn't said which
abbrev pub NamesShape : Bounds → Tree → Verdict → Type 0
NamesShape limits t (Refused (refusal.Shape e)) = IsMisshapen limits t (fault_of e)
NamesShape limits t v = Unit {0}

-- so of each of these steps
abbrev pub NamesShapes : Bounds → List Step → Type 0
NamesShapes limits [] = Unit {0}
NamesShapes limits (s ∷ ss) =
    NamesShape limits s.item.value s.entry.verdict × NamesShapes limits ss
