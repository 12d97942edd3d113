-- The name of each reason why an item was refused, and of what stopped a run.
use Rattle.std.specs.Prelude.{ℕ, List, codes}
use Rattle.cose_gate_core.specs.declared.gating.GateFault.{GateFault}
use Rattle.cose_gate_core.specs.declared.gating.GateFault.TheVariants as gating
use Rattle.cose_gate_core.specs.declared.report.Refusal.{Refusal}
use Rattle.cose_gate_core.specs.declared.report.Refusal.TheVariants as refusal

abbrev pub refusal_name : Refusal → List ℕ
refusal_name refusal.NotTagged = codes "NotTagged"
refusal_name (refusal.OtherTag n) = codes "OtherTag"
refusal_name refusal.Encrypted = codes "Encrypted"
refusal_name (refusal.Shape e) = codes "Shape"
refusal_name refusal.Detached = codes "Detached"
refusal_name refusal.NoSignature = codes "NoSignature"
refusal_name (refusal.Judged n) = codes "Judged"
refusal_name refusal.NotShortest = codes "NotShortest"

abbrev pub fault_name : {E : Type 0} → GateFault E → List ℕ
fault_name (gating.Decode e) = codes "decode"
fault_name gating.Write = codes "write"
fault_name gating.Memory = codes "memory"
