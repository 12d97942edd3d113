use Rattle.cose_gate_core.proofs.OfNothing.{nothing, no_memory_of_nothing}
use Rattle.cose_gate_core.proofs.runs.nothing_is_whole.Goals as goal

pub returns : goal.returns
returns g c = record {
  whole = λ ends live rules old new r a empty none small. nothing ends live rules old new r a empty none small;
  memory = λ ends live rules old new r a empty. no_memory_of_nothing ends live rules old new r a empty;
}
