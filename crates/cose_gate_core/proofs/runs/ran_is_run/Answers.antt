use Rattle.cose_gate_core.proofs.RanWhole.{whole, begins}
use Rattle.cose_gate_core.proofs.runs.ran_is_run.Goals as goal

pub returns : goal.returns
returns g c = record {
  whole = λ ends live rules old new r b a is. whole ends live rules old new r b a is;
  begins = λ ends live rules old new r b ss rest a is run. begins ends live rules old new r b a is ss rest run;
}
