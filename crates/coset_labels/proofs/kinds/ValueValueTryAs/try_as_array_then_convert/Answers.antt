use Rattle.std.proofs.Common.{inr}
use Rattle.coset_labels.specs.Converting.{no_array}
use Rattle.coset_labels.proofs.Loops.{all_converted}
use Rattle.coset_labels.proofs.kinds.ValueValueTryAs.try_as_array_then_convert.Goals as goal

pub returns-in-Ok : goal.returns-in-Ok
returns-in-Ok g c = all_converted _ _ _ _ c.in-Ok.items _ c.in-Ok.ensures c.convert_all.ensures

pub returns-in-Err : goal.returns-in-Err
returns-in-Err g c = inr (no_array c.in-Err.error c.in-Err.ensures.0 c.in-Err.ensures.1 c.from.ensures)
