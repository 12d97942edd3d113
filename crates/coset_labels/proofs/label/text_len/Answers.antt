use Rattle.std.proofs.Common.{arith}
use Rattle.coset_labels.proofs.Orders.{title_short}
use Rattle.coset_labels.proofs.label.text_len.Goals as goal

pub overflow_add-result : goal.overflow_add-result
overflow_add-result c = let h = title_short c.args.s.now in omega (arith, h)
