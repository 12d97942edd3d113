use Rattle.std.proofs.Common.{arith}
use Rattle.coset_headers.proofs.Signed.{list_of_many}
use Rattle.coset_headers.proofs.entries.one_or_list.Goals as goal

pub returns-then-len-gt1 : goal.returns-then-len-gt1
returns-then-len-gt1 c = list_of_many c.args.signatures (omega (arith, c.if-len-gt1.true, c.len.ensures))
