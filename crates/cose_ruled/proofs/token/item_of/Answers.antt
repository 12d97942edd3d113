use Rattle.cose_ruled.proofs.Tokens.{no_item}
use Rattle.cose_ruled.proofs.token.item_of.Goals as goal

pub returns-else-is_memory : goal.returns-else-is_memory
returns-else-is_memory c = no_item c.args.bytes.now c.in-Err.error c.if-is_memory.ensures c.in-Err.ensures
