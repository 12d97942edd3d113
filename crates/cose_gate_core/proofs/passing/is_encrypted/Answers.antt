use Rattle.cose_gate_core.proofs.TagNumbers.{encrypt0_is, either_encrypted}
use Rattle.cose_gate_core.proofs.passing.is_encrypted.Goals as goal

pub returns-then-is_tag : goal.returns-then-is_tag
returns-then-is_tag c = rw c.if-is_tag.true (encrypt0_is _ c.if-is_tag.ensures)

pub returns-else-is_tag : goal.returns-else-is_tag
returns-else-is_tag c = either_encrypted _ _ c.if-is_tag.ensures c.is_tag-else-is_tag.ensures
