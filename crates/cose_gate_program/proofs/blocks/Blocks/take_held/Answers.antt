use Rattle.std.proofs.Common.{◌∙◌, ap, take}
use Rattle.cose_gate_program.proofs.Held.{held_front}
use Rattle.cose_gate_program.proofs.blocks.Blocks.take_held.Goals as goal

pub returns-clause-held : goal.returns-clause-held
returns-clause-held g c =
    held_front g.R.Read.remaining c.args.self.now.reader c.consume.new.self _ _ (c.copy_from_slice.ensures.after ∙ c.in-Some.ensures.cases.1 ∙ ap (take _) c.buffer.ensures)
    c.consume.ensures.buffer c.consume.ensures.inner c.consume.ensures.capacity
