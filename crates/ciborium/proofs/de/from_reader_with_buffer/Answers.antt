use Rattle.std.proofs.Common.{rules}
use Rattle.ciborium.proofs.de.from_reader_with_buffer.Goals as goal

pub returns-clause-scratch : goal.returns-clause-scratch
returns-clause-scratch g c = search rules
