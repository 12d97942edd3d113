use Rattle.cose_sift.proofs.ReadThrough.{read_through}
use Rattle.cose_sift.proofs.laws.read_through.Goals as goal

pub returns : goal.returns
returns c = read_through
