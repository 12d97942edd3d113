use Rattle.coset_headers.proofs.Levels.{starts}
use Rattle.coset_headers.proofs.reader.Open.new.Goals as goal

pub returns-clause-going : goal.returns-clause-going
returns-clause-going c = λ n h q. starts n c.args.entries.items c.into_iter.result c.new.result h c.args.layers c.into_iter.ensures.rest c.new.ensures q
