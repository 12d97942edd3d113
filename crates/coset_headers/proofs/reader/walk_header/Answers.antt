use Rattle.ciborium_ll.specs.Views.{seen}
use Rattle.coset_headers.proofs.Walked.{other}
use Rattle.coset_headers.proofs.reader.walk_header.Goals as goal

pub returns-in-Map-clause-read : goal.returns-in-Map-clause-read
returns-in-Map-clause-read g c = c.walk_entries.ensures.read c.args.limit (seen g.R.Read c.args.decoder.now) (rw c.in-Map.is at c.in_ok-start.ensures.ok)

pub returns-in-Other-clause-read : goal.returns-in-Other-clause-read
returns-in-Other-clause-read g c = other g.R.Read.ends _ _ c.args.limit (seen g.R.Read c.args.decoder.now) (seen g.R.Read c.begin.new.decoder) _ _ _ (rw c.in-Other.is at c.in_ok-start.ensures.ok) c.fill_header.ensures
