use Rattle.coset_headers.specs.Facts.Decided.{headers_decided}
use Rattle.coset_headers.specs.View.{header_view}
use Rattle.coset_headers.proofs.laws.headers_compare.Goals as goal

pub returns : goal.returns
returns c = headers_decided (header_view c.args.a.now) (header_view c.args.b.now)
