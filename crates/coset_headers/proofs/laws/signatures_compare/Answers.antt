use Rattle.coset_headers.specs.Facts.Decided.{signature_decided}
use Rattle.coset_headers.specs.View.{signature_view}
use Rattle.coset_headers.proofs.laws.signatures_compare.Goals as goal

pub returns : goal.returns
returns c = signature_decided (signature_view c.args.a.now) (signature_view c.args.b.now)
