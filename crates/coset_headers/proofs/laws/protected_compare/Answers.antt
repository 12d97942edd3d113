use Rattle.coset_headers.specs.Facts.Decided.{protected_decided}
use Rattle.coset_headers.specs.View.{protected_view}
use Rattle.coset_headers.proofs.laws.protected_compare.Goals as goal

pub returns : goal.returns
returns c = protected_decided (protected_view c.args.a.now) (protected_view c.args.b.now)
