use Rattle.std.proofs.Common.{refl}
use Rattle.coset_headers.proofs.Alike.{header_filled}
use Rattle.coset_headers.proofs.header.Header.clone.Goals as goal

pub returns : goal.returns
returns c = header_filled c.in_ok-copy.copy c.args.self.now _ _ c.in_ok-copy.ensures refl c.in_ok-copy_signatures.ensures c.deref.ensures.value
