use Rattle.std.proofs.Common.{rules}
use Rattle.coset_kdf.specs.View.{public_view}
use Rattle.coset_kdf.proofs.Back.{prot_back}
use Rattle.coset_kdf.proofs.Fitting.{public_whole}
use Rattle.coset_kdf.proofs.laws.public_fits.Goals as goal

pub returns-clause-shown : goal.returns-clause-shown
returns-clause-shown c = λ b t e f q. public_whole (public_view c.args.info.now) b t (search rules) c.maybe_bytes_fit.ensures e f q

pub returns-clause-read : goal.returns-clause-read
returns-clause-read c = λ n k t u a q.
    let s = public_view c.args.info.now in
    let w = prot_back n s.protected_header a.1 k a.4 in
    public_whole s w.0 u (search rules) c.maybe_bytes_fit.ensures w.2 (c.protected_fits.ensures w.0 w.2 (c.read_is_short.ensures.protected n k a.1 s.protected_header a.4)) q
