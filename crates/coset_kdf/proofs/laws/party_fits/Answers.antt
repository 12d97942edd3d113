use Rattle.coset_kdf.specs.View.{party_view}
use Rattle.coset_kdf.proofs.Fitting.{party_whole}
use Rattle.coset_kdf.proofs.laws.party_fits.Goals as goal

pub returns : goal.returns
returns c = party_whole (party_view c.args.info.now) c.maybe_bytes_fit.ensures c.maybe_nonce_fits.ensures c.maybe_bytes_fit-2.ensures
