use Rattle.coset_headers.proofs.Small.{hdr_small, pro_small, sig_small}
use Rattle.coset_headers.proofs.laws.small_is_short.Goals as goal

pub returns : goal.returns
returns c = record { header = hdr_small; protected = pro_small; signature = sig_small }
