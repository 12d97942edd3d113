use Rattle.coset_kdf.proofs.Back.{party_back, public_back, context_back}
use Rattle.coset_kdf.proofs.laws.read_is_written_back.Goals as goal

pub returns : goal.returns
returns c = record { party = party_back; public = public_back; context = context_back }
