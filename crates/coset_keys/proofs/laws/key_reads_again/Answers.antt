use Rattle.coset_keys.proofs.Sound.{key_reads, itself}
use Rattle.coset_keys.proofs.laws.key_reads_again.Goals as goal

pub returns : goal.returns
returns c = record {
  same = λ b i. key_reads b _ _ c.key_fits.ensures.tree i (itself _);
  sorted = λ b k i s. key_reads b k _ c.key_fits.ensures.tree i s;
}
